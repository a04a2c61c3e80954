-- Words with what those that changed since each mark were, in one list for all marks.
use Rattle.std.specs.Prelude.{ℕ, ◌≡◌, ◌<◌, ◌≤◌, ◌+◌, ◌^◌, zero, suc, cond, nat_eq, List, [], ◌∷◌, ◌++◌, length, slice_index, slice_set, map}
use Rattle.std.specs.Prelude.{take, drop, sum_by, vec_capacity, All, true}
use Rattle.un_domains.specs.Sets.{has}
use Rattle.un_domains.specs.declared.levels.Saved.{Saved}
use Rattle.un_domains.specs.declared.levels.Saves.{Saves}

-- the words now, and those of each mark, the oldest first
pub record MarkedWords : Type 0 where
  pub words : List ℕ
  pub marked : List (List ℕ)

-- the words before these were saved, of which the first is the oldest
abbrev pub unwind : List Saved → List ℕ → List ℕ
unwind [] ws = ws
unwind (e ∷ es) ws = slice_set (unwind es ws) e.at e.old

-- the stamps before these were saved
abbrev pub unstamp : List Saved → List ℕ → List ℕ
unstamp [] stamps = stamps
unstamp (e ∷ es) stamps = slice_set (unstamp es stamps) e.at e.stamp

-- the words at each of the first d marks, by the place at which the entries of each begin
abbrev pub marked_from : ℕ → List ℕ → List Saved → List ℕ → List (List ℕ)
marked_from zero starts es ws = []
marked_from (suc d) starts es ws =
    marked_from d starts (take (slice_index starts d) es) (unwind (drop (slice_index starts d) es) ws)
    ++ unwind (drop (slice_index starts d) es) ws ∷ []

-- the words at each mark
abbrev pub marked_of : Saves → List ℕ → List (List ℕ)
marked_of s ws = marked_from (length s.starts.items) s.starts.items s.entries.items ws

-- the places that were saved
abbrev pub places : List Saved → List ℕ
places es = map (λ (e : Saved). e.at) es

-- whether a word with this stamp is among those saved since mark d
abbrev pub flag : ℕ → ℕ → ℕ
flag d stamp = cond (nat_eq stamp d) 1 0

-- of n words, these were saved since mark d, the last one: those whose stamp is d, each once
pub record IsLevel (n d : ℕ) (es : List Saved) (stamps : List ℕ) : Type 0 where
  pub flags : length stamps ≡ n
  pub most : (i : ℕ) → slice_index stamps i ≤ d
  pub there : (i : ℕ) → slice_index stamps i ≡ d → has (places es) i ≡ true
  pub within : All (λ (e : Saved). e.at < n) es
  pub count : sum_by (flag d) stamps ≡ length es

-- and so at each of the first d marks, with the stamps that there were before the next one
abbrev pub AreLevels : ℕ → ℕ → List ℕ → List Saved → List ℕ → Type 0
AreLevels n zero starts es stamps = (i : ℕ) → slice_index stamps i ≡ 0
AreLevels n (suc d) starts es stamps =
    (slice_index starts d ≤ length es) × IsLevel n (suc d) (drop (slice_index starts d) es) stamps ×
    AreLevels n d starts (take (slice_index starts d) es) (unstamp (drop (slice_index starts d) es) stamps)

-- what is saved of n words, with room for each of them behind the last mark
pub record AreSaves (n : ℕ) (s : Saves) : Type 0 where
  pub levels : AreLevels n (length s.starts.items) s.starts.items s.entries.items s.stamps.items
  pub room : (d : ℕ) → length s.starts.items ≡ suc d → slice_index s.starts.items d + n ≤ vec_capacity s.entries
  pub deep : length s.starts.items < 2 ^ 32
