-- Sets of values in one list of words.
use Rattle.std.specs.Prelude.{ℕ, ◌≡◌, ◌≢◌, ◌<◌, ◌≤◌, ◌+◌, ◌^◌, ◌⊎◌, Bool, false, List, length, map, filter, slice_index, slice_index_or}
use Rattle.std.specs.Prelude.{take, drop, All}
use Rattle.un_domains.specs.Domains.{values_of, value_at, IsDomain}
use Rattle.un_domains.specs.Sets.{Sets, NoneEmpty}
use Rattle.un_domains.specs.Bits.{bit, members, IsTight}
use Rattle.un_domains.specs.Levels.{MarkedWords}
use Rattle.un_domains.specs.declared.shape.Shape.{Shape}
use Rattle.un_domains.specs.declared.cut.Cut.{Cut}
use Rattle.un_domains.specs.declared.cut.Cut.TheVariants.{Same, Changed, Emptied}

-- a variable's words of bits
abbrev pub row_of : List ℕ → ℕ → ℕ → List ℕ
row_of ws at n = take n (drop (at + 2) ws)

-- the places of a variable's set
abbrev pub places_of : List ℕ → ℕ → ℕ → List ℕ
places_of ws at n = members (row_of ws at n) (slice_index ws at) (slice_index ws (at + 1))

-- a variable's set
abbrev pub set_of : List ℕ → Shape → List ℕ
set_of ws h = map (value_at h.first) (places_of ws h.at h.n)

abbrev pub sets_of : List Shape → List ℕ → Sets
sets_of hs ws = map (set_of ws) hs

-- a variable's words are there, its bounds are tight, and each of its places has a value
pub record IsLaid (ws : List ℕ) (h : Shape) : Type 0 where
  pub small : h.at + 2 + h.n < 2 ^ 64
  pub within : h.at + 2 + h.n ≤ length ws
  pub tight : IsTight (row_of ws h.at h.n) (slice_index ws h.at) (slice_index ws (h.at + 1))
  pub counted : slice_index ws (h.at + 1) ≤ length (values_of h.first)

-- no two variables share a word
abbrev pub AreApart : List Shape → Type 0
AreApart hs = (v w : ℕ) (d : Shape) → v < length hs → w < length hs → v ≢ w
    → ((slice_index_or hs v d).at + 2 + (slice_index_or hs v d).n ≤ (slice_index_or hs w d).at)
    ⊎ ((slice_index_or hs w d).at + 2 + (slice_index_or hs w d).n ≤ (slice_index_or hs v d).at)

-- the words now and those of each mark hold sets of these shapes, no set of a mark is empty, and there are fewer than 2^32 marks
pub record IsStore (hs : List Shape) (ws : List ℕ) (marked : List (List ℕ)) : Type 0 where
  pub few : length hs < 2 ^ 32
  pub apart : AreApart hs
  pub domains : All (λ (h : Shape). IsDomain h.first) hs
  pub now : All (IsLaid ws) hs
  pub before : All (λ us. All (IsLaid us) hs) marked
  pub full : All (λ us. NoneEmpty (sets_of hs us)) marked
  pub deep : length marked < 2 ^ 32

-- the words are the same but for those of the variable at this place, with n words of bits
pub record SameOutside (at n : ℕ) (old new : List ℕ) : Type 0 where
  pub long : length new ≡ length old
  pub same : (j : ℕ) → (j < at) ⊎ (at + 2 + n ≤ j) → slice_index new j ≡ slice_index old j

-- the words are the same but for the one at this place
pub record SameBut (i : ℕ) (old new : List ℕ) : Type 0 where
  pub long : length new ≡ length old
  pub same : (j : ℕ) → j ≢ i → slice_index new j ≡ slice_index old j

-- bit k is cleared, and the others are as they were
pub record IsCleared (k : ℕ) (old new : List ℕ) : Type 0 where
  pub there : bit new k ≡ false
  pub others : (j : ℕ) → j ≢ k → bit new j ≡ bit old j

-- what a cut answers, by the new bounds and the places before and after
abbrev pub AnswerOf : ℕ → ℕ → List ℕ → List ℕ → Cut → Type 0
AnswerOf lo end new old Emptied = lo ≡ end
AnswerOf lo end new old Same = (lo ≢ end) × (new ≡ old)
AnswerOf lo end new old Changed = (lo ≢ end) × (new ≢ old)

-- the same where only the bounds changed, by the old ones and the new ones
abbrev pub BoundsAnswer : ℕ → ℕ → ℕ → ℕ → Cut → Type 0
BoundsAnswer lo end lo' end' Emptied = lo' ≡ end'
BoundsAnswer lo end lo' end' Same = (lo' ≢ end') × (lo' ≡ lo) × (end' ≡ end)
BoundsAnswer lo end lo' end' Changed = (lo' ≢ end') × (lo' ≡ lo → end' ≡ end → ⊥)

-- the same after a place was cleared, by the new bounds
abbrev pub ClearedAnswer : ℕ → ℕ → Cut → Type 0
ClearedAnswer lo end Emptied = lo ≡ end
ClearedAnswer lo end Same = ⊥
ClearedAnswer lo end Changed = lo ≢ end

-- the variable at this place keeps the places that pass
pub record IsPlacesCut (q : ℕ → Bool) (at n : ℕ) (old new : MarkedWords) (answer : Cut) : Type 0 where
  pub outside : SameOutside at n old.words new.words
  pub marked : new.marked ≡ old.marked
  pub tight : IsTight (row_of new.words at n) (slice_index new.words at) (slice_index new.words (at + 1))
  pub fewer : slice_index new.words (at + 1) ≤ slice_index old.words (at + 1)
  pub left : places_of new.words at n ≡ filter q (places_of old.words at n)
  pub says : AnswerOf (slice_index new.words at) (slice_index new.words (at + 1)) (places_of new.words at n) (places_of old.words at n)
      answer
