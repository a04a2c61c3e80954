-- The ends of sets, noted beside them: a look at them costs one word each.
use Rattle.std.specs.Prelude.{ℕ, ◌≡◌, ◌≢◌, ◌<◌, ◌+◌, ◌*◌, ◌^◌, List, length, slice_index, slice_index_or, []}
use Rattle.un_domains.specs.Sets.{Sets, set_at, least, greatest}
use Rattle.un_domains.specs.Levels.{MarkedWords}
use Rattle.un_domains.specs.Shapes.{IsStore, sets_of}
use Rattle.un_domains.specs.declared.shape.Shape.{Shape}

-- the least and the greatest value of a set, or 1 and 0 where it is empty
pub record AreEnds (xs : List ℕ) (a b : ℕ) : Type 0 where
  pub none : length xs ≡ 0 → (a ≡ 1) × (b ≡ 0)
  pub some : 0 < length xs → (a ≡ least xs) × (b ≡ greatest xs)
  pub small : (a < 2 ^ 32) × (b < 2 ^ 32)

-- the ends of each variable's set stand at twice its number
pub record AreNoted (s : Sets) (es : List ℕ) : Type 0 where
  pub long : length es ≡ 2 * length s
  pub each : (v : ℕ) → v < length s → AreEnds (set_at s v) (slice_index es (2 * v)) (slice_index es (2 * v + 1))

-- those of the sets now, and of those of each mark
pub record AreNotedAll (hs : List Shape) (ws es : MarkedWords) : Type 0 where
  pub now : AreNoted (sets_of hs ws.words) es.words
  pub deep : length es.marked ≡ length ws.marked
  pub before : (i : ℕ) → i < length ws.marked → AreNoted (sets_of hs (slice_index_or ws.marked i [])) (slice_index_or es.marked i [])

-- the ends of one variable's set are noted anew
pub record IsNote (v : ℕ) (xs : List ℕ) (old new : MarkedWords) : Type 0 where
  pub long : length new.words ≡ length old.words
  pub marked : new.marked ≡ old.marked
  pub here : AreEnds xs (slice_index new.words (2 * v)) (slice_index new.words (2 * v + 1))
  pub others : (w : ℕ) → w ≢ v → (slice_index new.words (2 * w) ≡ slice_index old.words (2 * w))
      × (slice_index new.words (2 * w + 1) ≡ slice_index old.words (2 * w + 1))

-- a store's words, with the ends of its sets
pub record IsWhole (hs : List Shape) (ws es : MarkedWords) : Type 0 where
  pub store : IsStore hs ws.words ws.marked
  pub noted : AreNotedAll hs ws es
