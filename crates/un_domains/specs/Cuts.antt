-- What a cut of a store does.
use Rattle.std.specs.Prelude.{ℕ, ◌≡◌, ◌<◌, ◌↔◌, Bool, List, length}
use Rattle.un_domains.specs.Sets.{Sets, set_at, kept}
use Rattle.un_domains.specs.declared.cut.Cut.{Cut}
use Rattle.un_domains.specs.declared.cut.Cut.TheVariants.{Same, Emptied}

-- the sets now, and those of each mark, the oldest first
pub record Contents : Type 0 where
  pub sets : Sets
  pub marked : List Sets

-- variable v keeps the values that pass, no other set and no marked one changes, and the answer says whether none is left
-- and whether none was lost
pub record IsCut (p : ℕ → Bool) (v : ℕ) (old new : Contents) (answer : Cut) : Type 0 where
  pub sets : new.sets ≡ kept p old.sets v
  pub marked : new.marked ≡ old.marked
  pub emptied : (answer ≡ Emptied) ↔ (length (set_at new.sets v) ≡ 0)
  pub same : (answer ≡ Same) ↔ ((0 < length (set_at new.sets v)) × (length (set_at new.sets v) ≡ length (set_at old.sets v)))
