-- When values that are of the part of each block are a solution of the whole model.
use Rattle.std.specs.Prelude.{ℕ, ◌≡◌, ◌<◌, true, length}
use Rattle.un_model.specs.declared.model.Model.{Model}
use Rattle.un_model.specs.declared.model.Solution.{Solution}
use Rattle.un_model.specs.Cost.{value_of}
use Rattle.un_model.specs.Schedules.{schedule_of}
use Rattle.un_model.specs.Solutions.{uses_frame}
use Rattle.un_post.specs.Parts.{IsPartOf}

-- The values are of the part of each block, and where the flag is set, some block uses the frame, which each part leaves to the others.
-- Of the other clauses the congruences alone speak of two blocks, and a part says what its block hands on. The domains are asked of
-- each part, and a function has a block.
pub record AreJoined (m : Model) (s : Solution) : Type 0 where
  pub parts : (k : ℕ) → k < length m.ext.blocks → IsPartOf m k s.values
  pub needed : value_of s.values m.flag ≡ 1 → uses_frame (schedule_of m s.values) ≡ true
