-- Boxes that the rules do not empty, and the first leaf of a tree with one.
use Rattle.std.specs.Prelude.{ℕ, ◌≡◌, List, ◌∷◌, ◌++◌, Option, All, length}
use Rattle.un_domains.specs.Sets.{Sets, NoneEmpty}
use Rattle.un_model.specs.Boxes.{root_of}
use Rattle.un_model.specs.declared.model.Model.{Model}
use Rattle.un_tree.specs.Waits.{Waiting, Whole, Visit, visits_of}
use Rattle.un_tree.specs.declared.node.Node.{Node}
use Rattle.un_tree.specs.declared.node.Node.TheVariants.{Closed}
use Rattle.un_logs.specs.Rounds.{IsRound, Rounds}

module _ (rules : ℕ) (m : Model) (limit : Option ℕ) where
  -- rounds come from a box to one that has no empty set, and that a round does not change
  pub record IsStuck (box : Sets) : Type 0 where
    pub count : ℕ
    pub end : Sets
    pub reached : Rounds m limit rules count box end
    pub full : NoneEmpty end
    pub same : IsRound m limit rules end end

  -- a closed leaf outside of parts with such a box
  abbrev pub IsStuckBy : Node → Waiting → Type 0
  IsStuckBy Closed (Whole b) = IsStuck b
  IsStuckBy _ _ = ⊥

  abbrev pub IsStuckAt : Visit → Type 0
  IsStuckAt p = IsStuckBy p.node p.waiting

  abbrev pub IsLost : Visit → Type 0
  IsLost p = IsStuckAt p → ⊥

  -- node i is the first closed leaf of a tree with such a box
  pub record IsFirstStuck (nodes : List Node) (i : ℕ) : Type 0 where
    pub before : List Visit
    pub at : Visit
    pub behind : List Visit
    pub split : visits_of (length m.ext.blocks) (root_of m) nodes ≡ before ++ at ∷ behind
    pub none : All IsLost before
    pub stuck : IsStuckAt at
    pub place : at.place ≡ i
