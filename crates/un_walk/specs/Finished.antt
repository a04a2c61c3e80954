-- What a walk knows of the left sides behind it, where no leaf so far had a solution: a left side that it has left holds none.
use Rattle.std.specs.Prelude.{ℕ, List, [], ◌∷◌, ⊤}
use Rattle.un_domains.specs.Sets.{Sets, IsIn}
use Rattle.un_domains.specs.declared.side.Side.{Side}
use Rattle.un_domains.specs.declared.side.Side.TheVariants.{AtMost, Above}
use Rattle.un_tree.specs.Boxes.{half, decided}
use Rattle.un_tree.specs.declared.node.Decision.{Decision}

-- no solution is in a box; what a solution is, is a parameter
abbrev pub NoneIn : (List ℕ → Type 0) → Sets → Type 0
NoneIn good b = (x : List ℕ) → IsIn x b → good x → ⊥

-- where a decision keeps the right side, the left one is finished
abbrev pub IsFinishedAt : (List ℕ → Type 0) → Sets → Decision → Side → Type 0
IsFinishedAt good b d AtMost = ⊤
IsFinishedAt good b d Above = NoneIn good (half b d.var d.val AtMost)

-- the left side of each decision on the way that keeps the right one is finished
abbrev pub AreFinished : (List ℕ → Type 0) → Sets → List Decision → Type 0
AreFinished good b [] = ⊤
AreFinished good b (d ∷ ds) = IsFinishedAt good b d d.side × AreFinished good (decided d b) ds
