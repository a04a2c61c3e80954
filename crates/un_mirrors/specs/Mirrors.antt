-- When a leaf mirrors the left side of a branch above it: with two interchangeable registers exchanged its box lies in the box there.
use Rattle.std.specs.Prelude.{ℕ, ◌≡◌, ◌<◌, true, List, ◌∷◌, ◌++◌, None, Some, length}
use Rattle.std.specs.declared.option.Option.{Option}
use Rattle.un_base.specs.declared.ids.VarId.{VarId}
use Rattle.un_domains.specs.Sets.{Sets, set_at, has}
use Rattle.un_domains.specs.declared.side.Side.TheVariants.{AtMost, Above}
use Rattle.un_model.specs.Boxes.{root_of}
use Rattle.un_model.specs.declared.model.Model.{Model}
use Rattle.un_tree.specs.Boxes.{half, reached}
use Rattle.un_tree.specs.declared.node.Decision.{Decision}
use Rattle.un_symm.specs.Exchanges.{exchanged_at}
use Rattle.un_symm.specs.Interchangeable.{AreInterchangeable}
use Rattle.un_symtree.specs.declared.node.SymNode.{SymNode}
use Rattle.un_symtree.specs.declared.node.SymNode.TheVariants.{Branch, Closed, Mirror}

-- where a node branches
abbrev pub sym_branch_at : SymNode → Option (VarId × ℕ)
sym_branch_at (Branch v x) = Some (v, x)
sym_branch_at Closed = None
sym_branch_at (Mirror a b d) = None

-- each value of a box, with a and b exchanged in the register variables, is a value of another box
abbrev pub MirrorsInto : Model → ℕ → ℕ → Sets → Sets → Type 0
MirrorsInto m a b box left = (v x : ℕ) → v < length box → has (set_at box v) x ≡ true
    → has (set_at left v) (exchanged_at m.temps a b v x) ≡ true

-- the end of a path mirrors the left side of the branch there that has so many decisions above it: the path goes to its right side
pub record IsMirror (m : Model) (a b depth : ℕ) (path : List Decision) : Type 0 where
  pub alike : AreInterchangeable m a b
  pub above : List Decision
  pub at : Decision
  pub below : List Decision
  pub split : path ≡ above ++ at ∷ below
  pub deep : length above ≡ depth
  pub right : at.side ≡ Above
  pub within : MirrorsInto m a b (reached (root_of m) path) (half (reached (root_of m) above) at.var at.val AtMost)
