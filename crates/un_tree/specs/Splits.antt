-- The first Split of a tree.
use Rattle.std.specs.Prelude.{ℕ, ◌≡◌, ◌≢◌, List, All, take, slice_get, Some}
use Rattle.un_tree.specs.declared.node.Node.{Node}
use Rattle.un_tree.specs.declared.node.Node.TheVariants.{Split}

-- node i is a Split, and none before it is one
pub record IsFirstSplit (nodes : List Node) (i : ℕ) : Type 0 where
  pub here : slice_get nodes i ≡ Some Split
  pub none : All (λ n. n ≢ Split) (take i nodes)
