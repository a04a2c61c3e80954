-- Open nodes: a slab keeps their links, and a heap names them.
use Rattle.std.specs.Prelude.{ℕ, ◌≡◌, List, Option, Some, None, is_some, cond, sum_by}
use Rattle.std.specs.declared.cmp.Ordering.{Ordering}
use Rattle.std.specs.Ordering.{nat_cmp, ordering_then}
use Rattle.std.specs.BinaryHeap.{IsHeap}
use Rattle.slab.specs.Slab.{Slab, get}
use Rattle.un_branching.specs.declared.growth.Link.{Link}
use Rattle.un_branching.specs.declared.open_nodes.OpenNode.{OpenNode}
use Rattle.un_branching.specs.declared.open_nodes.Name.{Name}
use Rattle.un_branching.specs.Growths.{one}

-- the least cost is the greatest, and on a tie the node made last
abbrev pub order : OpenNode → OpenNode → Ordering
order x y = ordering_then (nat_cmp y.least x.least) (nat_cmp x.place y.place)

-- the same of names, and then by their keys
abbrev pub name_order : Name → Name → Ordering
name_order x y = ordering_then (nat_cmp y.least.0 x.least.0) (ordering_then (nat_cmp x.place y.place) (nat_cmp x.key y.key))

-- the link that the slab keeps
abbrev pub kept_link : Option (Option Link) → Option Link
kept_link None = None
kept_link (Some link) = link

-- the open node of a name
abbrev pub named : Slab (Option Link) → Name → OpenNode
named links name = record { least = name.least.0; place = name.place; link = kept_link (get links name.key) }

-- how many names have this key
abbrev pub times_named : ℕ → List Name → ℕ
times_named key names = sum_by (λ name. one key name.key) names

-- each key with a link is in one name, and no other key is in any
pub record IsQueue (links : Slab (Option Link)) (names : List Name) : Type 0 where
  pub once : (key : ℕ) → times_named key names ≡ cond (is_some (get links key)) 1 0
  pub ordered : IsHeap name_order names
