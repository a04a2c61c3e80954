-- What a tree says of a model under a limit on the cost, or under none.
use Rattle.std.specs.Prelude.{ℕ, List, ⊤, All}
use Rattle.std.specs.declared.option.Option.{Option}
use Rattle.un_domains.specs.Sets.{Sets}
use Rattle.un_model.specs.Boxes.{root_of, IsBelow}
use Rattle.un_model.specs.declared.model.Model.{Model}
use Rattle.un_bound.specs.Relaxations.{Times, IsMemberUnder, IsLeast}
use Rattle.un_post.specs.PartPosts.{IsPartBelow}
use Rattle.un_post.specs.Posts.{fix_at}
use Rattle.un_tree.specs.Covered.{Stands}
use Rattle.un_tree.specs.Parts.{IsRight}
use Rattle.un_tree.specs.Searched.{IsTree}
use Rattle.un_tree.specs.Waits.{Waiting, Whole, Visit, IsStrict}
use Rattle.un_tree.specs.declared.node.Node.{Node}
use Rattle.un_tree.specs.declared.node.Node.TheVariants.{Branch, Open}
use Rattle.un_certificate.specs.Joints.{blocks_of, visits_in, IsTreeIn, IsOwn, AreJoined}

-- the relaxation of a box under the limit has no member
abbrev pub IsEmptyUnder : Model → Option ℕ → Sets → Type 0
IsEmptyUnder m limit b = (times : List Times) → IsMemberUnder limit m b times → ⊥

-- the box of a branch or an open leaf outside of parts has a relaxation
abbrev pub IsAliveIn : Model → Option ℕ → Node → Waiting → Type 0
IsAliveIn m limit (Branch v x) (Whole b) = IsEmptyUnder m limit b → ⊥
IsAliveIn m limit Open (Whole b) = IsEmptyUnder m limit b → ⊥
IsAliveIn m limit _ _ = ⊤

abbrev pub IsAlive : Model → Option ℕ → Visit → Type 0
IsAlive m limit p = IsAliveIn m limit p.node p.waiting

-- one whole tree of the model that is well made under the limit and stands: no solution below the limit is in a closed leaf's box, and in
-- a part no assignment of the block's part below its number. Each node may stand where it does; at a Split what joins the blocks is
-- single, and the parts come to the limit; a part branches on variables of its block. It speaks of no propagator
pub record IsStanding (m : Model) (limit : Option ℕ) (nodes : List Node) : Type 0 where
  pub whole : IsTreeIn m nodes
  pub strict : All (IsStrict (IsOwn m)) (visits_in m nodes)
  pub right : All (IsRight (AreJoined m) (blocks_of m) limit) (visits_in m nodes)
  pub alive : All (IsAlive m limit) (visits_in m nodes)
  pub stands : All (Stands (IsBelow m limit) (IsPartBelow m)) (visits_in m nodes)

-- one whole tree of the model without parts, well made, that stands, and that a search with the rounds of the model's propagators made,
-- least cost of the relaxation first
pub record IsCertificate (m : Model) (limit : Option ℕ) (nodes : List Node) : Type 0 where
  pub tree : IsTree (blocks_of m) (root_of m) (fix_at m limit) (IsLeast m) (IsBelow m limit) nodes
  pub alive : All (IsAlive m limit) (visits_in m nodes)
