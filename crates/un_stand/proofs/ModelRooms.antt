-- Rooms of a model's propagators, and of those of one of its blocks.
use Rattle.std.proofs.Common.{ℕ, ◌≡◌, ◌≢◌, ◌<◌, List, None, Option, All, length, sym, subst}
use Rattle.un_base.specs.declared.ids.VarId.{VarId}
use Rattle.un_domains.specs.Order.{Below}
use Rattle.un_domains.specs.OrderLaws.{Below-trans}
use Rattle.un_domains.specs.Sets.{Sets}
use Rattle.un_kinds.specs.AnyProps.{scope_of}
use Rattle.un_kinds.specs.declared.any.AnyProp.{AnyProp}
use Rattle.un_model.specs.Boxes.{root_of}
use Rattle.un_model.specs.declared.model.Model.{Model}
use Rattle.un_post.specs.PartPosts.{fix_part}
use Rattle.un_post.specs.Posts.{ReadsFrom, fix_at}
use Rattle.un_tree.specs.Boxes.{IsBox, Splits, reached}
use Rattle.un_tree.specs.declared.node.Decision.{Decision}
use Rattle.un_walk.specs.Stands.{AllSplit}
use Rattle.un_certificate.specs.Posted.{AreRounds, ArePosted, ArePartPosted}
use Rattle.un_stand.specs.Rooms.{Goes, IsAt, IsLost, IsPartAt, IsRoom, IsRoomAt, IsRoomOn, Rests, path_of}
use Rattle.un_stand.specs.declared.room.Room.{Room}
use Rattle.un_walk.proofs.StandLemmas.{box_here}

-- what reads a box reads another of as many variables
pub reads_at : (root first : Sets) (ps : List AnyProp) → length first ≡ length root → All (ReadsFrom root) ps → All (ReadsFrom first) ps
reads_at root first ps long reads =
    subst (λ (n : ℕ). All (λ (p : AnyProp). All (λ (v : VarId). v.0 < n) (scope_of p)) ps) (sym long) reads

rounds_at : (root first : Sets) (fix : Sets → Option Sets) (ps : List AnyProp) → length first ≡ length root → AreRounds root fix ps
    → AreRounds first fix ps
rounds_at root first fix ps long h = record { reads = reads_at root first ps long h.reads; fixed = h.fixed }

-- ---- a model's

module _ (m : Model) (limit : Option ℕ) where
  -- the first room of what was posted
  pub first_of_model : (s : Sets) (ps : List AnyProp) (r : Room) → ArePosted m limit ps → s ≡ root_of m
      → ((fix : Sets → Option Sets) → AreRounds s fix ps → IsRoomAt s fix ps r) → IsAt m limit r
  first_of_model s ps r posted same at = record {
    props = ps;
    posted = posted;
    room = subst (λ (b : Sets). IsRoomAt b (fix_at m limit) ps r) same
        (at (fix_at m limit) (subst (λ (b : Sets). AreRounds b (fix_at m limit) ps) (sym same) posted.rounds));
  }

  pub at_room : (r : Room) → IsAt m limit r → IsRoom r
  at_room r h = record { root = root_of m; fix = fix_at m limit; props = h.props; at = h.room }

  pub at_goes : (a b : Room) → IsAt m limit a → Goes a b → IsAt m limit b
  at_goes a b h goes = record { props = h.props; posted = h.posted; room = goes (root_of m) (fix_at m limit) h.props h.room }

  module _ (r : Room) (h : IsAt m limit r) where
    -- the box there
    pub at_box : IsBox (root_of m) (reached (root_of m) (path_of r))
    at_box = box_here (root_of m) r.stand h.room.stand

    pub at_lost : IsLost r → fix_at m limit (reached (root_of m) (path_of r)) ≡ None
    at_lost lost = lost (root_of m) (fix_at m limit) h.props h.room

    pub at_rests : Rests r → fix_at m limit (reached (root_of m) (path_of r)) ≢ None
    at_rests rests = rests (root_of m) (fix_at m limit) h.props h.room

    -- what splits the box of its decisions splits that of its store
    pub at_split : (v : VarId) (x : ℕ) → Splits (reached (root_of m) (path_of r)) v x → Splits r.stand.cuts.sets v x
    at_split v x s = subst (λ (b : Sets). Splits b v x) (sym h.room.stand.sets) s

    -- a path whose decisions split the boxes that they find leads from it
    pub at_on : (ds : List Decision) → AllSplit (root_of m) ds → IsRoomOn ds r
    at_on ds split = record { root = root_of m; fix = fix_at m limit; props = h.props; at = h.room; split = split }

-- ---- a block's

module _ (first : Sets) (m : Model) (k : ℕ) (limit : Option ℕ) where
  -- the first room of what was posted for the block, at a box of the model
  pub first_of_part : (ps : List AnyProp) (r : Room) → ArePartPosted m k limit ps → Below first (root_of m)
      → ((fix : Sets → Option Sets) → AreRounds first fix ps → IsRoomAt first fix ps r) → IsPartAt first m k limit r
  first_of_part ps r posted within at = record {
    props = ps;
    posted = posted;
    within = within;
    room = at (fix_part m k limit) (rounds_at (root_of m) first (fix_part m k limit) ps within.long posted.rounds);
  }

  pub part_room : (r : Room) → IsPartAt first m k limit r → IsRoom r
  part_room r h = record { root = first; fix = fix_part m k limit; props = h.props; at = h.room }

  pub part_goes : (a b : Room) → IsPartAt first m k limit a → Goes a b → IsPartAt first m k limit b
  part_goes a b h goes =
      record { props = h.props; posted = h.posted; within = h.within; room = goes first (fix_part m k limit) h.props h.room }

  module _ (r : Room) (h : IsPartAt first m k limit r) where
    -- the box there is one of the model's
    pub part_box : IsBox (root_of m) (reached first (path_of r))
    part_box = let b = box_here first r.stand h.room.stand in
        (Below-trans (reached first (path_of r)) first (root_of m) b.0 h.within, b.1)

    pub part_lost : IsLost r → fix_part m k limit (reached first (path_of r)) ≡ None
    part_lost lost = lost first (fix_part m k limit) h.props h.room

    pub part_rests : Rests r → fix_part m k limit (reached first (path_of r)) ≢ None
    part_rests rests = rests first (fix_part m k limit) h.props h.room
