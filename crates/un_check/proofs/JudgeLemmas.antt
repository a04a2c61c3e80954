-- What is found of a node.
use Rattle.std.proofs.Common.{ℕ, ◌≡◌, ◌<◌, ◌≤◌, ◌↔◌, Bool, true, false, IsTrue, List, All, length, Some, None, refl, sym, subst, ◌∙◌, arith}
use Rattle.std.specs.declared.option.Option.{Option}
use Rattle.std.proofs.Common.{◌+◌}
use Rattle.std.proofs.lemmas.List.{length-map}
use Rattle.un_domains.specs.Domains.{values_of}
use Rattle.un_domains.specs.Sets.{Sets}
use Rattle.un_ir.specs.declared.extended.ExtBlock.{ExtBlock}
use Rattle.un_prop.specs.Pruning.{HasRoom}
use Rattle.un_model.specs.declared.model.Model.{Model}
use Rattle.un_bound.specs.Relaxations.{IsLeast, IsRelaxation}
use Rattle.un_bound.specs.declared.relax.RelaxAnswer.{RelaxAnswer}
use Rattle.un_bound.specs.declared.relax.RelaxAnswer.TheVariants.{Empty, Least}
use Rattle.un_prop.specs.declared.propagator.Scratch.{Scratch}
use Rattle.un_base.specs.declared.ids.VarId.{VarId}
use Rattle.un_tree.specs.Boxes.{Splits, reached}
use Rattle.un_tree.specs.Waits.{Whole, Begins, Inside}
use Rattle.un_tree.specs.declared.node.Node.{Node}
use Rattle.un_tree.specs.declared.node.Node.TheVariants.{Branch, Closed, Open, Split, Part}
use Rattle.un_certificate.specs.Certificates.{IsEmptyUnder}
use Rattle.un_certificate.specs.Joints.{IsOwn}
use Rattle.un_certificate.specs.ModelLaws.{part_keeps, posted_keeps}
use Rattle.un_model.specs.Boxes.{root_of}
use Rattle.un_stand.specs.Rooms.{IsAt, IsLost, IsPartAt, Rests, path_of}
use Rattle.un_stand.proofs.ModelRooms.{at_box, at_lost, at_rests, part_box, part_lost, part_rests}
use Rattle.un_stand.specs.declared.room.Room.{Room}
use Rattle.un_check.specs.Judging.{HasScratch, IsUnder, IsLeastUnder, IsJudged}
use Rattle.un_check.specs.Verdicts.{IsRightNode}
use Rattle.un_check.specs.declared.judge.Judged.TheVariants.{Broken, Kept, Leaf}
use Rattle.un_check.specs.declared.verdict.TreeVerdict.TheVariants.{NotStrict, NotSplit, NotAlive, NotClosed}

-- a relaxation keeps the room that it uses
pub scratch_kept : (m : Model) (a b : Scratch) → HasScratch m a → length b.fixed.items ≡ length a.fixed.items
    → length b.cycles.items ≡ length a.cycles.items → HasScratch m b
scratch_kept m a b h fixed cycles i d lt = let r = h i d lt in record {
  fixed = omega (arith, r.fixed, fixed);
  cycles = omega (arith, r.cycles, cycles);
}

pub known_long : (m : Model) (s : Sets) → length s ≡ length (root_of m) → length m.domains ≤ length s
known_long m s e = omega (arith, e, length-map m.domains values_of)

pub room_at : (m : Model) (s : Sets) (a : Scratch) → length s ≡ length (root_of m) → HasScratch m a
    → All (λ (block : ExtBlock). HasRoom (length s) (block.horizon + 1) a) m.ext.blocks
room_at m s a e h = subst (λ (n : ℕ). All (λ (block : ExtBlock). HasRoom n (block.horizon + 1) a) m.ext.blocks) (sym e) h

module _ (m : Model) (b : Sets) (n : ℕ) (h : IsLeast m b n) where
  some_free : IsEmptyUnder m None b → ⊥
  some_free empty = empty h.reached.0 (h.reached.1, tt)

  some_under : (c : ℕ) → n < c → IsEmptyUnder m (Some c) b → ⊥
  some_under c lt empty = empty h.reached.0 (h.reached.1, (let e = h.reached.2 in omega (arith, e, lt)))

  none_under : (c : ℕ) → c ≤ n → IsEmptyUnder m (Some c) b
  none_under c ge times member = let le = h.least times member.0 in let lt = member.1 in absurd (omega (arith, le, lt, ge))

-- the least cost of a relaxation, where it is below the limit
pub least_is : (m : Model) (limit : Option ℕ) (b : Sets) (a : RelaxAnswer) (r : Option ℕ) → IsRelaxation m b a → IsUnder limit a r
    → IsLeastUnder m limit b r
least_is m limit b Empty None h u = λ times member. h times member.0
least_is m limit b Empty (Some k) h u = absurd (cc u)
least_is m None b (Least n) None h u = absurd (cc u)
least_is m None b (Least n) (Some k) h u =
    let e : k ≡ n = cc u in subst (λ (j : ℕ). IsLeastUnder m None b (Some j)) (sym e) (h, some_free m b n h)
least_is m (Some c) b (Least n) None h u = none_under m b n h c u
least_is m (Some c) b (Least n) (Some k) h u =
    subst (λ (j : ℕ). IsLeastUnder m (Some c) b (Some j)) (sym u.0) (h, some_under m b n h c u.1)

-- outside of parts, at the box that the store has
pub at_cuts : (m : Model) (limit : Option ℕ) (r : Room) → IsAt m limit r → (P : Sets → Type 0) → P r.stand.cuts.sets
    → P (reached (root_of m) (path_of r))
at_cuts m limit r h P p = subst P h.room.stand.sets p

module _ (m : Model) (limit : Option ℕ) (r : Room) (h : IsAt m limit r) (place : ℕ) (rest : List Node) where
  pub branch_one : (v : VarId) (x : ℕ) → (Splits r.stand.cuts.sets v x → ⊥)
      → IsJudged m limit place (Branch v x) (Whole (reached (root_of m) (path_of r))) rest (Broken (NotStrict place))
  branch_one v x never = (refl, at_cuts m limit r h (λ b. Splits b v x → ⊥) never)

  pub branch_empty : (v : VarId) (x : ℕ) (least : Option ℕ) → Splits r.stand.cuts.sets v x
      → IsLeastUnder m limit (reached (root_of m) (path_of r)) least → least ≡ None
      → IsJudged m limit place (Branch v x) (Whole (reached (root_of m) (path_of r))) rest (Broken (NotAlive place))
  branch_empty v x least s l is = (
    refl,
    at_cuts m limit r h (λ b. Splits b v x) s,
    (let e = subst (IsLeastUnder m limit (reached (root_of m) (path_of r))) is l in λ alive. alive e),
  )

  pub branch_kept : (v : VarId) (x : ℕ) (least : Option ℕ) (k : ℕ) → Splits r.stand.cuts.sets v x
      → IsLeastUnder m limit (reached (root_of m) (path_of r)) least → least ≡ Some k
      → IsJudged m limit place (Branch v x) (Whole (reached (root_of m) (path_of r))) rest Kept
  branch_kept v x least k s l is = (
    record {
      strict = at_cuts m limit r h (λ b. Splits b v x) s;
      right = tt;
      alive = (subst (IsLeastUnder m limit (reached (root_of m) (path_of r))) is l).1;
      lost = tt;
    },
    λ e. cc e,
    tt,
  )

  pub open_empty : (least : Option ℕ) → IsLeastUnder m limit (reached (root_of m) (path_of r)) least → least ≡ None
      → IsJudged m limit place Open (Whole (reached (root_of m) (path_of r))) rest (Broken (NotAlive place))
  open_empty least l is =
      (refl, tt, (let e = subst (IsLeastUnder m limit (reached (root_of m) (path_of r))) is l in λ alive. alive e))

  pub open_kept : (least : Option ℕ) (k : ℕ) → IsLeastUnder m limit (reached (root_of m) (path_of r)) least
      → least ≡ Some k → IsJudged m limit place Open (Whole (reached (root_of m) (path_of r))) rest (Leaf k)
  open_kept least k l is =
      let e = subst (IsLeastUnder m limit (reached (root_of m) (path_of r))) is l in
      (record { strict = tt; right = tt; alive = e.1; lost = tt }, e.0)

  -- on a box where the rounds fail there is no solution below the limit
  pub closed_kept : IsLost r → IsJudged m limit place Closed (Whole (reached (root_of m) (path_of r))) rest Kept
  closed_kept lost =
      let none = at_lost m limit r h lost in (
        record { strict = tt; right = tt; alive = tt; lost = none },
        λ e. cc e,
        λ x there good. posted_keeps m limit h.props h.posted (reached (root_of m) (path_of r)) x (at_box m limit r h) there good none,
      )

  pub closed_rests : Rests r → IsJudged m limit place Closed (Whole (reached (root_of m) (path_of r))) rest (Broken (NotClosed place))
  closed_rests rests = (refl, at_rests m limit r h rests)

  pub split_kept : (right : Bool) → right ≡ true → IsTrue right ↔ IsRightNode m limit Split (Whole r.stand.cuts.sets) rest
      → IsJudged m limit place Split (Whole (reached (root_of m) (path_of r))) rest Kept
  split_kept right on is = (
    record { strict = tt; right = at_cuts m limit r h (λ b. IsRightNode m limit Split (Whole b) rest) (is.0 on); alive = tt; lost = tt },
    λ e. cc e,
    tt,
  )

  pub split_broken : (right : Bool) → right ≡ false → IsTrue right ↔ IsRightNode m limit Split (Whole r.stand.cuts.sets) rest
      → IsJudged m limit place Split (Whole (reached (root_of m) (path_of r))) rest (Broken (NotSplit place))
  split_broken right off is = (
    refl,
    tt,
    at_cuts m limit r h (λ b. IsRightNode m limit Split (Whole b) rest → ⊥) (λ keeps. (let e : false ≡ true = sym off ∙ is.1 keeps in cc e)),
  )

  pub part_stray : (number : Option ℕ) → IsJudged m limit place (Part number) (Whole (reached (root_of m) (path_of r))) rest (Broken (NotSplit place))
  part_stray number = (refl, tt, λ may. may)

-- where a part must begin
module _ (m : Model) (limit : Option ℕ) (place k : ℕ) (b : Sets) (rest : List Node) where
  pub begin_kept : (number : Option ℕ) → IsJudged m limit place (Part number) (Begins k b) rest Kept
  begin_kept number = (record { strict = tt; right = tt; alive = tt; lost = tt }, λ e. cc e, tt)

  pub begin_branch : (v : VarId) (x : ℕ) → IsJudged m limit place (Branch v x) (Begins k b) rest (Broken (NotSplit place))
  begin_branch v x = (refl, tt, λ may. may)

  pub begin_closed : IsJudged m limit place Closed (Begins k b) rest (Broken (NotSplit place))
  begin_closed = (refl, tt, λ may. may)

  pub begin_open : IsJudged m limit place Open (Begins k b) rest (Broken (NotSplit place))
  begin_open = (refl, tt, λ may. may)

  pub begin_split : IsJudged m limit place Split (Begins k b) rest (Broken (NotSplit place))
  begin_split = (refl, tt, λ may. may)

-- in a part
module _ (first : Sets) (m : Model) (k : ℕ) (limit number : Option ℕ) (r : Room) (h : IsPartAt first m k number r) (place : ℕ)
    (rest : List Node) where
  in_cuts : (P : Sets → Type 0) → P r.stand.cuts.sets → P (reached first (path_of r))
  in_cuts P p = subst P h.room.stand.sets p

  pub in_one : (v : VarId) (x : ℕ) → (Splits r.stand.cuts.sets v x → ⊥)
      → IsJudged m limit place (Branch v x) (Inside k number (reached first (path_of r))) rest (Broken (NotStrict place))
  in_one v x never = (refl, λ s. in_cuts (λ b. Splits b v x → ⊥) never s.0)

  pub in_other : (v : VarId) (x : ℕ) → (IsOwn m k v → ⊥)
      → IsJudged m limit place (Branch v x) (Inside k number (reached first (path_of r))) rest (Broken (NotStrict place))
  in_other v x never = (refl, λ s. never s.1)

  pub in_kept : (v : VarId) (x : ℕ) → Splits r.stand.cuts.sets v x → IsOwn m k v
      → IsJudged m limit place (Branch v x) (Inside k number (reached first (path_of r))) rest Kept
  in_kept v x s own =
      (record { strict = (in_cuts (λ b. Splits b v x) s, own); right = tt; alive = tt; lost = tt }, λ e. cc e, tt)

  -- on a box where the rounds of the block fail there is no member of its part below the number
  pub in_closed : IsLost r → IsJudged m limit place Closed (Inside k number (reached first (path_of r))) rest Kept
  in_closed lost =
      let none = part_lost first m k number r h lost in (
        record { strict = tt; right = tt; alive = tt; lost = none },
        λ e. cc e,
        λ x there good. part_keeps m k number h.props h.posted (reached first (path_of r)) x (part_box first m k number r h) there good none,
      )

  pub in_rests : Rests r → IsJudged m limit place Closed (Inside k number (reached first (path_of r))) rest (Broken (NotClosed place))
  in_rests rests = (refl, part_rests first m k number r h rests)

  pub in_open : IsJudged m limit place Open (Inside k number (reached first (path_of r))) rest (Broken (NotSplit place))
  in_open = (refl, tt, λ may. may)

  pub in_split : IsJudged m limit place Split (Inside k number (reached first (path_of r))) rest (Broken (NotSplit place))
  in_split = (refl, tt, λ may. may)

  pub in_part_line : (other : Option ℕ) → IsJudged m limit place (Part other) (Inside k number (reached first (path_of r))) rest (Broken (NotSplit place))
  in_part_line other = (refl, tt, λ may. may)
