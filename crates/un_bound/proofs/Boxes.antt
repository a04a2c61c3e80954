-- Less is left in a smaller box, so its least cost is at least as large.
use Rattle.std.proofs.Common.{◌≡◌, ℕ, ◌+◌, ◌≤◌, Bool, true, false, ◌&&◌, List, [], ◌∷◌, Option, Some, None, length, sym, ap, ◌∙◌, arith}
use Rattle.std.specs.Prelude.{slice_index, IfSome}
use Rattle.un_base.specs.declared.ids.VarId.{VarId}
use Rattle.un_ir.specs.declared.extended.ExtOp.{ExtOp}
use Rattle.un_ir.specs.declared.extended.ExtBlock.{ExtBlock}
use Rattle.un_domains.specs.Sets.{Sets, set_at, has}
use Rattle.un_domains.specs.Order.{Below}
use Rattle.un_domains.specs.SetLaws.{has-filter}
use Rattle.un_model.specs.declared.model.Arc.{Arc}
use Rattle.un_model.specs.declared.model.OpVars.{OpVars}
use Rattle.un_model.specs.declared.model.BlockVars.{BlockVars}
use Rattle.un_model.specs.declared.model.Model.{Model}
use Rattle.un_bound.specs.Relaxations.{Times, IsValue, IsRelaxed, AreRelaxed, IsMember, IsLeast}

both_hold : (a b : Bool) → (a && b) ≡ true → b ≡ true
both_hold true b h = h
both_hold false b h = absurd (cc h)

module _ (t s : Sets) (below : Below t s) where
  value : (v : VarId) (n : ℕ) → IsValue t v n → IsValue s v n
  value v n h =
      let e : has (set_at t v.0) n ≡ (has (set_at t v.0) n && has (set_at s v.0) n) =
      ap (λ (xs : List ℕ). has xs n) (below.each v.0) ∙ has-filter (has (set_at t v.0)) n (set_at s v.0) in
      both_hold (has (set_at t v.0) n) (has (set_at s v.0) n) (sym e ∙ h)

  own : (var : Option VarId) (n : ℕ) → IfSome var (λ (v : VarId). IsValue t v n) → IfSome var (λ (v : VarId). IsValue s v n)
  own None n h = tt
  own (Some v) n h = value v n h

  relaxed : (n : ℕ) (end : VarId) (ops : List ExtOp) (vars : List OpVars) (arcs : List Arc) (times : Times)
      → IsRelaxed t n end ops vars arcs times → IsRelaxed s n end ops vars arcs times
  relaxed n end ops vars arcs times h = record {
    timing = h.timing;
    stop = value end times.end h.stop;
    cycles = λ k op v p q m. own v.cycle (slice_index times.cycles k) (h.cycles k op v p q m);
  }

  all_relaxed : (n : ℕ) (blocks : List ExtBlock) (vars : List BlockVars) (arcs : List (List Arc)) (times : List Times)
      → AreRelaxed t n blocks vars arcs times → AreRelaxed s n blocks vars arcs times
  all_relaxed n [] vars arcs times h = h
  all_relaxed n (block ∷ blocks) [] arcs times h = h
  all_relaxed n (block ∷ blocks) (v ∷ vars) [] times h = h
  all_relaxed n (block ∷ blocks) (v ∷ vars) (here ∷ arcs) [] h = absurd h
  all_relaxed n (block ∷ blocks) (v ∷ vars) (here ∷ arcs) (u ∷ times) h =
      (relaxed n v.end block.ops v.ops here u h.0, all_relaxed (n + length block.ops) blocks vars arcs times h.1)

  -- a member in the smaller box is one in the larger
  pub member_above : (m : Model) (times : List Times) → IsMember m t times → IsMember m s times
  member_above m times h = all_relaxed 0 m.ext.blocks m.blocks m.arcs times h

  pub least_rises : (m : Model) (a b : ℕ) → IsLeast m t a → IsLeast m s b → b ≤ a
  least_rises m a b small large =
      let le = large.least small.reached.0 (member_above m small.reached.0 small.reached.1) in
      omega (arith, le, small.reached.2)
