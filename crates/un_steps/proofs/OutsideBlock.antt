-- An operation that is sure issues after cycle 0 and before its block's end.
use Rattle.std.proofs.Common.{ℕ, ◌≡◌, ◌<◌, ◌≤◌, false, List, ◌⊎◌, inl, inr, refl, ap, ◌∙◌, arith}
use Rattle.std.specs.Prelude.{Option, Some, None, IsSomeAnd, slice_index}
use Rattle.un_base.specs.declared.ids.VarId.{VarId}
use Rattle.un_ir.specs.declared.extended.Ext.{Ext}
use Rattle.un_ir.specs.declared.extended.ExtKind.{ExtKind}
use Rattle.un_ir.specs.declared.extended.ExtKind.TheVariants.{In, Out, Body, End, Copy, Enter, Leave}
use Rattle.un_ir.specs.Kinds.{is_delimiter}
use Rattle.un_domains.specs.Sets.{Sets, set_at, IsIn}
use Rattle.un_model.specs.declared.model.Options.{Options}
use Rattle.un_model.specs.Schedules.{value_by, cycle_by}
use Rattle.un_lists.proofs.Lists.{Member}
use Rattle.un_model.proofs.Placed.{Placed, vars_of, issue_at, end_of}
use Rattle.un_model.proofs.PlacedSchedules.{all}
use Rattle.un_model.proofs.Readings.{Solved}
use Rattle.un_steps.specs.Words.{IsVar, least_of, cycles}
use Rattle.un_steps.specs.Rules.{IsOutsideBlock, IsPastEnd}
use Rattle.un_steps.proofs.Boxes.{at_least, at_most}
use Rattle.un_steps.proofs.Grounds.{sure_active, within, cycle_left, close_left}
use Rattle.un_steps.proofs.Placing.{operation_of}

-- the value of a variable that there is
pub var_value : (x : List ℕ) (w : Option VarId) (v y : ℕ) → IsVar w v → slice_index x v ≡ y → value_by x w ≡ y
var_value x None v y is e = absurd is
var_value x (Some u) v y is e = ap (slice_index x) is ∙ e

-- between the start and the end of its block an operation's cycle is its variable's value
pub own_cycle : (x : List ℕ) (q : Placed) → is_delimiter q.op.kind ≡ false → (issue_at x q).cycle ≡ (let v = vars_of q in value_by x v.cycle)
own_cycle x q inner = let v = vars_of q in by q.op.kind inner
  where
    by : (c : ExtKind) → is_delimiter c ≡ false → cycle_by x (end_of x q) c (vars_of q) ≡ (let v = vars_of q in value_by x v.cycle)
    by In t = absurd (cc t)
    by Out t = absurd (cc t)
    by (Body so) t = refl
    by (End term) t = refl
    by (Copy node) t = refl
    by Enter t = refl
    by Leave t = refl

module _ (e : Ext) (o : Options) (x : List ℕ) (h : Solved e o x) (s : Sets) (inside : IsIn x s) where
  pub outside_block : (q : Placed) (v y : ℕ) → Member q (all e o x) → IsOutsideBlock s (operation_of q) v y → slice_index x v ≡ y → ⊥
  outside_block q v y m (inner, sure, goes) is = by goes
    where
      inside_block : (0 < (issue_at x q).cycle) × ((issue_at x q).cycle < end_of x q)
      inside_block = within e o x h s inside q m (sure_active e o x h s inside q m sure) inner

      of_cycle : (let w = vars_of q in IsVar w.cycle v) → (y ≡ 0) ⊎ IsPastEnd s (operation_of q) y → ⊥
      of_cycle var bad =
          let w = vars_of q in
          let c = own_cycle x q inner ∙ var_value x w.cycle v y var is in
          let lo = inside_block.0 in
          let hi = inside_block.1 in
          elim bad [
            | inl z ↦ omega (arith, c, lo, z)
            | inr past ↦ past_end c hi (at_most (set_at s q.close.0) (end_of x q) (λ (end : ℕ). end ≤ y) (close_left e o x h s inside q m) past)
          ]
        where
          past_end : (issue_at x q).cycle ≡ y → (issue_at x q).cycle < end_of x q → (a : ℕ) × (end_of x q ≤ a) × (a ≤ y) → ⊥
          past_end c hi (a, le, past) = omega (arith, c, hi, le, past)

      of_end : q.close.0 ≡ v → IsSomeAnd (least_of (cycles s (operation_of q))) (λ (c : ℕ). y ≤ c) → ⊥
      of_end var early =
          let a = at_least (cycles s (operation_of q)) (issue_at x q).cycle (λ (c : ℕ). y ≤ c) (cycle_left e o x h s inside q m) early in
          let hi = inside_block.1 in
          let end : end_of x q ≡ y = ap (slice_index x) var ∙ is in
          let le = a.1 in let past = a.2 in
          omega (arith, hi, end, le, past)

      by : ((let w = vars_of q in IsVar w.cycle v) × ((y ≡ 0) ⊎ IsPastEnd s (operation_of q) y)) ⊎ ((q.close.0 ≡ v) × IsSomeAnd
          (least_of (cycles s (operation_of q))) (λ (c : ℕ). y ≤ c)) → ⊥
      by (inl c) = of_cycle c.0 c.1
      by (inr c) = of_end c.0 c.1
