-- What an operation that is active chooses is given early enough for it.
use Rattle.std.proofs.Common.{ℕ, ◌≡◌, ◌<◌, true, false, List, filter, refl, sym, ap, ◌∙◌, subst, arith}
use Rattle.std.specs.Prelude.{IsSomeAnd, slice_index}
use Rattle.un_ir.specs.declared.extended.Ext.{Ext}
use Rattle.un_ir.specs.declared.extended.ExtKind.{ExtKind}
use Rattle.un_ir.specs.declared.extended.ExtKind.TheVariants.{In, Out, Body, End, Copy, Enter, Leave}
use Rattle.un_ir.specs.Kinds.{is_delimiter}
use Rattle.un_domains.specs.Sets.{Sets, has, IsIn}
use Rattle.un_model.specs.declared.model.Options.{Options}
use Rattle.un_model.specs.Schedules.{value_by, cycle_by}
use Rattle.un_model.specs.Variables.{model_of}
use Rattle.un_lists.proofs.Lists.{Member}
use Rattle.un_model.proofs.Placed.{Placed, vars_of, issue_at, end_of}
use Rattle.un_model.proofs.PlacedSchedules.{all}
use Rattle.un_model.proofs.Readings.{Solved, placed_domains}
use Rattle.un_steps.specs.Words.{Alternative, alternative, definer_of, giving_cycles, giving_by, cycles, is_positive}
use Rattle.un_steps.specs.Rules.{IsTooLateFor, IsLateFor, WaitsPast}
use Rattle.un_steps.proofs.Boxes.{some_of, some_is, has_positive, at_least, at_most}
use Rattle.un_steps.proofs.Choosing.{chosen}
use Rattle.un_steps.proofs.Grounds.{sure_active, number_left, cycle_left, within}
use Rattle.un_steps.proofs.Placing.{operation_of}

module _ (e : Ext) (o : Options) (x : List ℕ) (h : Solved e o x) (s : Sets) (inside : IsIn x s) where
  -- the cycle of a definer that is active is one in which it gives
  giving : (d : Placed) → Member d (all e o x) → (issue_at x d).active ≡ true
      → has (giving_cycles s (operation_of d)) (issue_at x d).cycle ≡ true
  giving d m act = by d.op.kind refl
    where
      left : has (cycles s (operation_of d)) (issue_at x d).cycle ≡ true
      left = cycle_left e o x h s inside d m

      Gives : ExtKind → Type 0
      Gives k = has (giving_by k (cycles s (operation_of d))) (cycle_by x (end_of x d) k (vars_of d)) ≡ true

      late : 0 < (issue_at x d).cycle → has (filter is_positive (cycles s (operation_of d))) (issue_at x d).cycle ≡ true
      late lt = has_positive (cycles s (operation_of d)) (issue_at x d).cycle left lt

      inner : (k : ExtKind) → d.op.kind ≡ k → is_delimiter k ≡ false
          → has (filter is_positive (cycles s (operation_of d))) (issue_at x d).cycle ≡ true
      inner k f t = late (within e o x h s inside d m act (ap is_delimiter f ∙ t)).0

      moved : (k : ExtKind) → d.op.kind ≡ k → has (filter is_positive (cycles s (operation_of d))) (issue_at x d).cycle ≡ true
          → has (filter is_positive (cycles s (operation_of d))) (cycle_by x (end_of x d) k (vars_of d)) ≡ true
      moved k f t = subst (λ (c : ExtKind). has (filter is_positive (cycles s (operation_of d))) (cycle_by x (end_of x d) c (vars_of d)) ≡ true) f t

      by : (k : ExtKind) → d.op.kind ≡ k → Gives d.op.kind
      by In f = subst Gives (sym f) refl
      by Out f =
          let dom = placed_domains e o x h d m in
          let one = dom.close in
          let c : (issue_at x d).cycle ≡ end_of x d = ap (λ (c : ExtKind). cycle_by x (end_of x d) c (vars_of d)) f in
          subst Gives (sym f) (moved Out f (late (omega (arith, one, c))))
      by (Body so) f = subst Gives (sym f) (moved (Body so) f (inner (Body so) f refl))
      by (End term) f = subst Gives (sym f) (moved (End term) f (inner (End term) f refl))
      by (Copy node) f = subst Gives (sym f) (moved (Copy node) f (inner (Copy node) f refl))
      by Enter f = subst Gives (sym f) (moved Enter f (inner Enter f refl))
      by Leave f = subst Gives (sym f) (moved Leave f (inner Leave f refl))

  pub too_late_for : (q : Placed) (v y : ℕ) → Member q (all e o x) → IsTooLateFor (model_of e o) s (operation_of q) v y
      → slice_index x v ≡ y → ⊥
  too_late_for q v y m (sure, goes) is =
      let model = model_of e o in
      let p = operation_of q in
      let a = some_of (alternative p v y) (λ (a : Alternative). IsSomeAnd (definer_of model a.temp) (IsLateFor model s p)) goes in
      let act = sure_active e o x h s inside q m sure in
      let c = chosen e o x h s inside q v y a.0 m act a.1 is in
      let u = c.spot in
      let d = operation_of u.definer in
      let late = some_is _ (IsLateFor model s p) d c.definer a.2 in
      let vd = vars_of u.definer in
      let vq = vars_of q in
      let i = value_by x vd.instr in
      let j = value_by x vq.instr in
      let first = at_least (giving_cycles s d) (issue_at x u.definer).cycle _ (giving u.definer c.listed c.active) late in
      let last = at_most (cycles s p) (issue_at x q).cycle (λ (last : ℕ). WaitsPast model s p d last first.0)
      (cycle_left e o x h s inside q m) first.2 in
      let waits = last.2 in
      let bad = waits.each i j (number_left e o x h s inside u.definer c.listed c.active) (number_left e o x h s inside q m act) in
      let ready = c.ready in
      let l1 = first.1 in let l2 = last.1 in
      omega (arith, ready, l1, l2, bad)
