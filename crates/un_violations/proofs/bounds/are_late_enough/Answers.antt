use Rattle.std.proofs.Common.{ℕ, ◌≡◌, inl, inr, get_or, subst, arith}
use Rattle.std.proofs.lemmas.Bool.{cases_lt}
use Rattle.std.proofs.lemmas.List.{get_or_default}
use Rattle.un_model.specs.declared.schedule.Issue.{Issue}
use Rattle.un_violations.proofs.Apartness.{IsLate}
use Rattle.un_violations.proofs.Zeros.{zero_issue}
use Rattle.un_violations.proofs.bounds.are_late_enough.Goals as goal

pub loop-i-preserved : goal.loop-i-preserved
loop-i-preserved c = λ k d lt.
    elim (cases_lt k c.loop-i.i-index) [
      | inl a ↦ c.loop-i.invariant k d a
      | inr b ↦ (let e : c.loop-i.i-index ≡ k = omega (arith, b, lt) in
          let same = get_or_default c.args.issues.now c.loop-i.i-index zero_issue d c.loop-i-test.true in
          subst (λ (m : ℕ). IsLate c.args.table.now (get_or c.args.issues.now m d)) e
          (subst (λ (x : Issue). IsLate c.args.table.now x) same (c.is_late_enough.ensures.0 c.if-not-is_late_enough.false)))
    ]
