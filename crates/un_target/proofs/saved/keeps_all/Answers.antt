use Rattle.std.proofs.Common.{◌≡◌, ℕ, ◌≤◌, true, true≢false, below_more, sym, ◌∙◌, arith}
use Rattle.un_isa.specs.Tables.{in_mask}
use Rattle.un_target.proofs.FitLaws.{saved_from, saved_to, is_saved_within}
use Rattle.un_target.proofs.Verdicts.{always, never}
use Rattle.un_target.proofs.saved.keeps_all.Goals as goal

pub loop-r-preserved : goal.loop-r-preserved
loop-r-preserved c = λ q low lt. below_more (λ (p : ℕ). 16 ≤ p → in_mask c.args.mask p ≡ true) c.loop-r.r
    (λ p small from. c.loop-r.invariant p from small) (λ from. sym c.is_in_mask.ensures ∙ c.if-not-is_in_mask.false) q lt low

pub returns-then-not-is_in_mask : goal.returns-then-not-is_in_mask
returns-then-not-is_in_mask c = never (λ each. true≢false
    (sym (each c.loop-r.r (is_saved_within c.loop-r.r (omega arith) (omega arith))) ∙ sym c.is_in_mask.ensures ∙ c.if-not-is_in_mask.true))

pub returns : goal.returns
returns c = always (λ r is. c.loop-r.invariant r (saved_from r is) (omega (arith, saved_to r is, c.loop-r-test.false)))
