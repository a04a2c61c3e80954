use Rattle.std.proofs.Common.{sym, ◌∙◌, arith}
use Rattle.un_domains.specs.Sets.{set_at}
use Rattle.un_steps.proofs.Boxes.{greatest_above}
use Rattle.un_logs.proofs.Reaching.{greatest_left, greatest_none}
use Rattle.un_logs.proofs.run.last_left.Goals as goal

pub returns-in-None-clause-none : goal.returns-in-None-clause-none
returns-in-None-clause-none c = λ y lt h.
    greatest_none (set_at c.args.s.now.sets c.args.v.0) y (sym c.greatest.ensures ∙ c.in-None.is) h

pub returns-in-Some-clause-order : goal.returns-in-Some-clause-order
returns-in-Some-clause-order c =
    greatest_above (set_at c.args.s.now.sets c.args.v.0) c.args.first c.in-Some.last c.requires (sym c.greatest.ensures ∙ c.in-Some.is)

pub returns-in-Some-clause-left : goal.returns-in-Some-clause-left
returns-in-Some-clause-left c =
    greatest_left (set_at c.args.s.now.sets c.args.v.0) c.in-Some.last (sym c.greatest.ensures ∙ c.in-Some.is)

pub returns-in-Some-clause-none : goal.returns-in-Some-clause-none
returns-in-Some-clause-none c = λ y lt h.
    let le = greatest_above (set_at c.args.s.now.sets c.args.v.0) y c.in-Some.last h (sym c.greatest.ensures ∙ c.in-Some.is) in
    absurd (omega (arith, lt, le))
