use Rattle.std.proofs.Common.{sym, ◌∙◌, arith}
use Rattle.un_domains.specs.Sets.{set_at}
use Rattle.un_steps.proofs.Looks.{first_positive, none_positive}
use Rattle.un_steps.proofs.look.least_positive.Goals as goal

pub returns-then-has : goal.returns-then-has
returns-then-has c = sym (first_positive (set_at c.args.s.now.sets c.args.v.0) c.loop-y.y c.loop-y.auto.y c.loop-y.invariant
    (sym c.has.ensures ∙ c.if-has.true))

pub returns : goal.returns
returns c = sym (none_positive (set_at c.args.s.now.sets c.args.v.0) c.end-end.result c.end-end.ensures.above (λ k lo lt.
    c.loop-y.invariant k lo (let t = c.loop-y-test.false in omega (arith, lt, t))))
