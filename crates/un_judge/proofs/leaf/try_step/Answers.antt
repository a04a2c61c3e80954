use Rattle.un_judge.proofs.Comings.{bad_step}
use Rattle.un_judge.proofs.leaf.try_step.Goals as goal

pub returns-then-not-is_allowed-clause-does : goal.returns-then-not-is_allowed-clause-does
returns-then-not-is_allowed-clause-does c bytes is =
    let r = c.args.r.now in
    bad_step r.rules r.m.now r.limit c.args.cuts.now.sets bytes c.args.step.now is
    (λ a. let t = c.is_allowed.ensures.1 a in let f = c.if-not-is_allowed.true in cc (t, f))
