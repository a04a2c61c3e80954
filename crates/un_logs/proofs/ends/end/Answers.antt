use Rattle.std.proofs.Common.{sym, arith}
use Rattle.un_domains.specs.Sets.{set_at}
use Rattle.un_steps.proofs.Boxes.{greatest_above}
use Rattle.un_logs.proofs.ends.end.Goals as goal

pub returns-in-Some-clause-above : goal.returns-in-Some-clause-above
returns-in-Some-clause-above c = λ y h.
    let b = greatest_above (set_at c.args.s.now.sets c.args.v.0) y c.in-Some.last h (sym c.in-Some.ensures) in
    let f = c.from.ensures in
    omega (arith, b, f)
