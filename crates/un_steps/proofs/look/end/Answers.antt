use Rattle.std.proofs.Common.{arith}
use Rattle.un_domains.specs.Sets.{set_at}
use Rattle.un_steps.proofs.Looks.{below_end}
use Rattle.un_steps.proofs.look.end.Goals as goal

pub returns-clause-above : goal.returns-clause-above
returns-clause-above c = λ y h.
    let b = below_end (set_at c.args.s.now.sets c.args.v.0) y h in
    let m = c.max.ensures in let f = c.from.ensures in omega (arith, b, m, f)
