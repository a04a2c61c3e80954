use Rattle.std.proofs.Common.{sym, arith}
use Rattle.un_domains.specs.Sets.{set_at}
use Rattle.un_steps.proofs.Boxes.{least_below}
use Rattle.un_logs.proofs.reach.left.Goals as goal

pub returns-in-Some : goal.returns-in-Some
returns-in-Some c = λ y h. record {
  lo =
      let b = least_below (set_at c.args.s.now.sets c.args.v.0) y c.in-Some.least h (sym c.in-Some.ensures) in
      let f = c.from.ensures in omega (arith, b, f);
  hi = c.end.ensures.above y h;
}
