use Rattle.std.proofs.Common.{sym}
use Rattle.un_domains.specs.Sets.{set_at}
use Rattle.un_steps.proofs.Boxes.{greatest_above}
use Rattle.un_logs.proofs.Reaching.{dear_later}
use Rattle.un_logs.proofs.reach.reach_end.Goals as goal

pub returns-else-may_go : goal.returns-else-may_go
returns-else-may_go c = λ y h k.
    let r = c.args.r.now in
    let s = c.args.s.now.sets in
    let v = c.args.v.0 in
    let le = greatest_above (set_at s v) y c.in-Some.last h (sym c.in-Some.ensures) in
    let t = c.may_go.ensures.1 (dear_later r.m.now r.limit s c.args.n v y c.in-Some.last le k) in
    let f = c.if-may_go.false in
    absurd (cc (t, f))
