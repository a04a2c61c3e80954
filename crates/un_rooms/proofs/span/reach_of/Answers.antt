use Rattle.std.proofs.Common.{arith}
use Rattle.un_rooms.proofs.span.reach_of.Goals as goal

pub returns-clause-spots : goal.returns-clause-spots
returns-clause-spots c k d lt =
    let p = c.with_arcs-span.ensures.kept _ (c.span_of.ensures k d lt) in
    let e = c.saturating_sub.ensures in (p.0, omega arith)

pub returns-clause-arcs : goal.returns-clause-arcs
returns-clause-arcs c k d lt =
    let a = c.with_arcs-span.ensures.arcs k d lt in
    let from = a.0 in let to = a.1 in
    let e = c.saturating_sub.ensures in ((from.0, omega arith), (to.0, omega arith))
