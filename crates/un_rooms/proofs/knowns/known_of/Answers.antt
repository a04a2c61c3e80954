use Rattle.un_rooms.proofs.Knowing.{known_is}
use Rattle.un_rooms.proofs.knowns.known_of.Goals as goal

pub returns : goal.returns
returns c =
    known_is c.args.m.now c.args.marks.now c.args.b c.args.first c.args.block.now c.args.vars.now c.in_ok-own.own.ops c.in_ok-own.own.arcs
    c.in_ok-own.own.end c.in_ok-own.own.horizon c.in_ok-end.end c.in_ok-leaves.leaves c.role_of.result c.in_ok-leaves.calls
    c.in_ok-own.ensures c.in_ok-end.ensures c.in_ok-leaves.ensures.leaves c.role_of.ensures c.in_ok-leaves.ensures.calls
