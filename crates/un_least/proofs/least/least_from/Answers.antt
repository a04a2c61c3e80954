use Rattle.std.proofs.Common.{◌∙◌, sym, arith}
use Rattle.un_least.specs.Least.{fits_before}
use Rattle.un_least.proofs.LeastSteps.{sought_first, sought_next, sought_here, sought_none}
use Rattle.un_least.proofs.least.least_from.Goals as goal

pub loop-end-init : goal.loop-end-init
loop-end-init c = let b = c.args.block.now in
    sought_first (fits_before b.ops b.arcs b.horizon) c.args.from b.horizon

pub loop-end-preserved : goal.loop-end-preserved
loop-end-preserved c = let b = c.args.block.now in
    sought_next (fits_before b.ops b.arcs b.horizon) c.args.from b.horizon c.loop-end.end (omega (arith, c.loop-end-test.true))
    (sym c.has_room_before.ensures ∙ c.if-has_room_before.false) c.loop-end.invariant

pub returns-then-has_room_before : goal.returns-then-has_room_before
returns-then-has_room_before c = let b = c.args.block.now in
    sought_here (fits_before b.ops b.arcs b.horizon) c.args.from b.horizon c.loop-end.end (omega (arith, c.loop-end-test.true))
    (sym c.has_room_before.ensures ∙ c.if-has_room_before.true) c.loop-end.invariant

pub returns : goal.returns
returns c = let b = c.args.block.now in
    c.later_of.ensures
    ∙ sought_none (fits_before b.ops b.arcs b.horizon) c.args.from b.horizon c.loop-end.end (omega (arith, c.loop-end-test.false))
    c.loop-end.invariant
