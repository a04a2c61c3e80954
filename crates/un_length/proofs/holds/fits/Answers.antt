use Rattle.std.proofs.Common.{sum_by, ap, sym, arith}
use Rattle.std.proofs.lemmas.List.{drop_all}
use Rattle.std.proofs.lemmas.List.Sums.{sum_by_more, sum_by_more_le, sum_by-take-drop}
use Rattle.un_isa.specs.PacketCounts.{places_of}
use Rattle.un_slots.specs.CountLaws.{more_false}
use Rattle.un_slots.specs.CrowdLaws.{le_true}
use Rattle.un_length.specs.Blocks.{taken_by, taken}
use Rattle.un_length.proofs.Steps.{no_task}
use Rattle.un_length.proofs.holds.fits.Goals as goal

pub loop-task-preserved : goal.loop-task-preserved
loop-task-preserved c =
    let more = sum_by_more (taken_by c.args.r c.args.c c.args.fixed.now) c.args.ops.now c.loop-task.task-index no_task c.loop-task-test.true in
    omega (arith, more, c.loop-task.invariant, c.taken_by-share.ensures, c.if-share-left.false)

pub returns-then-share-left : goal.returns-then-share-left
returns-then-share-left c =
    let all = sum_by_more_le (taken_by c.args.r c.args.c c.args.fixed.now) c.args.ops.now c.loop-task.task-index no_task
    c.loop-task-test.true in
    sym (more_false (taken c.args.r c.args.ops.now c.args.fixed.now c.args.c) (places_of c.args.r)
    (omega (arith, all, c.loop-task.invariant, c.taken_by-share.ensures, c.if-share-left.true)))

pub returns : goal.returns
returns c =
    let f = taken_by c.args.r c.args.c c.args.fixed.now in
    let whole = sum_by-take-drop f c.args.ops.now c.loop-task.task-index in
    let none = ap (sum_by f) (drop_all c.loop-task.task-index c.args.ops.now (omega (arith, c.loop-task-test.false))) in
    sym (le_true (taken c.args.r c.args.ops.now c.args.fixed.now c.args.c) (places_of c.args.r)
    (omega (arith, whole, none, c.loop-task.invariant)))
