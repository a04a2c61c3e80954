use Rattle.std.proofs.Common.{◌∙◌, sym}
use Rattle.un_faults.proofs.RepeatLaws.{nothing_seen, go_on}
use Rattle.un_faults.proofs.line_fault.sees_repeat.Goals as goal

-- src/line_fault.rt:41:5
pub loop-name-init : goal.loop-name-init
loop-name-init c = rw c.requires (nothing_seen c.args.names.now)

-- src/line_fault.rt:41:5
pub loop-name-preserved : goal.loop-name-preserved
loop-name-preserved c =
    rw c.in_ok-add.ensures
    (go_on c.args.names.now c.loop-name.seen c.loop-name.name-index c.name-item.result c.loop-name-test.true c.name-item.is
    (sym c.has.ensures ∙ c.if-has.false) c.loop-name.invariant)
