use Rattle.un_violations.proofs.Apartness.{frame_told}
use Rattle.un_violations.proofs.bounds.keeps_frame_order.Goals as goal

pub returns : goal.returns
returns c =
    let told = rw c.as_slice.ensures.value at c.are_late_enough.ensures in
    frame_told c.args.issues.now c.args.n c.in_ok-table.table.items c.are_late_enough.result c.requires c.in_ok-table.ensures told
