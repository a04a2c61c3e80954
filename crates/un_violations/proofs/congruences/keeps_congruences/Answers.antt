use Rattle.un_violations.proofs.Edges.{hand_on_told}
use Rattle.un_violations.proofs.congruences.keeps_congruences.Goals as goal

pub returns : goal.returns
returns c =
    let ends = rw c.as_slice.ensures at c.in_ok-ends.ensures in
    let told = rw (c.as_slice-2.ensures, c.as_slice-3.ensures) at c.in_ok-kept.ensures in
    hand_on_told c.args.blocks.now c.args.t.now c.in_ok-ends.ends c.in_ok-kept.kept ends told
