use Rattle.un_start.proofs.DraftLaws.{so_far_taken}
use Rattle.un_start.proofs.read.take_lines.Goals as goal

pub lines-preserved : goal.lines-preserved
lines-preserved c =
    so_far_taken c.args.text.now c.lines.left.now c.lines.draft c.take_line.new.draft c.lines.invariant c.in_ok-rest.field-0
    c.in-Some.rest c.in-Some.is (c.in_ok-rest.ensures c.lines.invariant.lines c.lines.invariant.draft)
