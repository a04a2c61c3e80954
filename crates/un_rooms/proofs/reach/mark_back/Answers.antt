use Rattle.std.proofs.Common.{sym, ◌∙◌}
use Rattle.un_rooms.proofs.Marking.{back_at_yes, back_at_no}
use Rattle.un_rooms.proofs.reach.mark_back.Goals as goal
use Rattle.un_rooms.proofs.reach.mark_back.Goals.{then-mark_at, else-mark_at}

pub loop-k-preserved : goal.loop-k-preserved
loop-k-preserved c ns h =
    elim c.if-mark_at.branch [
      | then-mark_at w ↦ back_at_yes c.args.low c.loop-k.k c.args.marks.now c.loop-k.marks c.args.arcs.now _ ns c.requires
          c.loop-k.auto.marks c.loop-k-test.true (c.loop-k.invariant ns h) c.if-mark_at.marks
          (sym c.mark_at.ensures ∙ w.if-mark_at.true) (w.marks-is ∙ w.mark.ensures)
      | else-mark_at w ↦ back_at_no c.args.low c.loop-k.k c.args.marks.now c.loop-k.marks c.args.arcs.now _ ns c.requires
          c.loop-k.auto.marks c.loop-k-test.true (c.loop-k.invariant ns h) c.if-mark_at.marks
          (sym c.mark_at.ensures ∙ w.if-mark_at.false) w.marks-is
    ]
