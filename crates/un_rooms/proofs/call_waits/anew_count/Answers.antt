use Rattle.std.proofs.Common.{◌∙◌, sym}
use Rattle.un_sites.specs.CallBefores.{reads_anew}
use Rattle.un_sites.specs.Sites.{place_of}
use Rattle.un_rooms.proofs.CallWalks.{count_yes, count_no}
use Rattle.un_rooms.proofs.call_waits.anew_count.Goals as goal
use Rattle.un_rooms.proofs.call_waits.anew_count.Goals.{then-reads_anew, else-reads_anew}

pub loop-j-preserved : goal.loop-j-preserved
loop-j-preserved c =
    let p = reads_anew c.args.t.now (place_of c.args.call.now) c.args.u.now.it.now.kind in
    let is = rw c.in_ok-at.ensures.number at c.reads_anew.ensures in
    elim c.if-reads_anew.branch [
      | then-reads_anew w ↦ count_yes p c.loop-j.j c.args.u.now.it.now.operands c.get.result.now c.loop-j.count c.if-reads_anew.count _
          c.loop-j.invariant c.get.ensures (sym is ∙ w.if-reads_anew.true) w.count-is
      | else-reads_anew w ↦ count_no p c.loop-j.j c.args.u.now.it.now.operands c.get.result.now c.loop-j.count c.if-reads_anew.count _
          c.loop-j.invariant c.get.ensures (sym is ∙ w.if-reads_anew.false) w.count-is
    ]
