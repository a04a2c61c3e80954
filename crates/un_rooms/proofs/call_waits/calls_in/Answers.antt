use Rattle.std.proofs.Common.{◌∙◌, sym}
use Rattle.un_rooms.specs.Reach.{IsWithin}
use Rattle.un_sites.specs.declared.sites.Spot.{Spot}
use Rattle.un_rooms.proofs.CallWalks.{call_more, call_same}
use Rattle.un_rooms.proofs.Gathering.{got}
use Rattle.un_rooms.proofs.call_waits.calls_in.Goals as goal
use Rattle.un_rooms.proofs.call_waits.calls_in.Goals.{then-is_call+in_ok-push, else-is_call}

pub loop-p-preserved : goal.loop-p-preserved
loop-p-preserved c =
    let P = λ (p : Spot). IsWithin c.args.reach.low c.args.reach.count p.op in
    let there = got c.args.spots.now c.loop-p.p-index c.p-item.result c.loop-p-test.true c.p-item.is in
    elim c.if-is_call.branch [
      | then-is_call+in_ok-push w ↦ call_more P c.loop-p.p-index c.args.spots.now c.p-item.result c.loop-p.calls c.if-is_call.calls _
          c.loop-p.invariant there c.requires (sym c.is_call.ensures ∙ w.if-is_call.true) (w.calls-is ∙ w.in_ok-push.ensures.ok)
      | else-is_call w ↦ call_same P c.loop-p.p-index c.args.spots.now c.p-item.result c.loop-p.calls c.if-is_call.calls _
          c.loop-p.invariant there (sym c.is_call.ensures ∙ w.if-is_call.false) w.calls-is
    ]
