use Rattle.std.proofs.Common.{◌∙◌, map, arith}
use Rattle.un_rooms.specs.Calls.{SeesCall}
use Rattle.un_sites.specs.Sites.{place_of}
use Rattle.un_rooms.proofs.Gathering.{got}
use Rattle.un_rooms.proofs.Seeing.{seen_more, seen_same, seen_all}
use Rattle.un_rooms.proofs.see_calls.see_calls.Goals as goal
use Rattle.un_rooms.proofs.see_calls.see_calls.Goals.{then-is_call+in_ok-site+in_ok-push, else-is_call}

pub loop-p-preserved : goal.loop-p-preserved
loop-p-preserved c =
    let there = got c.args.spots.now c.loop-p.p-index c.p-item.result c.loop-p-test.true c.p-item.is in
    let sees = SeesCall c.args.arcs.now (map place_of c.args.spots.now) c.args.span.first in
    elim c.if-is_call.branch [
      | then-is_call+in_ok-site+in_ok-push w ↦
          seen_more sees c.args.span.count c.loop-p.p-index c.args.spots.now c.p-item.result c.loop-p.calls c.if-is_call.calls
          c.loop-p.invariant.0 c.loop-p.invariant.1 there _ c.is_call.ensures w.if-is_call.true _ w.in_ok-site.ensures.sees
          w.in_ok-site.ensures.long (w.calls-is ∙ w.in_ok-push.ensures.ok)
      | else-is_call w ↦
          seen_same sees c.args.span.count c.loop-p.p-index c.args.spots.now c.p-item.result c.loop-p.calls c.if-is_call.calls
          c.loop-p.invariant.0 c.loop-p.invariant.1 there _ c.is_call.ensures w.if-is_call.false w.calls-is
    ]

pub returns-clause-sees : goal.returns-clause-sees
returns-clause-sees c =
    seen_all (SeesCall c.args.arcs.now (map place_of c.args.spots.now) c.args.span.first) c.loop-p.p-index c.args.spots.now c.loop-p.calls
    c.loop-p.invariant.0 (omega arith)
