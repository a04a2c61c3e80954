use Rattle.std.proofs.Common.{◌∙◌, arith}
use Rattle.std.proofs.lemmas.Bool.Decides.{nat_tests}
use Rattle.un_sites.specs.Sites.{definer_at}
use Rattle.un_rooms.proofs.Gathering.{got}
use Rattle.un_rooms.proofs.Sparing.{calls_yes, calls_no, calls_all}
use Rattle.un_rooms.proofs.call_rows.calls_but.Goals as goal
use Rattle.un_rooms.proofs.call_rows.calls_but.Goals.{then-call-own+in_ok-call_at+in_ok-push, else-call-own}

pub returns : goal.returns
returns c = λ arcs ps qs zip.
    calls_all arcs ps qs c.args.first c.args.calls.now zip c.args.t (definer_at c.args.definer.now).place c.loop-call.call-index
    c.loop-call.made _ (c.loop-call.invariant arcs ps qs zip) (omega arith)

pub loop-call-preserved : goal.loop-call-preserved
loop-call-preserved c = λ arcs ps qs zip.
    let there = got c.args.calls.now c.loop-call.call-index c.call-item.result c.loop-call-test.true c.call-item.is in
    let own = c.op_of-own.ensures in
    elim c.if-call-own.branch [
      | then-call-own+in_ok-call_at+in_ok-push w ↦
          let t = w.if-call-own.true in
          calls_yes arcs ps qs c.args.first c.args.calls.now zip c.args.t (definer_at c.args.definer.now).place c.loop-call.call-index
          c.loop-call.made _ (c.loop-call.invariant arcs ps qs zip) c.call-item.result c.op_of-own.result c.if-call-own.made _ there
          (w.in_ok-call_at.ensures arcs ps) own (grind (arith, nat_tests)) (w.made-is ∙ w.in_ok-push.ensures.ok)
      | else-call-own w ↦
          let t = w.if-call-own.false in
          calls_no arcs ps qs c.args.first c.args.calls.now zip c.args.t (definer_at c.args.definer.now).place c.loop-call.call-index
          c.loop-call.made _ (c.loop-call.invariant arcs ps qs zip) c.call-item.result c.op_of-own.result c.if-call-own.made there
          own (grind (arith, nat_tests)) w.made-is
    ]
