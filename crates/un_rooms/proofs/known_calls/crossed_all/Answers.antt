use Rattle.std.proofs.Common.{map}
use Rattle.un_rows.specs.Rows.{crossed_by}
use Rattle.un_sites.specs.Sites.{place_of}
use Rattle.un_rooms.proofs.Gathering.{got}
use Rattle.un_rooms.proofs.TaskWalks.{mapped_more}
use Rattle.un_rooms.proofs.known_calls.crossed_all.Goals as goal

pub loop-call-preserved : goal.loop-call-preserved
loop-call-preserved c =
    mapped_more (crossed_by c.args.arcs.now c.args.block.now c.args.ops.now (map place_of c.args.spots.now)) c.loop-call.call-index
    c.args.calls.now c.call-item.result c.loop-call.crossed c.push.new.self _ c.in_ok-one.one c.loop-call.invariant
    (got c.args.calls.now c.loop-call.call-index c.call-item.result c.loop-call-test.true c.call-item.is) c.in_ok-one.ensures
    c.in_ok-push.ensures.ok
