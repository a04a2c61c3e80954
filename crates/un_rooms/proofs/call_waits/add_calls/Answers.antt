use Rattle.std.proofs.Common.{arith, ◌++◌, ◌∙◌, ap, map, List}
use Rattle.un_kinds.specs.Constraints.{Constraint}
use Rattle.un_sites.specs.Sites.{place_of}
use Rattle.un_rooms.specs.Waits.{befores_by}
use Rattle.un_rooms.proofs.CallWalks.{spot_call, calls_are}
use Rattle.un_rooms.proofs.Gathering.{got}
use Rattle.un_rooms.proofs.Pairing.{following_more, following_all}
use Rattle.un_rooms.proofs.call_waits.add_calls.Goals as goal

pub loop-i-preserved : goal.loop-i-preserved
loop-i-preserved c =
    let there = got c.args.calls.now c.loop-i.i c.index-calls-i.result c.loop-i-test.true c.index-calls-i.is in
    let more = rw c.spot_at-next.ensures.at at c.in_ok-add_call.ensures in
    following_more (spot_call c.args.t.now c.args.arcs.now (map place_of c.args.spots.now) c.args.calls.now) c.loop-i.i c.args.calls.now
    c.index-calls-i.result (befores_by c.loop-i.waits) _ (befores_by c.add_call.new.waits) c.loop-i.invariant there more

pub returns : goal.returns
returns c =
    following_all (spot_call c.args.t.now c.args.arcs.now (map place_of c.args.spots.now) c.args.calls.now) c.loop-i.i c.args.calls.now
    (befores_by c.loop-i.waits) _ c.loop-i.invariant (omega arith)
    ∙ ap (λ (cs : List Constraint). befores_by c.args.waits.now ++ cs)
    (calls_are c.args.t.now c.args.arcs.now (map place_of c.args.spots.now) c.args.calls.now)
