use Rattle.std.proofs.Common.{ℕ, ◌∙◌, ap, map}
use Rattle.un_rooms.specs.Demands.{demand_of}
use Rattle.un_sites.specs.Sites.{place_of}
use Rattle.un_rooms.proofs.Gathering.{got}
use Rattle.un_rooms.proofs.TaskWalks.{mapped_more}
use Rattle.un_rooms.proofs.demands.demands_in.Goals as goal

pub loop-p-preserved : goal.loop-p-preserved
loop-p-preserved c =
    let places = map place_of c.args.spots.now in
    let there = got c.args.spots.now c.loop-p.p-index c.p-item.result c.loop-p-test.true c.p-item.is in
    let with = λ (n : ℕ). demand_of c.args.t.now n c.args.is_entry c.args.arcs.now places (place_of c.p-item.result) in
    mapped_more (demand_of c.args.t.now c.args.registers c.args.is_entry c.args.arcs.now places) c.loop-p.p-index
    c.args.spots.now c.p-item.result c.loop-p.demands c.push.new.self _ c.in_ok-demand.demand c.loop-p.invariant there
    (c.in_ok-demand.ensures ∙ ap with c.in_ok-room.ensures.registers) c.in_ok-push.ensures.ok
