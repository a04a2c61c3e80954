use Rattle.std.proofs.Common.{◌∙◌, map}
use Rattle.un_sites.specs.Lengths.{task_of, tasks_in}
use Rattle.un_sites.specs.Sites.{place_of}
use Rattle.un_rooms.specs.Demands.{demand_of, task_by}
use Rattle.un_rooms.proofs.Gathering.{got}
use Rattle.un_rooms.proofs.TaskWalks.{task_next, task_is, demand_at}
use Rattle.un_rooms.proofs.tasks.tasks_in.Goals as goal

pub loop-i-preserved : goal.loop-i-preserved
loop-i-preserved c =
    let ps = map place_of c.args.spots.now in
    let t = c.args.t.now in
    let p = c.index-spots-i.result in
    let there = got c.args.spots.now c.loop-i.i p c.loop-i-test.true c.index-spots-i.is in
    let demand = demand_at (demand_of t c.args.registers c.args.is_entry c.args.arcs.now ps) c.loop-i.i c.args.spots.now p c.in_ok-demands.demands
    c.get.result.now c.in_ok-demands.ensures there c.get.ensures in
    let all = c.as_slice.ensures ∙ c.in_ok-demands.ensures in
    let made = task_is t c.args.registers c.args.is_entry c.args.owed c.args.arcs.now ps (place_of p) c.in_ok-end.end c.as_slice.result.now c.get.result.now
    all c.in_ok-end.ensures demand in
    task_next (task_of t c.args.registers c.args.is_entry c.args.owed c.args.arcs.now ps) c.loop-i.i c.args.spots.now p c.loop-i.ops c.add_task.new.ops
    (tasks_in t c.args.registers c.args.is_entry c.args.owed c.args.arcs.now ps) (task_by t c.in_ok-end.end (place_of p) c.get.result.now) c.loop-i.invariant there made
    c.in_ok-add_task.ensures
