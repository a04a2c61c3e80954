use Rattle.std.proofs.Common.{ℕ, ◌∙◌, ◌-◌, get_or, min, ap, sym, arith}
use Rattle.un_domains.specs.Sets.{set_at, greatest}
use Rattle.un_prop.specs.AmongLaws.{has_among}
use Rattle.un_length.specs.Places.{at_place}
use Rattle.un_length.specs.Windows.{last_cycle}
use Rattle.un_length.proofs.Steps.{no_task, place_is, one_written, op_there}
use Rattle.un_length.proofs.window.write_lasts.Goals as goal

pub max-greatest-requires-clause-there : goal.max-greatest-requires-clause-there
max-greatest-requires-clause-there c = has_among c.args.w.now.vars.now c.args.end c.args.w.now.store.now.sets c.requires.of_end
    c.requires.known

pub max-greatest-requires-clause-some : goal.max-greatest-requires-clause-some
max-greatest-requires-clause-some c = c.requires.live c.args.end.0
    (has_among c.args.w.now.vars.now c.args.end c.args.w.now.store.now.sets c.requires.of_end c.requires.known)

pub last_cycle-requires-clause-there : goal.last_cycle-requires-clause-there
last_cycle-requires-clause-there c = op_there c.args.w.now.vars.now c.args.ops.now c.loop-i.i
    c.args.w.now.store.now.sets c.requires.vars c.loop-i-test.true c.requires.known

pub loop-i-preserved : goal.loop-i-preserved
loop-i-preserved c =
    let s = c.args.w.now.store.now.sets in
    let t = get_or c.args.ops.now c.loop-i.i no_task in
    let f = last_cycle c.args.end s in
    one_written (at_place f c.args.ops.now) c.loop-i.late c.loop-i.i c.last_cycle.result
    (omega (arith, c.loop-i-test.true, c.requires.room, c.loop-i.auto.late))
    (c.last_cycle.ensures ∙ (ap (λ (n : ℕ). min (greatest (set_at s t.at.0)) (n - t.tail)) c.max-greatest.ensures
    ∙ sym (place_is f c.args.ops.now c.loop-i.i c.loop-i-test.true)))
    c.loop-i.invariant
