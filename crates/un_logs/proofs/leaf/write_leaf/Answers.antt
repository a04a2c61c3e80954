use Rattle.std.proofs.Common.{◌∙◌, subst}
use Rattle.un_logs.specs.Goods.{Does}
use Rattle.un_logs.specs.Rounds.{turns_of}
use Rattle.un_logs.proofs.Sticking.{stuck_before, stuck_after, stuck_never}
use Rattle.un_logs.proofs.Writing.{writes_then, writes_dot}
use Rattle.un_logs.proofs.leaf.write_leaf.Goals as goal

pub loop-text-preserved : goal.loop-text-preserved
loop-text-preserved c =
    let r = c.args.r.now in
    let s = c.loop-text.cuts.sets in
    let now = c.round.new.cuts.sets in
    let i = c.loop-text.invariant in
    let e = c.in_ok-round.ensures in
    let t = subst (Does r (turns_of r.rules r.m.now) s now) c.in-Taken.is e.does in
    record {
      full = t.full;
      writes = writes_then r c.args.cuts.now.sets s now c.args.text.now.items c.loop-text.text.items c.round.new.text.items i.writes e.writes;
      forth = λ h. stuck_after r.rules r.m.now r.limit s now t.turns (i.forth h);
      back = λ h. i.back (stuck_before r.rules r.m.now r.limit s now t.turns h);
      marked = e.marked ∙ i.marked;
    }

pub returns-in-Emptied-clause-ends : goal.returns-in-Emptied-clause-ends
returns-in-Emptied-clause-ends c =
    let r = c.args.r.now in
    let s = c.loop-text.cuts.sets in
    let now = c.round.new.cuts.sets in
    let i = c.loop-text.invariant in
    let e = c.in_ok-round.ensures in
    let h = subst (Does r (turns_of r.rules r.m.now) s now) c.in-Emptied.is e.does in
    writes_dot r c.args.cuts.now.sets now c.args.text.now.items c.round.new.text.items c.put_dot.new.text.items
    (writes_then r c.args.cuts.now.sets s now c.args.text.now.items c.loop-text.text.items c.round.new.text.items i.writes e.writes) h.0
    c.in_ok-put_dot-in-Emptied.ensures

pub returns-in-Emptied-clause-lost : goal.returns-in-Emptied-clause-lost
returns-in-Emptied-clause-lost c =
    let r = c.args.r.now in
    let s = c.loop-text.cuts.sets in
    let i = c.loop-text.invariant in
    let e = c.in_ok-round.ensures in
    let h = subst (Does r (turns_of r.rules r.m.now) s c.round.new.cuts.sets) c.in-Emptied.is e.does in
    λ stuck. stuck_never r.rules r.m.now r.limit s h.1 (i.forth stuck)
