use Rattle.std.proofs.Common.{◌+◌, take, sym, ◌∙◌, arith}
use Rattle.std.specs.List.{flat_map}
use Rattle.un_logs.specs.Rounds.{all_rules, turns_by}
use Rattle.un_logs.proofs.Listing.{flat_take, take_rest, flat_rest}
use Rattle.un_logs.proofs.Passing.{does_next, does_ended, goes_on}
use Rattle.un_logs.proofs.Writing.{writes_then}
use Rattle.un_logs.proofs.round.round.Goals as goal

pub loop-k-preserved : goal.loop-k-preserved
loop-k-preserved c =
    let f = turns_by c.args.r.now.m.now in
    let k = c.loop-k.k in
    let i = c.loop-k.invariant in
    let e = c.in_ok-next-in-Some.ensures in
    record {
      on = goes_on c.joined-pass.result c.in_default.not-Emptied;
      does = does_next c.args.r.now (flat_map f (take k all_rules)) (f c.in-Some.rule) (flat_map f (take (k + 1) all_rules))
          c.args.cuts.now.sets c.loop-k.cuts.sets c.take_by.new.cuts.sets c.loop-k.pass c.in_ok-next-in-Some.next c.joined-pass.result i.on
          i.does e.does c.joined-pass.ensures (flat_take f all_rules k c.in-Some.rule (sym c.in-Some.ensures));
      writes = writes_then c.args.r.now c.args.cuts.now.sets c.loop-k.cuts.sets c.take_by.new.cuts.sets c.args.text.now.items
          c.loop-k.text.items c.take_by.new.text.items i.writes e.writes;
      marked = e.marked ∙ i.marked;
    }

pub returns-in-Emptied-clause-does : goal.returns-in-Emptied-clause-does
returns-in-Emptied-clause-does c =
    let f = turns_by c.args.r.now.m.now in
    let k = c.loop-k.k in
    let n = c.args.r.now.rules in
    let i = c.loop-k.invariant in
    let e = c.in_ok-next-in-Some.ensures in
    let lt = c.loop-k-test.true in
    let r = flat_rest f (take (k + 1) all_rules) (take n all_rules) (take_rest (k + 1) n all_rules (omega (arith, lt))) in
    does_ended c.args.r.now (flat_map f (take k all_rules)) (f c.in-Some.rule) (flat_map f (take (k + 1) all_rules)) r.behind
    (flat_map f (take n all_rules)) c.args.cuts.now.sets c.loop-k.cuts.sets c.take_by.new.cuts.sets c.loop-k.pass
    c.in_ok-next-in-Some.next c.joined-pass.result i.on i.does e.does c.joined-pass.ensures
    (flat_take f all_rules k c.in-Some.rule (sym c.in-Some.ensures)) r.whole c.in-Emptied.is

pub returns-in-Emptied-clause-writes : goal.returns-in-Emptied-clause-writes
returns-in-Emptied-clause-writes c =
    let i = c.loop-k.invariant in
    let e = c.in_ok-next-in-Some.ensures in
    writes_then c.args.r.now c.args.cuts.now.sets c.loop-k.cuts.sets c.take_by.new.cuts.sets c.args.text.now.items
    c.loop-k.text.items c.take_by.new.text.items i.writes e.writes
