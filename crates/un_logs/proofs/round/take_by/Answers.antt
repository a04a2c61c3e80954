use Rattle.std.proofs.Common.{◌+◌, ◌∙◌, arith}
use Rattle.std.specs.List.{flat_map, range_with_len}
use Rattle.un_steps.specs.Allowed.{places_of}
use Rattle.un_logs.specs.Rounds.{turns_at}
use Rattle.un_logs.proofs.Listing.{flat_range, range_rest, flat_rest}
use Rattle.un_logs.proofs.Passing.{does_next, does_ended, goes_on}
use Rattle.un_logs.proofs.Writing.{writes_then}
use Rattle.un_logs.proofs.round.take_by.Goals as goal

pub loop-place-preserved : goal.loop-place-preserved
loop-place-preserved c =
    let f = turns_at c.args.r.now.m.now c.args.rule in
    let k = c.loop-place.place in
    let i = c.loop-place.invariant in
    let e = c.in_ok-next.ensures in
    let lt = c.has_place.ensures.0 c.if-not-has_place.false in
    record {
      on = goes_on c.joined-pass.result c.in_default.not-Emptied;
      few = omega (arith, lt);
      does = does_next c.args.r.now (flat_map f (range_with_len 0 k)) (f k) (flat_map f (range_with_len 0 (k + 1)))
          c.args.cuts.now.sets c.loop-place.cuts.sets c.take_place.new.cuts.sets c.loop-place.pass c.in_ok-next.next c.joined-pass.result i.on
          i.does e.does c.joined-pass.ensures (flat_range f k);
      writes = writes_then c.args.r.now c.args.cuts.now.sets c.loop-place.cuts.sets c.take_place.new.cuts.sets c.args.text.now.items
          c.loop-place.text.items c.take_place.new.text.items i.writes e.writes;
      marked = e.marked ∙ i.marked;
    }

pub returns-in-Emptied-clause-does : goal.returns-in-Emptied-clause-does
returns-in-Emptied-clause-does c =
    let f = turns_at c.args.r.now.m.now c.args.rule in
    let k = c.loop-place.place in
    let i = c.loop-place.invariant in
    let e = c.in_ok-next.ensures in
    let lt = c.has_place.ensures.0 c.if-not-has_place.false in
    let n = places_of c.args.rule c.args.r.now.m.now in
    let r = flat_rest f (range_with_len 0 (k + 1)) (range_with_len 0 n) (range_rest 0 (k + 1) n (omega (arith, lt))) in
    does_ended c.args.r.now (flat_map f (range_with_len 0 k)) (f k) (flat_map f (range_with_len 0 (k + 1))) r.behind
    (flat_map f (range_with_len 0 n)) c.args.cuts.now.sets c.loop-place.cuts.sets c.take_place.new.cuts.sets c.loop-place.pass
    c.in_ok-next.next c.joined-pass.result i.on i.does e.does c.joined-pass.ensures (flat_range f k) r.whole c.in-Emptied.is

pub returns-in-Emptied-clause-writes : goal.returns-in-Emptied-clause-writes
returns-in-Emptied-clause-writes c =
    let i = c.loop-place.invariant in
    let e = c.in_ok-next.ensures in
    writes_then c.args.r.now c.args.cuts.now.sets c.loop-place.cuts.sets c.take_place.new.cuts.sets c.args.text.now.items
    c.loop-place.text.items c.take_place.new.text.items i.writes e.writes
