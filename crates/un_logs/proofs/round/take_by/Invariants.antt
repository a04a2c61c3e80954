-- the turns at the places so far
use Rattle.std.proofs.Common.{◌≡◌, ◌≤◌}
use Rattle.std.specs.List.{flat_map, range_with_len}
use Rattle.un_steps.specs.Allowed.{places_of}
use Rattle.un_logs.specs.Goods.{Does, Writes}
use Rattle.un_logs.specs.Rounds.{turns_at}
use Rattle.un_logs.proofs.Passing.{GoesOn}
use Rattle.un_logs.proofs.round.take_by.Given as goal

abbrev pub invariant-loop-place : goal.invariant-loop-place
invariant-loop-place l = record {
  on : GoesOn l.pass;
  few : l.place ≤ places_of l.rule l.r.m.now;
  does : Does l.r (flat_map (turns_at l.r.m.now l.rule) (range_with_len 0 l.place)) l.fn.cuts.sets l.cuts.sets l.pass;
  writes : Writes l.r l.fn.cuts.sets l.cuts.sets l.fn.text.items l.text.items;
  marked : l.cuts.marked ≡ l.fn.cuts.marked;
}
