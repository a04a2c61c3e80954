-- the turns so far
use Rattle.std.proofs.Common.{◌≡◌, map, take}
use Rattle.un_steps.specs.Words.{number_of}
use Rattle.un_logs.specs.Goods.{Does, Writes}
use Rattle.un_logs.specs.Rounds.{turn}
use Rattle.un_logs.proofs.Passing.{GoesOn}
use Rattle.un_logs.proofs.round.take_at.Given as goal

abbrev pub invariant-loop-var : goal.invariant-loop-var
invariant-loop-var l = record {
  on : GoesOn l.pass;
  does : Does l.r (map (turn l.rule l.place) (map number_of (take l.var-index l.var-items))) l.fn.cuts.sets l.cuts.sets l.pass;
  writes : Writes l.r l.fn.cuts.sets l.cuts.sets l.fn.text.items l.text.items;
  marked : l.cuts.marked ≡ l.fn.cuts.marked;
}
