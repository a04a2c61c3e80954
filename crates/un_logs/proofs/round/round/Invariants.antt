-- the turns of the rules so far
use Rattle.std.proofs.Common.{◌≡◌, take}
use Rattle.un_logs.specs.Goods.{Does, Writes}
use Rattle.un_logs.specs.Rounds.{all_rules, turns_by}
use Rattle.std.specs.List.{flat_map}
use Rattle.un_logs.proofs.Passing.{GoesOn}
use Rattle.un_logs.proofs.round.round.Given as goal

abbrev pub invariant-loop-k : goal.invariant-loop-k
invariant-loop-k l = record {
  on : GoesOn l.pass;
  does : Does l.r (flat_map (turns_by l.r.m.now) (take l.k all_rules)) l.fn.cuts.sets l.cuts.sets l.pass;
  writes : Writes l.r l.fn.cuts.sets l.cuts.sets l.fn.text.items l.text.items;
  marked : l.cuts.marked ≡ l.fn.cuts.marked;
}
