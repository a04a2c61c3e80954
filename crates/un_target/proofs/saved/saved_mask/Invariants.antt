use Rattle.std.proofs.Common.{◌≤◌, take}
use Rattle.un_target.proofs.SavedLaws.{IsReadSoFar}
use Rattle.un_target.proofs.saved.saved_mask.Given as goal

abbrev pub invariant-loop-item : goal.invariant-loop-item
invariant-loop-item l = record {
  read : IsReadSoFar (take l.item-index l.items) l.mask l.least;
  low : 6 ≤ l.least;
  high : l.least ≤ 29;
}
