-- the names of the blocks so far
use Rattle.std.proofs.Common.{◌≡◌, map}
use Rattle.std.specs.List.{range_with_len}
use Rattle.un_live.specs.Marks.{names_from}
use Rattle.un_live.proofs.live.all_names.Given as goal

abbrev pub invariant-loop-b : goal.invariant-loop-b
invariant-loop-b l = l.lists ≡ map (names_from 0 l.columns) (range_with_len 0 l.b)
