use Rattle.std.proofs.Common.{◌≡◌, ◌++◌, drop, map}
use Rattle.un_sites.specs.Saved.{is_crowded}
use Rattle.un_rooms.proofs.crowds.crowded_by_calls.Given as goal

abbrev pub invariant-loop-k : goal.invariant-loop-k
invariant-loop-k l = l.crowded ++ map (is_crowded l.kept) (drop l.k l.blocks) ≡ map (is_crowded l.kept) l.blocks
