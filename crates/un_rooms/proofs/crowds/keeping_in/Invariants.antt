use Rattle.std.proofs.Common.{◌≡◌, ◌++◌, drop, map}
use Rattle.un_sites.specs.Saved.{keeps_places}
use Rattle.un_rooms.proofs.crowds.keeping_in.Given as goal

abbrev pub invariant-loop-k : goal.invariant-loop-k
invariant-loop-k l = l.keeping ++ map keeps_places (drop l.k l.blocks) ≡ map keeps_places l.blocks
