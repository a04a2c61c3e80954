use Rattle.std.proofs.Common.{◌≡◌, ◌++◌, drop}
use Rattle.un_model.specs.Pairs.{joined, places_from}
use Rattle.un_sites.specs.Saved.{edges_from, edges_between}
use Rattle.un_rooms.proofs.crowds.edges_between.Given as goal

abbrev pub invariant-loop-k : goal.invariant-loop-k
invariant-loop-k l = l.edges ++ joined (places_from edges_from l.k (drop l.k l.blocks)) ≡ edges_between l.blocks
