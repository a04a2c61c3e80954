use Rattle.std.proofs.Common.{◌≡◌, ◌++◌, drop, length}
use Rattle.un_model.specs.Pairs.{joined, places_from}
use Rattle.un_saved.specs.Joined.{links_of, links_between}
use Rattle.un_saved.proofs.joined.links_between.Given as goal

abbrev pub invariant-loop-k : goal.invariant-loop-k
invariant-loop-k l = l.links ++ joined (places_from (links_of (length l.blocks)) l.k (drop l.k l.blocks)) ≡ links_between l.blocks
