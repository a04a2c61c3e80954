use Rattle.std.proofs.Common.{◌≡◌, ◌++◌, drop, map}
use Rattle.un_model.specs.Pairs.{over_blocks}
use Rattle.un_sites.specs.Places.{block_places, places_of}
use Rattle.un_sites.specs.Sites.{place_of}
use Rattle.un_sites.proofs.tables.add_blocks.Given as goal

abbrev pub invariant-loop-k : goal.invariant-loop-k
invariant-loop-k l = map place_of l.spots ++ over_blocks block_places l.k l.n (drop l.k l.m.ext.blocks) (drop l.k l.m.blocks) ≡ map place_of
    l.initial.spots ++ places_of l.m
