use Rattle.std.proofs.Common.{◌≡◌, ◌++◌, drop, map}
use Rattle.un_model.specs.Pairs.{pairs_from}
use Rattle.un_sites.specs.Places.{place_at, block_places}
use Rattle.un_sites.specs.Sites.{place_of}
use Rattle.un_sites.proofs.tables.add_block.Given as goal

abbrev pub invariant-loop-k : goal.invariant-loop-k
invariant-loop-k l = map place_of l.spots ++ pairs_from (place_at l.b l.vars.end) l.n (drop l.k l.block.ops) (drop l.k l.vars.ops) ≡
    map place_of l.initial.spots ++ block_places l.b l.first l.block l.vars
