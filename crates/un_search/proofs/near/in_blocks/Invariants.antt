-- the dive is on the same engine, from the same sets
use Rattle.std.proofs.Common.{◌≡◌}
use Rattle.un_search.proofs.near.in_blocks.Given as goal

abbrev pub invariant-loop-block : goal.invariant-loop-block
invariant-loop-block l = l.dive ≡ l.fn.dive
