use Rattle.std.proofs.Common.{◌≡◌, ◌++◌, drop}
use Rattle.un_sites.specs.Places.{definers_at}
use Rattle.un_sites.specs.Sites.{definers_in}
use Rattle.un_sites.proofs.sites.sites_at.Given as goal

abbrev pub invariant-loop-x : goal.invariant-loop-x
invariant-loop-x l = definers_in l.found ++ definers_at (definers_in l.sites) (drop l.x-index l.xs) ≡ definers_at
    (definers_in l.sites) l.xs
