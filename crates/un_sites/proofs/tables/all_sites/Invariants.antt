use Rattle.std.proofs.Common.{◌≡◌, ◌++◌, drop, map}
use Rattle.un_sites.specs.Places.{definer_of}
use Rattle.un_sites.specs.Sites.{place_of, definers_in}
use Rattle.un_sites.proofs.tables.all_sites.Given as goal

abbrev pub invariant-loop-t : goal.invariant-loop-t
invariant-loop-t l = definers_in l.sites ++ map (definer_of (map place_of l.spots)) (drop l.t-index l.temps) ≡ map
    (definer_of (map place_of l.spots)) l.temps
