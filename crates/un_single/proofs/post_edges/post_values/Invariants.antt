use Rattle.std.proofs.Common.{◌≡◌, ◌++◌, drop}
use Rattle.un_model.specs.Congruences.{live_in_temps}
use Rattle.un_model.specs.Pairs.{places_from, joined}
use Rattle.un_sites.specs.Postings.{congruence}
use Rattle.un_sites.specs.Sites.{place_in, definers_in}
use Rattle.un_single.proofs.post_edges.post_values.Given as goal

abbrev pub invariant-loop-j : goal.invariant-loop-j
invariant-loop-j l = l.props ++ joined (places_from (congruence (definers_in l.sites) (place_in l.out) l.a l.b) l.j
    (drop l.j (live_in_temps l.b.ops))) ≡ l.initial.props ++ joined
    (places_from (congruence (definers_in l.sites) (place_in l.out) l.a l.b) 0 (live_in_temps l.b.ops))
