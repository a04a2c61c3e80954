use Rattle.std.proofs.Common.{◌≡◌, ◌++◌, drop, map}
use Rattle.un_model.specs.Pairs.{places_from, joined}
use Rattle.un_sites.specs.Places.{asked, asked_by}
use Rattle.un_sites.specs.Postings.{of_operand}
use Rattle.un_sites.specs.Sites.{place_of, definers_in}
use Rattle.un_single.proofs.post_places.post_operands.Given as goal

abbrev pub invariant-loop-i : goal.invariant-loop-i
invariant-loop-i l = l.props ++ joined (map (of_operand l.t l.slots)
    (places_from (asked (definers_in l.sites) (place_of l.p)) l.i (drop l.i l.p.it.now.operands))) ≡ l.initial.props ++ joined
    (map (of_operand l.t l.slots) (asked_by (definers_in l.sites) (place_of l.p)))
