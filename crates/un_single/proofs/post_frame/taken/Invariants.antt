use Rattle.std.proofs.Common.{◌≡◌, ◌++◌, drop, map}
use Rattle.un_ir.specs.Linear.{is_in}
use Rattle.un_model.specs.Pairs.{joined}
use Rattle.un_sites.specs.Places.{Place, registers_at}
use Rattle.un_sites.specs.Postings.{with_kind}
use Rattle.un_sites.specs.Sites.{place_of, definers_in}
use Rattle.un_single.proofs.post_frame.taken.Given as goal

abbrev pub invariant-loop-p : goal.invariant-loop-p
invariant-loop-p l = l.vars ++ joined (map (λ (p : Place). registers_at (definers_in l.sites) p.it.results)
    (with_kind is_in (map place_of (drop l.p-index l.spots)))) ≡ joined
    (map (λ (p : Place). registers_at (definers_in l.sites) p.it.results) (with_kind is_in (map place_of l.spots)))
