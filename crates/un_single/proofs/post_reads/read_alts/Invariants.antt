use Rattle.std.proofs.Common.{◌≡◌, ◌++◌, drop, map}
use Rattle.un_sites.specs.Postings.{read_alt}
use Rattle.un_sites.specs.Sites.{place_of, definers_in}
use Rattle.un_single.proofs.post_reads.read_alts.Given as goal

abbrev pub invariant-loop-site : goal.invariant-loop-site
invariant-loop-site l = l.found ++ map (read_alt l.t (place_of l.user)) (definers_in (drop l.site-index l.alts)) ≡ map
    (read_alt l.t (place_of l.user)) (definers_in l.alts)
