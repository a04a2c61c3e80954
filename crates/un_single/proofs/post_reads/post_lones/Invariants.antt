use Rattle.std.proofs.Common.{◌≡◌, ◌++◌, drop, map}
use Rattle.un_sites.specs.Postings.{lone_read}
use Rattle.un_sites.specs.Sites.{place_of, definers_in}
use Rattle.un_single.proofs.post_reads.post_lones.Given as goal

abbrev pub invariant-loop-site : goal.invariant-loop-site
invariant-loop-site l = l.props ++ map (lone_read l.t (place_of l.p)) (definers_in (drop l.site-index l.alts)) ≡ l.initial.props ++ map
    (lone_read l.t (place_of l.p)) (definers_in l.alts)
