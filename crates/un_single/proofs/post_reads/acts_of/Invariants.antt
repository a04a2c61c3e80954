use Rattle.std.proofs.Common.{◌≡◌, ◌++◌, drop, map}
use Rattle.un_sites.specs.Places.{Definer, act_of}
use Rattle.un_sites.specs.Sites.{definers_in}
use Rattle.un_single.proofs.post_reads.acts_of.Given as goal

abbrev pub invariant-loop-site : goal.invariant-loop-site
invariant-loop-site l = l.acts ++ map (λ (d : Definer). act_of d.place) (definers_in (drop l.site-index l.alts)) ≡ map
    (λ (d : Definer). act_of d.place) (definers_in l.alts)
