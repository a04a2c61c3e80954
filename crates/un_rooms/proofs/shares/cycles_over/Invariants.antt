use Rattle.std.proofs.Common.{◌≡◌, ◌+◌, drop, map, max}
use Rattle.std.specs.Prelude.{fold}
use Rattle.un_isa.specs.declared.packet_counts.Resource.{Resource}
use Rattle.un_sites.specs.Shares.{own_share, spills_share, reloads_share, cycles_for}
use Rattle.un_sites.specs.Sites.{place_of}
use Rattle.un_rooms.proofs.shares.cycles_over.Given as goal

abbrev pub invariant-loop-r : goal.invariant-loop-r
invariant-loop-r l =
    fold max l.most (map (λ (r : Resource). cycles_for r (own_share l.t (map place_of l.spots) r
    + (spills_share l.t l.asked.spills r + reloads_share l.t l.leaves l.asked.reloads r))) (drop l.r-index l.resources))
    ≡ fold max 0 (map (λ (r : Resource). cycles_for r (own_share l.t (map place_of l.spots) r
    + (spills_share l.t l.asked.spills r + reloads_share l.t l.leaves l.asked.reloads r))) l.resources)
