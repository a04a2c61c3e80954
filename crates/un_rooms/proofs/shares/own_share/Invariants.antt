use Rattle.std.proofs.Common.{◌≡◌, ◌+◌, drop, map}
use Rattle.un_sites.specs.Shares.{own_share}
use Rattle.un_sites.specs.Sites.{place_of}
use Rattle.un_rooms.proofs.shares.own_share.Given as goal

abbrev pub invariant-loop-p : goal.invariant-loop-p
invariant-loop-p l =
    l.n + own_share l.t (map place_of (drop l.p-index l.spots)) l.r ≡ own_share l.t (map place_of l.spots) l.r
