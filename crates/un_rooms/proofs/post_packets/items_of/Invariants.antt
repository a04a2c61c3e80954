use Rattle.std.proofs.Common.{◌≡◌, ◌++◌, drop, map}
use Rattle.un_sites.specs.Postings.{with_kind}
use Rattle.un_ir.specs.Kinds.{issues_kind}
use Rattle.un_sites.specs.Rooms.{item_of}
use Rattle.un_sites.specs.Sites.{place_of}
use Rattle.un_rooms.proofs.post_packets.items_of.Given as goal

abbrev pub invariant-loop-p : goal.invariant-loop-p
invariant-loop-p l = l.items ++ map (item_of l.t) (with_kind issues_kind (map place_of (drop l.p-index l.spots))) ≡ map (item_of l.t)
    (with_kind issues_kind (map place_of l.spots))
