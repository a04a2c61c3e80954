use Rattle.std.proofs.Common.{◌≡◌, ◌++◌, drop, map, filter, false}
use Rattle.un_sites.specs.Crossings.{reads_value}
use Rattle.un_sites.specs.Places.{time_of}
use Rattle.un_sites.specs.Sites.{place_of}
use Rattle.un_rooms.proofs.spans.uses_of.Given as goal

abbrev pub invariant-loop-p : goal.invariant-loop-p
invariant-loop-p l = l.uses ++ map time_of (filter (reads_value false l.t.0) (map place_of (drop l.p-index l.spots))) ≡
    map time_of (filter (reads_value false l.t.0) (map place_of l.spots))
