use Rattle.std.proofs.Common.{◌≡◌, ◌++◌, drop, map}
use Rattle.un_model.specs.Pairs.{joined, places_from}
use Rattle.un_sites.specs.Sites.{place_of}
use Rattle.un_rooms.specs.Waits.{befores_by}
use Rattle.un_rooms.proofs.CallWalks.{spot_call}
use Rattle.un_rooms.proofs.call_waits.add_calls.Given as goal

abbrev pub invariant-loop-i : goal.invariant-loop-i
invariant-loop-i l = befores_by l.waits ++ joined (places_from (spot_call l.t l.arcs (map place_of l.spots) l.calls) l.i (drop l.i l.calls)) ≡
    befores_by l.initial.waits ++ joined (places_from (spot_call l.t l.arcs (map place_of l.spots) l.calls) 0 l.calls)
