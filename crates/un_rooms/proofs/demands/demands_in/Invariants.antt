use Rattle.std.proofs.Common.{◌≡◌, ◌++◌, drop, map}
use Rattle.un_rooms.specs.Demands.{demand_of}
use Rattle.un_sites.specs.Sites.{place_of}
use Rattle.un_rooms.proofs.demands.demands_in.Given as goal

abbrev pub invariant-loop-p : goal.invariant-loop-p
invariant-loop-p l =
    l.demands ++ map (demand_of l.t l.registers l.is_entry l.arcs (map place_of l.spots)) (map place_of (drop l.p-index l.spots))
    ≡ map (demand_of l.t l.registers l.is_entry l.arcs (map place_of l.spots)) (map place_of l.spots)
