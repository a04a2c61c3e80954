use Rattle.std.proofs.Common.{◌≡◌, ◌++◌, drop, map}
use Rattle.un_model.specs.Pairs.{joined}
use Rattle.un_sites.specs.CallBefores.{anew_after}
use Rattle.un_sites.specs.Sites.{place_of}
use Rattle.un_rooms.specs.Waits.{befores_by}
use Rattle.un_rooms.proofs.call_waits.add_all_anew.Given as goal

abbrev pub invariant-loop-u : goal.invariant-loop-u
invariant-loop-u l =
    befores_by l.waits ++ joined (map (anew_after l.t (map place_of l.spots) (place_of l.call)) (map place_of (drop l.u-index l.behind))) ≡
    befores_by l.initial.waits ++ joined (map (anew_after l.t (map place_of l.spots) (place_of l.call)) (map place_of l.behind))
