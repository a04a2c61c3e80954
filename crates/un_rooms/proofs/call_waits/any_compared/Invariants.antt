use Rattle.std.proofs.Common.{◌≡◌, drop, map}
use Rattle.un_model.specs.Pairs.{any_from}
use Rattle.un_sites.specs.CallBefores.{reads_compared}
use Rattle.un_sites.specs.Sites.{place_of}
use Rattle.un_rooms.proofs.call_waits.any_compared.Given as goal

abbrev pub invariant-loop-j : goal.invariant-loop-j
invariant-loop-j l = any_from (reads_compared (map place_of l.spots)) l.j (drop l.j l.u.it.now.operands) ≡
    any_from (reads_compared (map place_of l.spots)) 0 l.u.it.now.operands
