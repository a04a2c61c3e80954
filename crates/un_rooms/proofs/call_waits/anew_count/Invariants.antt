use Rattle.std.proofs.Common.{◌≡◌, ◌≤◌, ◌+◌, drop}
use Rattle.un_sites.specs.CallBefores.{reads_anew, count_from}
use Rattle.un_sites.specs.Sites.{place_of}
use Rattle.un_rooms.proofs.call_waits.anew_count.Given as goal

abbrev pub invariant-loop-j : goal.invariant-loop-j
invariant-loop-j l = (l.count + count_from (reads_anew l.t (place_of l.call) l.u.it.now.kind) l.j (drop l.j l.u.it.now.operands) ≡
    count_from (reads_anew l.t (place_of l.call) l.u.it.now.kind) 0 l.u.it.now.operands) × (l.count ≤ l.j)
