use Rattle.std.proofs.Common.{◌≡◌, ◌++◌, drop, map}
use Rattle.std.specs.Prelude.{◌||◌, filter, if◌then◌else◌}
use Rattle.un_sites.specs.Places.{Place}
use Rattle.un_rooms.specs.Reach.{mark_at}
use Rattle.un_ir.specs.Kinds.{ends_block}
use Rattle.un_ir.specs.Linear.{is_out}
use Rattle.un_sites.specs.Sites.{place_of}
use Rattle.un_rooms.proofs.alive.after_by.Given as goal

abbrev pub invariant-loop-p : goal.invariant-loop-p
invariant-loop-p l =
    map place_of l.found ++ filter (λ (p : Place).
    (if l.with_terminator then ends_block p.it.kind else is_out p.it.kind) || mark_at l.low l.marks p.op)
    (map place_of (drop l.p-index l.spots))
    ≡ filter (λ (p : Place). (if l.with_terminator then ends_block p.it.kind else is_out p.it.kind) || mark_at l.low l.marks p.op)
    (map place_of l.spots)
