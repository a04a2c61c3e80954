-- those that are added, and those of the rest
use Rattle.std.proofs.Common.{◌≡◌, ◌++◌, drop, filter}
use Rattle.un_base.specs.declared.ids.TempId.{TempId}
use Rattle.un_rooms.specs.Marked.{is_marked}
use Rattle.un_rooms.proofs.known_calls.marked_values.Given as goal

abbrev pub invariant-loop-t : goal.invariant-loop-t
invariant-loop-t l = l.found ++ filter (λ (t : TempId). is_marked l.marks t.0) (drop l.t-index l.values)
    ≡ filter (λ (t : TempId). is_marked l.marks t.0) l.values
