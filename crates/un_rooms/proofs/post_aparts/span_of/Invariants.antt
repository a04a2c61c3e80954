-- those so far are among the numbers
use Rattle.std.proofs.Common.{ℕ, ◌<◌, ◌≤◌, get_or}
use Rattle.un_base.specs.declared.ids.TempId.{TempId}
use Rattle.un_rooms.proofs.post_aparts.span_of.Given as goal

abbrev pub invariant-loop-t : goal.invariant-loop-t
invariant-loop-t l = (k : ℕ) (d : TempId) → k < l.t-index → (l.first ≤ (get_or l.temps k d).0) × ((get_or l.temps k d).0 < l.past)
