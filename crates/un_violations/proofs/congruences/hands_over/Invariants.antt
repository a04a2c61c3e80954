use Rattle.std.proofs.Common.{ℕ, ◌≡◌, ◌<◌, get_or, slice_get}
use Rattle.un_base.specs.declared.ids.TempId.{TempId}
use Rattle.un_ir.specs.Linear.{place_over}
use Rattle.un_model.specs.Congruences.{register_of, register_read}
use Rattle.un_violations.proofs.congruences.hands_over.Given as goal

abbrev pub invariant-loop-j : goal.invariant-loop-j
invariant-loop-j l = (j : ℕ) (d : TempId) → j < l.j
    → register_read l.ranges (slice_get l.handed (place_over l.a l.b j)) ≡ register_of l.ranges (get_or l.temps j d)
