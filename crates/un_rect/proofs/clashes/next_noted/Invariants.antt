-- the temporaries from place `from` to place i do not clash
use Rattle.std.proofs.Common.{ℕ, ◌≡◌, ◌≤◌, ◌<◌, get_or, Some}
use Rattle.un_prop.specs.declared.act.Temp.{Temp}
use Rattle.un_rect.specs.Apart.{clash_pair}
use Rattle.un_rect.proofs.clashes.next_noted.Given as goal

abbrev pub invariant-loop-i : goal.invariant-loop-i
invariant-loop-i l = (k : ℕ) (a b : Temp) → l.from ≤ k → k < l.i
    → clash_pair (get_or l.temps k a) (get_or l.temps l.j b) l.w.store.now.sets ≡ Some l.w.store.now.sets
