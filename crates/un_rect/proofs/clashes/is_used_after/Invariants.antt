-- the users so far have no such time
use Rattle.std.proofs.Common.{◌≡◌, drop, nat_lt}
use Rattle.un_rect.specs.Spans.{last_sure_use}
use Rattle.un_rect.proofs.clashes.is_used_after.Given as goal

abbrev pub invariant-loop-u : goal.invariant-loop-u
invariant-loop-u l = nat_lt l.t (last_sure_use (drop l.u-index l.users) l.w.store.now.sets) ≡ nat_lt l.t
    (last_sure_use l.users l.w.store.now.sets)
