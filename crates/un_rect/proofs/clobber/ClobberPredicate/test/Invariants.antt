-- the calls so far spare it
use Rattle.std.proofs.Common.{◌≡◌, drop}
use Rattle.std.specs.List.{list_all}
use Rattle.un_rect.specs.Clobber.{spares}
use Rattle.un_rect.proofs.clobber.ClobberPredicate.test.Given as goal

abbrev pub invariant-loop-i : goal.invariant-loop-i
invariant-loop-i l = list_all (λ c. spares l.self.mask l.self.temp c l.fixed) (drop l.i l.calls)
    ≡ list_all (λ c. spares l.self.mask l.self.temp c l.fixed) l.calls
