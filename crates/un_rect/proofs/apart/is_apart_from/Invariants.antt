-- those before place j are apart
use Rattle.std.proofs.Common.{◌≡◌, drop}
use Rattle.std.specs.List.{list_all}
use Rattle.un_rect.specs.Apart.{pair_holds}
use Rattle.un_rect.proofs.apart.is_apart_from.Given as goal

abbrev pub invariant-loop-j : goal.invariant-loop-j
invariant-loop-j l = list_all (λ b. pair_holds l.a b l.fixed) (drop l.j l.temps) ≡ list_all (λ b. pair_holds l.a b l.fixed)
    (drop l.from l.temps)
