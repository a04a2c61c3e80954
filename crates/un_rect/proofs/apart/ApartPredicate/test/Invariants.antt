-- those before place i are apart from all
use Rattle.std.proofs.Common.{◌≡◌, drop}
use Rattle.un_rect.specs.Apart.{apart_holds}
use Rattle.un_rect.proofs.apart.ApartPredicate.test.Given as goal

abbrev pub invariant-loop-i : goal.invariant-loop-i
invariant-loop-i l = apart_holds (drop l.i l.temps) l.fixed ≡ apart_holds l.temps l.fixed
