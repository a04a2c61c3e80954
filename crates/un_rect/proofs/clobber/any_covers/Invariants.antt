-- it is not in the time of those so far for sure
use Rattle.std.proofs.Common.{◌≡◌, drop}
use Rattle.std.specs.List.{list_any}
use Rattle.un_rect.specs.Clobber.{covers}
use Rattle.un_rect.proofs.clobber.any_covers.Given as goal

abbrev pub invariant-loop-c : goal.invariant-loop-c
invariant-loop-c l = list_any (λ d. covers l.a d l.w.store.now.sets) (drop l.c-index l.calls) ≡ list_any
    (λ d. covers l.a d l.w.store.now.sets) l.calls
