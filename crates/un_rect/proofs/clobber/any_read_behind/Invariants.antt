-- it is not read behind those so far for sure
use Rattle.std.proofs.Common.{◌≡◌, drop}
use Rattle.std.specs.List.{list_any}
use Rattle.un_rect.specs.Clobber.{is_read_behind}
use Rattle.un_rect.proofs.clobber.any_read_behind.Given as goal

abbrev pub invariant-loop-c : goal.invariant-loop-c
invariant-loop-c l = list_any (λ d. is_read_behind d l.w.store.now.sets) (drop l.c-index l.calls) ≡ list_any
    (λ d. is_read_behind d l.w.store.now.sets) l.calls
