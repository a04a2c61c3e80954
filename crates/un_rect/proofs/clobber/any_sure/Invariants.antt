-- those so far do not read it for sure
use Rattle.std.proofs.Common.{◌≡◌, drop}
use Rattle.std.specs.List.{list_any}
use Rattle.un_rect.specs.Spans.{sure_user}
use Rattle.un_rect.proofs.clobber.any_sure.Given as goal

abbrev pub invariant-loop-u : goal.invariant-loop-u
invariant-loop-u l = list_any (λ u. sure_user u l.w.store.now.sets) (drop l.u-index l.users) ≡ list_any
    (λ u. sure_user u l.w.store.now.sets) l.users
