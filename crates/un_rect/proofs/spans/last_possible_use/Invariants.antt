-- the users so far, and the rest
use Rattle.std.proofs.Common.{◌≡◌, max, drop}
use Rattle.un_rect.specs.Spans.{last_possible_use}
use Rattle.un_rect.proofs.spans.last_possible_use.Given as goal

abbrev pub invariant-loop-u : goal.invariant-loop-u
invariant-loop-u l = max l.last (last_possible_use (drop l.u-index l.users) l.w.store.now.sets) ≡ last_possible_use l.users
    l.w.store.now.sets
