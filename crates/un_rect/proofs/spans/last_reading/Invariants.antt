-- the users so far, and the rest
use Rattle.std.proofs.Common.{◌≡◌, max, drop}
use Rattle.un_rect.specs.Spans.{last_reading}
use Rattle.un_rect.proofs.spans.last_reading.Given as goal

abbrev pub invariant-loop-u : goal.invariant-loop-u
invariant-loop-u l = max l.last (last_reading (drop l.u-index l.users) l.w.store.now.sets) ≡ last_reading l.users l.w.store.now.sets
