-- none of those so far may be met
use Rattle.std.proofs.Common.{◌≡◌, drop}
use Rattle.un_counted.specs.Counted.{counted_test}
use Rattle.un_counted.proofs.counted.some_may_hold.Given as goal

abbrev pub invariant-loop-row : goal.invariant-loop-row
invariant-loop-row l = counted_test (drop l.row-index l.rows) l.limit l.w.store.now.sets ≡ counted_test l.rows l.limit l.w.store.now.sets
