-- those so far may be as great
use Rattle.std.proofs.Common.{◌≡◌, drop}
use Rattle.std.specs.List.{list_all}
use Rattle.un_counted.specs.Counted.{highest, reaches}
use Rattle.un_counted.proofs.counted.may_be_reached.Given as goal

abbrev pub invariant-loop-e : goal.invariant-loop-e
invariant-loop-e l = list_all (reaches (highest l.w.store.now.sets)) (drop l.e-index l.row) ≡ list_all
    (reaches (highest l.w.store.now.sets)) l.row
