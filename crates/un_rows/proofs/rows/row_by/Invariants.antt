-- those that are added, and those of the rest
use Rattle.std.proofs.Common.{◌≡◌, ◌++◌, List, drop, map}
use Rattle.std.specs.Option.{option_map}
use Rattle.un_counted.specs.declared.counted.LeastEnd.{LeastEnd}
use Rattle.un_rows.specs.Rows.{all_there, end_by_count, row_by}
use Rattle.un_rows.proofs.rows.row_by.Given as goal

abbrev pub invariant-loop-known : goal.invariant-loop-known
invariant-loop-known l =
    option_map (λ (ys : List LeastEnd). l.row ++ ys) (all_there (map (end_by_count l.t l.basis l.s) (drop l.known-index l.knowns)))
    ≡ row_by l.t l.basis l.knowns l.s
