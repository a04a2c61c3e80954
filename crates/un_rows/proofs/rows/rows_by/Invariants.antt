-- those that are added, and those of the rest
use Rattle.std.proofs.Common.{ℕ, ◌≡◌, ◌+◌, ◌-◌, ◌++◌, map}
use Rattle.std.specs.List.{range_with_len}
use Rattle.std.specs.Option.{option_to_list}
use Rattle.un_model.specs.Pairs.{joined}
use Rattle.un_rows.specs.Rows.{row_by, rows_by}
use Rattle.un_rows.proofs.rows.rows_by.Given as goal

abbrev pub invariant-loop-s : goal.invariant-loop-s
invariant-loop-s l =
    l.rows ++ joined (map (λ (s : ℕ). option_to_list (row_by l.t l.basis l.knowns s)) (range_with_len l.s (l.basis.saved + 1 - l.s)))
    ≡ rows_by l.t l.basis l.knowns
