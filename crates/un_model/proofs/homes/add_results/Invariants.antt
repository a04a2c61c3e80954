use Rattle.std.proofs.Common.{◌≡◌, ℕ, ◌≤◌, drop}
use Rattle.std.specs.Prelude.{◌||◌}
use Rattle.un_base.specs.declared.ids.TempId.{TempId}
use Rattle.un_model.specs.Homes.{is_told, is_result_mark}
use Rattle.un_model.specs.Pairs.{any_from}
use Rattle.un_model.proofs.homes.add_results.Given as goal

abbrev pub invariant-loop-j : goal.invariant-loop-j
invariant-loop-j l =
    (x : TempId) (i : ℕ) → i ≤ 32
    → (is_told l.homes x i || any_from (is_result_mark l.e l.is_entry l.live_in l.op x i) l.j (drop l.j l.op.results)) ≡
    (is_told l.initial.homes x i || any_from (is_result_mark l.e l.is_entry l.live_in l.op x i) 0 l.op.results)
