use Rattle.std.proofs.Common.{◌≡◌, ℕ, ◌≤◌, drop}
use Rattle.std.specs.Prelude.{◌||◌}
use Rattle.std.specs.List.{list_any}
use Rattle.un_base.specs.declared.ids.TempId.{TempId}
use Rattle.un_model.specs.Homes.{is_told, is_op_mark, is_block_mark}
use Rattle.un_model.proofs.homes.homes.Given as goal

abbrev pub invariant-loop-i : goal.invariant-loop-i
invariant-loop-i l =
    (x : TempId) (r : ℕ) → r ≤ 32
    → (is_told l.homes x r || list_any (is_op_mark l.e l.is_entry l.block.live_in x r) (drop l.i l.block.ops)) ≡
    is_block_mark l.e l.is_entry l.block x r
