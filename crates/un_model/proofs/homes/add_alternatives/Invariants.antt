use Rattle.std.proofs.Common.{◌≡◌, ℕ, ◌≤◌, drop}
use Rattle.std.specs.Prelude.{◌==◌, ◌||◌, ◌&&◌}
use Rattle.std.specs.List.{list_any}
use Rattle.un_base.specs.declared.ids.TempId.{TempId}
use Rattle.un_model.specs.Homes.{is_told}
use Rattle.un_model.proofs.homes.add_alternatives.Given as goal

abbrev pub invariant-loop-j : goal.invariant-loop-j
invariant-loop-j l =
    (x : TempId) (i : ℕ) → i ≤ 32
    → (is_told l.homes x i || list_any (λ (t : TempId). t.0 == x.0 && l.r == i) (drop l.j l.alts)) ≡
    (is_told l.initial.homes x i || list_any (λ (t : TempId). t.0 == x.0 && l.r == i) l.alts)
