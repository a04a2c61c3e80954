use Rattle.std.proofs.Common.{◌≡◌, ℕ, ◌++◌, drop}
use Rattle.std.specs.Prelude.{slice_get}
use Rattle.un_base.specs.declared.ids.TempId.{TempId}
use Rattle.un_model.specs.Pairs.{places_from}
use Rattle.un_baseline.specs.SpillEverywhere.{start_register}
use Rattle.un_baseline.proofs.spill.push_starts.Given as goal

abbrev pub invariant-loop-j : goal.invariant-loop-j
invariant-loop-j l =
    l.values ++ places_from (λ (j : ℕ) (x : TempId). start_register l.t l.s l.live_in j (slice_get l.live_in j)) l.j (drop l.j l.results)
    ≡ l.initial.values ++ places_from (λ (j : ℕ) (x : TempId). start_register l.t l.s l.live_in j (slice_get l.live_in j)) 0 l.results
