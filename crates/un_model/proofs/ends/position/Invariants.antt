use Rattle.std.proofs.Common.{ℕ, ◌≡◌, ◌<◌, get_or, false}
use Rattle.std.specs.Prelude.{◌==◌}
use Rattle.un_base.specs.declared.ids.NameId.{NameId}
use Rattle.un_model.proofs.ends.position.Given as goal

abbrev pub invariant-loop-k : goal.invariant-loop-k
invariant-loop-k l = (n : ℕ) (d : NameId) → n < l.k → let x = get_or l.names n d in (x.0 == l.name.0) ≡ false
