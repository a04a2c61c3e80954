use Rattle.std.proofs.Common.{ℕ, ◌≡◌, ◌<◌, true}
use Rattle.std.specs.Prelude.{Some, slice_get}
use Rattle.un_base.specs.declared.ids.TempId.{TempId}
use Rattle.un_domains.specs.Sets.{has}
use Rattle.un_steps.specs.Found.{operation_of}
use Rattle.un_steps.specs.Rules.{AreOneRegister}
use Rattle.un_steps.specs.Words.{choices_by}
use Rattle.un_steps.proofs.rules.is_left_no_other.Given as goal

abbrev pub invariant-loop-i : goal.invariant-loop-i
invariant-loop-i l = (j : ℕ) → j < l.i → has (choices_by l.s.sets l.w) j ≡ true → (z : TempId) → slice_get l.b.alts j ≡ Some z
    → AreOneRegister l.m l.s.sets (operation_of l.p) l.a.at l.a.temp l.k z
