-- A solution lies in what an allowed step leaves.
use Rattle.std.proofs.Common.{ℕ, ◌≡◌, ◌≤◌, Bool, true, false, ◌&&◌, not, List, refl, ap, arith}
use Rattle.std.specs.Prelude.{Option, nat_le, slice_index}
use Rattle.std.proofs.lemmas.Bool.Decides.{nat_tests}
use Rattle.un_domains.specs.Sets.{Sets, IsIn}
use Rattle.un_domains.specs.SetLaws.{IsIn-kept}
use Rattle.un_model.specs.declared.model.Model.{Model}
use Rattle.un_model.specs.Boxes.{IsBelow}
use Rattle.un_steps.specs.Allowed.{IsAllowed, is_taken, after}
use Rattle.un_steps.specs.Keeping.{Keeps}
use Rattle.un_steps.specs.declared.step.Rule.{Rule}
use Rattle.un_steps.specs.declared.step.Step.{Step}

two : (a b : Bool) → (a && b) ≡ true → (a ≡ true) × (b ≡ true)
two true b h = (refl, h)
two false b h = absurd (cc h)

pub stays : (m : Model) (limit : Option ℕ) → ((rule : Rule) → Keeps m limit rule) → (s : Sets) (step : Step) (x : List ℕ)
    → IsAllowed m limit s step → IsIn x s → IsBelow m limit x → IsIn x (after s step)
stays m limit keeps s step x allowed inside below =
    IsIn-kept (λ (y : ℕ). not (is_taken step y)) x s step.var.0 allowed.var inside (by (is_taken step value) refl)
  where
    value : ℕ
    value = slice_index x step.var.0

    by : (b : Bool) → is_taken step value ≡ b → not (is_taken step value) ≡ true
    by false f = ap not f
    by true f =
        let parts = two (nat_le step.first value) (nat_le value step.last) f in
        let lo : step.first ≤ value = let t = parts.0 in grind (arith, nat_tests, t) in
        let hi : value ≤ step.last = let t = parts.1 in grind (arith, nat_tests, t) in
        let goes = allowed.each value lo hi (inside.each step.var.0 allowed.var) in
        absurd (keeps step.rule s x step.place step.var.0 value inside below goes refl)
