-- What a test answers, where it is known whether its fact stands.
use Rattle.std.proofs.Common.{◌≡◌, Bool, true, false, Option, Some, None, IsTrue, IfNone, ◌↔◌, refl, sym, ◌∙◌, true≢false}

-- a fact that stands, and one that does not
pub always : {Q : Type 0} → Q → IsTrue true ↔ Q
always q = (λ h. q, λ h. refl)

pub never : {Q : Type 0} → (Q → ⊥) → IsTrue false ↔ Q
never against = (λ h. absurd (true≢false (sym h)), λ q. absurd (against q))

-- a test that says no
pub not_so : {b : Bool} {Q : Type 0} → (IsTrue b ↔ Q) → b ≡ false → Q → ⊥
not_so h e q = true≢false (sym (h.1 q) ∙ e)

pub if_none : {A : Type 0} (r : Option A) (P : Type 0) → P → IfNone r P
if_none None P h = h
if_none (Some x) P h = tt
