-- Alternatives, found along the choices.
use Rattle.std.proofs.Common.{ℕ, ◌≡◌, ◌+◌, ◌≤◌, Bool, true, false, List, [], ◌∷◌, length, drop, min, refl, ap, ◌∙◌, arith, ◌⊎◌, inl, inr}
use Rattle.std.specs.Prelude.{Option, Some, None, slice_get, ◌==◌, if◌then◌else◌}
use Rattle.std.proofs.lemmas.Bool.Decides.{nat_tests}
use Rattle.un_base.specs.declared.ids.VarId.{VarId}
use Rattle.un_ir.specs.declared.extended.Operand.{Operand}
use Rattle.un_model.proofs.Steps.{drop_at, drop_past, within_min}
use Rattle.un_steps.specs.Words.{Alternative, alternative_in, alternative_by}

-- what is left of the search from place j on
abbrev pub picked_from : ℕ → ℕ → List VarId → List Operand → ℕ → Option Alternative
picked_from v y ws bs j = alternative_in v y j (drop j ws) (drop j bs)

step_is : (v y j : ℕ) (ws : List VarId) (bs : List Operand) (w : VarId) (b : Operand) → slice_get ws j ≡ Some w → slice_get bs j ≡ Some b
    → picked_from v y ws bs j ≡ (if w.0 == v then alternative_by j b (slice_get b.alts y) else picked_from v y ws bs (j + 1))
step_is v y j ws bs w b p q = rw (drop_at ws j w p, drop_at bs j b q) refl

pub picked_here : (v y j : ℕ) (ws : List VarId) (bs : List Operand) (w : VarId) (b : Operand) → slice_get ws j ≡ Some w
    → slice_get bs j ≡ Some b → w.0 ≡ v → picked_from v y ws bs j ≡ alternative_by j b (slice_get b.alts y)
picked_here v y j ws bs w b p q e =
    let t : (w.0 == v) ≡ true = grind (arith, nat_tests, e) in
    step_is v y j ws bs w b p q
    ∙ ap (λ (c : Bool). if c then alternative_by j b (slice_get b.alts y) else picked_from v y ws bs (j + 1)) t

pub picked_later : (v y j : ℕ) (ws : List VarId) (bs : List Operand) (w : VarId) (b : Operand) → slice_get ws j ≡ Some w
    → slice_get bs j ≡ Some b → (w.0 ≡ v → ⊥) → picked_from v y ws bs j ≡ picked_from v y ws bs (j + 1)
picked_later v y j ws bs w b p q n =
    step_is v y j ws bs w b p q
    ∙ ap (λ (c : Bool). if c then alternative_by j b (slice_get b.alts y) else picked_from v y ws bs (j + 1)) (other (w.0 == v) refl)
  where
    other : (c : Bool) → (w.0 == v) ≡ c → (w.0 == v) ≡ false
    other true f = absurd (n (grind (arith, nat_tests, f)))
    other false f = f

none_in : (v y j : ℕ) (ws : List VarId) (bs : List Operand) → (length ws ≡ 0) ⊎ (length bs ≡ 0) → alternative_in v y j ws bs ≡ None
none_in v y j [] bs h = refl
none_in v y j (w ∷ ws) [] h = refl
none_in v y j (w ∷ ws) (b ∷ bs) (inl e) = absurd (omega (arith, e))
none_in v y j (w ∷ ws) (b ∷ bs) (inr e) = absurd (omega (arith, e))

pub picked_none : (v y j : ℕ) (ws : List VarId) (bs : List Operand) → min (length ws) (length bs) ≤ j → picked_from v y ws bs j ≡ None
picked_none v y j ws bs le = by (within_min j ws bs le)
  where
    by : (length ws ≤ j) ⊎ (length bs ≤ j) → picked_from v y ws bs j ≡ None
    by (inl a) = none_in v y j (drop j ws) (drop j bs) (inl (ap length (drop_past j ws a)))
    by (inr a) = none_in v y j (drop j ws) (drop j bs) (inr (ap length (drop_past j bs a)))
