-- Homes one by one: those that a function hands back, and those of the blocks.
use Rattle.std.proofs.Common.{ℕ, zero, suc, ◌≡◌, ◌+◌, ◌-◌, ◌<◌, ◌≤◌, Bool, true, false, cond, List, [], ◌∷◌, ◌++◌, drop, filter}
use Rattle.std.proofs.Common.{refl, ap, ◌∙◌, arith}
use Rattle.std.specs.Prelude.{Option, Some, None, ◌||◌, slice_get}
use Rattle.std.specs.List.{range_with_len}
use Rattle.std.specs.Option.{option_map}
use Rattle.un_isa.specs.Registers.{callee_saved}
use Rattle.un_isa.specs.Tables.{in_mask}
use Rattle.un_isa.specs.declared.reg.Reg.{Reg}
use Rattle.un_isa.specs.declared.reg.TheConstants.{LINK, GENERALS}
use Rattle.un_isa.specs.declared.table.Table.{Table}
use Rattle.un_model.specs.Pairs.{any_from}
use Rattle.un_model.specs.Registers.{reg_at, saved_home}
use Rattle.un_model.proofs.Steps.{drop_at}

-- ---- registers that a function hands back

-- the home at place k of those from register r on, of n registers
unfoldable pub saved_from : (ℕ → Bool) → ℕ → ℕ → ℕ → Option Reg
saved_from p n r k = option_map reg_at (slice_get (filter p (range_with_len r (n - r)) ++ LINK ∷ []) k)

pub saved_start : (t : Table) (k : ℕ) → saved_home t k ≡ saved_from (in_mask t.saved) GENERALS 0 k
unfolding saved_from callee_saved
saved_start t k = refl

module _ (p : ℕ → Bool) (n : ℕ) where
  next : (r : ℕ) → r < n → range_with_len r (n - r) ≡ r ∷ range_with_len (r + 1) (n - (r + 1))
  next r lt = let e : n - r ≡ suc (n - (r + 1)) = omega (arith, lt) in ap (range_with_len r) e

  step : (r k : ℕ) → r < n → (b : Bool) → p r ≡ b
      → saved_from p n r k ≡ option_map reg_at (slice_get (cond b (r ∷ filter p (range_with_len (r + 1) (n - (r + 1))))
      (filter p (range_with_len (r + 1) (n - (r + 1)))) ++ LINK ∷ []) k)
  unfolding saved_from
  step r k lt b e =
      ap (λ (rs : List ℕ). option_map reg_at (slice_get (filter p rs ++ LINK ∷ []) k)) (next r lt)
      ∙ ap (λ (b : Bool). option_map reg_at (slice_get (cond b (r ∷ filter p (range_with_len (r + 1) (n - (r + 1))))
      (filter p (range_with_len (r + 1) (n - (r + 1)))) ++ LINK ∷ []) k)) e

  pub saved_here : (r k : ℕ) → r < n → p r ≡ true → k ≡ 0 → saved_from p n r k ≡ Some (reg_at r)
  saved_here r k lt e z = ap (saved_from p n r) z ∙ step r 0 lt true e

  pub saved_later : (r k j : ℕ) → r < n → p r ≡ true → k ≡ j + 1 → saved_from p n r k ≡ saved_from p n (r + 1) j
  unfolding saved_from
  saved_later r k j lt e q = let s : k ≡ suc j = omega (arith, q) in ap (saved_from p n r) s ∙ step r (suc j) lt true e

  pub saved_skip : (r k : ℕ) → r < n → p r ≡ false → saved_from p n r k ≡ saved_from p n (r + 1) k
  unfolding saved_from
  saved_skip r k lt e = step r k lt false e

  none_left : (r k : ℕ) → n ≤ r → saved_from p n r k ≡ option_map reg_at (slice_get (LINK ∷ []) k)
  unfolding saved_from
  none_left r k le = let e : n - r ≡ 0 = omega (arith, le) in
      ap (λ m. option_map reg_at (slice_get (filter p (range_with_len r m) ++ LINK ∷ []) k)) e

  pub saved_link : (r k : ℕ) → n ≤ r → k ≡ 0 → saved_from p n r k ≡ Some (reg_at LINK)
  saved_link r k le z = none_left r k le ∙ ap (λ j. option_map reg_at (slice_get (LINK ∷ []) j)) z

  pub saved_none : (r k j : ℕ) → n ≤ r → k ≡ j + 1 → saved_from p n r k ≡ None
  saved_none r k j le q = let s : k ≡ suc j = omega (arith, q) in
      none_left r k le ∙ ap (λ j. option_map reg_at (slice_get (LINK ∷ []) j)) s ∙ nothing j
    where
      nothing : (j : ℕ) → option_map reg_at (slice_get (LINK ∷ []) (suc j)) ≡ None
      nothing zero = refl
      nothing (suc j) = refl

-- ---- blocks

module _ {A : Type 0} (p : ℕ → A → Bool) where
  pub any_here : (i : ℕ) (xs : List A) (x : A) → slice_get xs i ≡ Some x → p i x ≡ true → any_from p i (drop i xs) ≡ true
  any_here i xs x g e = ap (any_from p i) (drop_at xs i x g) ∙ ap (λ (b : Bool). b || any_from p (i + 1) (drop (i + 1) xs)) e

  pub any_later : (i : ℕ) (xs : List A) (x : A) → slice_get xs i ≡ Some x → p i x ≡ false
      → any_from p i (drop i xs) ≡ any_from p (i + 1) (drop (i + 1) xs)
  any_later i xs x g e = ap (any_from p i) (drop_at xs i x g) ∙ ap (λ (b : Bool). b || any_from p (i + 1) (drop (i + 1) xs)) e
