-- The registers of a space, by their numbers.
use Rattle.std.proofs.Common.{ℕ, zero, suc, ◌≡◌, ◌↔◌, ◌+◌, ◌<◌, ◌≤◌, Bool, true, false, refl, ap, ◌∙◌, arith}
use Rattle.std.specs.Prelude.{Option, Some, None, ◌||◌, nat_eq, nat_lt, if◌then◌else◌}
use Rattle.std.specs.List.{range_with_len}
use Rattle.std.proofs.lemmas.Bool.Decides.{nat_tests}
use Rattle.un_isa.specs.Registers.{space_of}
use Rattle.un_isa.specs.declared.reg.Space.{Space}
use Rattle.un_isa.specs.declared.reg.Space.TheVariants.{R, P, M}
use Rattle.un_isa.specs.declared.reg.TheConstants.{FIRST_SLOT, REGISTERS}
use Rattle.un_domains.specs.Sets.{has}
use Rattle.un_model.specs.Solutions.{InSpace}
use Rattle.un_sites.specs.Postings.{registers_in}
use Rattle.un_post.proofs.Tests.{iff_then}

-- a run of numbers has what is between its ends
pub has_run : (a n r : ℕ) → ((a ≤ r) × (r < a + n)) ↔ (has (range_with_len a n) r ≡ true)
has_run a zero r = (λ h. let lo = h.0 in let hi = h.1 in absurd (omega arith), λ h. absurd (cc h))
has_run a (suc n) r = go (has_run (a + 1) n r) (nat_eq r a) refl
  where
    go : ((a + 1 ≤ r) × (r < a + 1 + n)) ↔ (has (range_with_len (a + 1) n) r ≡ true) → (b : Bool) → nat_eq r a ≡ b
        → ((a ≤ r) × (r < a + suc n)) ↔ ((b || has (range_with_len (a + 1) n) r) ≡ true)
    go rest true q = (λ h. refl, λ h. let s : r ≡ a = grind (arith, nat_tests, q) in (omega arith, omega arith))
    go rest false q = (
      λ h. let lo = h.0 in let hi = h.1 in let more : a + 1 ≤ r = grind (arith, nat_tests, q, lo) in rest.0 (more, omega arith),
      λ h. let k = rest.1 h in let lo = k.0 in let hi = k.1 in (omega arith, omega arith),
    )

-- the spaces are runs of numbers
module _ (r : ℕ) where
  abbrev space_by : Bool → Bool → Space
  space_by b c = if b then R else if c then P else M

  pub general : (space_of r ≡ R) ↔ ((0 ≤ r) × (r < 0 + 32))
  general = (
    λ h. by (nat_lt r 32) (nat_lt r FIRST_SLOT) refl h,
    λ h. let hi = h.1 in let t : nat_lt r 32 ≡ true = grind (arith, nat_tests) in ap (λ b. space_by b (nat_lt r FIRST_SLOT)) t,
  )
    where
      by : (b c : Bool) → nat_lt r 32 ≡ b → space_by b c ≡ R → (0 ≤ r) × (r < 0 + 32)
      by true c p h = let lt : r < 32 = grind (arith, nat_tests, p) in (omega arith, omega arith)
      by false true p h = absurd (cc h)
      by false false p h = absurd (cc h)

  pub predicate : (space_of r ≡ P) ↔ ((32 ≤ r) × (r < 32 + 4))
  predicate = (
    λ h. by (nat_lt r 32) (nat_lt r FIRST_SLOT) refl refl h,
    λ h. let lo = h.0 in let hi = h.1 in let f : nat_lt r 32 ≡ false = grind (arith, nat_tests) in let t : nat_lt r FIRST_SLOT ≡ true =
        grind (arith, nat_tests) in
        ap (λ b. space_by b (nat_lt r FIRST_SLOT)) f ∙ ap (λ c. space_by false c) t,
  )
    where
      by : (b c : Bool) → nat_lt r 32 ≡ b → nat_lt r FIRST_SLOT ≡ c → space_by b c ≡ P → (32 ≤ r) × (r < 32 + 4)
      by true c p q h = absurd (cc h)
      by false true p q h = let lo : 32 ≤ r = grind (arith, nat_tests, p) in let hi : r < REGISTERS = grind (arith, nat_tests, q) in
          (omega arith, omega arith)
      by false false p q h = absurd (cc h)

  slot : (k : ℕ) → r < FIRST_SLOT + k → (space_of r ≡ M) ↔ ((FIRST_SLOT ≤ r) × (r < FIRST_SLOT + k))
  slot k below = (
    λ h. by (nat_lt r 32) (nat_lt r FIRST_SLOT) refl h,
    λ h. let lo = h.0 in let f : nat_lt r 32 ≡ false = grind (arith, nat_tests) in
        let t : nat_lt r FIRST_SLOT ≡ false = grind (arith, nat_tests) in
        ap (λ b. space_by b (nat_lt r FIRST_SLOT)) f ∙ ap (λ c. space_by false c) t,
  )
    where
      by : (b c : Bool) → nat_lt r FIRST_SLOT ≡ c → space_by b c ≡ M → (FIRST_SLOT ≤ r) × (r < FIRST_SLOT + k)
      by true c q h = absurd (cc h)
      by false true q h = absurd (cc h)
      by false false q h = let lo : FIRST_SLOT ≤ r = grind (arith, nat_tests, q) in (omega arith, below)

  -- a register of a machine with k slots is in a space where it is one of its registers
  pub in_space : (k : ℕ) (space : Option Space) → r < FIRST_SLOT + k → InSpace r space ↔ (has (registers_in k space) r ≡ true)
  in_space k None below = (λ h. (has_run 0 (FIRST_SLOT + k) r).0 (omega arith, omega arith), λ h. tt)
  in_space k (Some R) below = iff_then general (has_run 0 32 r)
  in_space k (Some P) below = iff_then predicate (has_run 32 4 r)
  in_space k (Some M) below = iff_then (slot k below) (has_run FIRST_SLOT k r)
