-- How many calls a transfer makes that offers the whole rest at each.
use Rattle.std.proofs.Common.{◌≡◌, ℕ, Bool, true, ◌⊎◌, inl, inr, ◌+◌, ◌-◌, ◌*◌, ◌<◌, ◌≤◌, min, Option, Some, None, IfSome, arith, subst}
use Rattle.std.proofs.Math.Nat.{mul-le-mul_left, eq-or-lt_of_le}
use Rattle.un_outside.specs.Pace.{IsCallForEach}

-- the calls so far took a piece each; or the last took the rest; or the sink is full before the end
abbrev pub IsPaced : ℕ → ℕ → ℕ → ℕ → Bool → ℕ → Type 0
IsPaced at count before now full p = (p * (now - before) ≤ at) ⊎ (((at ≡ count) × (p * (now - before) ≤ count + (p - 1)))
    ⊎ ((full ≡ true) × (at < count)))

-- a call that takes n of the rest
module _ (at n count before now next : ℕ) (full filled : Bool) (some : at < count) (within : n ≤ count - at) (call : next ≤ now + 1)
    (fails : full ≡ true → ⊥) where
  one_call : (p : ℕ) → p * (next - before) ≤ p * (now - before) + p
  one_call p = let more = mul-le-mul_left p (let one : next - before ≤ now - before + 1 = omega arith in one) in omega (arith, more)

  last : (p : ℕ) → p * (now - before) ≤ at → at + n ≡ count → IsPaced (at + n) count before next filled p
  last p kept whole = let more = one_call p in inr (inl (whole, omega arith))

  paced_more : (p : ℕ) → IsPaced at count before now full p → (min (count - at) p ≤ n) ⊎ (filled ≡ true)
      → IsPaced (at + n) count before next filled p
  paced_more p (inl kept) taken = elim (eq-or-lt_of_le (let most : at + n ≤ count = omega arith in most)) [
    | inl whole ↦ last p kept whole
    | inr short ↦ elim taken [
      | inl least ↦ let more = one_call p in inl (omega (arith, least))
      | inr stuck ↦ inr (inr (stuck, short))
    ]
  ]
  paced_more p (inr (inl done)) taken = absurd (omega (arith, done.0))
  paced_more p (inr (inr stuck)) taken = absurd (fails stuck.0)

  pub paces_on : (told left : Option ℕ) → left ≡ told → IfSome told (IsPaced at count before now full)
      → IfSome left (λ p. (min (count - at) p ≤ n) ⊎ (filled ≡ true))
      → IfSome told (IsPaced (at + n) count before next filled)
  paces_on None left same kept taken = tt
  paces_on (Some p) left same kept taken = paced_more p kept (subst
      (λ (o : Option ℕ). IfSome o (λ p. (min (count - at) p ≤ n) ⊎ (filled ≡ true))) same taken)

-- at the end
pub paced_whole : (at count before now : ℕ) (full : Bool) (told : Option ℕ) → count ≤ at → at ≤ count
    → IfSome told (IsPaced at count before now full)
    → IfSome told (λ p. IsCallForEach p count before now)
paced_whole at count before now full None some within kept = tt
paced_whole at count before now full (Some p) some within (inl kept) = omega arith
paced_whole at count before now full (Some p) some within (inr (inl done)) = done.1
paced_whole at count before now full (Some p) some within (inr (inr stuck)) = absurd (omega (arith, stuck.1))
