-- Laws of bounds and bits.
use Rattle.std.proofs.Common.{ℕ, ◌≡◌, ◌≢◌, ◌<◌, ◌≤◌, ◌+◌, ◌-◌, ◌*◌, ◌/◌, ◌%◌, ◌^◌, Bool, true, false, ◌&&◌, List, length, get_or, set}
use Rattle.std.proofs.Common.{filter, nat_eq, nat_le, nat_lt, bit_and, w64, refl, sym, ap, ◌∙◌, subst, add-one, arith, inl, inr}
use Rattle.std.specs.Int.{bit_at, bit_not, trailing_zeros}
use Rattle.std.specs.List.{range_with_len}
use Rattle.std.proofs.lemmas.Bool.{cases_lt}
use Rattle.std.proofs.lemmas.Bool.Decides.{nat_tests}
use Rattle.std.proofs.lemmas.List.{get_or-set_same, get_or-set_other}
use Rattle.std.proofs.lemmas.List.Elements.{filter_agree}
use Rattle.std.proofs.lemmas.Nat.{shr-shr, shr_le, pow_pos, leading_top}
use Rattle.std.proofs.Math.Nat.{mod-lt, div-add-mod, mul_comm, pow-succ', div-eq_of_lt-le}
use Rattle.std.specs.Int.Count.{count_leading_zeros}
use Rattle.std.proofs.lemmas.Nat.Bits.{bit_at-zero, bit_at_above, bit_at-trailing_zeros, bit_at_clear_same, bit_at_clear_other}
use Rattle.std.proofs.lemmas.Nat.Bits.{bit_at_cat_low}
use Rattle.un_domains.specs.SetLaws.{same_or_not}
use Rattle.un_domains.specs.OrderLaws.{same_test, filter-filter, and_true}
use Rattle.un_domains.specs.Bits.{bit, inside, members}

-- a bit of a shifted word
bit_at-shr : (n j i : ℕ) → bit_at (n / 2 ^ j) i ≡ bit_at n (j + i)
bit_at-shr n j i = ap (λ (m : ℕ). m % 2) (shr-shr n j i)

-- a bit of the same word, later
pub bit_here : (ws : List ℕ) (at i : ℕ) → at ≤ i → i / 64 ≡ at / 64
    → bit_at (get_or ws (at / 64) 0 / 2 ^ (at % 64)) (i - at) ≡ bit_at (get_or ws (i / 64) 0) (i % 64)
bit_here ws at i le same =
    let place : at % 64 + (i - at) ≡ i % 64 = omega (arith, le, same) in
    bit_at-shr (get_or ws (at / 64) 0) (at % 64) (i - at)
    ∙ (ap (bit_at (get_or ws (at / 64) 0)) place ∙ ap (λ (k : ℕ). bit_at (get_or ws k 0) (i % 64)) (sym same))

not_one : (n : ℕ) → n ≡ 0 → nat_eq n 1 ≡ false
not_one n e = rw e refl

is_one : (n : ℕ) → n ≡ 1 → nat_eq n 1 ≡ true
is_one n e = rw e refl

-- a word without a bit from here on
pub word_passed : (ws : List ℕ) (at i : ℕ) → get_or ws (at / 64) 0 / 2 ^ (at % 64) ≡ 0 → at ≤ i → i < (at / 64 + 1) * 64 → bit ws i ≡ false
word_passed ws at i none le lt =
    let same : i / 64 ≡ at / 64 = omega (arith, le, lt) in
    not_one (bit_at (get_or ws (i / 64) 0) (i % 64))
    (sym (bit_here ws at i le same) ∙ (ap (λ (n : ℕ). bit_at n (i - at)) none ∙ bit_at-zero (i - at)))

-- a word with one: where the first is
pub word_found : (ws : List ℕ) (at rest tz : ℕ) → rest ≡ get_or ws (at / 64) 0 / 2 ^ (at % 64) → tz ≡ trailing_zeros w64 rest
    → get_or ws (at / 64) 0 < 2 ^ 64 → 0 < rest → ((i : ℕ) → at ≤ i → i < at + tz → bit ws i ≡ false) × (bit ws (at + tz) ≡ true)
word_found ws at rest tz is tz_is fits some = (
  λ i le lt. (let same : i / 64 ≡ at / 64 = omega (arith, le, lt, near) in
      not_one (bit_at (get_or ws (i / 64) 0) (i % 64))
      (sym (bit_here ws at i le same) ∙ (ap (λ (n : ℕ). bit_at n (i - at)) (sym is) ∙ first.2 (i - at) (omega (arith, le, lt, tz_is))))),
  let same : (at + tz) / 64 ≡ at / 64 = omega (arith, near) in
      let step : at + tz - at ≡ tz = omega arith in
      is_one (bit_at (get_or ws ((at + tz) / 64) 0) ((at + tz) % 64))
      (sym (bit_here ws at (at + tz) (omega arith) same) ∙ (ap (bit_at (get_or ws (at / 64) 0 / 2 ^ (at % 64))) step ∙ one)),
)
  where
    first : (trailing_zeros w64 rest < 64) × (bit_at rest (trailing_zeros w64 rest) ≡ 1) ×
        ((i : ℕ) → i < trailing_zeros w64 rest → bit_at rest i ≡ 0)
    first = bit_at-trailing_zeros w64 rest some (let le = shr_le (get_or ws (at / 64) 0) (at % 64) in omega (arith, le, is, fits))

    one : bit_at (get_or ws (at / 64) 0 / 2 ^ (at % 64)) tz ≡ 1
    one = ap (λ (n : ℕ). bit_at n tz) (sym is) ∙ (ap (bit_at rest) tz_is ∙ first.1)

    there : bit_at (get_or ws (at / 64) 0) (at % 64 + tz) ≡ 1
    there = sym (bit_at-shr (get_or ws (at / 64) 0) (at % 64) tz) ∙ one

    near : at % 64 + tz < 64
    near = elim (cases_lt (at % 64 + tz) 64) [
      | inl lt ↦ lt
      | inr le ↦ absurd (let none = bit_at_above (get_or ws (at / 64) 0) 64 (at % 64 + tz) fits le in omega (arith, none, there))
    ]

pub clear_same : (ws : List ℕ) (i : ℕ) → i < 64 * length ws
    → bit (set ws (i / 64) (bit_and (get_or ws (i / 64) 0) (bit_not w64 (1 * 2 ^ (i % 64) % 2 ^ 64)))) i ≡ false
clear_same ws i lt =
    let within : i / 64 < length ws = omega (arith, lt) in
    let low : i % 64 < 64 = omega arith in
    not_one _ (ap (λ (w : ℕ). bit_at w (i % 64))
    (get_or-set_same ws (i / 64) (bit_and (get_or ws (i / 64) 0) (bit_not w64 (1 * 2 ^ (i % 64) % 2 ^ 64))) 0 within)
    ∙ bit_at_clear_same w64 (get_or ws (i / 64) 0) (i % 64) low)

pub clear_other : (ws : List ℕ) (i j : ℕ) → i < 64 * length ws → (j ≡ i → ⊥)
    → bit (set ws (i / 64) (bit_and (get_or ws (i / 64) 0) (bit_not w64 (1 * 2 ^ (i % 64) % 2 ^ 64)))) j ≡ bit ws j
clear_other ws i j lt ne = ap (λ (n : ℕ). nat_eq n 1) (elim (same_or_not (j / 64) (i / 64)) [
  | inl e ↦ (
      let within : i / 64 < length ws = omega (arith, lt) in
      let low : i % 64 < 64 = omega arith in
      let lowj : j % 64 < 64 = omega arith in
      let other : j % 64 ≢ i % 64 = λ same. ne (omega (arith, same, e)) in
      ap (λ (k : ℕ). bit_at (get_or (set ws (i / 64) new) k 0) (j % 64)) e
      ∙ (ap (λ (w : ℕ). bit_at w (j % 64)) (get_or-set_same ws (i / 64) new 0 within)
      ∙ (bit_at_clear_other w64 (get_or ws (i / 64) 0) (i % 64) low (j % 64) lowj other
      ∙ ap (λ (k : ℕ). bit_at (get_or ws k 0) (j % 64)) (sym e))))
  | inr apart ↦ ap (λ (w : ℕ). bit_at w (j % 64)) (get_or-set_other ws (i / 64) (j / 64) new 0 apart)
])
  where
    new : ℕ
    new = bit_and (get_or ws (i / 64) 0) (bit_not w64 (1 * 2 ^ (i % 64) % 2 ^ 64))

-- the low bits of a word
bit_at-low : (w k i : ℕ) → i < k → bit_at (w % 2 ^ k) i ≡ bit_at w i
bit_at-low w k i lt =
    let whole : w / 2 ^ k * 2 ^ k + w % 2 ^ k ≡ w = omega (arith, div-add-mod w (2 ^ k), mul_comm (w / 2 ^ k) (2 ^ k)) in
    sym (bit_at_cat_low (w / 2 ^ k) k (w % 2 ^ k) i lt) ∙ ap (λ (n : ℕ). bit_at n i) whole

-- a bit at a place in the word of another
bit_there : (ws : List ℕ) (last i : ℕ) → i / 64 ≡ last / 64 → i ≤ last
    → bit_at (get_or ws (last / 64) 0 % 2 ^ (last % 64 + 1)) (i % 64) ≡ bit_at (get_or ws (i / 64) 0) (i % 64)
bit_there ws last i same le =
    bit_at-low (get_or ws (last / 64) 0) (last % 64 + 1) (i % 64) (omega (arith, same, le))
    ∙ ap (λ (k : ℕ). bit_at (get_or ws k 0) (i % 64)) (sym same)

-- a word without a bit up to here
pub word_clear : (ws : List ℕ) (last i : ℕ) → get_or ws (last / 64) 0 % 2 ^ (last % 64 + 1) ≡ 0 → last / 64 * 64 ≤ i → i ≤ last
    → bit ws i ≡ false
word_clear ws last i none low high =
    let same : i / 64 ≡ last / 64 = omega (arith, low, high) in
    not_one (bit_at (get_or ws (i / 64) 0) (i % 64))
    (sym (bit_there ws last i same high) ∙ (ap (λ (n : ℕ). bit_at n (i % 64)) none ∙ bit_at-zero (i % 64)))

-- a word with one up to here: where the last is
pub word_last : (ws : List ℕ) (last rest zeros : ℕ) → rest ≡ get_or ws (last / 64) 0 % 2 ^ (last % 64 + 1)
    → zeros ≡ count_leading_zeros 64 rest → rest < 2 ^ 64 → 0 < rest
    → (zeros < 64) × (last / 64 * 64 + (64 - zeros) ≤ last + 1) × (bit ws (last / 64 * 64 + (64 - zeros) - 1) ≡ true)
    × ((i : ℕ) → last / 64 * 64 + (64 - zeros) ≤ i → i ≤ last → bit ws i ≡ false)
word_last ws last rest zeros is zeros_is fits some =
    let top = leading_top 64 rest some fits in
    let j = top.0 in
    let sum : zeros + (j + 1) ≡ 64 = (let e = top.1 in omega (arith, e, zeros_is)) in
    let high : rest < 2 ^ (j + 1) = subst (λ (n : ℕ). rest < 2 ^ n) (omega arith) top.3 in
    let here : bit_at rest j ≡ 1 = top_bit rest j top.2 high in
    let mask : rest < 2 ^ (last % 64 + 1) =
    (let pos = pow_pos (last % 64 + 1) in let lt = mod-lt (get_or ws (last / 64) 0) pos in omega (arith, is, lt)) in
    let within : j ≤ last % 64 = elim (cases_lt (last % 64) j) [
      | inr le ↦ le
      | inl lt ↦ absurd (let none = bit_at_above rest (last % 64 + 1) j mask (omega (arith, lt)) in omega (arith, none, here))
    ] in
    let place = last / 64 * 64 + j in
    let same : place / 64 ≡ last / 64 = omega (arith, within) in
    let rem : place % 64 ≡ j = omega (arith, within) in
    let at : last / 64 * 64 + (64 - zeros) - 1 ≡ place = omega (arith, sum) in (
      omega (arith, sum),
      omega (arith, sum, within),
      ap (bit ws) at ∙ is_one (bit_at (get_or ws (place / 64) 0) (place % 64))
          (sym (bit_there ws last place same (omega (arith, within)))
          ∙ (ap (λ (n : ℕ). bit_at n (place % 64)) (sym is) ∙ (ap (bit_at rest) rem ∙ here))),
      λ i low le. (
          let same : i / 64 ≡ last / 64 = omega (arith, low, le, sum) in
          let over : j + 1 ≤ i % 64 = omega (arith, low, same, sum) in
          not_one (bit_at (get_or ws (i / 64) 0) (i % 64))
          (sym (bit_there ws last i same le) ∙ (ap (λ (n : ℕ). bit_at n (i % 64)) (sym is)
          ∙ bit_at_above rest (j + 1) (i % 64) high over))),
    )
  where
    top_bit : (a j : ℕ) → 2 ^ j ≤ a → a < 2 ^ (j + 1) → bit_at a j ≡ 1
    top_bit a j low high =
        let pos = pow_pos j in
        let twice : 2 ^ (j + 1) ≡ 2 * 2 ^ j = rw add-one (pow-succ' 2 j) in
        let one : a / 2 ^ j ≡ 1 = div-eq_of_lt-le {k = 1} (2 ^ j) (omega (arith, low)) (omega (arith, high, twice)) in
        ap (λ (n : ℕ). n % 2) one

-- Sets

-- what is inside
pub record Inside (ws : List ℕ) (lo end i : ℕ) : Type 0 where
  pub low : lo ≤ i
  pub high : i < end
  pub set_bit : bit ws i ≡ true

pub inside_of : (ws : List ℕ) (lo end i : ℕ) → inside ws lo end i ≡ true → Inside ws lo end i
inside_of ws lo end i h =
    let a = and_true (nat_le lo i) (nat_lt i end && bit ws i) h in
    let b = and_true (nat_lt i end) (bit ws i) a.1 in
    let la = a.0 in
    let lb = b.0 in
    record { low = grind (arith, nat_tests, la); high = grind (arith, nat_tests, lb); set_bit = b.1 }

pub of_inside : (ws : List ℕ) (lo end i : ℕ) → lo ≤ i → i < end → bit ws i ≡ true → inside ws lo end i ≡ true
of_inside ws lo end i low high there =
    let a : nat_le lo i ≡ true = grind (arith, nat_tests) in
    let b : nat_lt i end ≡ true = grind (arith, nat_tests) in
    rw (a, b) there

-- a set after a change, as a filter of the set before
pub members_filter : (p : ℕ → Bool) (ws ws' : List ℕ) (lo end lo' end' : ℕ) → length ws' ≡ length ws
    → ((i : ℕ) → Inside ws' lo' end' i → (p i ≡ true) × Inside ws lo end i)
    → ((i : ℕ) → p i ≡ true → Inside ws lo end i → Inside ws' lo' end' i)
    → members ws' lo' end' ≡ filter p (members ws lo end)
members_filter p ws ws' lo end lo' end' e to from =
    ap (λ (n : ℕ). filter (inside ws' lo' end') (range_with_len 0 (64 * n))) e
    ∙ (filter_agree (inside ws' lo' end') (λ i. p i && inside ws lo end i)
    (λ i. same_test (inside ws' lo' end' i) (p i && inside ws lo end i) (forth i) (back i)) (range_with_len 0 (64 * length ws))
    ∙ sym (filter-filter p (inside ws lo end) (range_with_len 0 (64 * length ws))))
  where
    both : (b c : Bool) → b ≡ true → c ≡ true → (b && c) ≡ true
    both true c h k = k
    both false c h k = absurd (cc h)

    forth : (i : ℕ) → inside ws' lo' end' i ≡ true → (p i && inside ws lo end i) ≡ true
    forth i h = let r = to i (inside_of ws' lo' end' i h) in
        both (p i) (inside ws lo end i) r.0 (of_inside ws lo end i (r.1).low (r.1).high (r.1).set_bit)

    back : (i : ℕ) → (p i && inside ws lo end i) ≡ true → inside ws' lo' end' i ≡ true
    back i h = let two = and_true (p i) (inside ws lo end i) h in let r = from i two.0 (inside_of ws lo end i two.1) in
        of_inside ws' lo' end' i r.low r.high r.set_bit
