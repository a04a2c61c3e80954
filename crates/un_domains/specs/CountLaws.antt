-- How many numbers a set has, word by word.
use Rattle.std.proofs.Common.{ℕ, zero, suc, ◌≡◌, ◌≢◌, ◌<◌, ◌≤◌, ◌+◌, ◌-◌, ◌*◌, ◌/◌, ◌%◌, ◌^◌, Bool, true, false, cond, not, List, [], ◌∷◌}
use Rattle.std.proofs.Common.{length, get_or, filter, nat_eq, nat_lt, refl, sym, ap, ◌∙◌, subst, arith}
use Rattle.std.specs.Int.{bit_at}
use Rattle.std.specs.Int.Count.{ones}
use Rattle.std.specs.List.{range_with_len}
use Rattle.std.proofs.lemmas.Bool.Decides.{nat_tests}
use Rattle.std.proofs.lemmas.List.Elements.{filter_agree}
use Rattle.std.proofs.lemmas.List.Filters.{length-filter_both}
use Rattle.std.proofs.lemmas.Nat.{mod-pow-add, ones_cat, ones_le_self, pow_pos}
use Rattle.std.proofs.Math.Nat.{mod-lt}
use Rattle.un_domains.specs.OrderLaws.{same_test}
use Rattle.un_domains.specs.Bits.{bit, inside, members}
use Rattle.un_domains.specs.BitLaws.{inside_of, of_inside, members_filter, bit_here}

none_pass : (p : ℕ → Bool) (xs : List ℕ) → ((i : ℕ) → p i ≡ false) → length (filter p xs) ≡ 0
none_pass p [] h = refl
none_pass p (x ∷ xs) h = rw (h x) (none_pass p xs h)

none_equal : (a n e : ℕ) → e < a → length (filter (λ i. nat_eq i e) (range_with_len a n)) ≡ 0
none_equal a zero e lt = refl
none_equal a (suc n) e lt = let off : nat_eq a e ≡ false = grind (arith, nat_tests, lt) in
    rw off (none_equal (a + 1) n e (omega (arith, lt)))

one_case : (a n e : ℕ) (b : Bool) → nat_eq a e ≡ b → (a ≢ e → length (filter (λ i. nat_eq i e) (range_with_len (a + 1) n)) ≡ 1)
    → length (cond b (a ∷ filter (λ i. nat_eq i e) (range_with_len (a + 1) n)) (filter (λ i. nat_eq i e) (range_with_len (a + 1) n))) ≡ 1
one_case a n e true h rest = let same : a ≡ e = grind (arith, nat_tests, h) in omega (arith, none_equal (a + 1) n e (omega (arith, same)))
one_case a n e false h rest = let ne : a ≢ e = grind (arith, nat_tests, h) in rest ne

one_equal : (a n e : ℕ) → a ≤ e → e < a + n → length (filter (λ i. nat_eq i e) (range_with_len a n)) ≡ 1
one_equal a zero e low high = absurd (omega (arith, low, high))
one_equal a (suc n) e low high =
    one_case a n e (nat_eq a e) refl (λ ne. one_equal (a + 1) n e (omega (arith, low, ne)) (omega (arith, high)))

-- 1 for a bit that is set
abbrev pub one_if : Bool → ℕ
one_if b = cond b 1 0

false_not : (b : Bool) → (b ≡ true → ⊥) → b ≡ false
false_not true h = absurd (h refl)
false_not false h = refl

pub no_members : (ws : List ℕ) (lo end : ℕ) → end ≤ lo → length (members ws lo end) ≡ 0
no_members ws lo end le =
    none_pass (inside ws lo end) (range_with_len 0 (64 * length ws))
    (λ i. false_not (inside ws lo end i) (λ h. let r = inside_of ws lo end i h in let a = r.low in let b = r.high in
    omega (arith, a, b, le)))

-- one number more or none
pub one_more : (ws : List ℕ) (lo e : ℕ) → lo ≤ e → e < 64 * length ws
    → length (members ws lo (e + 1)) ≡ length (members ws lo e) + one_if (bit ws e)
one_more ws lo e le lt =
    let whole = members ws lo (e + 1) in
    let low : members ws lo e ≡ filter (λ i. nat_lt i e) whole = members_filter (λ i. nat_lt i e) ws ws lo (e + 1) lo e refl
    (λ i h. let a = h.high in (grind (arith, nat_tests, a), record { low = h.low; high = omega (arith, a); set_bit = h.set_bit }))
    (λ i p h. record { low = h.low; high = grind (arith, nat_tests, p); set_bit = h.set_bit }) in
    let high : members ws e (e + 1) ≡ filter (λ i. not (nat_lt i e)) whole =
    members_filter (λ i. not (nat_lt i e)) ws ws lo (e + 1) e (e + 1) refl
    (λ i h. let a = h.low in let off : nat_lt i e ≡ false = grind (arith, nat_tests, a) in
    (rw off refl, record { low = omega (arith, a, le); high = h.high; set_bit = h.set_bit }))
    (λ i p h. record { low = not_lt i p (nat_lt i e) refl; high = h.high; set_bit = h.set_bit }) in
    let sum = length-filter_both (λ i. nat_lt i e) (λ i. not (nat_lt i e)) (λ i. refl) whole in
    omega (arith, sum, ap length low, ap length high, last (bit ws e) refl)
  where
    not_lt : (i : ℕ) → not (nat_lt i e) ≡ true → (b : Bool) → nat_lt i e ≡ b → e ≤ i
    not_lt i p true h = absurd (let bad : not true ≡ true = subst (λ (b : Bool). not b ≡ true) h p in cc bad)
    not_lt i p false h = grind (arith, nat_tests, h)

    last : (b : Bool) → bit ws e ≡ b → length (members ws e (e + 1)) ≡ one_if (bit ws e)
    last true h = rw h (ap length (filter_agree (inside ws e (e + 1)) (λ i. nat_eq i e) (λ i. same_test (inside ws e (e + 1) i) (nat_eq i e)
        (λ k. let r = inside_of ws e (e + 1) i k in let a = r.low in let b = r.high in grind (arith, nat_tests, a, b))
        (λ k. let same : i ≡ e = grind (arith, nat_tests, k) in
        of_inside ws e (e + 1) i (omega (arith, same)) (omega (arith, same)) (ap (bit ws) same ∙ h)))
        (range_with_len 0 (64 * length ws))) ∙ one_equal 0 (64 * length ws) e (omega arith) (omega (arith, lt)))
    last false h =
        rw h (none_pass (inside ws e (e + 1)) (range_with_len 0 (64 * length ws))
        (λ i. false_not (inside ws e (e + 1) i) (λ k. let r = inside_of ws e (e + 1) i k in let a = r.low in let b = r.high in
        let same : i ≡ e = omega (arith, a, b) in let bad : false ≡ true = sym h ∙ (ap (bit ws) (sym same) ∙ r.set_bit) in cc bad)))

ones_bit : (b : ℕ) → b < 2 → ones b ≡ one_if (nat_eq b 1)
unfolding ones
ones_bit zero lt = let le = ones_le_self 0 in omega (arith, le)
ones_bit (suc zero) lt = refl
ones_bit (suc (suc b)) lt = absurd (omega (arith, lt))

ones_more : (x w : ℕ) → ones (x % 2 ^ (w + 1)) ≡ one_if (nat_eq (bit_at x w) 1) + ones (x % 2 ^ w)
ones_more x w =
    let r : x % 2 ^ w < 2 ^ w = mod-lt x (pow_pos w) in
    ap (λ (n : ℕ). ones (x % 2 ^ n)) (let e : w + 1 ≡ 1 + w = omega arith in e)
    ∙ (ap ones (mod-pow-add x 1 w)
    ∙ (ones_cat w (x / 2 ^ w % 2) (x % 2 ^ w) r ∙ ap (λ (n : ℕ). n + ones (x % 2 ^ w)) (ones_bit (x / 2 ^ w % 2) (omega arith))))

-- the numbers of a word's next w places
pub count_word : (ws : List ℕ) (lo at w : ℕ) → lo ≤ at → at % 64 + w ≤ 64 → at + w ≤ 64 * length ws
    → length (members ws lo (at + w)) ≡ length (members ws lo at) + ones (get_or ws (at / 64) 0 / 2 ^ (at % 64) % 2 ^ w)
count_word ws lo at zero le near within =
    let x = get_or ws (at / 64) 0 / 2 ^ (at % 64) in
    let nothing : x % 2 ^ 0 ≡ 0 = omega arith in
    let e : at + 0 ≡ at = omega arith in
    rw (e, nothing) (let z = ones_le_self 0 in omega (arith, z))
count_word ws lo at (suc w) le near within =
    let x = get_or ws (at / 64) 0 / 2 ^ (at % 64) in
    let same : (at + w) / 64 ≡ at / 64 = omega (arith, near) in
    let step : at + w - at ≡ w = omega arith in
    let here : bit_at x w ≡ bit_at (get_or ws ((at + w) / 64) 0) ((at + w) % 64) =
    ap (bit_at x) (sym step) ∙ bit_here ws at (at + w) (omega arith) same in
    let e : at + suc w ≡ at + w + 1 = omega arith in
    let e' : suc w ≡ w + 1 = omega arith in
    let so_far = count_word ws lo at w le (omega (arith, near)) (omega (arith, within)) in
    let one = one_more ws lo (at + w) (omega (arith, le)) (omega (arith, within)) in
    let flag : one_if (bit ws (at + w)) ≡ one_if (nat_eq (bit_at x w) 1) = ap (λ (n : ℕ). one_if (nat_eq n 1)) (sym here) in
    let more = ones_more x w in
    ap (λ (n : ℕ). length (members ws lo n)) e ∙ (one ∙ (omega (arith, so_far, flag, more, ap (λ (n : ℕ). ones (x % 2 ^ n)) e')))

-- no more places than from the start to the end
pub le_width : (ws : List ℕ) (lo k : ℕ) → lo + k ≤ 64 * length ws → length (members ws lo (lo + k)) ≤ k
le_width ws lo zero within = let e : lo + 0 ≡ lo = omega arith in let none = no_members ws lo lo (omega arith) in rw e (omega (arith, none))
le_width ws lo (suc k) within =
    let e : lo + suc k ≡ lo + k + 1 = omega arith in
    let so_far = le_width ws lo k (omega (arith, within)) in
    let more = one_more ws lo (lo + k) (omega arith) (omega (arith, within)) in
    let most = one_if-le (bit ws (lo + k)) in
    rw e (omega (arith, more, so_far, most))
  where
    one_if-le : (b : Bool) → one_if b ≤ 1
    one_if-le true = omega arith
    one_if-le false = omega arith

-- one place, where the end is the next
pub one_place : (ws : List ℕ) (lo : ℕ) → lo < 64 * length ws → bit ws lo ≡ true → length (members ws lo (lo + 1)) ≡ 1
one_place ws lo lt set_bit =
    let none = no_members ws lo lo (omega arith) in
    let more = one_more ws lo lo (omega arith) lt in
    let one : one_if (bit ws lo) ≡ 1 = ap one_if set_bit in
    omega (arith, more, none, one)
