-- Memories and registers with one entry more.
use Rattle.std.proofs.Common.{◌≡◌, ℕ, zero, suc, ◌+◌, ◌%◌, ◌<◌, ◌≤◌, ◌&&◌, ◌||◌, Bool, true, false, nat_eq, nat_lt, nat_le, List, [], ◌∷◌, ◌++◌, Some}
use Rattle.std.proofs.Common.{All, drop, slice_set, is_some, if◌then◌else◌, refl, sym, ap, ◌∙◌, arith}
use Rattle.std.specs.List.{list_all, list_any}
use Rattle.std.proofs.lemmas.Bool.{and_parts, and_from, le-leb, le-ltb, eqb-true}
use Rattle.std.proofs.lemmas.List.Elements.{All-head, All-tail}
use Rattle.un_isa.specs.Memories.{is_memory_from, is_memory, word_at}
use Rattle.un_isa.specs.Starts.{is_clobbered, are_predicates, is_junk_from}
use Rattle.un_isa.specs.declared.reg.TheConstants.{GENERALS}

-- ---- lists

pub all_push : {X : Type 0} (p : X → Bool) (xs : List X) (x : X) → list_all p xs ≡ true → p x ≡ true → list_all p (xs ++ x ∷ []) ≡ true
all_push p [] x h e = and_from (p x) true e refl
all_push p (y ∷ xs) x h e =
    let parts = and_parts (p y) (list_all p xs) h in and_from (p y) (list_all p (xs ++ x ∷ [])) parts.0 (all_push p xs x parts.1 e)

pub all_front : {X : Type 0} (p : X → Bool) (xs : List X) (x : X) → list_all p (xs ++ x ∷ []) ≡ true → (list_all p xs ≡ true) × (p x ≡ true)
all_front p [] x h = (refl, (and_parts (p x) true h).0)
all_front p (y ∷ xs) x h =
    let parts = and_parts (p y) (list_all p (xs ++ x ∷ [])) h in
    let rest = all_front p xs x parts.1 in
    (and_from (p y) (list_all p xs) parts.0 rest.0, rest.1)

-- ---- memory

-- the address is above those of the words
abbrev pub AreBelow : ℕ → List (ℕ × ℕ) → Type 0
AreBelow a ws = All (λ (w : ℕ × ℕ). w.0 < a) ws

push_from : (low a v : ℕ) (ws : List (ℕ × ℕ)) → is_memory_from low ws ≡ true → low ≤ a → AreBelow a ws → nat_eq (a % 4) 0 ≡ true
    → is_memory_from low (ws ++ (a, v) ∷ []) ≡ true
push_from low a v [] h le below whole =
    and_from (nat_le low a && nat_eq (a % 4) 0) true (and_from (nat_le low a) (nat_eq (a % 4) 0) (le-leb low a le) whole) refl
push_from low a v (w ∷ ws) h le below whole =
    let parts = and_parts (nat_le low w.0 && nat_eq (w.0 % 4) 0) (is_memory_from (w.0 + 1) ws) h in
    let here : w.0 < a = All-head (λ (x : ℕ × ℕ). x.0 < a) w ws below in
    and_from (nat_le low w.0 && nat_eq (w.0 % 4) 0) (is_memory_from (w.0 + 1) (ws ++ (a, v) ∷ [])) parts.0
    (push_from (w.0 + 1) a v ws parts.1 (omega arith) (All-tail (λ (x : ℕ × ℕ). x.0 < a) w ws below) whole)

pub memory_push : (a v : ℕ) (ws : List (ℕ × ℕ)) → is_memory ws ≡ true → AreBelow a ws → nat_eq (a % 4) 0 ≡ true
    → is_memory (ws ++ (a, v) ∷ []) ≡ true
memory_push a v ws h below whole = push_from 0 a v ws h (omega arith) below whole

whole_from : (low a : ℕ) (ws : List (ℕ × ℕ)) → is_memory_from low ws ≡ true → is_some (word_at a ws) ≡ true → nat_eq (a % 4) 0 ≡ true
whole_from low a [] h some = absurd (cc some)
whole_from low a (w ∷ ws) h some =
    let parts = and_parts (nat_le low w.0 && nat_eq (w.0 % 4) 0) (is_memory_from (w.0 + 1) ws) h in
    let here = (and_parts (nat_le low w.0) (nat_eq (w.0 % 4) 0) parts.0).1 in
    by (nat_eq w.0 a) refl some here (whole_from (w.0 + 1) a ws parts.1)
  where
    by : (v : Bool) → nat_eq w.0 a ≡ v → is_some (if v then Some w.1 else word_at a ws) ≡ true → nat_eq (w.0 % 4) 0 ≡ true
        → (is_some (word_at a ws) ≡ true → nat_eq (a % 4) 0 ≡ true) → nat_eq (a % 4) 0 ≡ true
    by true e s here later =
        let same : w.0 ≡ a = eqb-true w.0 a e in sym (ap (λ (n : ℕ). nat_eq (n % 4) 0) same) ∙ here
    by false e s here later = later s

-- a word stands at an address
pub there : (a : ℕ) (ws : List (ℕ × ℕ)) → list_any (λ (w : ℕ × ℕ). nat_eq w.0 a) ws ≡ is_some (word_at a ws)
there a [] = refl
there a (w ∷ ws) = by (nat_eq w.0 a) (there a ws)
  where
    by : (v : Bool) → list_any (λ (x : ℕ × ℕ). nat_eq x.0 a) ws ≡ is_some (word_at a ws)
        → (v || list_any (λ (x : ℕ × ℕ). nat_eq x.0 a) ws) ≡ is_some (if v then Some w.1 else word_at a ws)
    by true e = refl
    by false e = e

-- an address of a memory is a multiple of 4
pub address_whole : (a : ℕ) (ws : List (ℕ × ℕ)) → is_memory ws ≡ true → is_some (word_at a ws) ≡ true → nat_eq (a % 4) 0 ≡ true
address_whole a ws h some = whole_from 0 a ws h some

-- ---- registers

set_keeps : (p : ℕ → Bool) (k r n : ℕ) (xs : List ℕ) → list_all p (drop k xs) ≡ true → (k ≤ r → p n ≡ true)
    → list_all p (drop k (slice_set xs r n)) ≡ true
set_keeps p k r n [] h good = h
set_keeps p zero zero n (x ∷ xs) h good = and_from (p n) (list_all p xs) (good (omega arith)) (and_parts (p x) (list_all p xs) h).1
set_keeps p zero (suc r) n (x ∷ xs) h good =
    let parts = and_parts (p x) (list_all p xs) h in
    and_from (p x) (list_all p (slice_set xs r n)) parts.0 (set_keeps p zero r n xs parts.1 (λ le. good (omega arith)))
set_keeps p (suc k) zero n (x ∷ xs) h good = h
set_keeps p (suc k) (suc r) n (x ∷ xs) h good = set_keeps p k r n xs h (λ le. good (omega arith))

pub predicates_set : (r n : ℕ) (regs : List ℕ) → are_predicates regs ≡ true → (nat_lt r GENERALS || nat_lt n 2) ≡ true
    → are_predicates (slice_set regs r n) ≡ true
predicates_set r n regs h good =
    set_keeps (λ v. nat_lt v 2) GENERALS r n regs h (λ le. second (nat_lt r GENERALS) (nat_lt n 2) (le-ltb r GENERALS le) good)
  where
    second : (x y : Bool) → x ≡ false → (x || y) ≡ true → y ≡ true
    second true y e o = absurd (cc e)
    second false y e o = o

junk_set_from : (k r n : ℕ) (js : List ℕ) → is_junk_from k js ≡ true → (is_clobbered (k + r) && nat_lt 0 (k + r)) ≡ true
    → is_junk_from k (slice_set js r n) ≡ true
junk_set_from k r n [] h good = h
junk_set_from k zero n (j ∷ js) h good =
    let same : k + 0 ≡ k = omega arith in
    let here : (is_clobbered k && nat_lt 0 k) ≡ true = sym (ap (λ (m : ℕ). is_clobbered m && nat_lt 0 m) same) ∙ good in
    and_from (nat_eq n 0 || (is_clobbered k && nat_lt 0 k)) (is_junk_from (k + 1) js) (either (nat_eq n 0) (is_clobbered k && nat_lt 0 k) here)
    (and_parts (nat_eq j 0 || (is_clobbered k && nat_lt 0 k)) (is_junk_from (k + 1) js) h).1
  where
    either : (x y : Bool) → y ≡ true → (x || y) ≡ true
    either true y e = refl
    either false y e = e
junk_set_from k (suc r) n (j ∷ js) h good =
    let parts = and_parts (nat_eq j 0 || (is_clobbered k && nat_lt 0 k)) (is_junk_from (k + 1) js) h in
    let same : k + suc r ≡ (k + 1) + r = omega arith in
    let later : (is_clobbered ((k + 1) + r) && nat_lt 0 ((k + 1) + r)) ≡ true = sym (ap (λ (m : ℕ). is_clobbered m && nat_lt 0 m) same) ∙ good in
    and_from (nat_eq j 0 || (is_clobbered k && nat_lt 0 k)) (is_junk_from (k + 1) (slice_set js r n)) parts.0
    (junk_set_from (k + 1) r n js parts.1 later)

pub junk_set : (r n : ℕ) (js : List ℕ) → is_junk_from 0 js ≡ true → is_clobbered r ≡ true → nat_lt 0 r ≡ true
    → is_junk_from 0 (slice_set js r n) ≡ true
junk_set r n js h clobbered some =
    let same : 0 + r ≡ r = omega arith in
    junk_set_from 0 r n js h (ap (λ (m : ℕ). is_clobbered m && nat_lt 0 m) same ∙ and_from (is_clobbered r) (nat_lt 0 r) clobbered some)
