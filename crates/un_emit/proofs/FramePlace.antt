-- The words of the frame that Spill and Reload reach, and predicates that stand in general registers or slots.
use Rattle.std.proofs.Common.{ℕ, pos, ◌≡◌, ◌<◌, ◌≤◌, ◌+◌, ◌-◌, ◌*◌, ◌/◌, ◌%◌, ◌^◌, Bool, true, false, ◌&&◌, length, get_or, ◌⊎◌, inl, inr}
use Rattle.std.proofs.Common.{refl, sym, ap, ◌∙◌, arith}
use Rattle.std.specs.Prelude.{Option, Some, None, nat_eq, nat_lt, nat_le, if◌then◌else◌}
use Rattle.std.proofs.lemmas.Bool.{eq-eqb}
use Rattle.std.proofs.lemmas.Bool.Decides.{nat_tests}
use Rattle.un_isa.specs.Words.{address_of, word_of, sum_of}
use Rattle.un_isa.specs.declared.instr.Instr.{Instr}
use Rattle.un_ir.specs.declared.function.Kind.{Kind}
use Rattle.un_ir.specs.declared.function.Kind.TheVariants.{General, Pred}
use Rattle.un_isa.specs.declared.reg.TheConstants.{STACK, GENERALS, FIRST_SLOT}
use Rattle.un_packet.specs.Step.{PacketState, frame_place}
use Rattle.un_simulation.specs.Simulation.{as_held, held_at}

pub lt_true : (a b : ℕ) → a < b → nat_lt a b ≡ true
lt_true a b h = grind (arith, nat_tests)

pub lt_false : (a b : ℕ) → b ≤ a → nat_lt a b ≡ false
lt_false a b h = grind (arith, nat_tests)

pub le_true : (a b : ℕ) → a ≤ b → nat_le a b ≡ true
le_true a b h = grind (arith, nat_tests)

pub le_false : (a b : ℕ) → b < a → nat_le a b ≡ false
le_false a b h = grind (arith, nat_tests)

-- ---- the frame

word_of_offset : (n : ℕ) → n < 2 ^ 32 → word_of (pos n) ≡ n
word_of_offset n h = refl

near : (base n : ℕ) → base + n < 2 ^ 32 → address_of base (pos n) ≡ base + n
near base n h =
    let small : n < 2 ^ 32 = omega arith in
    let e = word_of_offset n small in
    ap (sum_of base) e ∙ omega (arith, h)

-- the place of an access at address a of a frame with so many words, of which the first has this address
abbrev place_at : ℕ → ℕ → ℕ → Option ℕ
place_at a start words = if nat_le start a && nat_lt ((a - start) / 4) words && nat_eq (a % 4) 0 then Some ((a - start) / 4) else None

placed : (base n words : ℕ) → n < words → base % 4 ≡ 0 → place_at (base + 4 * n) base words ≡ Some n
placed base n words lt even =
    let q : (base + 4 * n - base) / 4 ≡ n = omega arith in
    let a = le_true base (base + 4 * n) (omega arith) in
    let b : nat_lt ((base + 4 * n - base) / 4) words ≡ true = lt_true ((base + 4 * n - base) / 4) words (omega (arith, q)) in
    let r : (base + 4 * n) % 4 ≡ 0 = omega arith in
    let c = eq-eqb ((base + 4 * n) % 4) 0 r in
    let all : (nat_le base (base + 4 * n) && nat_lt ((base + 4 * n - base) / 4) words && nat_eq ((base + 4 * n) % 4) 0) ≡ true =
    rw (a, b, c) refl in
    ap (λ (x : Bool). if x then Some ((base + 4 * n - base) / 4) else None) all ∙ ap Some q

-- the frame of a run: its first address and its words
pub record IsFrame (base slots : ℕ) : Type 0 where
  pub even : base % 4 ≡ 0
  pub inside : base + 4 * slots < 2 ^ 32

-- an access to word n of the frame
pub frame_place_is : (s : PacketState) (i : Instr) (base slots n : ℕ) → IsFrame base slots → get_or s.regs STACK 0 ≡ base
    → s.frame_start ≡ base → length s.frame ≡ slots → n < slots → i.imm ≡ pos (4 * n) → frame_place s i ≡ Some n
frame_place_is s i base slots n f stack start long lt e =
    let g = f.inside in
    let a : address_of (get_or s.regs STACK 0) i.imm ≡ base + 4 * n = ap (λ x. address_of x i.imm) stack ∙ ap (address_of base) e
    ∙ near base (4 * n) (omega arith) in
    ap (λ x. place_at x s.frame_start (length s.frame)) a ∙ ap (λ x. place_at (base + 4 * n) x (length s.frame)) start
    ∙ ap (place_at (base + 4 * n) base) long ∙ placed base n slots lt f.even

-- ---- what stands at a place

pub held_reg : (s : PacketState) (p : ℕ) → p < FIRST_SLOT → held_at s p ≡ get_or s.regs p 0
held_reg s p lt = let h = lt_true p FIRST_SLOT lt in rw h refl

pub held_slot : (s : PacketState) (p : ℕ) → FIRST_SLOT ≤ p → held_at s p ≡ get_or s.frame (p - FIRST_SLOT) 0
held_slot s p le = let h = lt_false p FIRST_SLOT le in rw h refl

-- a place that is no predicate register
abbrev pub IsWide : ℕ → Type 0
IsWide p = (p < GENERALS) ⊎ (FIRST_SLOT ≤ p)

wide_test : (p : ℕ) → IsWide p → (nat_le GENERALS p && nat_lt p FIRST_SLOT) ≡ false
wide_test p (inl lt) = let h = le_false GENERALS p lt in rw h refl
wide_test p (inr le) = let h = lt_false p FIRST_SLOT le in
    elim (nat_le GENERALS p) as (λ b. (b && nat_lt p FIRST_SLOT) ≡ false) [ true ↦ h | false ↦ refl ]

pub held_wide : (p v : ℕ) → IsWide p → as_held Pred p v ≡ v * 255
held_wide p v h = let e = wide_test p h in ap (λ (b : Bool). if b then v else v * 255) e

pub held_pred : (p v : ℕ) → GENERALS ≤ p → p < FIRST_SLOT → as_held Pred p v ≡ v
held_pred p v le lt =
    let a = le_true GENERALS p le in
    let b = lt_true p FIRST_SLOT lt in
    let e : (nat_le GENERALS p && nat_lt p FIRST_SLOT) ≡ true = rw (a, b) refl in
    ap (λ (b : Bool). if b then v else v * 255) e

-- in two such places a value stands alike
pub held_alike : (k : Kind) (p q v : ℕ) → IsWide p → IsWide q → as_held k p v ≡ as_held k q v
held_alike General p q v h g = refl
held_alike Pred p q v h g = held_wide p v h ∙ sym (held_wide q v g)
