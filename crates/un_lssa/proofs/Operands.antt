-- Operands of calls, and numbers of temporaries.
use Rattle.std.proofs.Common.{◌≡◌, ◌⊎◌, inl, inr, ℕ, zero, suc, ◌+◌, ◌<◌, ◌≤◌, ◌++◌, ◌^◌, Bool, List, [], ◌∷◌, Option, Some, None, Result}
use Rattle.std.proofs.Common.{IfOk, map, subst, length, drop, get_or, refl, sym, ap, ◌∙◌, arith, append_assoc}
use Rattle.std.specs.List.{range_with_len}
use Rattle.std.proofs.lemmas.List.{drop_more, drop_all, length_push}
use Rattle.std.proofs.lemmas.Option.{slice_get_past, slice_get-get_or}
use Rattle.un_base.specs.declared.ids.BlockId.{BlockId}
use Rattle.un_base.specs.declared.ids.NameId.{NameId}
use Rattle.un_base.specs.declared.memory_error.NoMemory.{NoMemory}
use Rattle.un_isa.specs.Registers.{callee_saved, saved_registers}
use Rattle.un_isa.specs.declared.reg.TheConstants.{LINK}
use Rattle.un_isa.specs.declared.table.Table.{Table}
use Rattle.un_ir.specs.declared.function.SrcOp.{SrcOp}
use Rattle.un_ir.specs.declared.function.Term.{Term}
use Rattle.un_ir.specs.declared.function.Term.TheVariants.{Fall, Jump, Branch, Ret}
use Rattle.un_ir.specs.declared.extended.Operand.{Operand}
use Rattle.un_ir.specs.LinearOf.{reads, name_operand, argument_operands, past, past_all, out_operands_of}
use Rattle.un_lssa.specs.Making.{home_at}

cases : (b n : ℕ) → (b < n) ⊎ (n ≤ b)
cases zero zero = inr (omega arith)
cases zero (suc n) = inl (omega arith)
cases (suc b) zero = inr (omega arith)
cases (suc b) (suc n) = elim (cases b n) [ inl h ↦ inl (omega arith) | inr h ↦ inr (omega arith) ]

-- one argument after another
pub argument_step : (current registers : List ℕ) (names : List NameId) (k : ℕ) (d : NameId) → k < length names
    → argument_operands current (drop k registers) (drop k names) ≡ name_operand current (home_at registers k) (get_or names k d) ∷
    argument_operands current (drop (k + 1) registers) (drop (k + 1) names)
argument_step current registers names k d h = elim (cases k (length registers)) [
  | inl below ↦
      let got = slice_get-get_or registers k 0 below in
      rw (drop_more names k d h, drop_more registers k 0 below, got) refl
  | inr past ↦
      let none = slice_get_past registers k past in
      rw (drop_more names k d h, drop_all k registers past, drop_all (k + 1) registers (omega arith), none) refl
]

past_grows : (dst : Option NameId) (n : ℕ) → n ≤ past dst n
past_grows None n = omega arith
past_grows (Some name) n = omega arith

pub past_all_grows : (n : ℕ) (ops : List SrcOp) → n ≤ past_all n ops
past_all_grows n [] = omega arith
past_all_grows n (o ∷ os) = let a = past_grows o.dst n in let b = past_all_grows (past o.dst n) os in omega (arith, a, b)

-- a temporary that an operation defines is below what the operations do not define
pub dst_below : (n count : ℕ) (o : SrcOp) (os : List SrcOp) (name : NameId) → o.dst ≡ Some name → past_all n (o ∷ os) < count
    → n + 1 < count
dst_below n count o os name is h =
    let grows = past_all_grows (past o.dst n) os in
    let here : past o.dst n ≡ n + 1 = rw is refl in
    omega (arith, grows, here)

pub body_below : (n first k : ℕ) (source : List SrcOp) (o : SrcOp) (name : NameId) → k < length source → o ≡ get_or source k o
    → past_all n (drop k source) ≡ past_all first source → past_all first source < 2 ^ 32 → o.dst ≡ Some name → n + 1 < 2 ^ 32
body_below n first k source o name h is past small dst =
    let e : drop k source ≡ o ∷ drop (k + 1) source = drop_more source k o h ∙ ap (λ (x : SrcOp). x ∷ drop (k + 1) source) (sym is) in
    let same : past_all n (o ∷ drop (k + 1) source) ≡ past_all first source = ap (past_all n) (sym e) ∙ past in
    dst_below n (2 ^ 32) o (drop (k + 1) source) name dst (rw same small)

pub arguments_more : (operands : List Operand) (current registers : List ℕ) (names : List NameId) (k : ℕ) (d : NameId)
    (whole : List Operand) (operand : Operand) → k < length names
    → operands ++ argument_operands current (drop k registers) (drop k names) ≡ whole
    → operand ≡ name_operand current (home_at registers k) (get_or names k d)
    → (operands ++ operand ∷ []) ++ argument_operands current (drop (k + 1) registers) (drop (k + 1) names) ≡ whole
arguments_more operands current registers names k d whole operand h so_far is =
    append_assoc operands (operand ∷ []) (argument_operands current (drop (k + 1) registers) (drop (k + 1) names))
    ∙ ap (λ (x : Operand). operands ++ x ∷ argument_operands current (drop (k + 1) registers) (drop (k + 1) names)) is
    ∙ ap (λ (xs : List Operand). operands ++ xs) (sym (argument_step current registers names k d h))
    ∙ so_far

-- the saved values are those of the callee-saved registers and one more
pub saved_count : (t : Table) → length (saved_registers t) ≡ length (callee_saved t) + 1
saved_count t = length_push (callee_saved t) LINK

-- ---- what a block's end reads, by its terminator

module _ (t : Table) (current : List ℕ) (first saved : ℕ) (live_out : List NameId) (registers : List ℕ) where
  abbrev Are : Term → Result (List Operand) NoMemory → Type 0
  Are term r = IfOk r (λ (operands : List Operand). operands ≡ out_operands_of t current first live_out term)

  pub returned : (term : Term) (value : Option NameId) (r : Result (List Operand) NoMemory) → term ≡ Ret value → Are (Ret value) r
      → Are term r
  returned term value r e h = rw e h

  count : registers ≡ callee_saved t → saved ≡ length registers + 1 → saved ≡ length (saved_registers t)
  count kept e = e ∙ ap (λ (rs : List ℕ). length rs + 1) kept ∙ sym (saved_count t)

  abbrev AreNext : Result (List Operand) NoMemory → Type 0
  AreNext r = IfOk r (λ (operands : List Operand). operands ≡ map (name_operand current None) live_out ++
      map (λ (n : ℕ). reads n None) (range_with_len first saved))

  pub falls : (term : Term) (r : Result (List Operand) NoMemory) → registers ≡ callee_saved t → saved ≡ length registers + 1
      → term ≡ Fall → AreNext r → Are term r
  falls term r kept e is h = rw is (subst (λ (n : ℕ). IfOk r (λ (operands : List Operand). operands ≡ map (name_operand current None)
      live_out ++ map (λ (n : ℕ). reads n None) (range_with_len first n))) (count kept e) h)

  pub jumps : (term : Term) (r : Result (List Operand) NoMemory) (to : BlockId) → registers ≡ callee_saved t
      → saved ≡ length registers + 1 → term ≡ Jump to → AreNext r → Are term r
  jumps term r to kept e is h = rw is (subst (λ (n : ℕ). IfOk r (λ (operands : List Operand). operands ≡ map (name_operand current None)
      live_out ++ map (λ (n : ℕ). reads n None) (range_with_len first n))) (count kept e) h)

  pub branches : (term : Term) (r : Result (List Operand) NoMemory) (pred : NameId) (sense : Bool) (to : BlockId)
      → registers ≡ callee_saved t → saved ≡ length registers + 1
      → term ≡ Branch pred sense to → AreNext r → Are term r
  branches term r pred sense to kept e is h = rw is (subst (λ (n : ℕ). IfOk r
      (λ (operands : List Operand). operands ≡ map (name_operand current None) live_out ++
      map (λ (n : ℕ). reads n None) (range_with_len first n))) (count kept e) h)
