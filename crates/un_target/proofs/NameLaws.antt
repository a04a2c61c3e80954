-- The operations by their numbers and by their names.
use Rattle.std.proofs.Common.{ℕ, ◌≡◌, ◌<◌, ◌+◌, List, [], ◌∷◌, Bool, true, false, cond, Option, Some, None, get_or, slice_get, refl}
use Rattle.std.proofs.Common.{sym, ap, subst, ◌∙◌, arith}
use Rattle.std.proofs.Common.{◌⊎◌, inl, inr, lit<, IsTrue, IfSome, IfNone, is_some, ◌↔◌, true≢false}
use Rattle.std.specs.Prelude.{nat_eq}
use Rattle.std.specs.Str.{bytes_eq}
use Rattle.std.proofs.lemmas.Bool.{agree_below_at, eqb-true}
use Rattle.std.proofs.lemmas.Slice.Eq.{bytes_eq-Decides}
use Rattle.un_isa.specs.declared.op.Op.{Op}
use Rattle.un_isa.specs.declared.op.Op.TheVariants.{Imm}
use Rattle.un_isa.specs.declared.op.TheConstants.{OPERATIONS}
use Rattle.un_isa.specs.Facts.{all_ops}
use Rattle.un_isa.specs.Tables.{number_of}
use Rattle.un_target.specs.Names.{name_of, IsNamed}
use Rattle.un_target.proofs.Verdicts.{always, never}

-- each operation stands at its number
listed : (op : Op) → slice_get all_ops (number_of op) ≡ Some op
listed Imm = refl
listed _ = refl

pub small : (op : Op) → number_of op < OPERATIONS
small Imm = lit< tt
small _ = lit< tt

-- what stands at a number has it
pub numbered : (i : ℕ) (d : Op) → i < OPERATIONS → number_of (get_or all_ops i d) ≡ i
numbered i d h = eqb-true (number_of (get_or all_ops i d)) i
    (agree_below_at (λ n. nat_eq (number_of (get_or all_ops n d)) n) (λ n. true) OPERATIONS i refl h)

-- two operations of one number are one
pub number_once : (a b : Op) → number_of a ≡ number_of b → a ≡ b
number_once a b e = let f : Some a ≡ Some b = sym (listed a) ∙ ap (λ (n : ℕ). slice_get all_ops n) e ∙ listed b in cc f

below_or_at : (n i : ℕ) → n < i + 1 → (n < i) ⊎ (n ≡ i)
below_or_at n i h = grind (arith, h)

-- what is so of each operation of a number below i, and of that of i, is so of each below i + 1
pub one_more : (P : Op → Type 0) (i : ℕ) (c : Op) → number_of c ≡ i → ((op : Op) → number_of op < i → P op) → P c
    → (op : Op) → number_of op < i + 1 → P op
one_more P i c is before now op h = elim (below_or_at (number_of op) i h) [
  | inl less ↦ before op less
  | inr at ↦ subst P (number_once c op (is ∙ sym at)) now
]

-- the operation of a name, the first in a list that has it
abbrev found_in : List Op → List ℕ → Option Op
found_in [] text = None
found_in (op ∷ ops) text = cond (bytes_eq text (name_of op)) (Some op) (found_in ops text)

named : (op : Op) → found_in all_ops (name_of op) ≡ Some op
named Imm = refl
named _ = refl

-- two operations of one name are one
pub named_once : (a b : Op) → name_of a ≡ name_of b → a ≡ b
named_once a b e = let f : Some a ≡ Some b = sym (named a) ∙ ap (found_in all_ops) e ∙ named b in cc f

-- a text that differs from an operation's name is not that name
pub other_name : (name text : List ℕ) (op : Op) → name ≡ name_of op → false ≡ bytes_eq name text → text ≡ name_of op → ⊥
other_name name text op is differs e = true≢false (sym ((bytes_eq-Decides name text).1 (is ∙ sym e)) ∙ sym differs)

pub named_test : (o : Option Op) (text : List ℕ) (b : Bool) → b ≡ is_some o → IfSome o (λ op. text ≡ name_of op)
    → IfNone o ((op : Op) → text ≡ name_of op → ⊥) → IsTrue b ↔ IsNamed text
named_test (Some op) text b e some none = subst (λ (v : Bool). IsTrue v ↔ IsNamed text) (sym e) (always (op, some))
named_test None text b e some none = subst (λ (v : Bool). IsTrue v ↔ IsNamed text) (sym e) (never (λ h. none h.0 h.1))
