-- Needs, operation by operation.
use Rattle.std.proofs.Common.{ℕ, ◌≡◌, ◌≢◌, ◌<◌, ◌≤◌, ◌+◌, List, length, get_or, slice_get, Option, Some, None, MatchOption, IfSome}
use Rattle.std.proofs.Common.{IfNone, IsSomeAnd, sym, ap, subst, ◌∙◌, arith}
use Rattle.std.proofs.Math.ListN.{set}
use Rattle.std.proofs.lemmas.List.{get_or-set_same, get_or-set_other, length-set}
use Rattle.std.proofs.lemmas.Option.{slice_get-get_or}
use Rattle.un_isa.specs.declared.op.Op.{Op}
use Rattle.un_isa.specs.declared.op.TheConstants.{OPERATIONS}
use Rattle.un_isa.specs.declared.table.Needs.{Needs}
use Rattle.un_isa.specs.Facts.{class_of}
use Rattle.un_isa.specs.Fit.{AreFitNeeds}
use Rattle.un_isa.specs.Hexagon.{needs_by}
use Rattle.un_isa.specs.Tables.{number_of}
use Rattle.serde_json.specs.Data.{unsigned, Data, number, array}
use Rattle.serde_json.specs.Events.{items_len}
use Rattle.serde_json.specs.Find.{get_item, get_member, as_array}
use Rattle.serde_json.specs.View.{view, items_view}
use Rattle.serde_json.specs.declared.value.Value.{Value}
use Rattle.serde_json.proofs.Views.{items_len-items_view, get_item_within}
use Rattle.un_target.specs.Names.{name_of}
use Rattle.un_target.specs.Parts.{Parts}
use Rattle.un_target.specs.Uses.{four, IsUse, AreUses}
use Rattle.un_target.proofs.NameLaws.{small, one_more}

-- a value is no four numbers that fit
abbrev pub IsNoneAbove : Value → Needs → Type 0
IsNoneAbove v least = (n : Needs) → view v ≡ array (four n) → AreFitNeeds least n → ⊥

-- the items of a list that is four numbers
pub items_of_four : (d : Data) (vs : List Value) (n : Needs) → Some (items_view vs) ≡ as_array d → d ≡ array (four n)
    → items_view vs ≡ four n
items_of_four d vs n e is = let f : Some (items_view vs) ≡ Some (four n) = e ∙ ap as_array is in cc f

pub four_items : (d : Data) (vs : List Value) (n : Needs) → Some (items_view vs) ≡ as_array d → d ≡ array (four n) → length vs ≡ 4
four_items d vs n e is = sym (items_len-items_view vs) ∙ ap items_len (items_of_four d vs n e is)

-- the item at a place of four numbers
pub item_of_four : (d : Data) (vs ws : List Value) (n : Needs) (v : Value) (i : ℕ) → Some (items_view vs) ≡ as_array d → d ≡ array (four n)
    → ws ≡ vs → v ≡ get_or ws i v → i < 4 → Some (view v) ≡ get_item i (four n)
item_of_four d vs ws n v i e is same at lt =
    ap (λ (x : Value). Some (view x)) (at ∙ ap (λ (xs : List Value). get_or xs i v) same)
    ∙ get_item_within vs i v (omega (arith, lt, four_items d vs n e is)) ∙ ap (get_item i) (items_of_four d vs n e is)

pub some_number : (d : Data) (n : ℕ) → Some d ≡ Some (number (unsigned n)) → d ≡ number (unsigned n)
some_number d n e = cc e

-- what an entry is
pub some_use : (p : Parts) (op : Op) (d : Data) (l : Needs) (r : Option Needs) → Some d ≡ get_member (name_of op) p.uses
    → l ≡ needs_by (class_of op) → IfSome r (λ n. (d ≡ array (four n)) × AreFitNeeds l n) → IfSome r (IsUse p op)
some_use p op d l None e same h = tt
some_use p op d l (Some n) e same h = record {
  entered = subst (λ (v : Option Data). MatchOption v (n ≡ needs_by (class_of op)) (λ f. f ≡ array (four n))) e h.0;
  fit = subst (λ (m : Needs). AreFitNeeds m n) same h.1;
}

pub none_use : (p : Parts) (op : Op) (d : Data) (l : Needs) (r : Option Needs) → Some d ≡ get_member (name_of op) p.uses
    → l ≡ needs_by (class_of op) → IfNone r ((n : Needs) → d ≡ array (four n) → AreFitNeeds l n → ⊥)
    → IfNone r ((n : Needs) → IsUse p op n → ⊥)
none_use p op d l (Some n) e same h = tt
none_use p op d l None e same h = λ n has.
    h n (subst (λ (v : Option Data). MatchOption v (n ≡ needs_by (class_of op)) (λ f. f ≡ array (four n))) (sym e) has.entered)
    (subst (λ (m : Needs). AreFitNeeds m n) (sym same) has.fit)

-- what stands for none
pub usual_use : (p : Parts) (op : Op) (l : Needs) (uses : List Needs) → None ≡ get_member (name_of op) p.uses
    → slice_get uses (number_of op) ≡ Some l → slice_get uses (number_of op) ≡ Some (needs_by (class_of op))
    → IsSomeAnd (slice_get uses (number_of op)) (AreFitNeeds (needs_by (class_of op)))
    → IsUse p op l
usual_use p op l uses none at is fit = record {
  entered = subst (λ (v : Option Data). MatchOption v (l ≡ needs_by (class_of op)) (λ f. f ≡ array (four l))) none
      (same_need l (needs_by (class_of op)) (sym at ∙ is));
  fit = subst (λ (o : Option Needs). IsSomeAnd o (AreFitNeeds (needs_by (class_of op)))) at fit;
}
  where
    same_need : (m n : Needs) → Some m ≡ Some n → m ≡ n
    same_need m n e = cc e

pub usual_needs : (l m : Needs) (o : Option Needs) → o ≡ Some l → o ≡ Some m → l ≡ m
usual_needs l m o e f = let g : Some l ≡ Some m = sym e ∙ f in cc g

-- the needs of the operations of numbers below i
pub record AreBelow (p : Parts) (all : List Needs) (i : ℕ) : Type 0 where
  pub count : length all ≡ OPERATIONS
  pub each : (op : Op) → number_of op < i → IsSomeAnd (slice_get all (number_of op)) (IsUse p op)

slice_get-set_same : (all : List Needs) (i : ℕ) (n : Needs) → i < length all → slice_get (set all i n) i ≡ Some n
slice_get-set_same all i n lt = slice_get-get_or (set all i n) i n (omega (arith, lt, length-set all i n))
    ∙ ap Some (get_or-set_same all i n n lt)

slice_get-set_other : (all : List Needs) (i j : ℕ) (n : Needs) → j < length all → j ≢ i → slice_get (set all i n) j ≡ slice_get all j
slice_get-set_other all i j n lt other =
    slice_get-get_or (set all i n) j n (omega (arith, lt, length-set all i n)) ∙ ap Some (get_or-set_other all i j n n other)
    ∙ sym (slice_get-get_or all j n lt)

pub one_use : (p : Parts) (all : List Needs) (i : ℕ) (c : Op) (n : Needs) → number_of c ≡ i → i < OPERATIONS → AreBelow p all i
    → IsUse p c n → AreBelow p (set all i n) (i + 1)
one_use p all i c n is lt h now = record {
  count = length-set all i n ∙ h.count;
  each = one_more (λ op. IsSomeAnd (slice_get (set all i n) (number_of op)) (IsUse p op)) i c is before here;
}
  where
    before : (op : Op) → number_of op < i → IsSomeAnd (slice_get (set all i n) (number_of op)) (IsUse p op)
    before op less = subst (λ (o : Option Needs). IsSomeAnd o (IsUse p op))
        (sym (slice_get-set_other all i (number_of op) n (omega (arith, less, lt, h.count)) (λ e. absurd (omega (arith, less, e)))))
        (h.each op less)

    here : IsSomeAnd (slice_get (set all i n) (number_of c)) (IsUse p c)
    here = subst (λ (j : ℕ). IsSomeAnd (slice_get (set all i n) j) (IsUse p c)) (sym is)
        (subst (λ (o : Option Needs). IsSomeAnd o (IsUse p c)) (sym (slice_get-set_same all i n (omega (arith, lt, h.count)))) now)

pub every_use : (p : Parts) (all : List Needs) (i : ℕ) → OPERATIONS ≤ i → AreBelow p all i → AreUses p all
every_use p all i past h = record { count = h.count; each = λ op. h.each op (omega (arith, small op, past)) }

no_use : (p : Parts) (op : Op) (o : Option Needs) → ((n : Needs) → IsUse p op n → ⊥) → IsSomeAnd o (IsUse p op) → ⊥
no_use p op (Some n) none h = none n h
no_use p op None none h = h

pub none_uses : (p : Parts) (op : Op) → ((n : Needs) → IsUse p op n → ⊥) → (all : List Needs) → AreUses p all → ⊥
none_uses p op none all h = no_use p op (slice_get all (number_of op)) none (h.each op)
