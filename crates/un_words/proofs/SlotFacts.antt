-- Words that have given forms: how many names there are, and whether there is a literal.
use Rattle.std.proofs.Common.{◌≡◌, ℕ, zero, suc, ◌==◌, ◌++◌, Bool, true, false, List, [], ◌∷◌, length, map, Option, Some, None, is_some}
use Rattle.std.proofs.Common.{if◌then◌else◌, refl, ap, ◌∙◌, arith}
use Rattle.std.proofs.lemmas.Bool.{and_parts, or_parts, or_cases}
use Rattle.std.proofs.lemmas.Bool.Decides.{Decides-eqb}
use Rattle.std.proofs.Math.Logic.{⊎_elim}
use Rattle.std.specs.List.{cons_option, list_all, list_any, zip}
use Rattle.un_isa.specs.declared.reg.Space.{Space}
use Rattle.un_isa.specs.declared.facts.Range.{Range}
use Rattle.un_isa.specs.declared.facts.Range.TheVariants.{Offset}
use Rattle.un_ir.specs.Text.{with_literal}
use Rattle.un_words.specs.declared.token.Number.{Number}
use Rattle.un_words.specs.declared.token.Token.{Token}
use Rattle.un_words.specs.declared.token.Token.TheVariants.{Comma, Equals, Named, Literal, Plain, Word}
use Rattle.un_words.specs.declared.slot.Slot.{Slot}
use Rattle.un_words.specs.declared.slot.Slot.TheVariants.{Comma as CommaSlot, Equals as EqualsSlot, Named as NamedSlot}
use Rattle.un_words.specs.declared.slot.Slot.TheVariants.{Literal as LiteralSlot, Plain as PlainSlot, Word as WordSlot}
use Rattle.un_words.specs.Tokens.{Spelled}
use Rattle.un_words.specs.Shapes.{is_slot, have_forms, alternate, is_list, name_in, names_at, zero_number, literal_or, literal_at}
use Rattle.un_words.specs.Shapes.{separated, slots_by}

abbrev pub is_named : Slot → Bool
is_named NamedSlot = true
is_named _ = false

abbrev pub is_literal : Slot → Bool
is_literal LiteralSlot = true
is_literal _ = false

-- how many names words of these forms have
abbrev pub names_in : List Slot → ℕ
names_in [] = zero
names_in (s ∷ slots) = if is_named s then suc (names_in slots) else names_in slots

-- a word of a form
record Formed (s : Slot) (t : Token) : Type 0 where
  named : is_some (name_in t) ≡ is_named s
  literal : (n : Number) → is_literal s ≡ false → literal_or n t ≡ n

slot_token : (s : Slot) (t : Token) → is_slot s t ≡ true → Formed s t
slot_token CommaSlot Comma h = record { named = refl; literal = λ n e. refl }
slot_token EqualsSlot Equals h = record { named = refl; literal = λ n e. refl }
slot_token NamedSlot (Named name) h = record { named = refl; literal = λ n e. refl }
slot_token LiteralSlot (Literal n) h = record { named = refl; literal = λ n e. absurd (cc e) }
slot_token PlainSlot (Plain n) h = record { named = refl; literal = λ n e. refl }
slot_token WordSlot (Word word) h = record { named = refl; literal = λ n e. refl }
slot_token _ _ h = absurd (cc h)

-- words of these forms, one for one
abbrev pub AreFormed : List Slot → List Token → Type 0
AreFormed [] [] = Unit {0}
AreFormed [] (t ∷ ts) = ⊥
AreFormed (s ∷ slots) [] = ⊥
AreFormed (s ∷ slots) (t ∷ ts) = (is_slot s t ≡ true) × AreFormed slots ts

abbrev agree : List Slot → List Token → Bool
agree slots ts = list_all (λ (p : Token × Slot). is_slot p.1 p.0) (zip ts slots)

each_formed : (slots : List Slot) (ts : List Token) → length ts ≡ length slots → agree slots ts ≡ true → AreFormed slots ts
each_formed [] [] e h = tt
each_formed [] (t ∷ ts) e h = absurd (omega arith)
each_formed (s ∷ slots) [] e h = absurd (omega arith)
each_formed (s ∷ slots) (t ∷ ts) e h =
    let parts = and_parts (is_slot s t) (agree slots ts) h in (parts.0, each_formed slots ts (omega arith) parts.1)

pub are_formed : (slots : List Slot) (ts : List Token) → have_forms slots ts ≡ true → AreFormed slots ts
are_formed slots ts h =
    let parts = and_parts (length ts == length slots) (agree slots ts) h in
    each_formed slots ts ((Decides-eqb (length ts) (length slots)).0 parts.0) parts.1

formed_length : (slots : List Slot) (ts : List Token) → AreFormed slots ts → length ts ≡ length slots
formed_length [] [] f = refl
formed_length [] (t ∷ ts) f = absurd f
formed_length (s ∷ slots) [] f = absurd f
formed_length (s ∷ slots) (t ∷ ts) f = ap suc (formed_length slots ts f.1)

formed_agree : (slots : List Slot) (ts : List Token) → AreFormed slots ts → agree slots ts ≡ true
formed_agree [] [] f = refl
formed_agree [] (t ∷ ts) f = absurd f
formed_agree (s ∷ slots) [] f = absurd f
formed_agree (s ∷ slots) (t ∷ ts) f = rw (f.0, formed_agree slots ts f.1) refl

pub formed_fit : (slots : List Slot) (ts : List Token) → AreFormed slots ts → have_forms slots ts ≡ true
formed_fit slots ts f = rw ((Decides-eqb (length ts) (length slots)).1 (formed_length slots ts f), formed_agree slots ts f) refl

pub count_names : (slots : List Slot) (ts : List Token) → AreFormed slots ts → length (names_at ts) ≡ names_in slots
count_names [] [] f = refl
count_names [] (t ∷ ts) f = absurd f
count_names (s ∷ slots) [] f = absurd f
count_names (s ∷ slots) (t ∷ ts) (here, later) = by (name_in t) (is_named s) (slot_token s t here).named (count_names slots ts later)
  where
    by : (o : Option Spelled) (v : Bool) → is_some o ≡ v → length (names_at ts) ≡ names_in slots
        → length (cons_option o (names_at ts)) ≡ (if v then suc (names_in slots) else names_in slots)
    by None true e r = absurd (cc e)
    by None false e r = r
    by (Some name) true e r = ap suc r
    by (Some name) false e r = absurd (cc e)

pub no_literal : (slots : List Slot) (ts : List Token) → AreFormed slots ts → list_any is_literal slots ≡ false
    → literal_at ts ≡ zero_number
no_literal [] [] f h = refl
no_literal [] (t ∷ ts) f h = absurd f
no_literal (s ∷ slots) [] f h = absurd f
no_literal (s ∷ slots) (t ∷ ts) (here, later) h =
    let parts = or_parts (is_literal s) (list_any is_literal slots) h in
    (slot_token s t here).literal (literal_at ts) parts.0 ∙ no_literal slots ts later parts.1

-- ---- the operands of an operation that is no call

abbrev pub places : List Space → List Slot
places spaces = map (λ (space : Space). NamedSlot) spaces

count_separated : (slots : List Slot) → names_in (separated slots) ≡ names_in slots
count_separated [] = refl
count_separated (s ∷ []) = refl
count_separated (s ∷ t ∷ slots) = ap (λ (n : ℕ). if is_named s then suc n else n) (count_separated (t ∷ slots))

count_last : (slots : List Slot) → names_in (slots ++ LiteralSlot ∷ []) ≡ names_in slots
count_last [] = refl
count_last (s ∷ slots) = ap (λ (n : ℕ). if is_named s then suc n else n) (count_last slots)

count_with_literal : (literal : Option Range) (slots : List Slot) → names_in (with_literal literal LiteralSlot slots) ≡ names_in slots
count_with_literal None slots = refl
count_with_literal (Some Offset) [] = refl
count_with_literal (Some Offset) (s ∷ slots) = refl
count_with_literal (Some _) slots = count_last slots

count_places : (spaces : List Space) → names_in (places spaces) ≡ length spaces
count_places [] = refl
count_places (space ∷ spaces) = ap suc (count_places spaces)

-- there is a name for each space
pub count_slots : (spaces : List Space) (literal : Option Range) → names_in (slots_by spaces literal) ≡ length spaces
count_slots spaces literal =
    count_separated (with_literal literal LiteralSlot (places spaces)) ∙ count_with_literal literal (places spaces) ∙ count_places spaces

pub names_alone : (spaces : List Space) → list_any is_literal (slots_by spaces None) ≡ false
names_alone [] = refl
names_alone (s ∷ []) = refl
names_alone (s ∷ t ∷ spaces) = names_alone (t ∷ spaces)

-- ---- a list of arguments

alternate_literal : (named : Bool) (ts : List Token) → alternate named ts ≡ true → literal_at ts ≡ zero_number
alternate_literal named [] h = refl
alternate_literal true (t ∷ ts) h =
    let parts = and_parts (is_slot NamedSlot t) (alternate false ts) h in
    (slot_token NamedSlot t parts.0).literal (literal_at ts) refl ∙ alternate_literal false ts parts.1
alternate_literal false (t ∷ ts) h =
    let parts = and_parts (is_slot CommaSlot t) (alternate true ts) h in
    (slot_token CommaSlot t parts.0).literal (literal_at ts) refl ∙ alternate_literal true ts parts.1

-- it has no literal
pub list_literal : (ts : List Token) → is_list ts ≡ true → literal_at ts ≡ zero_number
list_literal [] h = refl
list_literal (t ∷ ts) h =
    ⊎_elim (λ e. let none : length (t ∷ ts) ≡ 0 = (Decides-eqb (length (t ∷ ts)) 0).0 e in absurd (omega arith))
    (alternate_literal true (t ∷ ts))
    (or_cases (length (t ∷ ts) == 0) (alternate true (t ∷ ts)) h)
