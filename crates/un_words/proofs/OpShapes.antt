-- What the shape of an operation's line says of its operation: how many operands there are, and where a literal and a callee stand.
use Rattle.std.proofs.Common.{◌≡◌, ℕ, ◌&&◌, Bool, true, false, List, [], ◌∷◌, ◌++◌, length, filter, Option, Some, None, if◌then◌else◌, refl}
use Rattle.std.proofs.Common.{◌∙◌, sym, subst}
use Rattle.std.specs.List.{AllByRecursion as Each, find}
use Rattle.std.specs.Option.{option_and_then, option_to_list}
use Rattle.std.specs.Str.{bytes_eq}
use Rattle.un_isa.specs.declared.op.Op.{Op}
use Rattle.un_isa.specs.declared.facts.Range.{Range}
use Rattle.un_isa.specs.Facts.{Operands, Fixed, Arguments, facts_of, fixed_spaces, literal_range, all_ops, is_source, source_name}
use Rattle.un_ir.specs.WellFormed.{takes_arguments, IsCallee, NamesItsCallee}
use Rattle.un_ir.proofs.SourceFacts.{call_arguments}
use Rattle.un_words.specs.declared.token.Number.{Number}
use Rattle.un_words.specs.declared.token.Token.{Token}
use Rattle.un_words.specs.declared.token.Token.TheVariants.{Word}
use Rattle.un_words.specs.declared.line.OpLine.{OpLine}
use Rattle.un_words.specs.declared.line.Line.{Line}
use Rattle.un_words.specs.declared.line.Line.TheVariants.{Operation}
use Rattle.un_words.specs.Tokens.{Spelled}
use Rattle.un_words.specs.Shapes.{word_at, names_at, zero_number, literal_at, have_forms, op_named, slots_by, result_fits, is_call_list}
use Rattle.un_words.specs.Shapes.{slots_of, operands_fit, op_line_of, op_shape, operation_shape}
use Rattle.un_words.proofs.TokenFacts.{IfThere, IsSpelled, IsGoodToken, names_there}
use Rattle.un_words.proofs.SlotFacts.{are_formed, count_names, no_literal, count_slots, names_alone, list_literal}

-- as many operands as the operation reads; a call reads any number
abbrev pub Counted : Operands → ℕ → Type 0
Counted (Fixed spaces) n = n ≡ length spaces
Counted Arguments n = Unit {0}

-- no literal stands on the line of an operation without one
abbrev pub LacksLiteral : Option Range → Number → Type 0
LacksLiteral None n = n ≡ zero_number
LacksLiteral (Some range) n = Unit {0}

-- by the words behind an operation's own word
record Behind (operands : Operands) (literal : Option Range) (word : List ℕ) (ts : List Token) : Type 0 where
  count : Counted operands (length (names_at ts))
  lacks : LacksLiteral literal (literal_at ts)
  callee : IsCallee operands (if takes_arguments operands then word_at 1 (Word word ∷ ts) else None)

lacking : (literal : Option Range) (n : Number) → (literal ≡ None → n ≡ zero_number) → LacksLiteral literal n
lacking None n h = h refl
lacking (Some range) n h = tt

behind : (operands : Operands) (literal : Option Range) (word : List ℕ) (ts : List Token) → Each IsGoodToken ts
    → (if takes_arguments operands then is_call_list (Word word ∷ ts) else have_forms (slots_by (fixed_spaces operands) literal) ts) ≡ true
    → Behind operands literal word ts
behind (Fixed spaces) literal word ts g h =
    let f = are_formed (slots_by spaces literal) ts h in
    record {
      count = count_names (slots_by spaces literal) ts f ∙ count_slots spaces literal;
      lacks = lacking literal (literal_at ts) (λ e. no_literal (slots_by spaces literal) ts f (rw e (names_alone spaces)));
      callee = refl;
    }
behind Arguments literal word [] g h = absurd (cc h)
behind Arguments literal word (Word name ∷ ts) g h =
    record { count = tt; lacks = lacking literal (literal_at ts) (λ e. list_literal ts h); callee = g.0 }
behind Arguments literal word (_ ∷ ts) g h = absurd (cc h)

-- ---- the line of an operation

-- what the shape says of an operation's line
pub record IsShapedOp (o : OpLine) : Type 0 where
  pub text : is_source o.op ≡ true
  pub result : result_fits o.op o.dst ≡ true
  pub spelled : Each IsSpelled (option_to_list o.dst ++ o.srcs)
  pub count : Counted (facts_of o.op).operands (length o.srcs)
  pub literal : LacksLiteral (literal_range o.op) o.imm
  pub callee : NamesItsCallee o.op o.callee

found : {X : Type 0} (keep p : X → Bool) (xs : List X) → IfThere (λ (x : X). keep x ≡ true) (find p (filter keep xs))
found keep p [] = tt
found keep p (x ∷ xs) = by (keep x) refl (found keep p xs)
  where
    first : (w : Bool) → keep x ≡ true → IfThere (λ (x : _). keep x ≡ true) (find p (filter keep xs))
        → IfThere (λ (x : _). keep x ≡ true) (if w then Some x else find p (filter keep xs))
    first true e h = e
    first false e h = h

    by : (v : Bool) → keep x ≡ v → IfThere (λ (x : _). keep x ≡ true) (find p (filter keep xs))
        → IfThere (λ (x : _). keep x ≡ true) (find p (if v then x ∷ filter keep xs else filter keep xs))
    by true e h = first (p x) e h
    by false e h = h

abbrev pub IsShapedLine : Line → Type 0
IsShapedLine (Operation o) = IsShapedOp o
IsShapedLine _ = ⊥

spelled_result : (dst : Option Spelled) (srcs : List Spelled) → IfThere IsSpelled dst → Each IsSpelled srcs
    → Each IsSpelled (option_to_list dst ++ srcs)
spelled_result None srcs d s = s
spelled_result (Some name) srcs d s = (d, s)

op_shaped : (dst : Option Spelled) → IfThere IsSpelled dst → (word : List ℕ) (ts : List Token) → Each IsGoodToken ts → (op : Op)
    → is_source op ≡ true
    → IfThere IsShapedLine (op_shape dst (Word word ∷ ts) op)
op_shaped dst d word ts g op is = by (result_fits op dst) refl (operands_fit op (Word word ∷ ts)) refl
  where
    by : (v : Bool) → result_fits op dst ≡ v → (w : Bool) → operands_fit op (Word word ∷ ts) ≡ w
        → IfThere IsShapedLine (if v && w then Some (Operation (op_line_of op dst (Word word ∷ ts))) else None)
    by false e w f = tt
    by true e false f = tt
    by true e true f =
        let takes = call_arguments op in
        let fits = subst (λ (c : Bool). (if c then is_call_list (Word word ∷ ts) else have_forms (slots_of op) ts) ≡ true) takes f in
        let b = behind (facts_of op).operands (literal_range op) word ts g fits in
        record {
          text =
              is;
          result =
              e;
          spelled = spelled_result dst (names_at ts) d (names_there ts g);
          count = b.count;
          literal = b.lacks;
          callee =
              subst (λ (c : Bool). IsCallee (facts_of op).operands (if c then word_at 1 (Word word ∷ ts) else None)) (sym takes) b.callee;
        }

pub operation_shaped : (dst : Option Spelled) → IfThere IsSpelled dst → (ts : List Token) → Each IsGoodToken ts
    → IfThere IsShapedLine (operation_shape dst ts)
operation_shaped dst d [] g = tt
operation_shaped dst d (Word word ∷ ts) g = named (op_named word) (found is_source (λ (op : Op). bytes_eq word (source_name op)) all_ops)
  where
    named : (o : Option Op) → IfThere (λ (op : Op). is_source op ≡ true) o
        → IfThere IsShapedLine (option_and_then (op_shape dst (Word word ∷ ts)) o)
    named None h = tt
    named (Some op) h = op_shaped dst d word ts g.1 op h
operation_shaped dst d (_ ∷ ts) g = tt
