-- An operation keeps what every operation keeps exactly where its line has no fault, where its names have their places.
use Rattle.std.proofs.Common.{◌≡◌, ◌≤◌, ◌++◌, true, false, not, List, [], ◌∷◌, Option, Some, None, map, length, if◌then◌else◌, refl, sym}
use Rattle.std.proofs.Common.{ap, subst, Bool}
use Rattle.std.proofs.Common.{◌∙◌, arith}
use Rattle.std.specs.List.{AllByRecursion as Each, list_any, zip}
use Rattle.std.specs.Option.{option_map, option_map_or, option_to_list}
use Rattle.std.proofs.lemmas.Bool.{or_parts}
use Rattle.std.proofs.lemmas.List.{length-map}
use Rattle.std.proofs.lemmas.List.Elements.{All-from_recursion as Each-All, recursion_from_All as Each-from}
use Rattle.un_isa.specs.declared.op.Op.{Op}
use Rattle.un_isa.specs.declared.op.Op.TheVariants.{Mux}
use Rattle.un_isa.specs.declared.reg.Space.{Space}
use Rattle.un_isa.specs.declared.facts.Range.{Range}
use Rattle.un_isa.specs.Facts.{Operands, Fixed, Arguments, facts_of, fixed_spaces, operand_spaces, result_space, literal_range}
use Rattle.un_isa.specs.Operands.{IsLiteralOf}
use Rattle.un_faults.specs.Vocabulary.{Kind, General, Pred, Number, OpLine, Spelled}
use Rattle.un_ir.specs.Names.{kind_of}
use Rattle.un_ir.specs.WellFormed.{kind_in, takes_arguments, IsOfKind, AreRead, IsAssigned, IsGoodOp}
use Rattle.un_ir.specs.declared.function.TheConstants.{PARAMS}
use Rattle.un_ir.proofs.SourceFacts.{call_arguments}
use Rattle.un_words.specs.Shapes.{result_by}
use Rattle.un_faults.specs.Before.{same_kind}
use Rattle.un_faults.specs.LineFaults.{is_predicate, misfits, operands_clash, result_clashes}
use Rattle.un_faults.specs.Literals.{literal_value, literal_fits}
use Rattle.un_reader.specs.Functions.{name_id, op_of}
use Rattle.un_words.proofs.Each.{Each-left, Each-right}
use Rattle.un_words.proofs.OpShapes.{Counted, LacksLiteral, IsShapedOp}
use Rattle.un_isa.proofs.RangeTests.{decides}
use Rattle.un_isa.specs.Operands.{in_range}

-- the number of the name leads to its kind
abbrev pub IsKnown : List Spelled → Spelled → Type 0
IsKnown names x = kind_of names (name_id names x) ≡ Some x.1

-- ---- kinds

pub kind_matches : (k l : Kind) → not (same_kind k l) ≡ false → l ≡ k
kind_matches General General h = refl
kind_matches Pred Pred h = refl
kind_matches _ _ h = absurd (cc h)

pub word_kind : (k : Kind) → same_kind Pred k ≡ false → k ≡ General
word_kind General h = refl
word_kind Pred h = absurd (cc h)

-- a name that is known to be of a kind is spelled so
pub spelled_kind : (names : List Spelled) (x : Spelled) (k : Kind) → IsKnown names x → IsOfKind names k (name_id names x) → x.1 ≡ k
spelled_kind names x k known is = let same : Some x.1 ≡ Some k = sym known ∙ is in cc same

pub matches_kind : (k l : Kind) → l ≡ k → not (same_kind k l) ≡ false
matches_kind General l e = rw e refl
matches_kind Pred l e = rw e refl

pub are_words : (names srcs : List Spelled) → Each (IsKnown names) srcs → list_any is_predicate srcs ≡ false
    → Each (IsOfKind names General) (map (name_id names) srcs)
are_words names [] known clash = tt
are_words names (x ∷ srcs) known clash =
    let one = or_parts (is_predicate x) (list_any is_predicate srcs) clash in
    (known.0 ∙ ap Some (word_kind x.1 one.0), are_words names srcs known.1 one.1)

pub words_are : (names srcs : List Spelled) → Each (IsKnown names) srcs → Each (IsOfKind names General) (map (name_id names) srcs)
    → list_any is_predicate srcs ≡ false
words_are names [] known words = refl
words_are names (x ∷ srcs) known words =
    let here : is_predicate x ≡ false = rw (spelled_kind names x General known.0 words.0) refl in
    rw (here, words_are names srcs known.1 words.1) refl

-- ---- operands

fixed_read : (names : List Spelled) (spaces : List Space) (srcs : List Spelled) → length srcs ≡ length spaces
    → list_any (λ (p : Space × Spelled). misfits p.0 p.1) (zip spaces srcs) ≡ false → Each (IsKnown names) srcs
    → map (kind_of names) (map (name_id names) srcs) ≡ map Some (map kind_in spaces)
fixed_read names [] [] count clash known = refl
fixed_read names [] (x ∷ srcs) count clash known = absurd (omega arith)
fixed_read names (s ∷ spaces) [] count clash known = absurd (omega arith)
fixed_read names (s ∷ spaces) (x ∷ srcs) count clash known =
    let one = or_parts (misfits s x) (list_any (λ (p : Space × Spelled). misfits p.0 p.1) (zip spaces srcs)) clash in
    let here : kind_of names (name_id names x) ≡ Some (kind_in s) = known.0 ∙ ap Some (kind_matches (kind_in s) x.1 one.0) in
    let later : map (kind_of names) (map (name_id names) srcs) ≡ map Some (map kind_in spaces) =
    fixed_read names spaces srcs (omega (arith, count)) one.1 known.1 in
    cc

are_read : (names : List Spelled) (operands : Operands) (srcs : List Spelled) → Counted operands (length srcs)
    → (if takes_arguments operands then list_any is_predicate srcs else list_any (λ (p : Space × Spelled). misfits p.0 p.1)
    (zip (fixed_spaces operands) srcs)) ≡ false
    → length srcs ≤ PARAMS → Each (IsKnown names) srcs → AreRead names operands (map (name_id names) srcs)
are_read names (Fixed spaces) srcs count clash few known = fixed_read names spaces srcs count clash known
are_read names Arguments srcs count clash few known = (
  Each-All (IsOfKind names General) (map (name_id names) srcs) (are_words names srcs known clash),
  rw (length-map srcs (name_id names)) few,
)

read_fixed : (names : List Spelled) (spaces : List Space) (srcs : List Spelled)
    → map (kind_of names) (map (name_id names) srcs) ≡ map Some (map kind_in spaces) → Each (IsKnown names) srcs
    → (list_any (λ (p : Space × Spelled). misfits p.0 p.1) (zip spaces srcs) ≡ false) × (length srcs ≡ length spaces)
read_fixed names [] [] h known = (refl, refl)
read_fixed names [] (x ∷ srcs) h known = absurd (cc h)
read_fixed names (s ∷ spaces) [] h known = absurd (cc h)
read_fixed names (s ∷ spaces) (x ∷ srcs) h known =
    let first : kind_of names (name_id names x) ≡ Some (kind_in s) = cc h in
    let here : misfits s x ≡ false = matches_kind (kind_in s) x.1 (spelled_kind names x (kind_in s) known.0 first) in
    let rest : map (kind_of names) (map (name_id names) srcs) ≡ map Some (map kind_in spaces) = cc h in
    let later = read_fixed names spaces srcs rest known.1 in
    (rw (here, later.0) refl, omega (arith, later.1))

read_are : (names : List Spelled) (operands : Operands) (srcs : List Spelled) → length (fixed_spaces operands) ≤ PARAMS
    → AreRead names operands (map (name_id names) srcs) → Each (IsKnown names) srcs
    → ((if takes_arguments operands then list_any is_predicate srcs else list_any (λ (p : Space × Spelled). misfits p.0 p.1)
    (zip (fixed_spaces operands) srcs)) ≡ false) × (length srcs ≤ PARAMS)
read_are names (Fixed spaces) srcs few h known = let r = read_fixed names spaces srcs h known in (r.0, omega (arith, r.1, few))
read_are names Arguments srcs few h known = (
  words_are names srcs known (Each-from (IsOfKind names General) (map (name_id names) srcs) h.0),
  let count = length-map srcs (name_id names) in let most = h.1 in omega (arith, count, most),
)

few_spaces : (op : Op) → length (fixed_spaces (facts_of op).operands) ≤ PARAMS
few_spaces Mux = omega arith
few_spaces _ = omega arith

-- ---- the result

is_assigned : (names : List Spelled) (operands : Operands) (result : Option Space) (dst : Option Spelled)
    → Each (IsKnown names) (option_to_list dst)
    → result_by (takes_arguments operands) result dst ≡ true
    → option_map_or (λ (name : Spelled). option_map_or (λ (space : Space). misfits space name) result false) dst false ≡ false
    → IsAssigned names operands result (option_map (name_id names) dst)
is_assigned names operands None None known fits clash = refl
is_assigned names operands None (Some x) known fits clash = absurd (cc fits)
is_assigned names (Fixed spaces) (Some space) None known fits clash = absurd (cc fits)
is_assigned names Arguments (Some space) None known fits clash = tt
is_assigned names _ (Some space) (Some x) known fits clash = known.0 ∙ ap Some (kind_matches (kind_in space) x.1 clash)

assigned_is : (names : List Spelled) (operands : Operands) (result : Option Space) (dst : Option Spelled)
    → Each (IsKnown names) (option_to_list dst) → IsAssigned names operands result (option_map (name_id names) dst)
    → option_map_or (λ (name : Spelled). option_map_or (λ (space : Space). misfits space name) result false) dst false ≡ false
assigned_is names operands None (Some x) known h = refl
assigned_is names (Fixed spaces) (Some space) (Some x) known h =
    matches_kind (kind_in space) x.1 (spelled_kind names x (kind_in space) known.0 h)
assigned_is names Arguments (Some space) (Some x) known h =
    matches_kind (kind_in space) x.1 (spelled_kind names x (kind_in space) known.0 h)
assigned_is names operands _ None known h = refl

-- ---- the literal

has_literal : (literal : Option Range) (n : Number)
    → option_map_or (λ (range : Range). in_range range (literal_value n)) literal true ≡ true
    → LacksLiteral literal n
    → IsLiteralOf literal (literal_value n)
has_literal None n fits lacks = ap literal_value lacks
has_literal (Some range) n fits lacks = (decides range (literal_value n)).0 fits

-- no operand is of the wrong kind, where a call takes words
abbrev clashes : OpLine → Bool → Type 0
clashes o call = (if call then list_any is_predicate o.srcs else list_any (λ (p : Space × Spelled). misfits p.0 p.1)
    (zip (operand_spaces o.op) o.srcs)) ≡ false

-- what an operation's line without a fault says of its operation
pub op_good : (names : List Spelled) (o : OpLine) → IsShapedOp o → Each (IsKnown names) (option_to_list o.dst ++ o.srcs)
    → result_clashes o.op o.dst ≡ false → operands_clash o.op o.srcs ≡ false → length o.srcs ≤ PARAMS → literal_fits o.op o.imm ≡ true
    → IsGoodOp names (op_of names o)
op_good names o s known result operands few literal = record {
  op = s.text;
  reads =
      are_read names (facts_of o.op).operands o.srcs s.count (subst (clashes o) (call_arguments o.op) operands) few
      (Each-right (IsKnown names) (option_to_list o.dst) o.srcs known);
  assigns =
      is_assigned names (facts_of o.op).operands (result_space o.op) o.dst
      (Each-left (IsKnown names) (option_to_list o.dst) o.srcs known)
      (subst (λ (c : Bool). result_by c (result_space o.op) o.dst ≡ true) (call_arguments o.op) s.result) result;
  literal = has_literal (literal_range o.op) o.imm literal s.literal;
  callee = s.callee;
}

literal_in : (literal : Option Range) (n : Number) → IsLiteralOf literal (literal_value n)
    → option_map_or (λ (range : Range). in_range range (literal_value n)) literal true ≡ true
literal_in None n h = refl
literal_in (Some range) n h = (decides range (literal_value n)).1 h

-- what a line has whose operation keeps what every operation keeps
pub record IsFitOp (o : OpLine) : Type 0 where
  pub result : result_clashes o.op o.dst ≡ false
  pub operands : operands_clash o.op o.srcs ≡ false
  pub few : length o.srcs ≤ PARAMS
  pub literal : literal_fits o.op o.imm ≡ true

pub op_told : (names : List Spelled) (o : OpLine) → Each (IsKnown names) (option_to_list o.dst ++ o.srcs) → IsGoodOp names (op_of names o)
    → IsFitOp o
op_told names o known good =
    let r = read_are names (facts_of o.op).operands o.srcs (few_spaces o.op) good.reads
    (Each-right (IsKnown names) (option_to_list o.dst) o.srcs known) in
    record {
      result =
          assigned_is names (facts_of o.op).operands (result_space o.op) o.dst
          (Each-left (IsKnown names) (option_to_list o.dst) o.srcs known) good.assigns;
      operands = subst (clashes o) (sym (call_arguments o.op)) r.0;
      few = r.1;
      literal = literal_in (literal_range o.op) o.imm good.literal;
    }
