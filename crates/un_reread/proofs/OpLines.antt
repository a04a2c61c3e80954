-- What is read of the line of an operation.
use Rattle.std.proofs.Common.{◌≡◌, ℕ, ℤ, ◌≤◌, ◌++◌, true, List, [], ◌∷◌, map, length, drop, Option, Some, None, option_map, IfSome}
use Rattle.std.proofs.Common.{if◌then◌else◌, Bool, refl, sym, ap, subst, ◌∙◌, arith}
use Rattle.std.proofs.lemmas.List.{length-map}
use Rattle.std.proofs.lemmas.List.Elements.{All-head, All-tail}
use Rattle.un_faults.specs.Vocabulary.{NameId, Kind, SrcOp, Number, Token, OpLine, Operation, Spelled}
use Rattle.un_base.specs.Names.{is_name}
use Rattle.un_isa.specs.declared.op.Op.{Op}
use Rattle.un_isa.specs.declared.op.Op.TheVariants.{Imm, Call}
use Rattle.un_isa.specs.declared.reg.Space.{Space}
use Rattle.un_isa.specs.declared.facts.Range.{Range}
use Rattle.un_isa.specs.Facts.{Operands, Fixed, Arguments, facts_of, fixed_spaces, result_space, literal_range, is_source, source_name}
use Rattle.un_isa.specs.Operands.{IsLiteralOf}
use Rattle.un_isa.specs.Does.{is_call}
use Rattle.un_ir.specs.Names.{kind_of}
use Rattle.un_ir.specs.Text.{Names, op_line, name_text, literal_text, with_literal, operand_texts}
use Rattle.un_ir.specs.WellFormed.{IsName, IsOfKind, kind_in, takes_arguments, AreRead, IsAssigned, IsCallee, IsGoodOp}
use Rattle.un_ir.proofs.SourceFacts.{call_arguments}
use Rattle.un_words.specs.declared.token.Token.TheVariants.{Named, Literal, Word}
use Rattle.un_words.specs.declared.slot.Head.TheVariants.{Bare}
use Rattle.un_words.specs.Shapes.{word_at, names_at, literal_at, have_forms, op_named, head_word, slots_by, result_by, is_call_list}
use Rattle.un_words.specs.Shapes.{slots_of, result_fits, operands_fit, op_line_of, op_shape, shape_of}
use Rattle.un_reread.specs.Printed.{spelled_at, as_number, op_as_line}
use Rattle.un_reread.proofs.WordsOf.{AllSay, IsLine, is_line}
use Rattle.un_reread.proofs.NamesAt.{AreNames, name_at_says}
use Rattle.un_reread.proofs.NumberWords.{literal_says}
use Rattle.un_reread.proofs.Literals.{small_abs}
use Rattle.un_reread.proofs.OpTokens.{joined, callee_tokens, IsOfSomeKind, result_tokens, op_tokens}
use Rattle.un_reread.proofs.OpForms.{says_literal, slots_fit, are_list, names_joined, literal_joined, names_there, no_literal}
use Rattle.un_reread.proofs.OpForms.{literal_there, length_literal}

-- ---- the shape of the words of an operation

-- the operation's word is a name, begins no other line, and is no other operation's
pub record HasWord (op : Op) : Type 0 where
  pub name : is_name (source_name op) ≡ true
  pub bare : head_word (source_name op) ≡ Bare
  pub own : op_named (source_name op) ≡ Some op

-- the words of an operation, its operands among them, as they are printed
abbrev pub behind : SrcOp → List Token → List Token
behind o operands = Word (source_name o.op) ∷ (callee_tokens o.callee ++ joined operands)

-- the operation's words say what it is
pub record Fits (names : Names) (o : SrcOp) (operands : List Token) : Type 0 where
  pub word : HasWord o.op
  pub says : AllSay (operand_texts o.op o (map (name_text names) o.srcs)) operands
  pub few : length operands ≤ 6
  pub kind : IfSome o.dst (IsOfSomeKind names)
  pub callee : IfSome o.callee IsName
  pub result : result_fits o.op (option_map (spelled_at names) o.dst) ≡ true
  pub forms : operands_fit o.op (behind o operands) ≡ true
  pub line : op_line_of o.op (option_map (spelled_at names) o.dst) (behind o operands) ≡ op_as_line names o

by_word : (op : Op) (dst : Option Spelled) (rest : List Token) → HasWord op
    → shape_of (result_tokens dst ++ (Word (source_name op) ∷ rest)) ≡ op_shape dst (Word (source_name op) ∷ rest) op
by_word op None rest w = rw (w.bare, w.own) refl
by_word op (Some d) rest w = rw w.own refl

by_fit : (op : Op) (dst : Option Spelled) (ts : List Token) → result_fits op dst ≡ true → operands_fit op ts ≡ true
    → op_shape dst ts op ≡ Some (Operation (op_line_of op dst ts))
by_fit op dst ts h k = rw (h, k) refl

-- the line of an operation is read as the operation
pub fits_read : (names : Names) (o : SrcOp) (operands : List Token) → AreNames names → Fits names o operands
    → IsLine (op_line names o) (Operation (op_as_line names o))
fits_read names o operands all f =
    is_line 325 (op_line names o) (result_tokens (option_map (spelled_at names) o.dst) ++ behind o operands)
    (Operation (op_as_line names o)) (omega arith) (op_tokens names o operands all f.word.name f.says f.few f.kind f.callee)
    (by_word o.op (option_map (spelled_at names) o.dst) (callee_tokens o.callee ++ joined operands) f.word
    ∙ by_fit o.op (option_map (spelled_at names) o.dst) (behind o operands) f.result f.forms
    ∙ ap (λ (line : OpLine). Some (Operation line)) f.line)

-- ---- the operation's word

has_word : (op : Op) → is_source op ≡ true → HasWord op
has_word op text = record { name = name op text; bare = bare op; own = own op text }
  where
    name : (op : Op) → is_source op ≡ true → is_name (source_name op) ≡ true
    name Imm h = cc
    name _ h = cc

    bare : (op : Op) → head_word (source_name op) ≡ Bare
    bare Imm = refl
    bare _ = refl

    own : (op : Op) → is_source op ≡ true → op_named (source_name op) ≡ Some op
    own Imm h = cc
    own _ h = cc

-- ---- what an operation reads and assigns

-- there is room for the operands and a literal; a call has no literal
abbrev HasRoom : Operands → Option Range → Type 0
HasRoom (Fixed spaces) literal = length spaces ≤ 5
HasRoom Arguments literal = literal ≡ None

has_room : (op : Op) → HasRoom (facts_of op).operands (literal_range op)
has_room Call = refl
has_room _ = omega arith

module _ (names : Names) where
  same_count : (spaces : List Space) (srcs : List NameId) → map (kind_of names) srcs ≡ map Some (map kind_in spaces)
      → length srcs ≡ length spaces
  same_count spaces srcs h =
      sym (length-map srcs (kind_of names)) ∙ ap length h ∙ length-map (map kind_in spaces) (λ (k : Kind). Some k)
      ∙ length-map spaces kind_in

  abbrev AllSpelled : List NameId → Type 0
  AllSpelled [] = Unit {0}
  AllSpelled (name ∷ srcs) = IsOfSomeKind names name × AllSpelled srcs

  fixed_spelled : (spaces : List Space) (srcs : List NameId) → map (kind_of names) srcs ≡ map Some (map kind_in spaces) → AllSpelled srcs
  fixed_spelled spaces [] h = tt
  fixed_spelled [] (name ∷ srcs) h = absurd (cc h)
  fixed_spelled (s ∷ spaces) (name ∷ srcs) h = ((kind_in s, cc h), fixed_spelled spaces srcs (cc h))

  all_spelled : (operands : Operands) (srcs : List NameId) → AreRead names operands srcs → AllSpelled srcs
  all_spelled (Fixed spaces) srcs h = fixed_spelled spaces srcs h
  all_spelled Arguments [] h = tt
  all_spelled Arguments (name ∷ srcs) (words, few) = (
    (_, All-head (IsOfKind names _) name srcs words),
    all_spelled Arguments srcs
        (All-tail (IsOfKind names _) name srcs words, omega arith),
  )

  names_say : AreNames names → (srcs : List NameId) → AllSpelled srcs
      → AllSay (map (name_text names) srcs) (map Named (map (spelled_at names) srcs))
  names_say all [] h = tt
  names_say all (name ∷ srcs) h = (name_at_says names h.0.0 name all h.0.1, names_say all srcs h.1)

  few_tokens : (operands : Operands) (literal : Option Range) (srcs : List NameId) (n : Number) → HasRoom operands literal
      → AreRead names operands srcs
      → length (with_literal literal (Literal n) (map Named (map (spelled_at names) srcs))) ≤ 6
  few_tokens (Fixed spaces) literal srcs n room h =
      let most = length_literal literal (Literal n) (map Named (map (spelled_at names) srcs)) in
      let count = same_count spaces srcs h in
      let same = length-map (map (spelled_at names) srcs) Named ∙ length-map srcs (spelled_at names) in
      omega (arith, most, count, same, room)
  few_tokens Arguments literal srcs n room h =
      rw (room, length-map (map (spelled_at names) srcs) Named, length-map srcs (spelled_at names)) h.1

  assigned_kind : (operands : Operands) (result : Option Space) (dst : Option NameId) → IsAssigned names operands result dst
      → IfSome dst (IsOfSomeKind names)
  assigned_kind operands result None h = tt
  assigned_kind operands None (Some name) h = absurd (cc h)
  assigned_kind (Fixed spaces) (Some space) (Some name) h = (kind_in space, h)
  assigned_kind Arguments (Some space) (Some name) h = (kind_in space, h)

  result_there : (operands : Operands) (result : Option Space) (dst : Option NameId) → IsAssigned names operands result dst
      → result_by (takes_arguments operands) result (option_map (spelled_at names) dst) ≡ true
  result_there operands None None h = refl
  result_there operands None (Some name) h = absurd (cc h)
  result_there (Fixed spaces) (Some space) None h = absurd h
  result_there (Fixed spaces) (Some space) (Some name) h = refl
  result_there Arguments (Some space) _ h = refl

callee_named : (operands : Operands) (callee : Option (List ℕ)) → IsCallee operands callee → IfSome callee IsName
callee_named operands None h = tt
callee_named (Fixed spaces) (Some name) h = absurd (cc h)
callee_named Arguments (Some name) h = h

callee_back : (operands : Operands) (callee : Option (List ℕ)) (word : List ℕ) (rest : List Token) → IsCallee operands callee
    → (if takes_arguments operands then word_at 1 (Word word ∷ (callee_tokens callee ++ rest)) else None) ≡ callee
callee_back (Fixed spaces) callee word rest h = sym h
callee_back Arguments None word rest h = absurd h
callee_back Arguments (Some name) word rest h = refl

-- ---- the whole line

forms_by : (names : Names) (operands : Operands) (literal : Option Range) (callee : Option (List ℕ)) (srcs : List NameId) (n : Number)
    (word : List ℕ)
    → HasRoom operands literal → IsCallee operands callee → AreRead names operands srcs
    → (let ts : List Token = Word word ∷
    (callee_tokens callee ++ joined (with_literal literal (Literal n) (map Named (map (spelled_at names) srcs)))) in
    if takes_arguments operands then is_call_list ts else have_forms (slots_by (fixed_spaces operands) literal) (drop 1 ts)) ≡ true
forms_by names (Fixed spaces) literal callee srcs n word room named h =
    rw named (slots_fit spaces literal (map (spelled_at names) srcs) n
    (length-map srcs (spelled_at names) ∙ same_count names spaces srcs h))
forms_by names Arguments literal None srcs n word room named h = absurd named
forms_by names Arguments literal (Some callee) srcs n word room named h = rw room (are_list (map (spelled_at names) srcs))

names_behind : (callee : Option (List ℕ)) (ts : List Token) → names_at (callee_tokens callee ++ ts) ≡ names_at ts
names_behind None ts = refl
names_behind (Some name) ts = refl

literal_behind : (callee : Option (List ℕ)) (ts : List Token) → literal_at (callee_tokens callee ++ ts) ≡ literal_at ts
literal_behind None ts = refl
literal_behind (Some name) ts = refl

literal_back : (literal : Option Range) (ns : List Spelled) (z : ℤ) → IsLiteralOf literal z
    → literal_at (with_literal literal (Literal (as_number z)) (map Named ns)) ≡ as_number z
literal_back None ns z h = no_literal ns ∙ sym (ap as_number h)
literal_back (Some range) ns z h = literal_there range ns (as_number z)

-- the operands and the literal as they are read
abbrev tokens : Names → SrcOp → List Token
tokens names o = with_literal (literal_range o.op) (Literal (as_number o.imm)) (map Named (map (spelled_at names) o.srcs))

same_line : (op : Op) (dst : Option Spelled) (srcs srcs' : List Spelled) (imm imm' : Number) (callee callee' : Option (List ℕ))
    → srcs ≡ srcs' → imm ≡ imm' → callee ≡ callee'
    → (let l : OpLine = record { op = op; dst = dst; srcs = srcs; imm = imm; callee = callee } in l)
    ≡ record { op = op; dst = dst; srcs = srcs'; imm = imm'; callee = callee' }
same_line op dst srcs srcs' imm imm' callee callee' a b c = rw (a, b, c) refl

module _ (names : Names) (o : SrcOp) (all : AreNames names) (good : IsGoodOp names o) where
  op_fits : Fits names o (tokens names o)
  op_fits = record {
    word = has_word o.op good.op;
    says = says_literal literal (map (name_text names) o.srcs) (map Named ns) (literal_text o) (Literal (as_number o.imm))
        (names_say names all o.srcs (all_spelled names operands o.srcs good.reads))
        (literal_says o.imm (small_abs literal o.imm good.literal));
    few = few_tokens names operands literal o.srcs (as_number o.imm) (has_room o.op) good.reads;
    kind = assigned_kind names operands (result_space o.op) o.dst good.assigns;
    callee = callee_named operands o.callee good.callee;
    result = subst (λ (c : Bool). result_by c (result_space o.op) (option_map (spelled_at names) o.dst) ≡ true) (sym takes)
        (result_there names operands (result_space o.op) o.dst good.assigns);
    forms = subst (λ (c : Bool). (if c then is_call_list (behind o (tokens names o)) else have_forms (slots_of o.op)
        (drop 1 (behind o (tokens names o)))) ≡ true) (sym takes)
        (forms_by names operands literal o.callee o.srcs (as_number o.imm) (source_name o.op) (has_room o.op) good.callee good.reads);
    line = same_line o.op (option_map (spelled_at names) o.dst) _ ns _ (as_number o.imm) _ o.callee
        (names_behind o.callee (joined (tokens names o)) ∙ names_joined (tokens names o) ∙ names_there literal ns (as_number o.imm))
        (literal_behind o.callee (joined (tokens names o)) ∙ literal_joined (tokens names o) ∙ literal_back literal ns o.imm good.literal)
        (ap (λ (c : Bool). if c then word_at 1 (behind o (tokens names o)) else None) takes
        ∙ callee_back operands o.callee (source_name o.op) (joined (tokens names o)) good.callee);
  }
    where
      operands : Operands
      operands = (facts_of o.op).operands

      takes : is_call o.op ≡ takes_arguments operands
      takes = call_arguments o.op

      literal : Option Range
      literal = literal_range o.op

      ns : List Spelled
      ns = map (spelled_at names) o.srcs

  -- the line of an operation is neat, and is read as the operation
  pub op_read : IsLine (op_line names o) (Operation (op_as_line names o))
  op_read = fits_read names o (tokens names o) all op_fits
