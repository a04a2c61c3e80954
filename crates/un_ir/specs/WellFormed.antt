-- What every function of the input language keeps: no text with a fault could give it.
use Rattle.std.specs.Prelude.{ℕ, ◌≡◌, ◌≢◌, ◌<◌, ◌≤◌, Bool, true, false, List, Option, Some, None, is_some, map, length, slice_get, All}
use Rattle.std.specs.Prelude.{AllPairs, Contains}
use Rattle.std.specs.List.{flat_map}
use Rattle.un_base.specs.Names.{is_name}
use Rattle.un_base.specs.declared.ids.NameId.{NameId}
use Rattle.un_isa.specs.Facts.{Operands, Fixed, Arguments, facts_of, is_source, operand_spaces, result_space}
use Rattle.un_isa.specs.Operands.{HasLiteral}
use Rattle.un_isa.specs.declared.reg.Space.{Space}
use Rattle.un_isa.specs.declared.reg.Space.TheVariants.{R, P, M}
use Rattle.un_isa.specs.declared.op.Op.{Op}
use Rattle.un_ir.specs.declared.function.Kind.{Kind}
use Rattle.un_ir.specs.declared.function.Kind.TheVariants.{General, Pred}
use Rattle.un_ir.specs.declared.function.SrcOp.{SrcOp}
use Rattle.un_ir.specs.declared.function.Term.{Term}
use Rattle.un_ir.specs.declared.function.Term.TheVariants.{Fall, Jump, Branch, Ret}
use Rattle.un_ir.specs.declared.function.Block.{Block}
use Rattle.un_ir.specs.declared.function.TheConstants.{BLOCKS, OPS, NAMES, PARAMS, FREQUENCY}
use Rattle.un_ir.specs.Live.{IsLive, targets_of}
use Rattle.un_ir.specs.Names.{AreNumbered, kind_of}

-- the names of a function with their kinds
abbrev pub Names : Type 0
Names = List (List ℕ × Kind)

abbrev pub IsName : List ℕ → Type 0
IsName name = is_name name ≡ true

abbrev pub IsOfKind : Names → Kind → NameId → Type 0
IsOfKind names kind name = kind_of names name ≡ Some kind

-- ---- operations

-- the kind of the names that stand in a space: truth values are predicates; all else is words
abbrev pub kind_in : Space → Kind
kind_in R = General
kind_in P = Pred
kind_in M = General

-- the kinds of the operands, in order; those of a call are not listed
abbrev pub operand_kinds : Op → List Kind
operand_kinds op = map kind_in (operand_spaces op)

abbrev pub kind_given : Option Space → Kind
kind_given None = General
kind_given (Some space) = kind_in space

-- the kind of the result
abbrev pub result_kind : Op → Kind
result_kind op = kind_given (result_space op)

-- any number of arguments, which only a call takes
abbrev pub takes_arguments : Operands → Bool
takes_arguments (Fixed spaces) = false
takes_arguments Arguments = true

-- the operands are of the kinds of their places; a call takes any few words
abbrev pub AreRead : Names → Operands → List NameId → Type 0
AreRead names (Fixed spaces) srcs = map (kind_of names) srcs ≡ map Some (map kind_in spaces)
AreRead names Arguments srcs = All (IsOfKind names General) srcs × (length srcs ≤ PARAMS)

abbrev pub ReadsItsKinds : Names → Op → List NameId → Type 0
ReadsItsKinds names op srcs = AreRead names (facts_of op).operands srcs

-- without a result no name is assigned; a call may leave its result, and no other operation may
abbrev pub IsAssigned : Names → Operands → Option Space → Option NameId → Type 0
IsAssigned names operands None dst = dst ≡ None
IsAssigned names (Fixed spaces) (Some space) None = ⊥
IsAssigned names Arguments (Some space) None = Unit {0}
IsAssigned names operands (Some space) (Some name) = IsOfKind names (kind_in space) name

abbrev pub AssignsItsKind : Names → Op → Option NameId → Type 0
AssignsItsKind names op dst = IsAssigned names (facts_of op).operands (result_space op) dst

-- only a call has a callee
abbrev pub IsCallee : Operands → Option (List ℕ) → Type 0
IsCallee (Fixed spaces) callee = callee ≡ None
IsCallee Arguments None = ⊥
IsCallee Arguments (Some callee) = IsName callee

abbrev pub NamesItsCallee : Op → Option (List ℕ) → Type 0
NamesItsCallee op callee = IsCallee (facts_of op).operands callee

pub record IsGoodOp (names : Names) (o : SrcOp) : Type 0 where
  pub op : is_source o.op ≡ true
  pub reads : ReadsItsKinds names o.op o.srcs
  pub assigns : AssignsItsKind names o.op o.dst
  pub literal : HasLiteral o.op o.imm
  pub callee : NamesItsCallee o.op o.callee

-- ---- terminators

-- a branch goes by a truth value, a return gives a word
abbrev pub TestsItsKind : Names → Term → Type 0
TestsItsKind names Fall = Unit {0}
TestsItsKind names (Jump to) = Unit {0}
TestsItsKind names (Branch pred sense to) = IsOfKind names Pred pred
TestsItsKind names (Ret None) = Unit {0}
TestsItsKind names (Ret (Some name)) = IsOfKind names General name

-- the terminator of block b leads to blocks of the function, and never to the entry; so the last block jumps or returns
abbrev pub LeadsInside : List Block → ℕ → Term → Type 0
LeadsInside blocks b term = All (λ (c : ℕ). (0 < c) × (c < length blocks)) (targets_of b term)

-- whether a return gives a value
abbrev pub gives_value : Term → Option Bool
gives_value (Ret value) = Some (is_some value)
gives_value _ = None

-- both give a value or neither does, where both return
abbrev pub ReturnAlike : Block → Block → Type 0
ReturnAlike a b = (x y : Bool) → gives_value a.term ≡ Some x → gives_value b.term ≡ Some y → x ≡ y

-- ---- blocks

pub record IsGoodBlock (names : Names) (block : Block) : Type 0 where
  pub label : IsName block.label
  pub freq : (1 ≤ block.freq) × (block.freq ≤ FREQUENCY)
  pub ops : All (IsGoodOp names) block.ops
  pub tests : TestsItsKind names block.term

-- ---- functions

-- a function with this name, these parameters, names and blocks
pub record IsWellFormed (name : List ℕ) (params : List NameId) (names : Names) (blocks : List Block) : Type 0 where
  pub named : IsName name
  pub params_are_words : All (IsOfKind names General) params
  pub few_params : length params ≤ PARAMS
  pub distinct_params : AllPairs (λ (a b : NameId). a ≢ b) params
  pub all_named : All (λ (n : List ℕ × Kind). IsName n.0) names
  pub few_names : length names ≤ NAMES
  pub distinct_names : AllPairs (λ (a b : List ℕ × Kind). a ≢ b) names
  pub numbered : AreNumbered (length names) params blocks
  pub entry : 0 < length blocks
  pub few_blocks : length blocks ≤ BLOCKS
  pub distinct_labels : AllPairs (λ (a b : Block). a.label ≢ b.label) blocks
  pub good_blocks : All (IsGoodBlock names) blocks
  pub few_ops : length (flat_map (λ (b : Block). b.ops) blocks) ≤ OPS
  pub leads : (b : ℕ) (block : Block) → slice_get blocks b ≡ Some block → LeadsInside blocks b block.term
  pub alike : AllPairs ReturnAlike blocks
  -- only parameters are live at the start of the entry
  pub live : (name : NameId) → IsLive blocks name 0 0 → Contains params name
