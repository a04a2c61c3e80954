-- What the blocks and the operations of every function keep.
use Rattle.std.proofs.Common.{◌≡◌, ℕ, ◌≤◌, ℤ, Bool, true, false, List, Option, Some, None, unwrap_or, map, length, slice_get, All}
use Rattle.std.proofs.Common.{ap, ◌∙◌, refl}
use Rattle.std.proofs.Props.{props}
use Rattle.std.proofs.Math.Logic.{∥∥₁_elim}
use Rattle.std.proofs.lemmas.Option.{slice_get-map}
use lib.Dec.{T_prop}
use Rattle.un_base.specs.declared.ids.NameId.{NameId}
use Rattle.un_isa.specs.Facts.{Operands, Fixed, Arguments, facts_of, is_source, result_space, literal_range}
use Rattle.un_isa.specs.Operands.{IsLiteralOf}
use Rattle.un_isa.specs.declared.facts.Range.{Range}
use Rattle.un_isa.specs.declared.facts.Range.TheVariants.{Signed16, Signed10, Unsigned5, Offset, FrameOffset}
use Rattle.un_isa.specs.declared.op.Op.{Op}
use Rattle.un_isa.specs.declared.op.Op.TheVariants.{Store, Call}
use Rattle.un_isa.specs.declared.reg.Space.{Space}
use Rattle.un_isa.specs.Does.{is_call}
use Rattle.un_isa.proofs.DoesLaws.{so_holds}
use Rattle.un_ir.specs.declared.function.Kind.{Kind}
use Rattle.un_ir.specs.declared.function.Kind.TheVariants.{General}
use Rattle.un_ir.specs.declared.function.SrcOp.{SrcOp}
use Rattle.un_ir.specs.declared.function.Term.{Term}
use Rattle.un_ir.specs.declared.function.Term.TheVariants.{Fall, Jump, Branch, Ret}
use Rattle.un_ir.specs.declared.function.Block.{Block}
use Rattle.un_ir.specs.declared.function.Function.{Function}
use Rattle.un_ir.specs.declared.function.TheConstants.{PARAMS}
use Rattle.un_ir.specs.Extended.{name_kind, HasItsResult, IsSourceOp}
use Rattle.un_ir.specs.LinearOf.{kind_of_pair}
use Rattle.un_ir.specs.Names.{kind_of}
use Rattle.un_ir.specs.WellFormed.{Names, IsOfKind, IsGoodOp, IsGoodBlock, IsWellFormed, ReadsItsKinds, AssignsItsKind, TestsItsKind}
use Rattle.un_ir.specs.WellFormed.{takes_arguments, AreRead, IsAssigned, IsCallee, operand_kinds, kind_given, result_kind}
use Rattle.un_ir.proofs.NameBounds.{at_all}

-- ---- they hold in one way

reads_prop : (names : Names) (operands : Operands) (srcs : List NameId) → IsProp (AreRead names operands srcs)
reads_prop names (Fixed spaces) srcs = hlevel (props)
reads_prop names Arguments srcs = hlevel (props)

assigns_prop : (names : Names) (operands : Operands) (space : Option Space) (dst : Option NameId)
    → IsProp (IsAssigned names operands space dst)
assigns_prop names (Fixed spaces) None dst = hlevel (props)
assigns_prop names Arguments None dst = hlevel (props)
assigns_prop names (Fixed spaces) (Some space) None = hlevel (props)
assigns_prop names Arguments (Some space) None = hlevel (props)
assigns_prop names (Fixed spaces) (Some space) (Some name) = hlevel (props)
assigns_prop names Arguments (Some space) (Some name) = hlevel (props)

literal_prop : (range : Option Range) (n : ℤ) → IsProp (IsLiteralOf range n)
literal_prop None n = hlevel (props)
literal_prop (Some Signed16) n = hlevel (props, T_prop)
literal_prop (Some Signed10) n = hlevel (props, T_prop)
literal_prop (Some Unsigned5) n = hlevel (props, T_prop)
literal_prop (Some Offset) n = hlevel (props, T_prop)
literal_prop (Some FrameOffset) n = hlevel (props, T_prop)

callee_prop : (operands : Operands) (callee : Option (List ℕ)) → IsProp (IsCallee operands callee)
callee_prop (Fixed spaces) callee = hlevel (props)
callee_prop Arguments None = hlevel (props)
callee_prop Arguments (Some callee) = hlevel (props)

op_prop : (names : Names) (o : SrcOp) → IsProp (IsGoodOp names o)
op_prop names o =
    let a = reads_prop names (facts_of o.op).operands o.srcs in
    let b = assigns_prop names (facts_of o.op).operands (result_space o.op) o.dst in
    let c = literal_prop (literal_range o.op) o.imm in
    let d = callee_prop (facts_of o.op).operands o.callee in
    hlevel (props, a, b, c, d)

tests_prop : (names : Names) (term : Term) → IsProp (TestsItsKind names term)
tests_prop names Fall = hlevel (props)
tests_prop names (Jump to) = hlevel (props)
tests_prop names (Branch pred sense to) = hlevel (props)
tests_prop names (Ret None) = hlevel (props)
tests_prop names (Ret (Some name)) = hlevel (props)

block_prop : (names : Names) (block : Block) → IsProp (IsGoodBlock names block)
block_prop names block = let a = op_prop names in let b = tests_prop names block.term in hlevel (props, a, b)

-- every block of a function is good
pub good_block : (f : Function) (b : ℕ) (block : Block) → slice_get f.blocks b ≡ Some block → IsGoodBlock f.names block
good_block f b block at =
    ∥∥₁_elim f.well_formed (block_prop f.names block)
    (λ (w : IsWellFormed f.name f.params f.names f.blocks). at_all (IsGoodBlock f.names) f.blocks b block w.good_blocks at)

-- a call alone takes arguments
pub call_arguments : (op : Op) → is_call op ≡ takes_arguments (facts_of op).operands
call_arguments Call = refl
call_arguments op = refl

-- ---- an operation that a text may have

module _ (names : Names) where
  -- whether an operation always has a result
  abbrev always_gives : Operands → Option Space → Bool
  always_gives (Fixed spaces) (Some space) = true
  always_gives _ _ = false

  gives : (operands : Operands) (result : Option Space) → always_gives operands result ≡ true → IsAssigned names operands result None → ⊥
  gives (Fixed spaces) (Some space) g h = h
  gives (Fixed spaces) None g h = cc g
  gives Arguments result g h = cc g

  result_of : (op : Op) (dst : Option NameId) → is_source op ≡ true → AssignsItsKind names op dst → HasItsResult op dst
  result_of Store dst s h = h
  result_of Call dst s h = tt
  result_of op None s h =
      gives (facts_of op).operands (result_space op) (so_holds (is_source op) (always_gives (facts_of op).operands (result_space op)) refl s) h
  result_of op (Some name) s h = tt

  pub source_op : (o : SrcOp) → IsGoodOp names o → IsSourceOp o
  source_op o g = record {
    op = g.op;
    literal = g.literal;
    callee = g.callee;
    result = result_of o.op o.dst g.op g.assigns;
  }

  -- the operands of an operation by its kinds, where a call takes any few words
  abbrev pub Reads : Op → List NameId → Type 0
  Reads Call srcs = All (IsOfKind names General) srcs × (length srcs ≤ PARAMS)
  Reads op srcs = map (kind_of names) srcs ≡ map Some (operand_kinds op)

  pub reads_kinds : (op : Op) (srcs : List NameId) → is_source op ≡ true → ReadsItsKinds names op srcs → Reads op srcs
  reads_kinds Call srcs s h = h
  reads_kinds _ srcs s h = h

  pub assigns_kind : (op : Op) (name : NameId) → is_source op ≡ true → AssignsItsKind names op (Some name)
      → IsOfKind names (result_kind op) name
  assigns_kind op name s h = by (facts_of op).operands (result_space op) h
    where
      by : (operands : Operands) (result : Option Space) → IsAssigned names operands result (Some name)
          → IsOfKind names (kind_given result) name
      by operands None h = absurd (cc h)
      by (Fixed spaces) (Some space) h = h
      by Arguments (Some space) h = h

  -- the kind of a name among those of the linear function
  pub kind_is : (kind : Kind) (name : NameId) → IsOfKind names kind name → name_kind (map kind_of_pair names) name ≡ kind
  kind_is kind name h = ap (λ (o : Option Kind). unwrap_or o General) (slice_get-map kind_of_pair names name.0 ∙ h)
