-- What the rules of code ask of an instruction, operation by operation.
use Rattle.std.proofs.Common.{ℕ, ℤ, zero, suc, pos, neg_ℤ, ◌≡◌, ◌≢◌, ◌<◌, ◌-◌, ◌*◌, Bool, true, false, List, [], ◌∷◌, length, map, refl}
use Rattle.std.proofs.Common.{sym, ap, ◌∙◌, subst, arith, All, le→leb}
use Rattle.std.specs.Prelude.{Option, Some, None, slice_get, ◌==◌, if◌then◌else◌, IfSome}
use Rattle.std.specs.Option.{option_map}
use Rattle.un_base.specs.declared.ids.BlockId.{BlockId}
use Rattle.un_isa.specs.Facts.{does_of, is_source, operand_spaces, result_space}
use Rattle.un_isa.specs.Operands.{HasLiteral}
use Rattle.un_isa.specs.Registers.{space_of}
use Rattle.un_isa.specs.declared.op.Op.{Op}
use Rattle.un_isa.specs.declared.op.Op.TheVariants.{Mov, Load, Store, Call, Spill, Reload, P2R}
use Rattle.un_isa.specs.declared.op.Op.TheVariants.{R2P, Enter, Leave, Nop, JumpIfNew, JumpIfNotNew}
use Rattle.un_isa.specs.declared.does.Does.{Does}
use Rattle.un_isa.specs.declared.does.Does.TheVariants.{Calls, Jumps}
use Rattle.un_isa.specs.declared.reg.Reg.{Reg}
use Rattle.un_isa.specs.declared.reg.Space.{Space}
use Rattle.un_isa.specs.declared.reg.TheConstants.{STACK, FIRST_SLOT}
use Rattle.un_isa.specs.declared.table.Table.{Table}
use Rattle.un_isa.specs.Does.{calls, jumps, is_jump}
use Rattle.un_isa.proofs.DoesLaws.{so_fails}
use Rattle.un_ir.specs.declared.function.SrcOp.{SrcOp}
use Rattle.un_ir.specs.declared.function.Term.{Term}
use Rattle.un_ir.specs.declared.function.Term.TheVariants.{Fall, Jump, Branch, Ret}
use Rattle.un_ir.specs.declared.extended.ExtKind.TheVariants.{End}
use Rattle.un_ir.specs.declared.extended.ExtOp.{ExtOp}
use Rattle.un_ir.specs.declared.extended.ExtBlock.{ExtBlock}
use Rattle.un_ir.specs.Extended.{wants_of_op, wants_of_end, is_end}
use Rattle.un_ir.specs.Linear.{Ending, ending_of}
use Rattle.un_ir.specs.Live.{targets_of}
use Rattle.un_ir.specs.WellFormed.{IsName, NamesItsCallee}
use Rattle.un_model.specs.Emission.{slot_offset, label_at, label_of}
use Rattle.un_model.specs.Instructions.{transfer_of, copy_of, operand_space_in, result_space_in}
use Rattle.un_packet.specs.CodeRules.{ReadsItsSpaces, WritesItsSpace, HasItsNumber, HasItsLabel, HasLabelOf, HasItsBase, IsSomeName, minus}
use Rattle.un_emit.proofs.BlockEdges.{EndsBy, falls, ends}
use Rattle.un_lists.proofs.Lists.{Each, Member, each_member, get_below}
use Rattle.un_emit.proofs.RulesFrame.{IsLow}
use Rattle.un_emit.proofs.Own.{own_op}

-- the spaces of registers
abbrev pub spaces_of : List Reg → List Space
spaces_of rs = map (λ (r : Reg). space_of r.0) rs

abbrev pub space_at : Option Reg → Option Space
space_at place = option_map (λ (r : Reg). space_of r.0) place

-- two operations that a test tells apart
pub told_apart : (t : Op → Bool) (a b : Op) → t a ≡ true → t b ≡ false → a ≡ b → ⊥
told_apart t a b p q e = let z : true ≡ false = sym p ∙ ap t e ∙ q in absurd (cc z)

-- ---- operands and results

pub space_listed : (op : Op) (j : ℕ) (s : Space) → slice_get (operand_spaces op) j ≡ Some s → operand_space_in op j ≡ Some s
space_listed Call j s q = absurd (cc q)
space_listed Reload j s q = absurd (cc q)
space_listed _ j s q = q

pub reads_plain : (op : Op) (srcs : List Reg) → (op ≡ Call → ⊥) → spaces_of srcs ≡ operand_spaces op → ReadsItsSpaces op srcs
reads_plain Call srcs n h = absurd (n refl)
reads_plain _ srcs n h = h

pub writes_plain : (op : Op) (dst : Option Reg) → (op ≡ Call → ⊥) → space_at dst ≡ result_space op → WritesItsSpace op dst
writes_plain Call dst n h = absurd (n refl)
writes_plain _ dst n h = h

pub base_of : (op : Op) (srcs : List Reg) → Each (λ (r : Reg). r.0 ≢ STACK) srcs → HasItsBase op srcs
base_of Load [] h = tt
base_of Load (r ∷ rs) h = h.0
base_of Store [] h = tt
base_of Store (r ∷ rs) h = h.0
base_of _ srcs h = tt

-- the offset of a slot
pub offset_fits : (frame : ℕ) (place : Option Reg) → IfSome place (λ (r : Reg). IsLow r.0) → HasItsNumber frame Spill (slot_offset place)
offset_fits frame None h = (record { le = tt }, record { le = tt }, refl)
offset_fits frame (Some r) h = (
  record { le = le→leb 0 (4 * (r.0 - FIRST_SLOT)) (omega arith) },
  record { le = le→leb (4 * (r.0 - FIRST_SLOT)) 4092 (omega arith) },
  ap pos (omega arith),
)

pub minus_is : (n : ℕ) → neg_ℤ (pos n) ≡ minus n
minus_is zero = refl
minus_is (suc n) = refl

-- ---- operations of the source

pub source_count : (t : Table) (so : SrcOp) (op : Op) → (op ≡ Call → ⊥) → length (wants_of_op t so op) ≡ length (operand_spaces op)
source_count t so Call n = absurd (n refl)
source_count t so _ n = refl

pub source_gives : (op : Op) → is_source op ≡ true → result_space_in op ≡ result_space op
source_gives Spill s = absurd (cc s)
source_gives _ s = refl

pub source_number : (frame : ℕ) (op : Op) (n : ℤ) → is_source op ≡ true → HasLiteral op n → HasItsNumber frame op n
source_number frame Enter n s h = absurd (cc s)
source_number frame Leave n s h = absurd (cc s)
source_number frame _ n s h = h

label_by : (does : Does) (callee : Option (List ℕ)) → calls does ≡ false → jumps does ≡ false → callee ≡ None → HasLabelOf does callee
label_by Calls callee c j h = absurd (cc c)
label_by (Jumps when) callee c j h = absurd (cc j)
label_by _ callee c j h = h

pub source_label : (op : Op) (callee : Option (List ℕ)) → is_source op ≡ true → NamesItsCallee op callee → HasItsLabel op callee
source_label Call None s h = absurd h
source_label Call (Some name) s h = h
source_label Nop callee s h = h
source_label op callee s h = label_by (does_of op) callee refl (so_fails (is_source op) (is_jump op) refl s) h

-- ---- copies

-- the instructions of copies
pub data IsCopyOp (op : Op) : Type 0 where
  mov : op ≡ Mov → IsCopyOp op
  spill : op ≡ Spill → IsCopyOp op
  reload : op ≡ Reload → IsCopyOp op
  p2r : op ≡ P2R → IsCopyOp op
  r2p : op ≡ R2P → IsCopyOp op

abbrev late_op : ℕ → Option Op
late_op n = if n == 3 then Some Reload else (if n == 4 then Some P2R else (if n == 5 then Some R2P else None))

pub copy_is : (n : ℕ) (op : Op) → copy_of n ≡ Some op → IsCopyOp op
copy_is n op q = first (n == 1) q
  where
    some : (x : Op) → Some x ≡ Some op → op ≡ x
    some x q = let k : x ≡ op = cc q in sym k

    third : (b c d : Bool) → (if b then Some Reload else (if c then Some P2R else (if d then Some R2P else None))) ≡ Some op → IsCopyOp op
    third true c d q = reload (some Reload q)
    third false true d q = p2r (some P2R q)
    third false false true q = r2p (some R2P q)
    third false false false q = absurd (cc q)

    second : (b : Bool) → (if b then Some Spill else late_op n) ≡ Some op → IsCopyOp op
    second true q = spill (some Spill q)
    second false q = third (n == 3) (n == 4) (n == 5) q

    first : (b : Bool) → (if b then Some Mov else (if n == 2 then Some Spill else late_op n)) ≡ Some op → IsCopyOp op
    first true q = mov (some Mov q)
    first false q = second (n == 2) q

-- ---- terminators

-- the block to which a terminator may jump
pub there : (blocks : List ExtBlock) (to : BlockId) → to.0 < length blocks
    → (block : ExtBlock) × (slice_get blocks to.0 ≡ Some block) × (label_at blocks to ≡ Some block.label)
there blocks to lt =
    let r = get_below blocks to.0 lt in
    (r.0, r.1, ap (λ (b : Option ExtBlock). option_map (λ (block : ExtBlock). block.label) b) r.1)

-- the labels of blocks are names
abbrev pub AreNamed : List ExtBlock → Type 0
AreNamed blocks = (k : ℕ) (block : ExtBlock) → slice_get blocks k ≡ Some block → IsName block.label

label_there : (blocks : List ExtBlock) (to : BlockId) → AreNamed blocks → to.0 < length blocks → IsSomeName (label_at blocks to)
label_there blocks to named lt = let r = there blocks to lt in subst IsSomeName (sym r.2) (named to.0 r.0 r.1)

-- a terminator of block b leads to blocks other than the entry
abbrev pub LeadsIn : List ExtBlock → ℕ → Term → Type 0
LeadsIn blocks b term = All (λ (c : ℕ). (0 < c) × (c < length blocks)) (targets_of b term)

-- what the instruction of a terminator asks for
pub record EndFacts (frame : ℕ) (blocks : List ExtBlock) (b : ℕ) (term : Term) (op : Op) : Type 0 where
  pub count : length (wants_of_end term) ≡ length (operand_spaces op)
  pub plain : op ≡ Call → ⊥
  pub result : result_space op ≡ None
  pub literal : HasItsNumber frame op (pos 0)
  pub label : AreNamed blocks → LeadsIn blocks b term → HasItsLabel op (label_of blocks term)

same_end : (frame : ℕ) (blocks : List ExtBlock) (b : ℕ) (term : Term) (own op : Op) → Some own ≡ Some op
    → EndFacts frame blocks b term own → EndFacts frame blocks b term op
same_end frame blocks b term own op q facts = let k : own ≡ op = cc q in subst (EndFacts frame blocks b term) k facts

own_facts : (frame : ℕ) (blocks : List ExtBlock) (b : ℕ) (term : Term) (op : Op) → transfer_of term ≡ Some op
    → EndFacts frame blocks b term op
own_facts frame blocks b Fall op q = absurd (cc q)
own_facts frame blocks b (Jump to) op q = same_end frame blocks b (Jump to) _ op q (record {
  count = refl;
  plain = λ z. absurd (cc z);
  result = refl;
  literal = refl;
  label = λ named l. label_there blocks to named (l 0 0 (omega arith)).1;
})
own_facts frame blocks b (Branch pred true to) op q = same_end frame blocks b (Branch pred true to) _ op q (record {
  count = refl;
  plain = λ z. absurd (cc z);
  result = refl;
  literal = refl;
  label = λ named l. label_there blocks to named (l 1 0 (omega arith)).1;
})
own_facts frame blocks b (Branch pred false to) op q = same_end frame blocks b (Branch pred false to) _ op q (record {
  count = refl;
  plain = λ z. absurd (cc z);
  result = refl;
  literal = refl;
  label = λ named l. label_there blocks to named (l 1 0 (omega arith)).1;
})
own_facts frame blocks b (Ret value) op q = same_end frame blocks b (Ret value) _ op q (record {
  count = refl;
  plain = λ z. absurd (cc z);
  result = refl;
  literal = refl;
  label = λ named l. refl;
})

-- and of what it is emitted as
pub end_facts : (frame : ℕ) (blocks : List ExtBlock) (b : ℕ) (term : Term) (op : Op) → transfer_of term ≡ Some (own_op op)
    → EndFacts frame blocks b term op
end_facts frame blocks b term op q = by op (own_facts frame blocks b term (own_op op) q)
  where
    by : (op : Op) → EndFacts frame blocks b term (own_op op) → EndFacts frame blocks b term op
    by JumpIfNew f =
        record { count = f.count; plain = λ z. absurd (cc z); result = refl; literal = f.literal; label = f.label }
    by JumpIfNotNew f =
        record { count = f.count; plain = λ z. absurd (cc z); result = refl; literal = f.literal; label = f.label }
    by _ f = f

-- an End of a block is how the block ends
pub only_end : (ops : List ExtOp) (op : ExtOp) (term : Term) → EndsBy ops → Member op ops → op.kind ≡ End term
    → (let x = ending_of ops in x.term ≡ term)
only_end ops op term (falls q none) m k =
    let z : true ≡ false = sym (ap is_end k) ∙ each_member (λ (x : ExtOp). is_end x.kind ≡ false) ops op none m in absurd (cc z)
only_end ops op term (ends x t kx mx q only) m k =
    let same = only op m (ap is_end k) in
    let z : End t ≡ End term = sym kx ∙ ap (λ (y : ExtOp). y.kind) (sym same) ∙ k in
    let z' : t ≡ term = cc z in ap (λ (y : Ending). y.term) q ∙ z'
