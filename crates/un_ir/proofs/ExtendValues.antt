-- Extended functions of a few functions: how many variables their models have, as solutions have them that were made without this code.
use Rattle.std.proofs.Common.{◌≡◌, ℕ, ◌+◌, ℤ, pos, true, false, List, [], ◌∷◌, Option, Some, None, length, refl}
use Rattle.std.specs.List.{sum_by}
use Rattle.un_base.specs.declared.ids.BlockId.{BlockId}
use Rattle.un_base.specs.declared.ids.NameId.{NameId}
use Rattle.un_isa.specs.Hexagon.{HEXAGON}
use Rattle.un_isa.specs.Registers.{callee_saved}
use Rattle.un_isa.specs.declared.op.Op.{Op}
use Rattle.un_isa.specs.declared.op.Op.TheVariants.{Add, Addi, Andi, Call, CmpEq, Imm, Load, Lsr, Ori, Store, Sub}
use Rattle.un_ir.specs.declared.function.Kind.{Kind}
use Rattle.un_ir.specs.declared.function.Kind.TheVariants.{General, Pred}
use Rattle.un_ir.specs.declared.function.SrcOp.{SrcOp}
use Rattle.un_ir.specs.declared.function.Term.{Term}
use Rattle.un_ir.specs.declared.function.Term.TheVariants.{Fall, Jump, Branch, Ret}
use Rattle.un_ir.specs.declared.function.Block.{Block}
use Rattle.un_ir.specs.declared.extended.NodeCopy.TheVariants.{D}
use Rattle.un_ir.specs.declared.extended.ExtKind.{ExtKind}
use Rattle.un_ir.specs.declared.extended.ExtKind.TheVariants.{In, Out, Copy, Enter, Leave}
use Rattle.un_ir.specs.declared.extended.ExtOp.{ExtOp}
use Rattle.un_ir.specs.declared.extended.ExtBlock.{ExtBlock}
use Rattle.un_ir.specs.declared.extended.Ext.{Ext}
use Rattle.un_ir.specs.declared.extended.Lssa.{Lssa}
use Rattle.un_ir.specs.LinearOf.{linear_blocks}
use Rattle.un_ir.specs.ExtendOf.{extend_of}

-- the variables of an operation: its instruction, its cycle, its choices and the registers of its results
abbrev op_variables : ExtKind → ExtOp → ℕ
op_variables In op = length op.results
op_variables Out op = length op.operands
op_variables (Copy D) op = 3
op_variables (Copy node) op = 4
op_variables Enter op = 2
op_variables Leave op = 2
op_variables _ op = 1 + length op.operands + length op.results

-- those of a function, with the end of each block and the frame flag
abbrev variables : Ext → ℕ
variables e = sum_by (λ (block : ExtBlock). sum_by (λ (op : ExtOp). op_variables op.kind op) block.ops + 1) e.blocks + 1

abbrev name : ℕ → NameId
name n = record { 0 = n }

abbrev block_number : ℕ → BlockId
block_number n = record { 0 = n }

abbrev op : Op → Option NameId → List NameId → ℤ → SrcOp
op o dst srcs imm = record { op = o; dst = dst; srcs = srcs; imm = imm; callee = None }

abbrev block : ℕ → List SrcOp → Term → Block
block freq ops term = record { label = []; freq = freq; ops = ops; term = term }

abbrev linear : List Kind → List (List NameId) → List Block → Lssa
linear kinds lists blocks = record { table = HEXAGON; names = kinds; blocks = linear_blocks HEXAGON (length kinds) lists 0 0 blocks }

abbrev smallest_ops0 : List SrcOp
smallest_ops0 =
    []

abbrev smallest : Lssa
smallest = linear (General ∷ []) ([] ∷ [])
    (block 1000 smallest_ops0 (Ret None)
    ∷ [])

smallest_variables : variables (extend_of smallest) ≡ 124
unfolding callee_saved
smallest_variables = refl

abbrev branch_and_call_ops0 : List SrcOp
branch_and_call_ops0 =
    (op Imm (Some (name 1)) [] (pos 52)
    ∷ op CmpEq (Some (name 2)) (name 0 ∷ name 1 ∷ []) (pos 0)
    ∷ op CmpEq (Some (name 3)) (name 0 ∷ name 1 ∷ []) (pos 0)
    ∷ op Call (Some (name 0)) (name 0 ∷ name 0 ∷ name 0 ∷ []) (pos 0)
    ∷ op Sub (Some (name 0)) (name 0 ∷ name 0 ∷ []) (pos 0)
    ∷ op Load (Some (name 0)) (name 0 ∷ []) (pos 20)
    ∷ [])

abbrev branch_and_call_ops1 : List SrcOp
branch_and_call_ops1 =
    (op Ori (Some (name 0)) (name 0 ∷ []) (pos 37)
    ∷ op Store (None) (name 0 ∷ name 0 ∷ []) (pos 16)
    ∷ op Andi (Some (name 0)) (name 0 ∷ []) (pos 47)
    ∷ [])

abbrev branch_and_call : Lssa
branch_and_call = linear (General ∷ General ∷ Pred ∷ Pred ∷ []) ((name 0 ∷ []) ∷ (name 0 ∷ []) ∷ [])
    (block 1000 branch_and_call_ops0 (Branch (name 3) true (block_number 1))
    ∷ block 10 branch_and_call_ops1 (Jump (block_number 1))
    ∷ [])

branch_and_call_variables : variables (extend_of branch_and_call) ≡ 296
unfolding callee_saved
branch_and_call_variables = refl

abbrev fall_or_jump_ops0 : List SrcOp
fall_or_jump_ops0 =
    (op CmpEq (Some (name 4)) (name 3 ∷ name 3 ∷ []) (pos 0)
    ∷ op Imm (Some (name 1)) [] (pos 9)
    ∷ [])

abbrev fall_or_jump_ops1 : List SrcOp
fall_or_jump_ops1 =
    []

abbrev fall_or_jump_ops2 : List SrcOp
fall_or_jump_ops2 =
    []

abbrev fall_or_jump : Lssa
fall_or_jump = linear (General ∷ General ∷ General ∷ General ∷ Pred ∷ []) ((name 3 ∷ []) ∷ (name 3 ∷ []) ∷ (name 3 ∷ []) ∷ [])
    (block 1000 fall_or_jump_ops0 (Branch (name 4) true (block_number 1))
    ∷ block 10 fall_or_jump_ops1 (Fall)
    ∷ block 2 fall_or_jump_ops2 (Ret (Some (name 3)))
    ∷ [])

fall_or_jump_variables : variables (extend_of fall_or_jump) ≡ 330
unfolding callee_saved
fall_or_jump_variables = refl

abbrev two_branches_ops0 : List SrcOp
two_branches_ops0 =
    (op Imm (Some (name 1)) [] (pos 4)
    ∷ op Imm (Some (name 2)) [] (pos 4)
    ∷ op Imm (Some (name 3)) [] (pos 24)
    ∷ op CmpEq (Some (name 4)) (name 0 ∷ name 0 ∷ []) (pos 0)
    ∷ op Add (Some (name 0)) (name 0 ∷ name 0 ∷ []) (pos 0)
    ∷ op Ori (Some (name 0)) (name 0 ∷ []) (pos 19)
    ∷ op Addi (Some (name 0)) (name 0 ∷ []) (pos 37)
    ∷ [])

abbrev two_branches_ops1 : List SrcOp
two_branches_ops1 =
    []

abbrev two_branches_ops2 : List SrcOp
two_branches_ops2 =
    (op Lsr (Some (name 0)) (name 0 ∷ []) (pos 18)
    ∷ op Load (Some (name 0)) (name 0 ∷ []) (pos 16)
    ∷ op Load (Some (name 0)) (name 0 ∷ []) (pos 64)
    ∷ [])

abbrev two_branches : Lssa
two_branches = linear (General ∷ General ∷ General ∷ General ∷ Pred ∷ []) ((name 0 ∷ []) ∷ (name 0 ∷ name 4 ∷ []) ∷ (name 0 ∷ []) ∷ [])
    (block 1 two_branches_ops0 (Branch (name 4) true (block_number 1))
    ∷ block 2 two_branches_ops1 (Branch (name 4) false (block_number 2))
    ∷ block 1000 two_branches_ops2 (Ret (Some (name 0)))
    ∷ [])

two_branches_variables : variables (extend_of two_branches) ≡ 432
unfolding callee_saved
two_branches_variables = refl
