-- The function that a seed and a size generate. It has as many blocks as its size says, b0, b1 and so on, its parameters are %v0 to
-- %v3, and it has the names %v4 to %v7 and $p0 besides, which its first block assigns. What its blocks draw follows one another.
use Rattle.std.specs.Prelude.{ℕ, zero, suc, pos, ◌≡◌, ◌+◌, ◌-◌, ◌*◌, ◌-ℤ◌, nat_eq, nat_lt, List, [], ◌∷◌, ◌++◌, Some, None, codes}
use Rattle.std.specs.Prelude.{decimal, slice_index_or, if◌then◌else◌}
use Rattle.un_base.specs.declared.ids.NameId.{NameId}
use Rattle.un_isa.specs.declared.op.Op.{Op}
use Rattle.un_isa.specs.declared.op.Op.TheVariants.{Imm, Add, Sub, And, Xor, Mpyi, Addi, Load, CmpEq, CmpGt}
use Rattle.un_ir.specs.declared.function.Kind.TheVariants.{General, Pred}
use Rattle.un_ir.specs.declared.function.SrcOp.{SrcOp}
use Rattle.un_ir.specs.declared.function.Term.{Term}
use Rattle.un_ir.specs.declared.function.Term.TheVariants.{Fall, Branch, Ret}
use Rattle.un_ir.specs.declared.function.Block.{Block}
use Rattle.un_ir.specs.declared.function.Function.{Function}
use Rattle.un_ir.specs.WellFormed.{Names}
use Rattle.un_gen.specs.Draws.{after, drawn}

-- ---- names

abbrev pub all_names : Names
all_names =
    (codes "v0", General) ∷ (codes "v1", General) ∷ (codes "v2", General) ∷ (codes "v3", General) ∷ (codes "v4", General)
    ∷ (codes "v5", General) ∷ (codes "v6", General) ∷ (codes "v7", General) ∷ (codes "p0", Pred) ∷ []

-- the number of %vN
abbrev pub word : ℕ → NameId
word n = record { 0 = n }

-- the number of $p0
abbrev pub truth : NameId
truth = record { 0 = 8 }

abbrev pub all_params : List NameId
all_params = word 0 ∷ word 1 ∷ word 2 ∷ word 3 ∷ []

abbrev pub label_of : ℕ → List ℕ
label_of b = codes "b" ++ decimal b

-- ---- operations

-- the operations of which one is drawn
abbrev pub op_by : ℕ → Op
op_by k = slice_index_or (Add ∷ Sub ∷ And ∷ Xor ∷ Mpyi ∷ Addi ∷ Load ∷ CmpGt ∷ []) k CmpGt

-- the operation with the result %vD, where it is no comparison, and the operands %vA and %vC; or with c in a literal in place of %vC
abbrev pub op_of : Op → ℕ → ℕ → ℕ → SrcOp
op_of Addi d a c = record { op = Addi; dst = Some (word d); srcs = word a ∷ []; imm = pos c -ℤ pos 4; callee = None }
op_of Load d a c = record { op = Load; dst = Some (word d); srcs = word a ∷ []; imm = pos (4 * c); callee = None }
op_of CmpGt d a c = record { op = CmpGt; dst = Some truth; srcs = word a ∷ word c ∷ []; imm = pos 0; callee = None }
op_of op d a c = record { op = op; dst = Some (word d); srcs = word a ∷ word c ∷ []; imm = pos 0; callee = None }

-- an operation takes four draws below 8
abbrev pub op_after : ℕ → SrcOp
op_after s = op_of (op_by (drawn 0 8 s)) (drawn 1 8 s) (drawn 2 8 s) (drawn 3 8 s)

abbrev pub ops_after : ℕ → ℕ → List SrcOp
ops_after zero s = []
ops_after (suc count) s = op_after s ∷ ops_after count (after 4 s)

-- the state behind so many operations
abbrev pub behind_ops : ℕ → ℕ → ℕ
behind_ops zero s = s
behind_ops (suc count) s = behind_ops count (after 4 s)

-- `%vN = imm #N`
abbrev pub imm_of : ℕ → SrcOp
imm_of n = record { op = Imm; dst = Some (word n); srcs = []; imm = pos n; callee = None }

-- the operations of the first block: what no parameter is, is assigned there before it is read
abbrev pub entry_ops : List SrcOp
entry_ops =
    imm_of 4 ∷ imm_of 5 ∷ imm_of 6 ∷ imm_of 7
    ∷ record { op = CmpEq; dst = Some truth; srcs = word 0 ∷ word 1 ∷ []; imm = pos 0; callee = None } ∷ []

-- ---- blocks

-- a draw below 4 says how a block ends: at 0 it jumps where $p0 is true, at 1 where it is false, else it falls through
abbrev pub end_of : ℕ → ℕ → Term
end_of t to = if nat_lt t 2 then Branch truth (nat_eq t 0) (record { 0 = to }) else Fall

-- the end of a block behind which there are more, of so many blocks: where it jumps, one draw more says to which block but the first
abbrev pub end_after : ℕ → ℕ → Term
end_after size s = end_of (drawn 0 4 s) (drawn 1 (size - 1) s + 1)

abbrev pub behind_end : ℕ → ℕ
behind_end s = if nat_lt (drawn 0 4 s) 2 then after 2 s else after 1 s

-- the end of a block behind which there are so many more; the last one draws nothing and returns %v0
abbrev pub end_by : ℕ → ℕ → ℕ → Term
end_by size zero s = Ret (Some (word 0))
end_by size (suc more) s = end_after size s

abbrev pub behind_end_by : ℕ → ℕ → ℕ
behind_end_by zero s = s
behind_end_by (suc more) s = behind_end s

-- what a block has before its end, and the state behind that
pub record Body : Type 0 where
  pub freq : ℕ
  pub ops : List SrcOp
  pub state : ℕ

-- the first block draws nothing there
abbrev pub first_body : ℕ → Body
first_body s = record { freq = 1; ops = entry_ops; state = s }

-- the others draw a frequency from 1 to 1000, then four operations
abbrev pub drawn_body : ℕ → Body
drawn_body s = record { freq = drawn 0 1000 s + 1; ops = ops_after 4 (after 1 s); state = behind_ops 4 (after 1 s) }

-- block b of so many with this body, behind which there are so many more
abbrev pub block_of : ℕ → ℕ → ℕ → Body → Block
block_of size b more body = record { label = label_of b; freq = body.freq; ops = body.ops; term = end_by size more body.state }

-- the state behind a block with this body
abbrev pub behind : ℕ → Body → ℕ
behind more body = behind_end_by more body.state

-- so many blocks from block b on
abbrev pub blocks_after : ℕ → ℕ → ℕ → ℕ → List Block
blocks_after size b zero s = []
blocks_after size b (suc more) s = block_of size b more (drawn_body s) ∷ blocks_after size (b + 1) more (behind more (drawn_body s))

-- all blocks, by the seed
abbrev pub all_blocks : ℕ → ℕ → List Block
all_blocks seed size =
    block_of size 0 (size - 1) (first_body seed) ∷ blocks_after size 1 (size - 1) (behind (size - 1) (first_body seed))

-- the function is the one that the seed and the size generate
pub record IsGenerated (seed size : ℕ) (f : Function) : Type 0 where
  pub name : f.name ≡ codes "gen"
  pub params : f.params ≡ all_params
  pub names : f.names ≡ all_names
  pub blocks : f.blocks ≡ all_blocks seed size
