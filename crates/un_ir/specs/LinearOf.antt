-- The linear function of a function: every block defines its own temporaries, first one for each value at its start. The
-- temporaries are numbered over the whole function in the order in which they are defined.
use Rattle.std.specs.Prelude.{ℕ, ◌≡◌, ◌+◌, ◌*◌, ◌<◌, Bool, nat_eq, List, [], ◌∷◌, ◌++◌, Option, Some, None, unwrap_or, map, filter, length}
use Rattle.std.specs.Prelude.{slice_get, slice_index, slice_set, replicate, AllPairs, Contains, ◌↔◌}
use Rattle.std.specs.List.{range_with_len, list_any}
use Rattle.std.specs.Option.{option_to_list}
use Rattle.un_base.specs.declared.ids.NameId.{NameId}
use Rattle.un_isa.specs.Registers.{callee_saved, saved_registers}
use Rattle.un_isa.specs.declared.op.Op.{Op}
use Rattle.un_isa.specs.declared.op.Op.TheVariants.{Call}
use Rattle.un_isa.specs.declared.reg.Reg.{Reg}
use Rattle.un_isa.specs.declared.table.Table.{Table}
use Rattle.un_ir.specs.declared.function.Kind.{Kind}
use Rattle.un_ir.specs.declared.function.SrcOp.{SrcOp}
use Rattle.un_ir.specs.declared.function.Term.{Term}
use Rattle.un_ir.specs.declared.function.Term.TheVariants.{Fall, Jump, Branch, Ret}
use Rattle.un_ir.specs.declared.function.Block.{Block}
use Rattle.un_ir.specs.declared.function.Function.{Function}
use Rattle.un_ir.specs.declared.extended.ExtKind.TheVariants.{In, Out, Body, End}
use Rattle.un_ir.specs.declared.extended.Operand.{Operand}
use Rattle.un_ir.specs.declared.extended.ExtOp.{ExtOp}
use Rattle.un_ir.specs.declared.extended.ExtBlock.{ExtBlock}
use Rattle.un_ir.specs.declared.extended.Lssa.{Lssa}
use Rattle.un_ir.specs.Extended.{temp, at_register}
use Rattle.un_ir.specs.Live.{IsLive, targets_of}

-- ---- which names are live

-- the list of block b
abbrev pub live_at : List (List NameId) → ℕ → List NameId
live_at lists b = unwrap_or (slice_get lists b) []

-- for each block the names that are live at its start, each once, in the order of their first appearance
pub record AreLive (blocks : List Block) (lists : List (List NameId)) : Type 0 where
  pub whole : length lists ≡ length blocks
  pub rising : (b : ℕ) → AllPairs (λ (m n : NameId). m.0 < n.0) (live_at lists b)
  pub exact : (b : ℕ) (name : NameId) → Contains (live_at lists b) name ↔ IsLive blocks name b 0

abbrev pub is_among : List NameId → ℕ → Bool
is_among names n = list_any (λ (name : NameId). nat_eq name.0 n) names

abbrev pub name_of : ℕ → NameId
name_of n = record { 0 = n }

-- of so many names those that are live at the start of a block to which block b may lead
abbrev pub live_after : List (List NameId) → ℕ → ℕ → Term → List NameId
live_after lists names b term =
    map name_of (filter (λ (n : ℕ). list_any (λ (c : ℕ). is_among (live_at lists c) n) (targets_of b term)) (range_with_len 0 names))

-- ---- operations

-- an operand that reads one temporary
abbrev pub reads : ℕ → Option Reg → Operand
reads n home = record { alts = temp n ∷ []; home = home }

-- the temporary of each name, by the name's number, after an assignment that defines temporary n
abbrev pub assigned : List ℕ → Option NameId → ℕ → List ℕ
assigned current None n = current
assigned current (Some name) n = slice_set current name.0 n

-- the first temporary after it
abbrev pub past : Option NameId → ℕ → ℕ
past None n = n
past (Some name) n = n + 1

-- the temporaries of names at a block's start, where that of the first one is n
abbrev pub first_temps : List ℕ → ℕ → List NameId → List ℕ
first_temps current n [] = current
first_temps current n (name ∷ names) = first_temps (assigned current (Some name) n) (n + 1) names

abbrev pub name_operand : List ℕ → Option Reg → NameId → Operand
name_operand current home name = reads (slice_index current name.0) home

-- arguments in the registers of a table
abbrev pub argument_operands : List ℕ → List ℕ → List NameId → List Operand
argument_operands current registers [] = []
argument_operands current [] (name ∷ names) = name_operand current None name ∷ argument_operands current [] names
argument_operands current (r ∷ rs) (name ∷ names) = name_operand current (at_register r) name ∷ argument_operands current rs names

abbrev pub source_operands : Table → List ℕ → Op → List NameId → List Operand
source_operands t current Call names = argument_operands current t.args names
source_operands t current op names = map (name_operand current None) names

-- an operation of the source, which defines temporary n where it has a result
abbrev pub body_op : Table → List ℕ → ℕ → SrcOp → ExtOp
body_op t current n o = record {
  kind = Body o;
  operands = source_operands t current o.op o.srcs;
  results = map (λ (name : NameId). temp n) (option_to_list o.dst);
}

abbrev pub body_ops : Table → List ℕ → ℕ → List SrcOp → List ExtOp
body_ops t current n [] = []
body_ops t current n (o ∷ os) = body_op t current n o ∷ body_ops t (assigned current o.dst n) (past o.dst n) os

-- the temporary of each name after them, and the first temporary that they do not define
abbrev pub current_after : List ℕ → ℕ → List SrcOp → List ℕ
current_after current n [] = current
current_after current n (o ∷ os) = current_after (assigned current o.dst n) (past o.dst n) os

abbrev pub past_all : ℕ → List SrcOp → ℕ
past_all n [] = n
past_all n (o ∷ os) = past_all (past o.dst n) os

-- the values at a block's start, of which the first is temporary n
abbrev pub in_op : ℕ → ℕ → ExtOp
in_op n count = record { kind = In; operands = []; results = map temp (range_with_len n count) }

abbrev pub end_op : Term → List Operand → List ExtOp
end_op term operands = record { kind = End term; operands = operands; results = [] } ∷ []

-- the terminator, where there is one; a return reads the saved value of the link register
abbrev pub end_ops : List ℕ → ℕ → Term → List ExtOp
end_ops current link Fall = []
end_ops current link (Jump to) = end_op (Jump to) []
end_ops current link (Branch pred sense to) = end_op (Branch pred sense to) (name_operand current None pred ∷ [])
end_ops current link (Ret value) = end_op (Ret value) (reads link None ∷ [])

-- the saved values, of which the first is temporary n, in registers
abbrev pub kept_operands : ℕ → List ℕ → List Operand
kept_operands n [] = []
kept_operands n (r ∷ rs) = reads n (at_register r) ∷ kept_operands (n + 1) rs

-- what the block's end reads: the names live there and the saved values, of which the first is temporary `first`; or the
-- result and the callee-saved registers' values, each in its register
abbrev pub out_operands_of : Table → List ℕ → ℕ → List NameId → Term → List Operand
out_operands_of t current first live_out (Ret None) = kept_operands first (callee_saved t)
out_operands_of t current first live_out (Ret (Some name)) = name_operand current (at_register t.result) name ∷
    kept_operands first (callee_saved t)
out_operands_of t current first live_out term =
    map (name_operand current None) live_out ++ map (λ (n : ℕ). reads n None) (range_with_len first (length (saved_registers t)))

abbrev pub out_op : Table → List ℕ → ℕ → List NameId → Term → ExtOp
out_op t current first live_out term = record { kind = Out; operands = out_operands_of t current first live_out term; results = [] }

-- ---- blocks

-- the operations of a block whose first temporary is n; `names` counts the names of the function, and so many of them are
-- live at the block's start
abbrev pub linear_ops : Table → ℕ → ℕ → List NameId → List NameId → Block → List ExtOp
linear_ops t names n live_in live_out block =
    let saved = n + length live_in in
    let first = saved + length (saved_registers t) in
    let current = first_temps (replicate names 0) n live_in in
    let after = current_after current first block.ops in
    in_op n (length live_in + length (saved_registers t))
    ∷ (body_ops t current first block.ops ++ (end_ops after (saved + length (callee_saved t)) block.term ++
    out_op t after saved live_out block.term ∷ []))

abbrev pub block_of : Block → List NameId → List NameId → List ExtOp → ExtBlock
block_of block live_in live_out ops = record {
  freq = block.freq;
  label = block.label;
  live_in = live_in;
  live_out = live_out;
  ops = ops;
  horizon = 2 * length ops + 2;
}

abbrev pub linear_block : Table → ℕ → List (List NameId) → ℕ → ℕ → Block → ExtBlock
linear_block t names lists b n block =
    let live_in = live_at lists b in
    let live_out = live_after lists names b block.term in
    block_of block live_in live_out (linear_ops t names n live_in live_out block)

-- the first temporary that a block whose first one is n does not define
abbrev pub past_block : Table → List (List NameId) → ℕ → ℕ → Block → ℕ
past_block t lists b n block = past_all (n + length (live_at lists b) + length (saved_registers t)) block.ops

-- the blocks from block b on, whose first temporary is n
abbrev pub linear_blocks : Table → ℕ → List (List NameId) → ℕ → ℕ → List Block → List ExtBlock
linear_blocks t names lists b n [] = []
linear_blocks t names lists b n (block ∷ blocks) =
    linear_block t names lists b n block ∷ linear_blocks t names lists (b + 1) (past_block t lists b n block) blocks

abbrev pub kind_of_pair : List ℕ × Kind → Kind
kind_of_pair name = name.1

-- the linear function of a function whose names are live as the lists have it
abbrev pub lin_of : Function → List (List NameId) → Table → Lssa
lin_of f lists t = record {
  table = t;
  names = map kind_of_pair f.names;
  blocks = linear_blocks t (length f.names) lists 0 0 f.blocks;
}
