-- What every linear and every extended function keeps.
use Rattle.std.specs.Prelude.{ℕ, ◌≡◌, ◌≢◌, ◌+◌, ◌*◌, ◌<◌, ◌≤◌, ◌-◌, ◌^◌, ◌==◌, Bool, true, false, if◌then◌else◌, List, [], ◌∷◌, ◌++◌}
use Rattle.std.specs.Prelude.{Option, Some, None, unwrap_or, map, take, replicate, length, slice_get, sum_by, count_by, All, AllPairs}
use Rattle.std.specs.Prelude.{Contains}
use Rattle.std.specs.List.{flat_map, range_with_len, AllZip}
use Rattle.std.specs.Option.{option_to_list}
use Rattle.un_base.specs.declared.ids.NameId.{NameId}
use Rattle.un_base.specs.declared.ids.TempId.{TempId}
use Rattle.un_isa.specs.Facts.{is_source}
use Rattle.un_isa.specs.Operands.{HasLiteral}
use Rattle.un_isa.specs.Registers.{callee_saved, saved_registers}
use Rattle.un_isa.specs.declared.op.Op.{Op}
use Rattle.un_isa.specs.declared.op.Op.TheVariants.{Store, Call}
use Rattle.un_isa.specs.declared.reg.Reg.{Reg}
use Rattle.un_isa.specs.declared.table.Table.{Table}
use Rattle.un_ir.specs.declared.function.Kind.{Kind}
use Rattle.un_ir.specs.declared.function.Kind.TheVariants.{General, Pred}
use Rattle.un_ir.specs.declared.function.SrcOp.{SrcOp}
use Rattle.un_ir.specs.declared.function.Term.{Term}
use Rattle.un_ir.specs.declared.function.Term.TheVariants.{Fall, Jump, Branch, Ret}
use Rattle.un_ir.specs.declared.function.TheConstants.{BLOCKS, PARAMS, FREQUENCY}
use Rattle.un_ir.specs.declared.extended.NodeCopy.TheVariants.{D}
use Rattle.un_ir.specs.declared.extended.ExtKind.{ExtKind}
use Rattle.un_ir.specs.declared.extended.ExtKind.TheVariants.{In, Out, Body, End, Copy, Enter, Leave}
use Rattle.un_ir.specs.declared.extended.Operand.{Operand}
use Rattle.un_ir.specs.declared.extended.ExtOp.{ExtOp}
use Rattle.un_ir.specs.declared.extended.ExtBlock.{ExtBlock}
use Rattle.un_ir.specs.declared.extended.Ext.{Ext}
use Rattle.un_ir.specs.declared.extended.Lssa.{Lssa}
use Rattle.un_ir.specs.Linear.{first_of, ending_of, is_in, is_out}
use Rattle.un_ir.specs.Live.{targets_of}
use Rattle.un_ir.specs.WellFormed.{IsName, NamesItsCallee, operand_kinds, result_kind}

abbrev pub temp : ℕ → TempId
temp n = record { 0 = n }

abbrev pub at_register : ℕ → Option Reg
at_register r = Some (record { 0 = r })

-- ---- the values that temporaries carry, and their kinds

-- the first alternative of the first operand
abbrev pub first_read : List Operand → TempId
first_read [] = temp 0
first_read (x ∷ xs) = temp (first_of x.alts)

-- the values that the results of an operation carry: themselves, but a copy's is the one that it reads
abbrev pub carried_by : ExtKind → ExtOp → List TempId
carried_by (Copy node) op = map (λ (y : TempId). first_read op.operands) op.results
carried_by _ op = op.results

-- the same of all temporaries of a function, by their numbers
abbrev pub all_carried : List ExtBlock → List TempId
all_carried blocks = flat_map (λ (block : ExtBlock). flat_map (λ (op : ExtOp). carried_by op.kind op) block.ops) blocks

-- the value that a temporary carries
abbrev pub carried : List ExtBlock → TempId → TempId
carried blocks x = unwrap_or (slice_get (all_carried blocks) x.0) x

abbrev pub name_kind : List Kind → NameId → Kind
name_kind names name = unwrap_or (slice_get names name.0) General

-- the kinds of so many values at a block's start: those of its names, and words
abbrev pub in_kinds : List Kind → List NameId → ℕ → List Kind
in_kinds names live_in count = map (name_kind names) live_in ++ replicate (count - length live_in) General

-- the kinds of the values that an operation defines; a copy defines none, and General stands in its place
abbrev pub defined_kinds : List Kind → ExtBlock → ExtKind → ExtOp → List Kind
defined_kinds names block In op = in_kinds names block.live_in (length op.results)
defined_kinds names block (Body o) op = map (λ (y : TempId). result_kind o.op) op.results
defined_kinds names block _ op = map (λ (y : TempId). General) op.results

abbrev pub all_kinds : List Kind → List ExtBlock → List Kind
all_kinds names blocks = flat_map (λ (block : ExtBlock). flat_map (λ (op : ExtOp). defined_kinds names block op.kind op) block.ops) blocks

-- the kind of a temporary, which is that of the value that it carries
abbrev pub kind_of_temp : List Kind → List ExtBlock → TempId → Option Kind
kind_of_temp names blocks x = let v = carried blocks x in slice_get (all_kinds names blocks) v.0

-- ---- what an operation reads and defines

-- a kind and a home that an operand is to have
pub record Want : Type 0 where
  pub kind : Kind
  pub home : Option Reg

abbrev pub anywhere : Kind → Want
anywhere kind = record { kind = kind; home = None }

-- a word in register r
abbrev pub word_in : ℕ → Want
word_in r = record { kind = General; home = at_register r }

-- a call's arguments are in their registers
abbrev pub wants_of_op : Table → SrcOp → Op → List Want
wants_of_op t o Call = map word_in (take (length o.srcs) t.args)
wants_of_op t o op = map anywhere (operand_kinds op)

abbrev pub wants_of_end : Term → List Want
wants_of_end Fall = []
wants_of_end (Jump to) = []
wants_of_end (Branch pred sense to) = anywhere Pred ∷ []
wants_of_end (Ret value) = anywhere General ∷ []

-- a block that returns has the result and the callee-saved registers' values in their registers
abbrev pub wants_of_out : Table → List Kind → List NameId → Term → List Want
wants_of_out t names live_out (Ret None) = map word_in (callee_saved t)
wants_of_out t names live_out (Ret (Some name)) = word_in t.result ∷ map word_in (callee_saved t)
wants_of_out t names live_out term =
    map (λ (name : NameId). anywhere (name_kind names name)) live_out ++ map (λ (r : ℕ). anywhere General) (saved_registers t)

abbrev pub wants_of : Table → List Kind → List ExtBlock → ExtBlock → ExtKind → ExtOp → List Want
wants_of t names blocks block Out op = let ending = ending_of block.ops in wants_of_out t names block.live_out ending.term
wants_of t names blocks block (Body o) op = wants_of_op t o o.op
wants_of t names blocks block (End term) op = wants_of_end term
wants_of t names blocks block (Copy node) op = anywhere (unwrap_or (kind_of_temp names blocks (first_read op.operands)) General) ∷ []
wants_of t names blocks block _ op = []

-- how many temporaries an operation defines
abbrev pub result_count : Table → ExtBlock → ExtKind → ℕ
result_count t block In = length block.live_in + length (saved_registers t)
result_count t block (Body o) = length (option_to_list o.dst)
result_count t block (Copy node) = 1
result_count t block _ = 0

-- An operand of an operation before which the block has defined these temporaries: it has an alternative; its alternatives
-- rise, are defined before, and carry one value, which is the first of them.
pub record IsGoodOperand (names : List Kind) (blocks : List ExtBlock) (before : List TempId) (x : Operand) (want : Want) : Type 0 where
  pub chooses : 0 < length x.alts
  pub rising : AllPairs (λ (y z : TempId). y.0 < z.0) x.alts
  pub known : All (Contains before) x.alts
  pub one_value : All (λ (y : TempId). carried blocks y ≡ temp (first_of x.alts)) x.alts
  pub kind : kind_of_temp names blocks (temp (first_of x.alts)) ≡ Some want.kind
  pub home : x.home ≡ want.home

-- a Store has no result, a Call may have one, and every other operation has one
abbrev pub HasItsResult : Op → Option NameId → Type 0
HasItsResult Store dst = dst ≡ None
HasItsResult Call dst = Unit {0}
HasItsResult op None = ⊥
HasItsResult op (Some name) = Unit {0}

-- an operation that a text may have
pub record IsSourceOp (o : SrcOp) : Type 0 where
  pub op : is_source o.op ≡ true
  pub literal : HasLiteral o.op o.imm
  pub callee : NamesItsCallee o.op o.callee
  pub result : HasItsResult o.op o.dst

-- the first copy of a value reads the value alone
abbrev pub IsGoodKind : ExtKind → ExtOp → Type 0
IsGoodKind (Body o) op = IsSourceOp o
IsGoodKind (Copy D) op = All (λ (x : Operand). length x.alts ≡ 1) op.operands
IsGoodKind _ op = Unit {0}

pub record IsGoodExtOp (t : Table) (names : List Kind) (blocks : List ExtBlock) (block : ExtBlock) (before : List TempId)
    (op : ExtOp) : Type 0 where
  pub kind : IsGoodKind op.kind op
  pub operands : AllZip (IsGoodOperand names blocks before) op.operands (wants_of t names blocks block op.kind op)
  pub results : length op.results ≡ result_count t block op.kind

-- ---- blocks

abbrev pub is_copy : ExtKind → Bool
is_copy (Copy node) = true
is_copy _ = false

abbrev pub is_end : ExtKind → Bool
is_end (End term) = true
is_end _ = false

abbrev pub is_enter : ExtKind → Bool
is_enter Enter = true
is_enter _ = false

abbrev pub is_leave : ExtKind → Bool
is_leave Leave = true
is_leave _ = false

-- neither at a block's start nor at its end
abbrev pub is_inner : ExtKind → Bool
is_inner In = false
is_inner Out = false
is_inner (End term) = false
is_inner _ = true

abbrev pub AllAre : (ExtKind → Bool) → List ExtOp → Type 0
AllAre test ops = All (λ (op : ExtOp). test op.kind ≡ true) ops

-- the parts of a block: `In`, the operations, the terminator where there is one, the copies of what `Out` reads, `Out`
pub record Parts : Type 0 where
  pub start : ExtOp
  pub inner : List ExtOp
  pub ending : Option ExtOp
  pub late : List ExtOp
  pub out : ExtOp

pub record IsMadeOf (ops : List ExtOp) (p : Parts) : Type 0 where
  pub whole : ops ≡ p.start ∷ (p.inner ++ (option_to_list p.ending ++ (p.late ++ p.out ∷ [])))
  pub start : is_in p.start.kind ≡ true
  pub inner : AllAre is_inner p.inner
  pub ending : AllAre is_end (option_to_list p.ending)
  pub late : AllAre is_copy p.late
  pub out : is_out p.out.kind ≡ true

-- the temporaries that operations define, in order
abbrev pub results_of : List ExtOp → List TempId
results_of ops = flat_map (λ (op : ExtOp). op.results) ops

pub record IsGoodExtBlock (t : Table) (names : List Kind) (blocks : List ExtBlock) (block : ExtBlock) : Type 0 where
  pub label : IsName block.label
  pub freq : (1 ≤ block.freq) × (block.freq ≤ FREQUENCY)
  pub live_in : All (λ (name : NameId). name.0 < length names) block.live_in
  pub live_out : All (λ (name : NameId). name.0 < length names) block.live_out
  pub rising : AllPairs (λ (m n : NameId). m.0 < n.0) block.live_in
  pub parts : (p : Parts) × IsMadeOf block.ops p
  pub ops : (k : ℕ) (op : ExtOp) → slice_get block.ops k ≡ Some op → IsGoodExtOp t names blocks block (results_of (take k block.ops)) op
  pub horizon : block.horizon ≡ 2 * length block.ops + 2

-- ---- functions

-- the operations with their operands and results, all together
abbrev pub size_of : List ExtBlock → ℕ
size_of blocks = sum_by (λ (block : ExtBlock). sum_by (λ (op : ExtOp). 1 + length op.operands + length op.results) block.ops) blocks

abbrev pub all_results : List ExtBlock → List TempId
all_results blocks = flat_map (λ (block : ExtBlock). results_of block.ops) blocks

-- the end of block b leads to blocks of the function other than the entry
abbrev pub LeadsOn : List ExtBlock → ℕ → ExtBlock → Type 0
LeadsOn blocks b block = let ending = ending_of block.ops in All (λ (c : ℕ). (0 < c) × (c < length blocks)) (targets_of b ending.term)

-- each name that is live at the start of a block is live at the end of each block that leads there
abbrev pub HandsNamesOver : List ExtBlock → Type 0
HandsNamesOver blocks = (k l : ℕ) (a b : ExtBlock) → slice_get blocks k ≡ Some a → slice_get blocks l ≡ Some b
    → (let ending = ending_of a.ops in Contains (targets_of k ending.term) l) → All (Contains a.live_out) b.live_in

-- the blocks of a linear or an extended function, under a limit of its size
pub record AreGoodBlocks (t : Table) (names : List Kind) (blocks : List ExtBlock) (limit : ℕ) : Type 0 where
  pub entry : 0 < length blocks
  pub few : length blocks ≤ BLOCKS
  pub each : All (IsGoodExtBlock t names blocks) blocks
  -- the temporaries are numbered in the order in which they are defined
  pub numbered : all_results blocks ≡ map temp (range_with_len 0 (length (all_results blocks)))
  pub leads : (b : ℕ) (block : ExtBlock) → slice_get blocks b ≡ Some block → LeadsOn blocks b block
  pub hands_over : HandsNamesOver blocks
  pub distinct_labels : AllPairs (λ (a b : ExtBlock). a.label ≢ b.label) blocks
  -- only parameters are live at the entry's start
  pub params : (entry : ExtBlock) → slice_get blocks 0 ≡ Some entry
      → All (λ (name : NameId). (name.0 < PARAMS) × (name_kind names name ≡ General)) entry.live_in
  pub small : size_of blocks < limit

abbrev pub is_linear_kind : ExtKind → Bool
is_linear_kind (Copy node) = false
is_linear_kind Enter = false
is_linear_kind Leave = false
is_linear_kind _ = true

-- no copies, Enter and Leave, and one alternative an operand
pub record IsPlainOp (op : ExtOp) : Type 0 where
  pub kind : is_linear_kind op.kind ≡ true
  pub alone : All (λ (x : Operand). length x.alts ≡ 1) op.operands

pub record IsLinear (l : Lssa) : Type 0 where
  pub good : AreGoodBlocks l.table l.names l.blocks (2 ^ 20)
  pub plain : All (λ (block : ExtBlock). All IsPlainOp block.ops) l.blocks

abbrev pub is_return : Term → Bool
is_return (Ret value) = true
is_return _ = false

abbrev pub returns : ExtBlock → Bool
returns block = let ending = ending_of block.ops in is_return ending.term

abbrev pub one_if : Bool → ℕ
one_if b = if b then 1 else 0

-- one Enter in the entry, one Leave in each block that returns
pub record FramesOnce (blocks : List ExtBlock) : Type 0 where
  pub enters : (b : ℕ) (block : ExtBlock) → slice_get blocks b ≡ Some block
      → count_by (λ (op : ExtOp). is_enter op.kind) block.ops ≡ one_if (b == 0)
  pub leaves : All (λ (block : ExtBlock). count_by (λ (op : ExtOp). is_leave op.kind) block.ops ≡ one_if (returns block)) blocks

pub record IsExtended (e : Ext) : Type 0 where
  pub good : AreGoodBlocks e.table e.names e.blocks (2 ^ 24)
  pub frames : FramesOnce e.blocks
