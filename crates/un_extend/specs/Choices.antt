-- Which copies an extended function has, and what its operations may read: all that carries the value and is defined by then.
use Rattle.std.specs.Prelude.{ℕ, ◌≡◌, ◌+◌, ◌-◌, ◌==◌, ◌||◌, not, Bool, true, false, if◌then◌else◌, List, [], ◌∷◌, ◌++◌, Option, Some, None}
use Rattle.std.specs.Prelude.{map, drop, take, length, slice_get}
use Rattle.std.specs.List.{filter, flat_map, list_any}
use Rattle.un_base.specs.declared.ids.TempId.{TempId}
use Rattle.un_ir.specs.declared.function.Kind.{Kind}
use Rattle.un_ir.specs.declared.function.Kind.TheVariants.{Pred}
use Rattle.un_ir.specs.declared.extended.NodeCopy.{NodeCopy}
use Rattle.un_ir.specs.declared.extended.NodeCopy.TheVariants.{D, D2, U, U2}
use Rattle.un_ir.specs.declared.extended.ExtKind.{ExtKind}
use Rattle.un_ir.specs.declared.extended.ExtKind.TheVariants.{In, End, Copy, Enter, Leave}
use Rattle.un_ir.specs.declared.extended.Operand.{Operand}
use Rattle.un_ir.specs.declared.extended.ExtOp.{ExtOp}
use Rattle.un_ir.specs.declared.extended.ExtBlock.{ExtBlock}
use Rattle.un_ir.specs.declared.extended.Ext.{Ext}
use Rattle.un_ir.specs.declared.extended.Lssa.{Lssa}
use Rattle.un_ir.specs.Extended.{temp, first_read, carried, is_return, kind_of_temp, results_of, returns}
use Rattle.un_ir.specs.Kinds.{is_mandatory}
use Rattle.un_ir.specs.Linear.{first_of, in_temps}

-- ---- which copies there are

-- a value that a block takes over of a callee-saved register or of the link register: those behind the values of its names
abbrev pub is_saved : ExtBlock → TempId → Bool
is_saved block y = list_any (λ (z : TempId). z.0 == y.0) (drop (length block.live_in) (in_temps block.ops))

-- a saved value has copies only in block 0, which is the entry, and in blocks that return
abbrev pub has_copies : ℕ → ExtBlock → TempId → Bool
has_copies b block y = (b == 0 || returns block) || not (is_saved block y)

-- one copy where there are any, and a second where the value is a predicate
abbrev pub copies_by : NodeCopy → NodeCopy → Option Kind → Bool → List NodeCopy
copies_by first second kind false = []
copies_by first second (Some Pred) true = first ∷ second ∷ []
copies_by first second _ true = first ∷ []

abbrev pub copies_of : NodeCopy → NodeCopy → Ext → ℕ → ExtBlock → TempId → List NodeCopy
copies_of first second e b block y = copies_by first second (kind_of_temp e.names e.blocks y) (has_copies b block y)

-- the copies of a value in block b, and those of an operand there, which reads the value that is its first alternative
abbrev pub value_copies : Ext → ℕ → ExtBlock → TempId → List NodeCopy
value_copies e b block y = copies_of D D2 e b block y

abbrev pub operand_copies : Ext → ℕ → ExtBlock → Operand → List NodeCopy
operand_copies e b block x = copies_of U U2 e b block (temp (first_of x.alts))

-- the kind of an operation and, where it is a copy, the value that it copies
pub record Shape : Type 0 where
  pub kind : ExtKind
  pub copies : Option TempId

abbrev pub copied_by : ExtKind → ExtOp → Option TempId
copied_by (Copy node) op = Some (first_read op.operands)
copied_by _ op = None

abbrev pub shape : ExtOp → Shape
shape op = record { kind = op.kind; copies = copied_by op.kind op }

abbrev pub shapes_in : List ExtOp → List Shape
shapes_in ops = map shape ops

abbrev pub no_copy : ExtKind → Shape
no_copy kind = record { kind = kind; copies = None }

abbrev pub copy_of : TempId → NodeCopy → Shape
copy_of y node = record { kind = Copy node; copies = Some y }

-- Leave stands before a return with its copies, Enter behind the values of the entry with theirs
abbrev pub leaves_by : ExtKind → List Shape
leaves_by (End term) = if is_return term then no_copy Leave ∷ [] else []
leaves_by _ = []

abbrev pub enters_by : Bool → ExtKind → List Shape
enters_by true In = no_copy Enter ∷ []
enters_by _ _ = []

-- the copies of a value, and those of an operand, which copy the value that it reads
abbrev pub value_shapes : Ext → ℕ → ExtBlock → TempId → List Shape
value_shapes e b block y = map (copy_of y) (value_copies e b block y)

abbrev pub operand_shapes : Ext → ℕ → ExtBlock → Operand → List Shape
operand_shapes e b block x = map (copy_of (temp (first_of x.alts))) (operand_copies e b block x)

-- a mandatory operation with its copies: those of its operands before it, in their order, those of its results behind it
abbrev pub with_its_copies : Ext → ℕ → ExtBlock → ExtOp → List Shape
with_its_copies e b block op =
    leaves_by op.kind ++ (flat_map (operand_shapes e b block) op.operands
    ++ no_copy op.kind ∷ (flat_map (value_shapes e b block) op.results ++ enters_by (b == 0) op.kind))

-- ---- what an operand may choose

-- the temporaries that the block defines before the copies of these operands, which stand right before its operation k
abbrev pub defined_before : Ext → ℕ → ExtBlock → ℕ → List Operand → List TempId
defined_before e b block k later = results_of (take (k - length (flat_map (operand_copies e b block) later)) block.ops)

-- those of these temporaries that carry value v, in their order
abbrev pub carriers : Ext → ℕ → List TempId → List TempId
carriers e v ys = filter (λ (y : TempId). (let value = carried e.blocks y in value.0) == v) ys

-- operand j of operation k may choose all that carries its value and is defined before the copies of the operands behind it
abbrev pub MayChooseAll : Ext → ℕ → ExtBlock → ℕ → ExtOp → Type 0
MayChooseAll e b block k op = (j : ℕ) (x : Operand) → slice_get op.operands j ≡ Some x
    → x.alts ≡ carriers e (first_of x.alts) (defined_before e b block k (drop (j + 1) op.operands))

-- ---- what a copy may read

-- a copy u or u2 of an operand
abbrev pub is_use : ExtKind → Bool
is_use (Copy U) = true
is_use (Copy U2) = true
is_use _ = false

abbrev pub but_uses : List ExtOp → List ExtOp
but_uses ops = filter (λ (op : ExtOp). not (is_use op.kind)) ops

-- what the last of these operations defines, for u2, which stands right behind its u
abbrev pub read_besides : NodeCopy → List ExtOp → List TempId
read_besides U2 before = results_of (drop (length before - 1) before)
read_besides _ before = []

-- a copy may read the value and the value's own copies, where these operations stand before it, and u2 its u besides
abbrev pub MayReadOwn : Ext → List ExtOp → NodeCopy → Operand → Type 0
MayReadOwn e before node x = x.alts ≡ carriers e (first_of x.alts) (results_of (but_uses before)) ++ read_besides node before

-- ---- blocks and functions

abbrev pub kinds_in : List ExtOp → List ExtKind
kinds_in ops = map (λ (op : ExtOp). op.kind) ops

abbrev pub mandatory_in : List ExtOp → List ExtOp
mandatory_in ops = filter (λ (op : ExtOp). is_mandatory op.kind) ops

pub record IsWholeBlock (e : Ext) (b : ℕ) (block : ExtBlock) : Type 0 where
  -- the block is its mandatory operations with their copies
  pub copies : shapes_in block.ops ≡ flat_map (with_its_copies e b block) (mandatory_in block.ops)
  -- and they may choose all that they could, as copies may read all that is their own
  pub choices : (k : ℕ) (op : ExtOp) → slice_get block.ops k ≡ Some op → is_mandatory op.kind ≡ true → MayChooseAll e b block k op
  pub reads : (k : ℕ) (op : ExtOp) (node : NodeCopy) (x : Operand) → slice_get block.ops k ≡ Some op → op.kind ≡ Copy node
      → slice_get op.operands 0 ≡ Some x → MayReadOwn e (take k block.ops) node x

abbrev pub HasAllChoices : Ext → Type 0
HasAllChoices e = (b : ℕ) (block : ExtBlock) → slice_get e.blocks b ≡ Some block → IsWholeBlock e b block

-- the mandatory operations of the extended function are the operations of the linear one, block by block
abbrev pub KeepsOperations : Lssa → Ext → Type 0
KeepsOperations l e = map (λ (block : ExtBlock). kinds_in (mandatory_in block.ops)) e.blocks
    ≡ map (λ (block : ExtBlock). kinds_in block.ops) l.blocks
