-- The extended function of a linear function. Every value has a copy d, and one that is a predicate a second copy d2; every
-- operand has a copy u, and one that reads a predicate a second copy u2. An operand may choose its value, the value's own
-- copies, and the copies of the operands up to itself that read the value. Saved values, and operands that read them, have
-- copies only in the entry and in blocks that return. The temporaries are numbered anew, in the order of definition.
use Rattle.std.specs.Prelude.{ℕ, ◌+◌, ◌-◌, ◌*◌, ◌||◌, Bool, true, false, if◌then◌else◌, List, [], ◌∷◌, ◌++◌, Option, Some}
use Rattle.std.specs.Prelude.{None, unwrap_or, map, length, slice_get, slice_set, replicate}
use Rattle.std.specs.List.{range_with_len}
use Rattle.un_base.specs.declared.ids.NameId.{NameId}
use Rattle.un_base.specs.declared.ids.TempId.{TempId}
use Rattle.un_ir.specs.declared.function.Kind.{Kind}
use Rattle.un_ir.specs.declared.function.Kind.TheVariants.{General, Pred}
use Rattle.un_ir.specs.declared.extended.NodeCopy.{NodeCopy}
use Rattle.un_ir.specs.declared.extended.NodeCopy.TheVariants.{D, D2, U, U2}
use Rattle.un_ir.specs.declared.extended.ExtKind.{ExtKind}
use Rattle.un_ir.specs.declared.extended.ExtKind.TheVariants.{In, Body, End, Copy, Enter, Leave}
use Rattle.un_ir.specs.declared.extended.Operand.{Operand}
use Rattle.un_ir.specs.declared.extended.ExtOp.{ExtOp}
use Rattle.un_ir.specs.declared.extended.ExtBlock.{ExtBlock}
use Rattle.un_ir.specs.declared.extended.Ext.{Ext}
use Rattle.un_ir.specs.declared.extended.Lssa.{Lssa}
use Rattle.un_ir.specs.declared.extended.Sort.{Sort}
use Rattle.un_ir.specs.declared.extended.Value.{Value}
use Rattle.un_ir.specs.declared.extended.Growth.{Growth}
use Rattle.un_ir.specs.Extended.{temp, is_return, returns}
use Rattle.un_ir.specs.Linear.{first_of}
use Rattle.un_ir.specs.WellFormed.{result_kind}

-- ---- copies

-- a copy that may read these temporaries, which defines temporary n
abbrev pub copy_op : NodeCopy → List TempId → ℕ → ExtOp
copy_op node alts n = record { kind = Copy node; operands = record { alts = alts; home = None } ∷ []; results = temp n ∷ [] }

abbrev pub frame_op : ExtKind → ExtOp
frame_op kind = record { kind = kind; operands = []; results = [] }

abbrev pub with_op : Growth → ExtOp → Growth
with_op g op = record g { ops = g.ops ++ op ∷ [] }

-- one more copy that may read these temporaries
abbrev pub with_copy : NodeCopy → List TempId → Growth → Growth
with_copy node alts g = record { ops = g.ops ++ copy_op node alts g.next ∷ []; values = g.values; next = g.next + 1 }

-- how many copies there are of a value, and of an operand that reads it
abbrev pub copy_count_by : Kind → Bool → ℕ
copy_count_by kind false = 0
copy_count_by General true = 1
copy_count_by Pred true = 2

abbrev pub copy_count : Sort → ℕ
copy_count sort = copy_count_by sort.kind sort.copied

-- the copies of a value of this sort, or of an operand that reads it, where there are any: the first may read these
-- temporaries, and the second the first besides
abbrev pub with_copies : NodeCopy → NodeCopy → Kind → Bool → List TempId → Growth → Growth
with_copies first second kind false alts g = g
with_copies first second General true alts g = with_copy first alts g
with_copies first second Pred true alts g = with_copy second (alts ++ temp g.next ∷ []) (with_copy first alts g)

-- so many temporaries from the next one on
abbrev pub new_temps : Growth → ℕ → List TempId
new_temps g count = map temp (range_with_len g.next count)

-- ---- values

-- a value with temporary n, with its copies
abbrev pub own_temps : ℕ → Sort → Growth → List TempId
own_temps n sort g = temp n ∷ new_temps g (copy_count sort)

abbrev pub value_of : ℕ → Sort → Growth → Value
value_of n sort g = record { own = own_temps n sort g; all = own_temps n sort g; sort = sort }

abbrev pub with_value : ℕ → Sort → Growth → Growth
with_value n sort g =
    let grown = with_copies D D2 sort.kind sort.copied (temp n ∷ []) g in
    record { ops = grown.ops; values = g.values ++ value_of n sort g ∷ []; next = grown.next }

-- values whose temporaries begin with n
abbrev pub with_values : ℕ → List Sort → Growth → Growth
with_values n [] g = g
with_values n (sort ∷ sorts) g = with_values (n + 1) sorts (with_value n sort g)

-- ---- operands

-- the copies of an operand that reads value v, which has this number
abbrev pub with_operand_by : ℕ → Option Value → Growth → Growth
with_operand_by x None g = g
with_operand_by x (Some v) g =
    let grown = with_copies U U2 v.sort.kind v.sort.copied v.own g in
    record {
      ops = grown.ops;
      values = slice_set g.values x (record v { all = v.all ++ new_temps g (copy_count v.sort) });
      next =
          grown.next;
    }

abbrev pub with_operand : Operand → Growth → Growth
with_operand x g = with_operand_by (first_of x.alts) (slice_get g.values (first_of x.alts)) g

abbrev pub alternatives : Option Value → List TempId
alternatives None = []
alternatives (Some v) = v.all

-- an operand that may choose what carries its value
abbrev pub chosen_from : Operand → Growth → Operand
chosen_from x g = record { alts = alternatives (slice_get g.values (first_of x.alts)); home = x.home }

-- the copies of operands, and the operands behind them: each offers the copies up to its own
abbrev pub with_operands : List Operand → Growth → Growth
with_operands [] g = g
with_operands (x ∷ xs) g = with_operands xs (with_operand x g)

abbrev pub new_operands : List Operand → Growth → List Operand
new_operands [] g = []
new_operands (x ∷ xs) g = chosen_from x (with_operand x g) ∷ new_operands xs (with_operand x g)

-- ---- operations

-- a name's value has copies
abbrev pub sort_of_name : List Kind → NameId → Sort
sort_of_name names name = record { kind = unwrap_or (slice_get names name.0) General; copied = true }

-- the sorts of the values that an operation defines, where saved values have copies or not
abbrev pub sorts_of : List Kind → List NameId → Bool → ExtKind → ℕ → List Sort
sorts_of names live_in saved In count =
    map (sort_of_name names) live_in
    ++ replicate (count - length live_in) (record { kind = General; copied = saved })
sorts_of names live_in saved (Body o) count = replicate count (record { kind = result_kind o.op; copied = true })
sorts_of names live_in saved _ count = []

abbrev pub with_results : ExtKind → List Operand → ℕ → Growth → Growth
with_results kind operands count g = record {
  ops = g.ops ++ record { kind = kind; operands = operands; results = new_temps g count } ∷ [];
  values = g.values;
  next = g.next + count;
}

-- Leave stands before a return, and Enter behind the entry's first values
abbrev pub with_leave : ExtKind → Growth → Growth
with_leave (End term) g = if is_return term then with_op g (frame_op Leave) else g
with_leave _ g = g

abbrev pub with_enter : Bool → ExtKind → Growth → Growth
with_enter true In g = with_op g (frame_op Enter)
with_enter _ _ g = g

-- an operation with its copies: those of its operands, itself, those of its results
abbrev pub with_extended : List Kind → List NameId → Bool → Bool → ExtOp → Growth → Growth
with_extended names live_in is_entry saved op g =
    let before = with_leave op.kind g in
    let read = with_operands op.operands before in
    let count = length op.results in
    let here = with_results op.kind (new_operands op.operands before) count read in
    with_enter is_entry op.kind (with_values read.next (sorts_of names live_in saved op.kind count) here)

abbrev pub with_all_extended : List Kind → List NameId → Bool → Bool → List ExtOp → Growth → Growth
with_all_extended names live_in is_entry saved [] g = g
with_all_extended names live_in is_entry saved (op ∷ ops) g =
    with_all_extended names live_in is_entry saved ops (with_extended names live_in is_entry saved op g)

-- ---- blocks

-- a block behind which these values and temporaries are known
abbrev pub grown_block : List Kind → Bool → List Value → ℕ → ExtBlock → Growth
grown_block names is_entry values next block =
    with_all_extended names block.live_in is_entry (is_entry || returns block) block.ops (record { ops = []; values = values; next = next })

abbrev pub with_ops : ExtBlock → List ExtOp → ExtBlock
with_ops block ops = record block { ops = ops; horizon = 2 * length ops + 2 }

abbrev pub extended_blocks : List Kind → Bool → List Value → ℕ → List ExtBlock → List ExtBlock
extended_blocks names is_entry values next [] = []
extended_blocks names is_entry values next (block ∷ blocks) =
    let g = grown_block names is_entry values next block in with_ops block g.ops ∷ extended_blocks names false g.values g.next blocks

-- the extended function of a linear function
abbrev pub extend_of : Lssa → Ext
extend_of l = record {
  table = l.table;
  names = l.names;
  blocks = extended_blocks l.names true [] 0 l.blocks;
}
