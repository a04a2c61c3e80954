-- An extended function has at most seven times the size of its linear function, and a block at most twice as many operations as its
-- linear block has operations, operands and results.
use Rattle.std.proofs.Common.{◌≡◌, ℕ, zero, suc, ◌+◌, ◌-◌, ◌*◌, ◌≤◌, ◌++◌, ◌||◌, Bool, true, false, if◌then◌else◌, List, [], ◌∷◌}
use Rattle.std.proofs.Common.{Option, Some, None, map, length, replicate, slice_get, All, refl, ap, arith}
use Rattle.std.specs.List.{sum_by}
use Rattle.std.proofs.lemmas.List.{length-append, length-map, length-replicate, length_push}
use Rattle.std.proofs.lemmas.List.Elements.{All-head, All-tail}
use Rattle.std.proofs.lemmas.List.FromFn.{length-map-range_with_len}
use Rattle.std.proofs.lemmas.List.Sums.{sum_by-cons, sum_by_push}
use Rattle.un_base.specs.declared.ids.TempId.{TempId}
use Rattle.un_isa.specs.declared.op.Op.{Op}
use Rattle.un_isa.specs.declared.table.Table.{Table}
use Rattle.un_ir.specs.WellFormed.{result_kind}
use Rattle.un_ir.specs.declared.function.Kind.{Kind}
use Rattle.un_ir.specs.declared.function.Kind.TheVariants.{General, Pred}
use Rattle.un_ir.specs.declared.extended.NodeCopy.{NodeCopy}
use Rattle.un_ir.specs.declared.extended.NodeCopy.TheVariants.{D, D2, U, U2}
use Rattle.un_ir.specs.declared.extended.ExtKind.{ExtKind}
use Rattle.un_ir.specs.declared.extended.ExtKind.TheVariants.{In, Body, End, Enter, Leave}
use Rattle.un_ir.specs.declared.extended.Operand.{Operand}
use Rattle.un_ir.specs.declared.extended.ExtOp.{ExtOp}
use Rattle.un_ir.specs.declared.extended.ExtBlock.{ExtBlock}
use Rattle.un_ir.specs.declared.extended.Growth.{Growth}
use Rattle.un_ir.specs.declared.extended.Sort.{Sort}
use Rattle.un_ir.specs.declared.extended.Value.{Value}
use Rattle.un_ir.specs.Extended.{temp, returns, is_return, result_count, size_of, IsGoodExtBlock}
use Rattle.un_ir.specs.Linear.{first_of}
use Rattle.un_ir.specs.ExtendOf.{frame_op, with_op, with_leave, with_enter, with_results, with_extended, with_all_extended, sorts_of}
use Rattle.un_ir.specs.ExtendOf.{sort_of_name, copy_op, with_copies, new_temps, with_value, with_values, with_operand_by, with_operand}
use Rattle.un_ir.specs.ExtendOf.{with_operands, new_operands, grown_block, with_ops, extended_blocks}

abbrev op_size : ExtOp → ℕ
op_size op = 1 + length op.operands + length op.results

abbrev size : List ExtOp → ℕ
size ops = sum_by op_size ops

abbrev of : Growth → ℕ
of g = size g.ops

copies_size : (first second : NodeCopy) (kind : Kind) (copied : Bool) (ys : List TempId) (g : Growth)
    → of (with_copies first second kind copied ys g) ≤ of g + 6
copies_size first second kind false ys g = omega arith
copies_size first second General true ys g = let a = sum_by_push op_size g.ops (copy_op first ys g.next) in omega (arith, a)
copies_size first second Pred true ys g =
    let a = sum_by_push op_size g.ops (copy_op first ys g.next) in
    let b = sum_by_push op_size (g.ops ++ copy_op first ys g.next ∷ []) (copy_op second (ys ++ temp g.next ∷ []) (g.next + 1)) in
    omega (arith, a, b)

values_size : (n : ℕ) (sorts : List Sort) (g : Growth) → of (with_values n sorts g) ≤ of g + 6 * length sorts
values_size n [] g = omega arith
values_size n (sort ∷ sorts) g =
    let a = copies_size D D2 sort.kind sort.copied (temp n ∷ []) g in
    let b = values_size (n + 1) sorts (with_value n sort g) in
    omega (arith, a, b)

by_size : (i : ℕ) (o : Option Value) (g : Growth) → of (with_operand_by i o g) ≤ of g + 6
by_size i None g = omega arith
by_size i (Some v) g = copies_size U U2 (let sort = v.sort in sort.kind) (let sort = v.sort in sort.copied) v.own g

operands_size : (xs : List Operand) (g : Growth) → of (with_operands xs g) ≤ of g + 6 * length xs
operands_size [] g = omega arith
operands_size (x ∷ xs) g =
    let a = by_size (first_of x.alts) (slice_get g.values (first_of x.alts)) g in
    let b = operands_size xs (with_operand x g) in
    omega (arith, a, b)

operands_length : (xs : List Operand) (g : Growth) → length (new_operands xs g) ≡ length xs
operands_length [] g = refl
operands_length (x ∷ xs) g = ap suc (operands_length xs (with_operand x g))

leave_size : (kind : ExtKind) (g : Growth) → of (with_leave kind g) ≤ of g + 1
leave_size (End term) g = by (is_return term)
  where
    by : (v : Bool) → of (if v then with_op g (frame_op Leave) else g) ≤ of g + 1
    by true = let a = sum_by_push op_size g.ops (frame_op Leave) in omega (arith, a)
    by false = omega arith
leave_size _ g = omega arith

enter_size : (is_entry : Bool) (kind : ExtKind) (g : Growth) → of (with_enter is_entry kind g) ≤ of g + 1
enter_size true In g = let a = sum_by_push op_size g.ops (frame_op Enter) in omega (arith, a)
enter_size _ _ g = omega arith

sorts_length : (t : Table) (names : List Kind) (block : ExtBlock) (saved : Bool) (kind : ExtKind) (count : ℕ)
    → count ≡ result_count t block kind
    → length (sorts_of names block.live_in saved kind count) ≤ count
sorts_length t names block saved In count c =
    let a = length-append (map (sort_of_name names) block.live_in) (replicate (count - length block.live_in) (sort_by saved)) in
    let b = length-map block.live_in (sort_of_name names) in
    let d = length-replicate (count - length block.live_in) (sort_by saved) in
    omega (arith, a, b, c, d)
  where
    sort_by : Bool → Sort
    sort_by saved = record { kind = General; copied = saved }
sorts_length t names block saved (Body o) count c =
    let d = length-replicate (count) (sort_one o.op) in omega (arith, d)
  where
    sort_one : Op → Sort
    sort_one op = record { kind = result_kind op; copied = true }
sorts_length t names block saved _ count c = omega arith

one_size : (t : Table) (names : List Kind) (block : ExtBlock) (is_entry saved : Bool) (op : ExtOp) (g : Growth)
    → length op.results ≡ result_count t block op.kind
    → of (with_extended names block.live_in is_entry saved op g) ≤ of g + 7 * op_size op
one_size t names block is_entry saved op g c =
    let before = with_leave op.kind g in
    let read = with_operands op.operands before in
    let count = length op.results in
    let made : ExtOp = record { kind = op.kind; operands = new_operands op.operands before; results = new_temps read count } in
    let here = with_results op.kind (new_operands op.operands before) count read in
    let sorts = sorts_of names block.live_in saved op.kind count in
    let all = with_values read.next sorts here in
    let a = leave_size op.kind g in
    let b = operands_size op.operands before in
    let d = sum_by_push op_size read.ops made in
    let e = operands_length op.operands before in
    let f = length-map-range_with_len temp read.next count in
    let h = values_size read.next sorts here in
    let i = sorts_length t names block saved op.kind count c in
    let j = enter_size is_entry op.kind all in
    omega (arith, a, b, d, e, f, h, i, j)

all_size : (t : Table) (names : List Kind) (block : ExtBlock) (is_entry saved : Bool) (ops : List ExtOp) (g : Growth)
    → ((k : ℕ) (op : ExtOp) → slice_get ops k ≡ Some op → length op.results ≡ result_count t block op.kind)
    → of (with_all_extended names block.live_in is_entry saved ops g) ≤ of g + 7 * size ops
all_size t names block is_entry saved [] g c = omega arith
all_size t names block is_entry saved (op ∷ ops) g c =
    let a = one_size t names block is_entry saved op g (c 0 op refl) in
    let b = all_size t names block is_entry saved ops (with_extended names block.live_in is_entry saved op g) (λ k x h. c (suc k) x h) in
    let d = sum_by-cons op_size op ops in
    omega (arith, a, b, d)

pub extended_size : (t : Table) (names : List Kind) (old : List ExtBlock) (is_entry : Bool) (values : List Value) (next : ℕ)
    (rest : List ExtBlock)
    → All (IsGoodExtBlock t names old) rest → size_of (extended_blocks names is_entry values next rest) ≤ 7 * size_of rest
extended_size t names old is_entry values next [] good = omega arith
extended_size t names old is_entry values next (was ∷ rest) good =
    let g = grown_block names is_entry values next was in
    let own = All-head (IsGoodExtBlock t names old) was rest good in
    let z : size [] ≡ 0 = refl in
    let a = all_size t names was is_entry (is_entry || returns was) was.ops (record { ops = []; values = values; next = next })
    (λ k op h. (let o = own.ops k op h in o.results)) in
    let b = extended_size t names old false g.values g.next rest (All-tail (IsGoodExtBlock t names old) was rest good) in
    let c = sum_by-cons (λ (block : ExtBlock). size block.ops) (with_ops was g.ops) (extended_blocks names false g.values g.next rest) in
    let d = sum_by-cons (λ (block : ExtBlock). size block.ops) was rest in
    omega (arith, a, b, c, d, z)

-- ---- how many operations

abbrev count : Growth → ℕ
count g = length g.ops

copies_count : (first second : NodeCopy) (kind : Kind) (copied : Bool) (ys : List TempId) (g : Growth)
    → count (with_copies first second kind copied ys g) ≤ count g + 2
copies_count first second kind false ys g = omega arith
copies_count first second General true ys g = let a = length_push g.ops (copy_op first ys g.next) in omega (arith, a)
copies_count first second Pred true ys g =
    let a = length_push g.ops (copy_op first ys g.next) in
    let b = length_push (g.ops ++ copy_op first ys g.next ∷ []) (copy_op second (ys ++ temp g.next ∷ []) (g.next + 1)) in
    omega (arith, a, b)

values_count : (n : ℕ) (sorts : List Sort) (g : Growth) → count (with_values n sorts g) ≤ count g + 2 * length sorts
values_count n [] g = omega arith
values_count n (sort ∷ sorts) g =
    let a = copies_count D D2 sort.kind sort.copied (temp n ∷ []) g in
    let b = values_count (n + 1) sorts (with_value n sort g) in
    omega (arith, a, b)

by_count : (i : ℕ) (o : Option Value) (g : Growth) → count (with_operand_by i o g) ≤ count g + 2
by_count i None g = omega arith
by_count i (Some v) g = copies_count U U2 (let sort = v.sort in sort.kind) (let sort = v.sort in sort.copied) v.own g

operands_count : (xs : List Operand) (g : Growth) → count (with_operands xs g) ≤ count g + 2 * length xs
operands_count [] g = omega arith
operands_count (x ∷ xs) g =
    let a = by_count (first_of x.alts) (slice_get g.values (first_of x.alts)) g in
    let b = operands_count xs (with_operand x g) in
    omega (arith, a, b)

-- Leave stands before a terminator alone, and Enter behind a block's start alone
abbrev leaves : ExtKind → ℕ
leaves (End term) = 1
leaves _ = 0

abbrev enters : ExtKind → ℕ
enters In = 1
enters _ = 0

one_frame : (kind : ExtKind) → leaves kind + enters kind ≤ 1
one_frame In = omega arith
one_frame (End term) = omega arith
one_frame _ = omega arith

leave_count : (kind : ExtKind) (g : Growth) → count (with_leave kind g) ≤ count g + leaves kind
leave_count (End term) g = by (is_return term)
  where
    by : (v : Bool) → count (if v then with_op g (frame_op Leave) else g) ≤ count g + 1
    by true = let a = length_push g.ops (frame_op Leave) in omega (arith, a)
    by false = omega arith
leave_count _ g = omega arith

enter_count : (is_entry : Bool) (kind : ExtKind) (g : Growth) → count (with_enter is_entry kind g) ≤ count g + enters kind
enter_count true In g = let a = length_push g.ops (frame_op Enter) in omega (arith, a)
enter_count _ _ g = omega arith

one_count : (t : Table) (names : List Kind) (block : ExtBlock) (is_entry saved : Bool) (op : ExtOp) (g : Growth)
    → length op.results ≡ result_count t block op.kind
    → count (with_extended names block.live_in is_entry saved op g) ≤ count g + 2 * op_size op
one_count t names block is_entry saved op g c =
    let before = with_leave op.kind g in
    let read = with_operands op.operands before in
    let results = length op.results in
    let made : ExtOp = record { kind = op.kind; operands = new_operands op.operands before; results = new_temps read results } in
    let here = with_results op.kind (new_operands op.operands before) results read in
    let sorts = sorts_of names block.live_in saved op.kind results in
    let a = leave_count op.kind g in
    let b = operands_count op.operands before in
    let d = length_push read.ops made in
    let e = values_count read.next sorts here in
    let f = sorts_length t names block saved op.kind results c in
    let h = enter_count is_entry op.kind (with_values read.next sorts here) in
    let i = one_frame op.kind in
    omega (arith, a, b, d, e, f, h, i)

all_count : (t : Table) (names : List Kind) (block : ExtBlock) (is_entry saved : Bool) (ops : List ExtOp) (g : Growth)
    → ((k : ℕ) (op : ExtOp) → slice_get ops k ≡ Some op → length op.results ≡ result_count t block op.kind)
    → count (with_all_extended names block.live_in is_entry saved ops g) ≤ count g + 2 * size ops
all_count t names block is_entry saved [] g c = omega arith
all_count t names block is_entry saved (op ∷ ops) g c =
    let a = one_count t names block is_entry saved op g (c 0 op refl) in
    let b = all_count t names block is_entry saved ops (with_extended names block.live_in is_entry saved op g) (λ k x h. c (suc k) x h) in
    let d = sum_by-cons op_size op ops in
    omega (arith, a, b, d)

pub extended_counts : (t : Table) (names : List Kind) (old : List ExtBlock) (limit : ℕ) (is_entry : Bool) (values : List Value) (next : ℕ)
    (rest : List ExtBlock)
    → All (IsGoodExtBlock t names old) rest → All (λ (block : ExtBlock). size block.ops ≤ limit) rest
    → All (λ (block : ExtBlock). length block.ops ≤ 2 * limit) (extended_blocks names is_entry values next rest)
extended_counts t names old limit is_entry values next [] good few k d lt = absurd (omega (arith, lt))
extended_counts t names old limit is_entry values next (was ∷ rest) good few zero d lt =
    let own = good zero was (omega arith) in
    let a = all_count t names was is_entry (is_entry || returns was) was.ops (record { ops = []; values = values; next = next })
    (λ k op h. (let o = own.ops k op h in o.results)) in
    let b = few zero was (omega arith) in
    omega (arith, a, b)
extended_counts t names old limit is_entry values next (was ∷ rest) good few (suc k) d lt =
    let g = grown_block names is_entry values next was in
    extended_counts t names old limit false g.values g.next rest (λ j x h. good (suc j) x (omega (arith, h)))
    (λ j x h. few (suc j) x (omega (arith, h))) k d (omega (arith, lt))
