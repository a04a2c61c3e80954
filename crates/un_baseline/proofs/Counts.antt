-- What `extend` adds has as many temporaries as it counts, and ends as the block of the source does.
use Rattle.std.proofs.Common.{◌≡◌, ℕ, zero, suc, ◌+◌, ◌-◌, ◌<◌, ◌≤◌, Bool, true, false, List, [], ◌∷◌, ◌++◌, length, Option, Some, None}
use Rattle.std.proofs.Common.{refl, ap, ◌∙◌, append_assoc, arith}
use Rattle.std.specs.Prelude.{slice_get, map, replicate, if◌then◌else◌}
use Rattle.std.specs.List.{range_with_len}
use Rattle.std.specs.Option.{option_to_list}
use Rattle.std.proofs.lemmas.List.{length-append, length-map, length-replicate}
use Rattle.std.proofs.lemmas.List.FromFn.{length-map-range_with_len}
use Rattle.un_base.specs.declared.ids.NameId.{NameId}
use Rattle.un_base.specs.declared.ids.TempId.{TempId}
use Rattle.un_isa.specs.declared.table.Table.{Table}
use Rattle.un_ir.specs.declared.function.Kind.{Kind}
use Rattle.un_ir.specs.declared.function.Kind.TheVariants.{General, Pred}
use Rattle.un_ir.specs.declared.function.SrcOp.{SrcOp}
use Rattle.un_ir.specs.declared.function.Term.{Term}
use Rattle.un_ir.specs.declared.function.Term.TheVariants.{Fall, Jump, Branch, Ret}
use Rattle.un_ir.specs.declared.extended.NodeCopy.{NodeCopy}
use Rattle.un_ir.specs.declared.extended.NodeCopy.TheVariants.{D, D2, U, U2}
use Rattle.un_ir.specs.declared.extended.ExtKind.{ExtKind}
use Rattle.un_ir.specs.declared.extended.ExtKind.TheVariants.{In, Out, Body, End, Copy, Enter, Leave}
use Rattle.un_ir.specs.declared.extended.Operand.{Operand}
use Rattle.un_ir.specs.declared.extended.ExtOp.{ExtOp}
use Rattle.un_ir.specs.declared.extended.Growth.{Growth}
use Rattle.un_ir.specs.declared.extended.Value.{Value}
use Rattle.un_ir.specs.declared.extended.Sort.{Sort}
use Rattle.un_ir.specs.Extended.{temp, is_return}
use Rattle.un_ir.specs.Linear.{first_of, ending_of}
use Rattle.un_ir.specs.ExtendOf.{copy_count_by, value_of, sort_of_name, with_value, with_values, with_operand_by, with_operand}
use Rattle.un_ir.specs.ExtendOf.{with_operands, sorts_of, with_leave, with_enter, with_extended, with_all_extended}
use Rattle.un_ir.specs.LinearOf.{assigned, past, past_all, body_op, body_ops}
use Rattle.un_ir.specs.WellFormed.{result_kind}
use Rattle.un_model.specs.Congruences.{term_of}
use Rattle.un_baseline.specs.SpillEverywhere.{first_number}
use Rattle.un_baseline.proofs.Carried.{operands_onward}
use Rattle.un_baseline.proofs.Grown.{copy_ops, value_ops, values_ops, value_next, operand_ops_by, operand_ops, operands_ops}
use Rattle.un_baseline.proofs.Grown.{operand_next_by, leave_ops, enter_ops, made_op, behind_op, extended_ops, all_ops}

-- how many temporaries operations define
abbrev pub results_count : List ExtOp → ℕ
results_count [] = 0
results_count (op ∷ ops) = length op.results + results_count ops

count_append : (xs ys : List ExtOp) → results_count (xs ++ ys) ≡ results_count xs + results_count ys
count_append [] ys = omega arith
count_append (x ∷ xs) ys = let a = count_append xs ys in omega arith

count_copies : (first second : NodeCopy) (kind : Kind) (copied : Bool) (alts : List TempId) (n : ℕ)
    → results_count (copy_ops first second kind copied alts n) ≡ copy_count_by kind copied
count_copies first second kind false alts n = refl
count_copies first second General true alts n = refl
count_copies first second Pred true alts n = refl

count_values : (m : ℕ) (sorts : List Sort) (g : Growth) → (with_values m sorts g).next ≡ g.next + results_count (values_ops m sorts g)
count_values m [] g = omega arith
count_values m (t ∷ sorts) g =
    let g' = with_value m t g in
    let here = value_next m t g in
    let rest = count_values (m + 1) sorts g' in
    let a = count_append (value_ops m t g) (values_ops (m + 1) sorts g') in
    let d = count_copies D D2 t.kind t.copied (temp m ∷ []) g.next in
    omega arith

count_operand : (x : ℕ) (v : Option Value) (g : Growth) → (with_operand_by x v g).next ≡ g.next + results_count (operand_ops_by v g.next)
count_operand x None g = omega arith
count_operand x (Some v) g =
    let here = operand_next_by x v g in
    let d = count_copies U U2 v.sort.kind v.sort.copied v.own g.next in
    omega arith

count_operands : (xs : List Operand) (g : Growth) → (with_operands xs g).next ≡ g.next + results_count (operands_ops xs g)
count_operands [] g = omega arith
count_operands (x ∷ xs) g =
    let g' = with_operand x g in
    let here = count_operand (first_of x.alts) (slice_get g.values (first_of x.alts)) g in
    let rest = count_operands xs g' in
    let a = count_append (operand_ops x g) (operands_ops xs g') in
    omega arith

leave_by : (t : Bool) (g g' : Growth) → g'.next ≡ g.next → (if t then g' else g).next ≡ g.next
leave_by true g g' h = h
leave_by false g g' h = refl

leave_next : (kind : ExtKind) (g : Growth) → (with_leave kind g).next ≡ g.next
leave_next (End term) g = leave_by (is_return term) g _ refl
leave_next In g = refl
leave_next Out g = refl
leave_next (Body o) g = refl
leave_next (Copy node) g = refl
leave_next Enter g = refl
leave_next Leave g = refl

leave_none : (t : Bool) (op : ExtOp) → length op.results ≡ 0 → results_count (if t then op ∷ [] else []) ≡ 0
leave_none true op h = omega arith
leave_none false op h = refl

leave_count : (kind : ExtKind) → results_count (leave_ops kind) ≡ 0
leave_count (End term) = leave_none (is_return term) _ refl
leave_count In = refl
leave_count Out = refl
leave_count (Body o) = refl
leave_count (Copy node) = refl
leave_count Enter = refl
leave_count Leave = refl

enter_next : (entry : Bool) (kind : ExtKind) (g : Growth) → (with_enter entry kind g).next ≡ g.next
enter_next true In g = refl
enter_next true Out g = refl
enter_next true (Body o) g = refl
enter_next true (End term) g = refl
enter_next true (Copy node) g = refl
enter_next true Enter g = refl
enter_next true Leave g = refl
enter_next false kind g = refl

enter_count : (entry : Bool) (kind : ExtKind) → results_count (enter_ops entry kind) ≡ 0
enter_count true In = refl
enter_count true Out = refl
enter_count true (Body o) = refl
enter_count true (End term) = refl
enter_count true (Copy node) = refl
enter_count true Enter = refl
enter_count true Leave = refl
enter_count false kind = refl

module _ (names : List Kind) (live_in : List NameId) (entry saved : Bool) where
  count_extended : (op : ExtOp) (g : Growth) → (with_extended names live_in entry saved op g).next
      ≡ g.next + results_count (extended_ops names live_in entry saved op g)
  count_extended op g =
      let before = with_leave op.kind g in
      let read = with_operands op.operands before in
      let here = behind_op names live_in entry saved op before in
      let sorts = sorts_of names live_in saved op.kind (length op.results) in
      let us = operands_ops op.operands before in
      let ds = values_ops read.next sorts here in
      let es = enter_ops entry op.kind in
      let made = made_op names live_in entry saved op before in
      let a = enter_next entry op.kind (with_values read.next sorts here) in
      let d = count_values read.next sorts here in
      let u = count_operands op.operands before in
      let l = leave_next op.kind g in
      let size : length made.results ≡ length op.results = length-map-range_with_len temp read.next (length op.results) in
      let x = count_append (leave_ops op.kind) (us ++ (made ∷ (ds ++ es))) in
      let y = count_append us (made ∷ (ds ++ es)) in
      let z = count_append ds es in
      let lc = leave_count op.kind in
      let ec = enter_count entry op.kind in
      omega arith

  pub count_all : (ops : List ExtOp) (g : Growth) → (with_all_extended names live_in entry saved ops g).next
      ≡ g.next + results_count (all_ops names live_in entry saved ops g)
  count_all [] g = omega arith
  count_all (op ∷ ops) g =
      let g' = with_extended names live_in entry saved op g in
      let here = count_extended op g in
      let rest = count_all ops g' in
      let a = count_append (extended_ops names live_in entry saved op g) (all_ops names live_in entry saved ops g') in
      omega arith

  -- ---- terminators

  term_copies : (first second : NodeCopy) (kind : Kind) (copied : Bool) (alts : List TempId) (n : ℕ) (rest : List ExtOp)
      → term_of (copy_ops first second kind copied alts n ++ rest) ≡ term_of rest
  term_copies first second kind false alts n rest = refl
  term_copies first second General true alts n rest = refl
  term_copies first second Pred true alts n rest = refl

  pub term_values : (m : ℕ) (sorts : List Sort) (g : Growth) (rest : List ExtOp) → term_of (values_ops m sorts g ++ rest) ≡ term_of rest
  term_values m [] g rest = refl
  term_values m (t ∷ sorts) g rest =
      let g' = with_value m t g in
      ap term_of (append_assoc (value_ops m t g) (values_ops (m + 1) sorts g') rest)
      ∙ term_copies D D2 t.kind t.copied (temp m ∷ []) g.next (values_ops (m + 1) sorts g' ++ rest) ∙ term_values (m + 1) sorts g' rest

  term_operand : (v : Option Value) (n : ℕ) (rest : List ExtOp) → term_of (operand_ops_by v n ++ rest) ≡ term_of rest
  term_operand None n rest = refl
  term_operand (Some v) n rest = term_copies U U2 v.sort.kind v.sort.copied v.own n rest

  pub term_operands : (xs : List Operand) (g : Growth) (rest : List ExtOp) → term_of (operands_ops xs g ++ rest) ≡ term_of rest
  term_operands [] g rest = refl
  term_operands (x ∷ xs) g rest =
      let g' = with_operand x g in
      ap term_of (append_assoc (operand_ops x g) (operands_ops xs g') rest)
      ∙ term_operand (slice_get g.values (first_of x.alts)) g.next (operands_ops xs g' ++ rest) ∙ term_operands xs g' rest

  term_enter : (t : Bool) (kind : ExtKind) (rest : List ExtOp) → term_of (enter_ops t kind ++ rest) ≡ term_of rest
  term_enter true In rest = refl
  term_enter true Out rest = refl
  term_enter true (Body o) rest = refl
  term_enter true (End term) rest = refl
  term_enter true (Copy node) rest = refl
  term_enter true Enter rest = refl
  term_enter true Leave rest = refl
  term_enter false kind rest = refl

  -- behind an operation's operands and before its values
  term_past : (kind : ExtKind) (m : ℕ) (xs : List Operand) (g here : Growth) (sorts : List Sort) (made : ExtOp) (rest : List ExtOp)
      → ((more : List ExtOp) → term_of (made ∷ more) ≡ term_of more)
      → term_of ((operands_ops xs g ++ (made ∷ (values_ops m sorts here ++ enter_ops entry kind))) ++ rest) ≡ term_of rest
  term_past kind m xs g here sorts made rest skip =
      ap term_of (append_assoc (operands_ops xs g) (made ∷ (values_ops m sorts here ++ enter_ops entry kind)) rest)
      ∙ term_operands xs g (made ∷ ((values_ops m sorts here ++ enter_ops entry kind) ++ rest))
      ∙ skip ((values_ops m sorts here ++ enter_ops entry kind) ++ rest)
      ∙ ap term_of (append_assoc (values_ops m sorts here) (enter_ops entry kind) rest)
      ∙ term_values m sorts here (enter_ops entry kind ++ rest) ∙ term_enter entry kind rest

  pub term_bodies : (t : Table) (current : List ℕ) (first : ℕ) (os : List SrcOp) (tail : List ExtOp) (g : Growth) (term : Term)
      → ((g' : Growth) → term_of (all_ops names live_in entry saved tail g') ≡ term)
      → term_of (all_ops names live_in entry saved (body_ops t current first os ++ tail) g) ≡ term
  term_bodies t current first [] tail g term h = h g
  term_bodies t current first (o ∷ os) tail g term h =
      let op = body_op t current first o in
      let read = with_operands op.operands g in
      let g' = with_extended names live_in entry saved op g in
      term_past (Body o) read.next op.operands g (behind_op names live_in entry saved op g)
      (sorts_of names live_in saved (Body o) (length op.results))
      (made_op names live_in entry saved op g) (all_ops names live_in entry saved
      (body_ops t (assigned current o.dst first) (past o.dst first) os ++ tail) g') (λ more. refl)
      ∙ term_bodies t (assigned current o.dst first) (past o.dst first) os tail g' term h

  pub term_start : (op : ExtOp) (g : Growth) (rest : List ExtOp) → op.kind ≡ In → op.operands ≡ []
      → term_of (extended_ops names live_in entry saved (record { kind = In; operands = []; results = op.results }) g ++ rest)
      ≡ term_of rest
  term_start op g rest is none =
      let start : ExtOp = record { kind = In; operands = []; results = op.results } in
      term_past In g.next [] g (behind_op names live_in entry saved start g) (sorts_of names live_in saved In (length op.results))
      (made_op names live_in entry saved start g) rest (λ more. refl)

  pub term_out : (xs : List Operand) (g : Growth) → term_of (all_ops names live_in entry saved
      (record { kind = Out; operands = xs; results = [] } ∷ []) g) ≡ Fall
  term_out xs g =
      let out : ExtOp = record { kind = Out; operands = xs; results = [] } in
      term_past Out (with_operands xs g).next xs g (behind_op names live_in entry saved out g) []
      (made_op names live_in entry saved out g) [] (λ more. refl)

  pub term_jump : (to : _) (rest : List ExtOp) (g : Growth) → term_of (all_ops names live_in entry saved
      (record { kind = End (Jump to); operands = []; results = [] } ∷ rest) g) ≡ Jump to
  term_jump to rest g = refl

  pub term_branch : (pred : NameId) (sense : Bool) (to : _) (xs : List Operand) (rest : List ExtOp) (g : Growth)
      → term_of (all_ops names live_in entry saved (record { kind = End (Branch pred sense to); operands = xs; results = [] } ∷ rest) g)
      ≡ Branch pred sense to
  term_branch pred sense to xs rest g =
      let op : ExtOp = record { kind = End (Branch pred sense to); operands = xs; results = [] } in
      ap term_of (append_assoc (operands_ops xs g) (made_op names live_in entry saved op g ∷ enter_ops entry (End (Branch pred sense to)))
      (all_ops names live_in entry saved rest (with_extended names live_in entry saved op g)))
      ∙ term_operands xs g _

  pub term_return : (value : Option NameId) (xs : List Operand) (rest : List ExtOp) (g : Growth)
      → term_of (all_ops names live_in entry saved (record { kind = End (Ret value); operands = xs; results = [] } ∷ rest) g) ≡ Ret value
  term_return value xs rest g =
      let op : ExtOp = record { kind = End (Ret value); operands = xs; results = [] } in
      let before = with_leave (End (Ret value)) g in
      ap term_of (append_assoc (operands_ops xs before) (made_op names live_in entry saved op before ∷ enter_ops entry (End (Ret value)))
      (all_ops names live_in entry saved rest (with_extended names live_in entry saved op g)))
      ∙ term_operands xs before _

-- ---- the linear block

pub ending_bodies : (t : Table) (current : List ℕ) (first : ℕ) (os : List SrcOp) (tail : List ExtOp)
    → ending_of (body_ops t current first os ++ tail) ≡ ending_of tail
ending_bodies t current first [] tail = refl
ending_bodies t current first (o ∷ os) tail = ending_bodies t (assigned current o.dst first) (past o.dst first) os tail

pub first_number_of : (n k : ℕ) → 0 < k → first_number (map temp (range_with_len n k)) ≡ n
first_number_of n zero lt = absurd (omega arith)
first_number_of n (suc k) lt = refl

-- ---- how many values a growth knows

values_longer : (m : ℕ) (sorts : List Sort) (g : Growth) → length (with_values m sorts g).values ≡ length g.values + length sorts
values_longer m [] g = omega arith
values_longer m (t ∷ sorts) g =
    let here = length-append g.values (value_of m t g ∷ []) in
    let rest = values_longer (m + 1) sorts (with_value m t g) in
    omega arith

leave_values_by : (t : Bool) (g g' : Growth) → g'.values ≡ g.values → (if t then g' else g).values ≡ g.values
leave_values_by true g g' h = h
leave_values_by false g g' h = refl

leave_values : (kind : ExtKind) (g : Growth) → (with_leave kind g).values ≡ g.values
leave_values (End term) g = leave_values_by (is_return term) g _ refl
leave_values In g = refl
leave_values Out g = refl
leave_values (Body o) g = refl
leave_values (Copy node) g = refl
leave_values Enter g = refl
leave_values Leave g = refl

enter_values : (entry : Bool) (kind : ExtKind) (g : Growth) → (with_enter entry kind g).values ≡ g.values
enter_values true In g = refl
enter_values true Out g = refl
enter_values true (Body o) g = refl
enter_values true (End term) g = refl
enter_values true (Copy node) g = refl
enter_values true Enter g = refl
enter_values true Leave g = refl
enter_values false kind g = refl

module _ (names : List Kind) (live_in : List NameId) (entry saved : Bool) where
  extended_values : (op : ExtOp) (g : Growth) → length (with_extended names live_in entry saved op g).values
      ≡ length g.values + length (sorts_of names live_in saved op.kind (length op.results))
  extended_values op g =
      let before = with_leave op.kind g in
      let read = with_operands op.operands before in
      let here = behind_op names live_in entry saved op before in
      let sorts = sorts_of names live_in saved op.kind (length op.results) in
      let on = operands_onward op.operands before in
      let same = on.values in
      ap length (enter_values entry op.kind (with_values read.next sorts here))
      ∙ values_longer read.next sorts here ∙ ap (λ (k : ℕ). k + length sorts) (same ∙ ap length (leave_values op.kind g))

  past_is : (dst : Option NameId) (n : ℕ) → past dst n ≡ n + length (option_to_list dst)
  past_is None n = omega arith
  past_is (Some name) n = refl

  pub bodies_values : (t : Table) (current : List ℕ) (first : ℕ) (os : List SrcOp) (tail : List ExtOp) (g : Growth) → length g.values
      ≡ first
      → ((g' : Growth) → length (with_all_extended names live_in entry saved tail g').values ≡ length g'.values)
      → length (with_all_extended names live_in entry saved (body_ops t current first os ++ tail) g).values ≡ past_all first os
  bodies_values t current first [] tail g long rest = rest g ∙ long
  bodies_values t current first (o ∷ os) tail g long rest =
      let op = body_op t current first o in
      let here = extended_values op g in
      let sort : Sort = record { kind = result_kind o.op; copied = true } in
      let a = length-replicate (length op.results) sort in
      let d = length-map (option_to_list o.dst) (λ (name : NameId). temp first) in
      let p = past_is o.dst first in
      bodies_values t (assigned current o.dst first) (past o.dst first) os tail (with_extended names live_in entry saved op g)
      (omega arith) rest

  -- what is no value's definition adds none
  pub others_values : (ops : List ExtOp) (g : Growth) → ((i : ℕ) (op : ExtOp) → slice_get ops i ≡ Some op
      → sorts_of names live_in saved op.kind (length op.results) ≡ [])
      → length (with_all_extended names live_in entry saved ops g).values ≡ length g.values
  others_values [] g none = refl
  others_values (op ∷ ops) g none =
      others_values ops (with_extended names live_in entry saved op g) (λ i x got. none (suc i) x got)
      ∙ extended_values op g ∙ ap (λ (xs : List Sort). length g.values + length xs) (none 0 op refl)
      ∙ (let z : length g.values + 0 ≡ length g.values = omega arith in z)

  pub start_values : (n count : ℕ) (g : Growth) → length live_in ≤ count
      → length (with_extended names live_in entry saved (record { kind = In; operands = []; results = map temp (range_with_len n count) })
      g).values ≡ length g.values + count
  start_values n count g le =
      let start : ExtOp = record { kind = In; operands = []; results = map temp (range_with_len n count) } in
      let size : length start.results ≡ count = length-map-range_with_len temp n count in
      let sorts = sorts_of names live_in saved In (length start.results) in
      let sort : Sort = record { kind = General; copied = saved } in
      let a = length-append (map (sort_of_name names) live_in) (replicate (length start.results - length live_in) sort) in
      let d = length-map live_in (sort_of_name names) in
      let r = length-replicate (length start.results - length live_in) sort in
      let here = extended_values start g in
      omega arith
