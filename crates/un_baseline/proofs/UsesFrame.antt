-- The plan that spills every name uses the frame: the entry spills the link register's value.
use Rattle.std.proofs.Common.{◌≡◌, ℕ, zero, suc, ◌+◌, ◌-◌, ◌<◌, ◌≤◌, Bool, true, false, List, [], ◌∷◌, ◌++◌, length, map, drop, replicate}
use Rattle.std.proofs.Common.{Option, Some, None, refl, sym, ap, subst, ◌∙◌, append_assoc, arith}
use Rattle.std.specs.Prelude.{◌==◌, ◌||◌, if◌then◌else◌, slice_get}
use Rattle.std.specs.List.{list_any}
use Rattle.std.proofs.lemmas.Bool.Decides.{nat_tests}
use Rattle.std.proofs.lemmas.List.{length-append, length-map, length-replicate}
use Rattle.std.proofs.lemmas.List.FromFn.{length-map-range_with_len}
use Rattle.un_base.specs.declared.ids.NameId.{NameId}
use Rattle.un_base.specs.declared.ids.TempId.{TempId}
use Rattle.un_isa.specs.Registers.{callee_saved, saved_registers}
use Rattle.un_isa.specs.declared.reg.TheConstants.{LINK}
use Rattle.un_isa.specs.declared.table.Table.{Table}
use Rattle.un_isa.specs.declared.op.Op.{Op}
use Rattle.un_isa.specs.declared.op.Op.TheVariants.{Spill}
use Rattle.un_ir.specs.Extended.{temp, is_return}
use Rattle.un_ir.specs.declared.function.Kind.{Kind}
use Rattle.un_ir.specs.declared.function.Kind.TheVariants.{General, Pred}
use Rattle.un_ir.specs.declared.extended.NodeCopy.TheVariants.{D, D2}
use Rattle.un_ir.specs.declared.extended.ExtKind.{ExtKind}
use Rattle.un_ir.specs.declared.extended.ExtKind.TheVariants.{In, Out, Body, End, Copy, Enter, Leave}
use Rattle.un_ir.specs.declared.extended.ExtOp.{ExtOp}
use Rattle.un_ir.specs.declared.extended.ExtBlock.{ExtBlock}
use Rattle.un_ir.specs.declared.extended.Ext.{Ext}
use Rattle.un_ir.specs.declared.extended.Growth.{Growth}
use Rattle.un_ir.specs.declared.extended.Sort.{Sort}
use Rattle.un_ir.specs.declared.extended.Value.{Value}
use Rattle.un_ir.specs.declared.function.Block.{Block}
use Rattle.un_ir.specs.declared.function.Function.{Function}
use Rattle.un_ir.specs.LinearOf.{in_op, lin_of, linear_block, linear_blocks, live_at, kind_of_pair}
use Rattle.un_model.specs.declared.schedule.Issue.{Issue}
use Rattle.un_model.specs.Instructions.{copy_of, instruction_of}
use Rattle.un_model.specs.Congruences.{live_in_temps, results_of_start}
use Rattle.un_model.specs.Solutions.{is_frame_access, starts_in_slot, uses_frame}
use Rattle.un_ir.specs.ExtendOf.{frame_op, copy_op, with_op, with_copies, with_value, with_values, with_leave, with_enter, with_operands}
use Rattle.un_ir.specs.ExtendOf.{new_operands, sorts_of, sort_of_name, with_results, with_extended, with_all_extended, grown_block}
use Rattle.un_ir.specs.ExtendOf.{with_ops, extended_blocks, extend_of, new_temps}
use Rattle.un_baseline.specs.declared.plan.Purpose.{Purpose}
use Rattle.un_baseline.specs.declared.plan.Definer.{Definer}
use Rattle.un_baseline.specs.declared.plan.Definer.TheVariants.{Start}
use Rattle.un_baseline.specs.declared.plan.Setting.{Setting}
use Rattle.un_baseline.specs.declared.plan.Progress.{Progress}
use Rattle.un_baseline.specs.Plans.{planned_issue, planned_issues, over_plans, planned_schedule}
use Rattle.un_baseline.specs.SpillEverywhere.{purpose_at, spilled_to, slot_at_start, first_copy, step_of, progress_of, setting_of}
use Rattle.un_baseline.specs.SpillEverywhere.{first_progress, block_plan, block_plans}
use Rattle.un_baseline.proofs.Fronts.{issues_from}
use Rattle.un_baseline.proofs.Shapes.{Adds, adds_nothing, adds_then, operands_add, values_add}

-- ---- the copies of values

-- the operations begin with the copies of so many values
pub data BeginsWith : ℕ → List ExtOp → Type 0 where
  no_value : {ops : List ExtOp} → BeginsWith 0 ops
  one_copy : {k : ℕ} {op : ExtOp} {ops : List ExtOp} → op.kind ≡ Copy D → BeginsWith k ops → BeginsWith (suc k) (op ∷ ops)
  two_copies : {k : ℕ} {op o : ExtOp} {ops : List ExtOp} → op.kind ≡ Copy D → o.kind ≡ Copy D2 → BeginsWith k ops
      → BeginsWith (suc k) (op ∷ o ∷ ops)

abbrev AreCopied : List Sort → Type 0
AreCopied [] = Unit {0}
AreCopied (sort ∷ sorts) = (sort.copied ≡ true) × AreCopied sorts

-- operations are added that begin with the copies of so many values
record HasCopies (count : ℕ) (g g' : Growth) : Type 0 where
  more : List ExtOp
  adds : Adds g g' more
  begin : (k m : ℕ) (ops : List ExtOp) → m ≡ count + k → BeginsWith k ops → BeginsWith m (more ++ ops)

copies_begin : (kind : Kind) (copied : Bool) (alts : List TempId) (g : Growth) → copied ≡ true
    → HasCopies 1 g (with_copies D D2 kind copied alts g)
copies_begin kind false alts g h = absurd (cc h)
copies_begin General true alts g h = record {
  more = copy_op D alts g.next ∷ [];
  adds = record { ops = refl };
  begin = λ k m ops e begun.
      let z : suc k ≡ m = omega arith in subst (λ (n : ℕ). BeginsWith n (copy_op D alts g.next ∷ ops)) z (one_copy refl begun);
}
copies_begin Pred true alts g h =
    let second = copy_op D2 (alts ++ temp g.next ∷ []) (g.next + 1) in
    record {
      more = copy_op D alts g.next ∷ second ∷ [];
      adds = record { ops = append_assoc g.ops (copy_op D alts g.next ∷ []) (second ∷ []) };
      begin = λ k m ops e begun.
          let z : suc k ≡ m = omega arith in
          subst (λ (n : ℕ). BeginsWith n (copy_op D alts g.next ∷ second ∷ ops)) z (two_copies refl refl begun);
    }

values_begin : (n : ℕ) (sorts : List Sort) (g : Growth) → AreCopied sorts → HasCopies (length sorts) g (with_values n sorts g)
values_begin n [] g h = record {
  more = [];
  adds = adds_nothing g;
  begin = λ k m ops e begun. let z : k ≡ m = omega arith in subst (λ (j : ℕ). BeginsWith j ops) z begun;
}
values_begin n (sort ∷ sorts) g h =
    let here = copies_begin sort.kind sort.copied (temp n ∷ []) g h.0 in
    let next = with_value n sort g in
    let rest = values_begin (n + 1) sorts next h.1 in
    record {
      more = here.more ++ rest.more;
      adds = adds_then g next (with_values (n + 1) sorts next) here.more rest.more (record { ops = (here.adds).ops }) rest.adds;
      begin = λ k m ops e begun.
          subst (BeginsWith m) (sym (append_assoc here.more rest.more ops))
          (here.begin (length sorts + k) m (rest.more ++ ops) (omega arith) (rest.begin k (length sorts + k) ops refl begun));
    }

-- ---- a spill at the start

abbrev spills : List Issue → Bool
spills is = list_any (λ (i : Issue). is_frame_access i.instr) is

head_spills : (i : Issue) (is : List Issue) → i.instr ≡ Some Spill → spills (i ∷ is) ≡ true
head_spills i is h = ap (λ (x : Option Op). is_frame_access x || spills is) h

tail_spills : (i : Issue) (is : List Issue) → spills is ≡ true → spills (i ∷ is) ≡ true
tail_spills i is h = ap (λ (b : Bool). is_frame_access i.instr || b) h ∙ or_true (is_frame_access i.instr)
  where
    or_true : (a : Bool) → (a || true) ≡ true
    or_true true = refl
    or_true false = refl

any_left : (xs ys : List Issue) → spills xs ≡ true → spills (xs ++ ys) ≡ true
any_left [] ys h = absurd (cc h)
any_left (x ∷ xs) ys h = by (is_frame_access x.instr) refl (λ g. any_left xs ys g)
  where
    by : (v : Bool) → is_frame_access x.instr ≡ v → (spills xs ≡ true → spills (xs ++ ys) ≡ true) → spills (x ∷ (xs ++ ys)) ≡ true
    by true e f = ap (λ (b : Bool). b || spills (xs ++ ys)) e
    by false e f = tail_spills x (xs ++ ys) (f (sym (ap (λ (b : Bool). b || spills xs) e) ∙ h))

module _ (e : Ext) (block : ExtBlock) (s : Setting) (b end : ℕ) where
  -- the slot to which value i goes
  abbrev slot_at : ℕ → Option ℕ
  slot_at i = slot_at_start s i (slice_get block.live_in i)

  no_slot : (i : ℕ) (name : Option NameId) → slot_at_start s i name ≡ None → i + 1 ≡ s.values → ⊥
  no_slot i (Some name) h e = cc h
  no_slot i None h e =
      let test : (i + 1 == s.values) ≡ true = grind (arith, nat_tests) in
      let z : Some s.link ≡ None = sym (ap (λ (v : Bool). if v then Some s.link else None) test) ∙ h in
      cc z

  -- a first copy of a value
  first_instr : (n : ℕ) (p : Progress) (purpose : Purpose) (op : ExtOp) → op.kind ≡ Copy D → p.definer ≡ Start
      → (planned_issue b end n op (step_of e block s p purpose op op.kind)).instr ≡ copy_of (spilled_to (slot_at p.values) p.cycle).instr
  first_instr n p purpose op is def =
      ap (λ (x : ExtKind). instruction_of x (step_of e block s p purpose op x).instr) is
      ∙ ap (λ (d : Definer). copy_of (first_copy e.names block.live_in s p d).instr) def

  spills_or : (n : ℕ) (p : Progress) (purpose : Purpose) (op : ExtOp) (is : List Issue) (k : ℕ) → op.kind ≡ Copy D → p.definer ≡ Start
      → p.values + suc k ≡ s.values → (1 ≤ k → spills is ≡ true)
      → spills (planned_issue b end n op (step_of e block s p purpose op op.kind) ∷ is) ≡ true
  spills_or n p purpose op is k kind def count rest = by (slot_at p.values) refl
    where
      positive : (j : ℕ) → (j ≡ 0 → ⊥) → 1 ≤ j
      positive zero h = absurd (h refl)
      positive (suc j) h = omega arith

      by : (slot : Option ℕ) → slot_at p.values ≡ slot
          → spills (planned_issue b end n op (step_of e block s p purpose op op.kind) ∷ is) ≡ true
      by (Some slot) at =
          head_spills (planned_issue b end n op (step_of e block s p purpose op op.kind)) is
          (first_instr n p purpose op kind def ∙ ap (λ (x : Option ℕ). copy_of (spilled_to x p.cycle).instr) at)
      by None at =
          tail_spills (planned_issue b end n op (step_of e block s p purpose op op.kind)) is
          (rest (positive k (λ z. no_slot p.values (slice_get block.live_in p.values) at (omega arith))))

  start_spills : (k n : ℕ) (p : Progress) (ops : List ExtOp) → BeginsWith k ops → 1 ≤ k → p.definer ≡ Start → p.values + k ≡ s.values
      → spills (issues_from e block s b end n p ops) ≡ true
  start_spills zero n p ops no_value le def count = absurd (omega arith)
  start_spills (suc k) n p [] begun le def count = elim begun [ ]
  start_spills (suc k) n p (op ∷ ops) (one_copy is rest) le def count =
      let purpose = purpose_at s.term (op ∷ ops) in
      let next = progress_of e block s p purpose op op.kind in
      let values : next.values ≡ p.values + 1 = ap (λ (x : ExtKind). (progress_of e block s p purpose op x).values) is in
      let definer : next.definer ≡ p.definer = ap (λ (x : ExtKind). (progress_of e block s p purpose op x).definer) is in
      spills_or n p purpose op (issues_from e block s b end (n + 1) next ops) k is def count (λ more.
      start_spills k (n + 1) next ops rest more (definer ∙ def) (omega arith))
  start_spills (suc k) n p (op ∷ (o ∷ ops)) (two_copies is second rest) le def count =
      let purpose = purpose_at s.term (op ∷ o ∷ ops) in
      let next = progress_of e block s p purpose op op.kind in
      let behind = purpose_at s.term (o ∷ ops) in
      let last = progress_of e block s next behind o o.kind in
      let values : next.values ≡ p.values + 1 = ap (λ (x : ExtKind). (progress_of e block s p purpose op x).values) is in
      let definer : next.definer ≡ p.definer = ap (λ (x : ExtKind). (progress_of e block s p purpose op x).definer) is in
      let same : last.values ≡ next.values = ap (λ (x : ExtKind). (progress_of e block s next behind o x).values) second in
      let still : last.definer ≡ next.definer = ap (λ (x : ExtKind). (progress_of e block s next behind o x).definer) second in
      spills_or n p purpose op (issues_from e block s b end (n + 1) next (o ∷ ops)) k is def count (λ more.
      tail_spills (planned_issue b end (n + 1) o (step_of e block s next behind o o.kind)) (issues_from e block s b end (n + 1 + 1) last
      ops)
      (start_spills k (n + 1 + 1) last ops rest more (still ∙ definer ∙ def) (omega arith)))

-- ---- the entry

-- an operation adds operations
record Grows (g g' : Growth) : Type 0 where
  more : List ExtOp
  adds : Adds g g' more

grows_then : (g g' g'' : Growth) → Grows g g' → Grows g' g'' → Grows g g''
grows_then g g' g'' h k = record { more = h.more ++ k.more; adds = adds_then g g' g'' h.more k.more h.adds k.adds }

grows_not : (g : Growth) → Grows g g
grows_not g = record { more = []; adds = adds_nothing g }

leave_grows : (kind : ExtKind) (g : Growth) → Grows g (with_leave kind g)
leave_grows (End term) g = by (is_return term)
  where
    by : (v : Bool) → Grows g (if v then with_op g (frame_op Leave) else g)
    by true = record { more = frame_op Leave ∷ []; adds = record { ops = refl } }
    by false = grows_not g
leave_grows In g = grows_not g
leave_grows Out g = grows_not g
leave_grows (Body o) g = grows_not g
leave_grows (Copy node) g = grows_not g
leave_grows Enter g = grows_not g
leave_grows Leave g = grows_not g

enter_grows : (entry : Bool) (kind : ExtKind) (g : Growth) → Grows g (with_enter entry kind g)
enter_grows true In g = record { more = frame_op Enter ∷ []; adds = record { ops = refl } }
enter_grows true Out g = grows_not g
enter_grows true (Body o) g = grows_not g
enter_grows true (End term) g = grows_not g
enter_grows true (Copy node) g = grows_not g
enter_grows true Enter g = grows_not g
enter_grows true Leave g = grows_not g
enter_grows false kind g = grows_not g

module _ (names : List Kind) (live_in : List NameId) (saved : Bool) where
  extended_grows : (entry : Bool) (op : ExtOp) (g : Growth) → Grows g (with_extended names live_in entry saved op g)
  extended_grows entry op g =
      let before = with_leave op.kind g in
      let read = with_operands op.operands before in
      let count = length op.results in
      let here = with_results op.kind (new_operands op.operands before) count read in
      let all = with_values read.next (sorts_of names live_in saved op.kind count) here in
      let us = operands_add op.operands before in
      let ds = values_add read.next (sorts_of names live_in saved op.kind count) here in
      let made : ExtOp = record { kind = op.kind; operands = new_operands op.operands before; results = new_temps read count } in
      let reads : Grows before read = record { more = us.more; adds = us.adds } in
      let defines : Grows read here = record { more = made ∷ []; adds = record { ops = refl } } in
      let copied : Grows here all = record { more = ds.more; adds = ds.adds } in
      grows_then g before (with_enter entry op.kind all) (leave_grows op.kind g)
      (grows_then before read (with_enter entry op.kind all) reads
      (grows_then read here (with_enter entry op.kind all) defines
      (grows_then here all (with_enter entry op.kind all) copied (enter_grows entry op.kind all))))

  all_grows : (entry : Bool) (ops : List ExtOp) (g : Growth) → Grows g (with_all_extended names live_in entry saved ops g)
  all_grows entry [] g = grows_not g
  all_grows entry (op ∷ ops) g =
      let next = with_extended names live_in entry saved op g in
      grows_then g next (with_all_extended names live_in entry saved ops next) (extended_grows entry op g) (all_grows entry ops next)

copied_append : (xs ys : List Sort) → AreCopied xs → AreCopied ys → AreCopied (xs ++ ys)
copied_append [] ys h k = k
copied_append (x ∷ xs) ys h k = (h.0, copied_append xs ys h.1 k)

copied_names : (names : List Kind) (live_in : List NameId) → AreCopied (map (sort_of_name names) live_in)
copied_names names [] = tt
copied_names names (name ∷ live_in) = (refl, copied_names names live_in)

copied_saved : (n : ℕ) (kind : Kind) → AreCopied (replicate n (record { kind = kind; copied = true }))
copied_saved zero kind = tt
copied_saved (suc n) kind = (refl, copied_saved n kind)

-- the entry begins with its values and their copies
record StartsWith (count : ℕ) (ops : List ExtOp) : Type 0 where
  start : ExtOp
  rest : List ExtOp
  whole : ops ≡ start ∷ rest
  is : start.kind ≡ In
  results : length start.results ≡ count
  begins : BeginsWith count rest

starts : (names : List Kind) (live_in : List NameId) (n c : ℕ) (more : List ExtOp) (values : List Value) (next : ℕ) → length live_in ≤ c
    → StartsWith c (with_all_extended names live_in true true (in_op n c ∷ more) (record { ops = []; values = values; next = next })).ops
starts names live_in n c more values next le =
    let g : Growth = record { ops = []; values = values; next = next } in
    let op = in_op n c in
    let count = length op.results in
    let size : count ≡ c = length-map-range_with_len temp n c in
    let here = with_results In [] count g in
    let saved_sort : Sort = record { kind = General; copied = true } in
    let sorts = sorts_of names live_in true In count in
    let all = with_values g.next sorts here in
    let copies = values_begin g.next sorts here (copied_append (map (sort_of_name names) live_in) (replicate (count - length live_in)
    saved_sort) (copied_names names live_in) (copied_saved (count - length live_in) General)) in
    let behind = all_grows names live_in true true more (with_op all (frame_op Enter)) in
    let start : ExtOp = record { kind = In; operands = []; results = new_temps g count } in
    let long : length sorts ≡ c = length-append (map (sort_of_name names) live_in) (replicate (count - length live_in)
    saved_sort) ∙ (let a = length-map live_in (sort_of_name names) in
    let b = length-replicate (count - length live_in) saved_sort in omega arith) in
    let zero_more : c ≡ length sorts + 0 = omega arith in
    record {
      start = start;
      rest = copies.more ++ (frame_op Enter ∷ behind.more);
      whole = (behind.adds).ops ∙ ap (λ (xs : List ExtOp). (xs ++ frame_op Enter ∷ []) ++ behind.more) (copies.adds).ops
          ∙ ap (λ (xs : List ExtOp). start ∷ xs) (append_assoc copies.more (frame_op Enter ∷ []) behind.more);
      is = refl;
      results = length-map-range_with_len temp next count ∙ size;
      begins = copies.begin 0 c (frame_op Enter ∷ behind.more) zero_more no_value;
    }

entry_spills : (e : Ext) (block : ExtBlock) (b n count : ℕ) → StartsWith count block.ops → 1 ≤ count
    → spills (planned_issues b n block (block_plan e true block)) ≡ true
entry_spills e block b n count h le =
    let s = setting_of e true block in
    let end = (block_plan e true block).end in
    let first = first_progress e true in
    let purpose = purpose_at s.term (h.start ∷ h.rest) in
    let next = progress_of e block s first purpose h.start h.start.kind in
    let values : next.values ≡ 0 = ap (λ (x : ExtKind). (progress_of e block s first purpose h.start x).values) h.is in
    let definer : next.definer ≡ Start = ap (λ (x : ExtKind). (progress_of e block s first purpose h.start x).definer) h.is in
    let size : s.values ≡ count = ap (λ (ops : List ExtOp). length (live_in_temps ops)) h.whole
    ∙ ap (λ (x : ExtKind). length (results_of_start x h.start.results (live_in_temps h.rest))) h.is ∙ h.results in
    subst (λ (ops : List ExtOp). spills (issues_from e block s b end n first ops) ≡ true) (sym h.whole)
    (tail_spills (planned_issue b end n h.start (step_of e block s first purpose h.start h.start.kind))
    (issues_from e block s b end (n + 1) next h.rest)
    (start_spills e block s b end count (n + 1) next h.rest h.begins le definer (omega arith)))

abbrev of_blocks : List Kind → Table → ℕ → List (List NameId) → List Block → Ext
of_blocks names t count lists blocks = record {
  table = t;
  names = names;
  blocks = extended_blocks names true [] 0 (linear_blocks t count lists 0 0 blocks);
}

blocks_spill : (names : List Kind) (t : Table) (count : ℕ) (lists : List (List NameId)) (blocks : List Block)
    → (let e = of_blocks names t count lists blocks in
    0 < length e.blocks → uses_frame (planned_schedule e.blocks (block_plans e true e.blocks)) ≡ true)
blocks_spill names t count lists [] some = absurd (omega arith)
blocks_spill names t count lists (block ∷ blocks) some =
    let e = of_blocks names t count lists (block ∷ blocks) in
    let lin = linear_block t count lists 0 0 block in
    let live_in = live_at lists 0 in
    let c = length live_in + length (saved_registers t) in
    let link = length-append (callee_saved t) (LINK ∷ []) in
    let more = drop 1 lin.ops in
    let g = grown_block names true [] 0 lin in
    let first = with_ops lin g.ops in
    let rest = over_plans planned_issues 1 (0 + length g.ops) (drop 1 e.blocks) (block_plans e false (drop 1 e.blocks)) in
    let here = any_left (planned_issues 0 0 first (block_plan e true first)) rest
    (entry_spills e first 0 0 c (starts names live_in 0 c more [] 0 (omega arith)) (omega arith)) in
    ap (λ (b : Bool). b || list_any starts_in_slot (planned_schedule e.blocks (block_plans e true e.blocks)).ranges) here

-- a copy spills the link register's value
pub spilled_uses : (f : Function) (lists : List (List NameId)) (t : Table) → (let e = extend_of (lin_of f lists t) in
    0 < length e.blocks → uses_frame (planned_schedule e.blocks (block_plans e true e.blocks)) ≡ true)
spilled_uses f lists t some = blocks_spill (map kind_of_pair f.names) t (length f.names) lists f.blocks some
