-- Each domain of a model is one that a variable may have: rising values, one at least, and fewer than 2^32.
use Rattle.std.proofs.Common.{ℕ, zero, suc, ◌≡◌, ◌+◌, ◌-◌, ◌<◌, ◌≤◌, ◌^◌, Bool, true, false, List}
use Rattle.std.proofs.Common.{[], ◌∷◌, ◌++◌, length, map, filter, take}
use Rattle.std.proofs.Common.{inl, inr, refl, sym, ap, subst, arith, All}
use Rattle.std.specs.Prelude.{Option, Some, None, IfSome, slice_get, slice_index, nat_eq, ◌||◌, if◌then◌else◌, sum_by}
use Rattle.std.specs.List.{range_with_len}
use Rattle.std.specs.Option.{option_map, option_to_list}
use Rattle.std.proofs.lemmas.Bool.Decides.{nat_tests}
use Rattle.std.proofs.lemmas.List.{length-append, length-map}
use Rattle.std.proofs.lemmas.List.FromFn.{length-range_with_len}
use Rattle.std.proofs.lemmas.List.Sums.{sum_by-cons}
use Rattle.un_base.specs.declared.ids.NameId.{NameId}
use Rattle.un_base.specs.declared.ids.TempId.{TempId}
use Rattle.un_isa.specs.Fit.{IsFit}
use Rattle.un_isa.specs.Registers.{saved_registers}
use Rattle.un_isa.specs.declared.op.Op.{Op}
use Rattle.un_isa.specs.declared.op.Op.TheVariants.{Call}
use Rattle.un_isa.specs.declared.reg.TheConstants.{FIRST_SLOT, REGISTERS}
use Rattle.un_ir.specs.declared.extended.Ext.{Ext}
use Rattle.un_ir.specs.declared.extended.ExtBlock.{ExtBlock}
use Rattle.un_ir.specs.declared.extended.ExtKind.{ExtKind}
use Rattle.un_ir.specs.declared.extended.ExtKind.TheVariants.{In, Out, Body, End, Copy, Enter, Leave}
use Rattle.un_ir.specs.declared.extended.ExtOp.{ExtOp}
use Rattle.un_ir.specs.declared.extended.Operand.{Operand}
use Rattle.un_ir.specs.Extended.{IsExtended, IsGoodExtBlock, IsGoodExtOp, IsGoodOperand, Want, result_count}
use Rattle.un_ir.specs.Extended.{results_of, all_results, size_of}
use Rattle.un_ir.specs.Extended.{temp, wants_of}
use Rattle.un_domains.specs.Domains.{IsDomain, Rises, values_of}
use Rattle.un_domains.specs.Sets.{NoneEmpty}
use Rattle.un_domains.specs.declared.domain.Domain.{Domain}
use Rattle.un_domains.specs.declared.domain.Domain.TheVariants.{Range, Set}
use Rattle.un_model.specs.declared.model.Model.{Model}
use Rattle.un_model.specs.declared.model.Options.{Options}
use Rattle.un_model.specs.Boxes.{root_of}
use Rattle.un_model.specs.Instructions.{gives_truth}
use Rattle.un_model.specs.Options.{AreOptions, IsCountOfRegisters}
use Rattle.un_model.specs.Pairs.{places_from}
use Rattle.un_model.specs.Registers.{reg_at, start_home, is_assignable, is_home, general_registers, value_registers, predicate_registers}
use Rattle.un_model.specs.Registers.{slots_of, with_zero, is_truth}
use Rattle.un_model.specs.Variables.{IsModel, instr_domain, cycle_domain, choice_domain, home_domain, source_domain, register_domain}
use Rattle.un_ir.specs.Kinds.{has_choices}
use Rattle.un_model.specs.Variables.{result_domain, carries_truth, chosen_operands, op_domains, ops_domains, blocks_domains}
use Rattle.un_model.specs.Variables.{own_horizon, domains_of}
use Rattle.un_lists.proofs.Lists.{Each, Pairwise, Member, each_of, each_member, each_more, each_map, each_join, each_all, pairwise_filter}
use Rattle.un_lists.proofs.Lists.{pairwise_map, pairwise_all, member_filter, member_map_of}
use Rattle.un_lists.proofs.Lists.{member_append_left, member_append_right, place_of}
use Rattle.un_lists.proofs.Lists.{length_get, get_below, member_at}
use Rattle.un_model.proofs.Operations.{contains_member}
use Rattle.un_root.proofs.Eaches.{all_each, each_places, zip_each}
use Rattle.un_root.proofs.RegisterBounds.{start_below, saved_below, result_below}
use Rattle.un_root.proofs.RegisterBounds.{run_below, run_from, general_below, predicates_below, values_below, zero_below, below_more}

-- ---- rising lists

abbrev Rising : List ℕ → Type 0
Rising xs = Pairwise (λ a b. a < b) xs

at_place : (P : ℕ → Type 0) (xs : List ℕ) (k : ℕ) → Each P xs → k < length xs → P (slice_index xs k)
at_place P [] k h lt = absurd (omega arith)
at_place P (x ∷ xs) zero h lt = h.0
at_place P (x ∷ xs) (suc k) h lt = at_place P xs k h.1 (omega arith)

rises_of : (xs : List ℕ) → Rising xs → Rises xs
rises_of [] h i j lt below = absurd (omega arith)
rises_of (x ∷ xs) h i zero lt below = absurd (omega arith)
rises_of (x ∷ xs) h zero (suc j) lt below = at_place (λ y. x < y) xs j h.0 (omega arith)
rises_of (x ∷ xs) h (suc i) (suc j) lt below = rises_of xs h.1 i j (omega arith) (omega arith)

-- a rising list of numbers from a on, below n, has at most as many as there are
few_from : (a n : ℕ) (xs : List ℕ) → a ≤ n → Each (λ r. a ≤ r) xs → Each (λ r. r < n) xs → Rising xs → a + length xs ≤ n
few_from a n [] le from below rising = omega arith
few_from a n (x ∷ xs) le from below rising =
    let first = from.0 in
    let last = below.0 in
    let rest = few_from (x + 1) n xs (omega arith) (each_more (λ y. x < y) (λ y. x + 1 ≤ y) xs (λ y lt. omega arith) rising.0) below.1
    rising.1 in
    omega arith

few : (n : ℕ) (xs : List ℕ) → Each (λ r. r < n) xs → Rising xs → length xs ≤ n
few n xs below rising =
    let k = few_from 0 n xs (omega arith) (each_of (λ r. 0 ≤ r) xs (λ r m. omega arith)) below rising in omega arith

run_after : (a b n : ℕ) → a < b → Each (λ r. a < r) (range_with_len b n)
run_after a b zero lt = tt
run_after a b (suc n) lt = (lt, run_after a (b + 1) n (omega arith))

run_rises : (a n : ℕ) → Rising (range_with_len a n)
run_rises a zero = tt
run_rises a (suc n) = (run_after a (a + 1) n (omega arith), run_rises (a + 1) n)

join_rises : (n : ℕ) (xs ys : List ℕ) → Rising xs → Rising ys → Each (λ r. r < n) xs → Each (λ r. n ≤ r) ys → Rising (xs ++ ys)
join_rises n [] ys p q below from = q
join_rises n (x ∷ xs) ys p q below from = (
  each_join (λ r. x < r) xs ys p.0 (each_more (λ r. n ≤ r) (λ r. x < r) ys (λ r le. let lt = below.0 in omega arith) from),
  join_rises n xs ys p.1 q below.1 from,
)

-- ---- domains

-- a domain of values below 2^32
pub record IsWordDomain (d : Domain) : Type 0 where
  pub domain : IsDomain d
  pub words : Each (λ v. v < 2 ^ 32) (values_of d)

range_is : (lo hi : ℕ) → lo ≤ hi → hi + 1 < 2 ^ 32 → IsWordDomain (Range lo hi)
range_is lo hi le small = record {
  domain = record {
    rises = rises_of (range_with_len lo (hi + 1 - lo)) (run_rises lo (hi + 1 - lo));
    some = omega (arith, length-range_with_len lo (hi + 1 - lo), le);
    few = omega (arith, length-range_with_len lo (hi + 1 - lo), small);
  };
  words = each_of (λ v. v < 2 ^ 32) (range_with_len lo (hi + 1 - lo)) (λ v m. let lt = run_below lo (hi + 1 - lo) v m in omega arith);
}

set_is : (n : ℕ) (vs : List ℕ) → n < 2 ^ 32 → Rising vs → Each (λ r. r < n) vs → 0 < length vs → IsWordDomain (Set vs)
set_is n vs small rising below some = record {
  domain = record {
    rises = rises_of vs rising;
    some = some;
    few = let k = few n vs below rising in omega arith;
  };
  words = each_more (λ v. v < n) (λ v. v < 2 ^ 32) vs (λ v lt. omega arith) below;
}

single_is : (v : ℕ) → v < 32 → IsWordDomain (Set (v ∷ []))
single_is v lt = set_is 32 (v ∷ []) (omega arith) (tt, tt) (lt, tt) (omega arith)

-- ---- sets of registers

some_member : (x : ℕ) (xs : List ℕ) → Member x xs → 0 < length xs
some_member x [] m = elim m [ ]
some_member x (y ∷ ys) m = omega arith

zero_assignable : (regs : Option ℕ) → IfSome regs IsCountOfRegisters → is_assignable regs 0 ≡ true
zero_assignable None h = refl
zero_assignable (Some n) h = let pos = h.0 in grind (arith, nat_tests, pos)

filtered_rises : (t : ℕ → Bool) (a n : ℕ) → Rising (filter t (range_with_len a n))
filtered_rises t a n = pairwise_filter (λ a b. a < b) t (range_with_len a n) (run_rises a n)

filtered_some : (t : ℕ → Bool) (n : ℕ) → t 0 ≡ true → 0 < n → 0 < length (filter t (range_with_len 0 n))
filtered_some t zero first pos = absurd (omega arith)
filtered_some t (suc n) first pos =
    some_member 0 (filter t (range_with_len 0 (suc n))) (member_filter t (range_with_len 0 (suc n)) 0 (inl refl) first)

module _ (e : Ext) (o : Options) (ie : Bool) (block : ExtBlock) where
  generals_rise : (x : TempId) → Rising (general_registers e o.regs ie block x)
  unfolding general_registers
  generals_rise x = filtered_rises (λ (r : ℕ). is_assignable o.regs r || is_home e.table ie block x r) 0 32

  generals_some : (x : TempId) → AreOptions o → 0 < length (general_registers e o.regs ie block x)
  unfolding general_registers
  generals_some x options =
      filtered_some (λ (r : ℕ). is_assignable o.regs r || is_home e.table ie block x r) 32
      (ap (λ (b : Bool). b || is_home e.table ie block x 0) (zero_assignable o.regs options.regs)) (omega arith)

  abbrev truths : Bool → List ℕ
  truths b = if b then predicate_registers else []

  truths_rise : (b : Bool) → Rising (truths b)
  truths_rise true = run_rises 32 4
  truths_rise false = tt

  truths_from : (b : Bool) → Each (λ r. 32 ≤ r) (truths b)
  truths_from true = (omega arith, (omega arith, (omega arith, (omega arith, tt))))
  truths_from false = tt

  truths_below : (b : Bool) → Each (λ r. r < REGISTERS) (truths b)
  truths_below true = predicates_below
  truths_below false = tt

  values_rise : (x : TempId) → Rising (value_registers e o.regs o.slots ie block x)
  values_rise x =
      let generals = general_registers e o.regs ie block x in
      let b = is_truth e.names block x in
      join_rises FIRST_SLOT (generals ++ truths b) (slots_of o.slots)
      (join_rises 32 generals (truths b) (generals_rise x) (truths_rise b) (general_below e o ie block x) (truths_from b))
      (run_rises FIRST_SLOT o.slots)
      (each_join (λ r. r < REGISTERS) generals (truths b)
      (below_more 32 REGISTERS generals (omega arith) (general_below e o ie block x)) (truths_below b))
      (each_of (λ r. FIRST_SLOT ≤ r) (slots_of o.slots) (λ r m. run_from FIRST_SLOT o.slots r m))

  values_some : (x : TempId) → AreOptions o → 0 < length (value_registers e o.regs o.slots ie block x)
  values_some x options =
      let generals = general_registers e o.regs ie block x in
      let b = is_truth e.names block x in
      let some = generals_some x options in
      let m = length-append (generals ++ truths b) (slots_of o.slots) in
      let n = length-append generals (truths b) in
      omega arith

zero_rises : (rs : List ℕ) → Rising rs → Rising (with_zero rs)
zero_rises [] p = (tt, tt)
zero_rises (r ∷ rs) p = go (nat_eq r 0) refl
  where
    go : (b : Bool) → nat_eq r 0 ≡ b → Rising (if b then r ∷ rs else 0 ∷ r ∷ rs)
    go true q = p
    go false q = let pos : 0 < r = grind (arith, nat_tests, q) in
        ((pos, each_more (λ y. r < y) (λ y. 0 < y) rs (λ y lt. omega arith) p.0), p)

zero_some : (rs : List ℕ) → 0 < length (with_zero rs)
zero_some [] = omega arith
zero_some (r ∷ rs) = go (nat_eq r 0)
  where
    go : (b : Bool) → 0 < length (if b then r ∷ rs else 0 ∷ r ∷ rs)
    go true = omega arith
    go false = omega arith

none_past : {X : Type 0} (xs : List X) (k : ℕ) → slice_get xs k ≡ None → length xs ≤ k
none_past [] k h = omega arith
none_past (x ∷ xs) zero h = absurd (cc h)
none_past (x ∷ xs) (suc k) h = let r = none_past xs k h in omega arith

-- ---- the registers of a result

module _ (e : Ext) (o : Options) (fit : IsFit e.table) (options : AreOptions o) where
  starts_are : (block : ExtBlock) (j : ℕ) → j < length block.live_in + length (saved_registers e.table)
      → IsWordDomain (home_domain (start_home e.table true block.live_in j (slice_get block.live_in j)))
  starts_are block j below = go (slice_get block.live_in j) refl
    where
      go : (name : Option NameId) → slice_get block.live_in j ≡ name
          → IsWordDomain (home_domain (start_home e.table true block.live_in j name))
      go (Some name) q = single_is (slice_index (e.table).args name.0) (start_below e.table true block.live_in j (Some name) fit)
      go None q =
          let past = none_past block.live_in j q in
          let r = get_below (saved_registers e.table) (j - length block.live_in) (omega arith) in
          let lt = each_member (λ r. r < 32) (saved_registers e.table) r.0 (saved_below e.table)
          (member_at (saved_registers e.table) (j - length block.live_in) r.0 r.1) in
          subst (λ (k : Option ℕ). IsWordDomain (home_domain (option_map reg_at k))) (sym r.1) (single_is r.0 lt)

  sources_are : (ie : Bool) (block : ExtBlock) (op : Op) (x : TempId) → IsWordDomain (source_domain e o ie block op x)
  sources_are ie block Call x = single_is (e.table).result (result_below e.table fit)
  sources_are ie block op x = go (gives_truth op)
    where
      go : (b : Bool) → IsWordDomain (Set (if b then predicate_registers else general_registers e o.regs ie block x))
      go true = set_is FIRST_SLOT predicate_registers (omega arith) (run_rises 32 4) predicates_below (omega arith)
      go false = set_is 32 (general_registers e o.regs ie block x) (omega arith) (generals_rise e o ie block x)
          (general_below e o ie block x)
          (generals_some e o ie block x options)

  registers_are : (ie : Bool) (block : ExtBlock) (kind : ExtKind) (j : ℕ) (x y : TempId) → j < result_count e.table block kind
      → IsWordDomain (register_domain e o ie block kind j x y)
  registers_are true block In j x y below = starts_are block j below
  registers_are false block In j x y below =
      let few = options.slots in
      set_is (FIRST_SLOT + o.slots) (value_registers e o.regs o.slots false block x) (omega arith) (values_rise e o false block x)
      (values_below e o false block x) (values_some e o false block x options)
  registers_are ie block (Body so) j x y below = sources_are ie block so.op x
  registers_are ie block (Copy node) j x y below =
      let few = options.slots in
      let rs = value_registers e o.regs o.slots ie block y in
      set_is (FIRST_SLOT + o.slots) (with_zero rs) (omega arith) (zero_rises rs (values_rise e o ie block y))
      (zero_below (FIRST_SLOT + o.slots) rs (omega arith) (values_below e o ie block y)) (zero_some rs)
  registers_are ie block Out j x y below = absurd (omega arith)
  registers_are ie block (End term) j x y below = absurd (omega arith)
  registers_are ie block Enter j x y below = absurd (omega arith)
  registers_are ie block Leave j x y below = absurd (omega arith)

  -- ---- an operation

  copies_are : (truth : Bool) → IsWordDomain (Range 0 (if truth then 5 else 3))
  copies_are true = range_is 0 5 (omega arith) (omega arith)
  copies_are false = range_is 0 3 (omega arith) (omega arith)

  instrs_are : (truth : Bool) (kind : ExtKind) → Each IsWordDomain (option_to_list (instr_domain truth kind))
  instrs_are true (Copy node) = (copies_are true, tt)
  instrs_are false (Copy node) = (copies_are false, tt)
  instrs_are truth Enter = (range_is 0 1 (omega arith) (omega arith), tt)
  instrs_are truth Leave = (range_is 0 1 (omega arith) (omega arith), tt)
  instrs_are truth In = tt
  instrs_are truth Out = tt
  instrs_are truth (Body so) = tt
  instrs_are truth (End term) = tt

  cycles_are : (horizon : ℕ) (kind : ExtKind) → 2 ≤ horizon → horizon < 2 ^ 32
      → Each IsWordDomain (option_to_list (cycle_domain horizon kind))
  cycles_are horizon In some small = tt
  cycles_are horizon Out some small = tt
  cycles_are horizon (Body so) some small = (range_is 1 (horizon - 1) (omega arith) (omega arith), tt)
  cycles_are horizon (End term) some small = (range_is 1 (horizon - 1) (omega arith) (omega arith), tt)
  cycles_are horizon (Copy node) some small = (range_is 0 (horizon - 1) (omega arith) (omega arith), tt)
  cycles_are horizon Enter some small = (range_is 0 (horizon - 1) (omega arith) (omega arith), tt)
  cycles_are horizon Leave some small = (range_is 0 (horizon - 1) (omega arith) (omega arith), tt)

  -- an operand's alternatives rise, and are among fewer than 2^24 temporaries
  choice_is : (before : List TempId) (operand : Operand) (want : Want) → Each (λ (y : TempId). y.0 < 2 ^ 24) before
      → IsGoodOperand e.names e.blocks before operand want → IsWordDomain (choice_domain operand)
  choice_is before operand want below good =
      let number : TempId → ℕ = λ y. y.0 in
      let known = each_all _ operand.alts good.known in
      let each = each_map (λ r. r < 2 ^ 24) number operand.alts (each_of (λ (y : TempId). y.0 < 2 ^ 24) operand.alts (λ y m.
      each_member (λ (y : TempId). y.0 < 2 ^ 24) before y below (contains_member before y (each_member _ operand.alts y known m)))) in
      let rising = pairwise_map (λ a b. a < b) number operand.alts (pairwise_all _ operand.alts good.rising) in
      let most = few (2 ^ 24) (map number operand.alts) each rising in
      let same = length-map operand.alts number in
      range_is 0 (length operand.alts - 1) (omega arith) (omega arith)

  -- a good operation, whose operands read some of fewer than 2^24 temporaries
  record GoodOp (block : ExtBlock) (op : ExtOp) : Type 0 where
    pub before : List TempId
    pub keeps : IsGoodExtOp e.table e.names e.blocks block before op
    pub below : Each (λ (y : TempId). y.0 < 2 ^ 24) before

  op_is : (ie : Bool) (block : ExtBlock) (horizon : ℕ) (op : ExtOp) → 2 ≤ horizon → horizon < 2 ^ 32 → GoodOp block op
      → Each IsWordDomain (op_domains e o ie block horizon op)
  op_is ie block horizon op some small good =
      let k = good.keeps in
      let truth = carries_truth e block op op.results in
      let instrs = option_to_list (instr_domain truth op.kind) in
      let cycles = option_to_list (cycle_domain horizon op.kind) in
      let choices = map choice_domain (chosen_operands op) in
      let registers = places_from (result_domain e o ie block op) 0 op.results in
      let operands = zip_each (IsGoodOperand e.names e.blocks good.before) (λ (x : Operand). IsWordDomain (choice_domain x)) op.operands
      (wants_of e.table e.names e.blocks block op.kind op) (λ x want fits. choice_is good.before x want good.below fits) k.operands in
      each_join IsWordDomain (instrs ++ cycles ++ choices) registers
      (each_join IsWordDomain (instrs ++ cycles) choices
      (each_join IsWordDomain instrs cycles (instrs_are truth op.kind) (cycles_are horizon op.kind some small))
      (each_map IsWordDomain choice_domain (chosen_operands op) (chosen (has_choices op.kind) operands)))
      (each_places IsWordDomain (result_domain e o ie block op) op.results (λ j x at.
      let lt = length_get op.results j x at in
      let count = k.results in
      registers_are ie block op.kind j x _ (omega arith)))
    where
      chosen : (b : Bool) → Each (λ (x : Operand). IsWordDomain (choice_domain x)) op.operands
          → Each (λ (x : Operand). IsWordDomain (choice_domain x)) (if b then op.operands else [])
      chosen true h = h
      chosen false h = tt

  ops_are : (ie : Bool) (block : ExtBlock) (horizon : ℕ) (ops : List ExtOp) → 2 ≤ horizon → horizon < 2 ^ 32 → Each (GoodOp block) ops
      → Each IsWordDomain (ops_domains e o ie block horizon ops)
  ops_are ie block horizon [] some small good = tt
  ops_are ie block horizon (op ∷ ops) some small good =
      each_join IsWordDomain (op_domains e o ie block horizon op) (ops_domains e o ie block horizon ops)
      (op_is ie block horizon op some small good.0) (ops_are ie block horizon ops some small good.1)

  -- ---- blocks

  record GoodBlock (block : ExtBlock) : Type 0 where
    pub some : 2 ≤ block.horizon
    pub small : block.horizon + 1 < 2 ^ 32
    pub ops : Each (GoodOp block) block.ops

  blocks_are : (ie : Bool) (blocks : List ExtBlock) → Each GoodBlock blocks → Each IsWordDomain (blocks_domains e o own_horizon ie blocks)
  blocks_are ie [] good = tt
  blocks_are ie (block ∷ blocks) good =
      let g = good.0 in
      let some = g.some in
      let small = g.small in
      let ops = ops_domains e o ie block block.horizon block.ops in
      each_join IsWordDomain (ops ++ Range 1 block.horizon ∷ []) (blocks_domains e o own_horizon false blocks)
      (each_join IsWordDomain ops (Range 1 block.horizon ∷ []) (ops_are ie block block.horizon block.ops g.some (omega arith) g.ops)
      (range_is 1 block.horizon (omega arith) (omega arith), tt))
      (blocks_are false blocks good.1)

-- ---- how many operations and temporaries there are

abbrev op_size : ExtOp → ℕ
op_size op = 1 + length op.operands + length op.results

abbrev block_size : ExtBlock → ℕ
block_size block = sum_by op_size block.ops

ops_few : (ops : List ExtOp) → (length ops ≤ sum_by op_size ops) × (length (results_of ops) ≤ sum_by op_size ops)
ops_few [] = (omega arith, omega arith)
ops_few (op ∷ ops) =
    let r = ops_few ops in
    let a = r.0 in
    let b = r.1 in
    let s = sum_by-cons op_size op ops in
    let l = length-append op.results (results_of ops) in
    (omega arith, omega arith)

blocks_few : (blocks : List ExtBlock) → length (all_results blocks) ≤ size_of blocks
blocks_few [] = omega arith
blocks_few (block ∷ blocks) =
    let a = (ops_few block.ops).1 in
    let b = blocks_few blocks in
    let s = sum_by-cons block_size block blocks in
    let l = length-append (results_of block.ops) (all_results blocks) in
    omega arith

each_few : (n : ℕ) (blocks : List ExtBlock) → size_of blocks < n → Each (λ (block : ExtBlock). length block.ops < n) blocks
each_few n [] small = tt
each_few n (block ∷ blocks) small =
    let a = (ops_few block.ops).0 in
    let s = sum_by-cons block_size block blocks in
    (omega arith, each_few n blocks (omega arith))

more_after : (xs ys zs : List TempId) (y : TempId) → (Member y ys → Member y zs) → Member y (xs ++ ys) → Member y (xs ++ zs)
more_after [] ys zs y f m = f m
more_after (x ∷ xs) ys zs y f (inl e) = inl e
more_after (x ∷ xs) ys zs y f (inr m) = inr (more_after xs ys zs y f m)

-- what the first operations define
taken_among : (ops : List ExtOp) (k : ℕ) (y : TempId) → Member y (results_of (take k ops)) → Member y (results_of ops)
taken_among ops zero y m = elim m [ ]
taken_among [] (suc k) y m = elim m [ ]
taken_among (q ∷ qs) (suc k) y m =
    more_after q.results (results_of (take k qs)) (results_of qs) y (λ (n : Member y (results_of (take k qs))). taken_among qs k y n) m

among_all : (blocks : List ExtBlock) (block : ExtBlock) (y : TempId) → Member block blocks → Member y (results_of block.ops)
    → Member y (all_results blocks)
among_all [] block y n m = elim n [ ]
among_all (b ∷ bs) block y (inl same) m =
    member_append_left (results_of b.ops) (all_results bs) y (subst (λ (c : ExtBlock). Member y (results_of c.ops)) (sym same) m)
among_all (b ∷ bs) block y (inr n) m = member_append_right (results_of b.ops) (all_results bs) y (among_all bs block y n m)

module _ (e : Ext) (o : Options) (extended : IsExtended e) (fit : IsFit e.table) (options : AreOptions o) where
  number_below : (y : TempId) → Member y (all_results e.blocks) → y.0 < 2 ^ 24
  number_below y m =
      let good = extended.good in
      let total = length (all_results e.blocks) in
      let r = member_map_of temp (range_with_len 0 total) y (subst (Member y) good.numbered m) in
      let lt = run_below 0 total r.0 r.1 in
      let same : r.0 ≡ y.0 = ap (λ (z : TempId). z.0) r.2 in
      let most = blocks_few e.blocks in
      let small = good.small in
      omega arith

  good_block : (block : ExtBlock) → Member block e.blocks → IsGoodExtBlock e.table e.names e.blocks block → GoodBlock e o fit options block
  good_block block n g =
      let good = extended.good in
      let h = g.horizon in
      let lt = each_member (λ (b : ExtBlock). length b.ops < 2 ^ 24) e.blocks block (each_few (2 ^ 24) e.blocks good.small) n in
      record {
        some = omega arith;
        small = omega arith;
        ops = each_of (GoodOp e o fit options block) block.ops (λ op m.
            let k = place_of block.ops op m in
            record {
              before = results_of (take k.0 block.ops);
              keeps = g.ops k.0 op k.2;
              below = each_of (λ (y : TempId). y.0 < 2 ^ 24) (results_of (take k.0 block.ops)) (λ y my.
                  number_below y (among_all e.blocks block y n (taken_among block.ops k.0 y my)));
            });
      }

  pub domains_each : Each IsWordDomain (domains_of own_horizon e o)
  domains_each =
      let good = extended.good in
      let each = each_all (IsGoodExtBlock e.table e.names e.blocks) e.blocks good.each in
      each_join IsWordDomain (blocks_domains e o own_horizon true e.blocks) (Range 0 1 ∷ [])
      (blocks_are e o fit options true e.blocks (each_of (GoodBlock e o fit options) e.blocks (λ block n.
      good_block block n (each_member (IsGoodExtBlock e.table e.names e.blocks) e.blocks block each n))))
      (range_is 0 1 (omega arith) (omega arith), tt)

-- each is a domain
pub domains_are : (m : Model) → IsModel m → IsExtended m.ext → IsFit m.ext.table → AreOptions m.options → All IsDomain m.domains
domains_are m model extended fit options =
    subst (λ (ds : List Domain). All IsDomain ds) (sym (ap (λ (k : Model). k.domains) model))
    (all_each IsDomain (domains_of own_horizon m.ext m.options) (each_more IsWordDomain IsDomain (domains_of own_horizon m.ext m.options)
    (λ d g. g.domain) (domains_each m.ext m.options extended fit options)))

pub some_each : (ds : List Domain) → Each IsWordDomain ds → NoneEmpty (map values_of ds)
some_each [] h v lt = absurd (omega arith)
some_each (d ∷ ds) h zero lt = let g = h.0 in g.domain.some
some_each (d ∷ ds) h (suc v) lt = some_each ds h.1 v (omega arith)

-- and each has one
pub domains_live : (m : Model) → IsModel m → IsExtended m.ext → IsFit m.ext.table → AreOptions m.options → NoneEmpty (root_of m)
domains_live m model extended fit options =
    subst (λ (ds : List Domain). NoneEmpty (map values_of ds)) (sym (ap (λ (k : Model). k.domains) model))
    (some_each (domains_of own_horizon m.ext m.options) (domains_each m.ext m.options extended fit options))
