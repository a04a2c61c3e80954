-- The Spills that values which are there in the cycle of an operation and are read after it owe by then.
use Rattle.std.proofs.Common.{ℕ, zero, suc, ◌≡◌, ◌<◌, ◌≤◌, ◌+◌, Bool, true, false, List, [], ◌∷◌, length, map, filter, inl, inr, refl, sym}
use Rattle.std.proofs.Common.{ap, ◌∙◌, subst, arith, eq-eqb}
use Rattle.std.specs.Prelude.{Option, Some, None, slice_get, ◌&&◌, ◌||◌, ◌==◌, nat_le, nat_lt, is_some, IfSome, count_by}
use Rattle.std.specs.Option.{option_to_list}
use Rattle.std.proofs.lemmas.Bool.Decides.{nat_tests}
use Rattle.un_base.specs.declared.ids.TempId.{TempId}
use Rattle.un_base.specs.declared.ids.VarId.{VarId}
use Rattle.un_isa.specs.declared.op.Op.{Op}
use Rattle.un_isa.specs.declared.op.Op.TheVariants.{Spill}
use Rattle.un_isa.specs.declared.reg.TheConstants.{FIRST_SLOT, REGISTERS}
use Rattle.un_ir.specs.Extended.{IsGoodKind, IsSourceOp, result_count, is_copy}
use Rattle.un_ir.specs.Kinds.{is_delimiter}
use Rattle.un_ir.specs.Linear.{is_in}
use Rattle.un_ir.specs.declared.extended.ExtKind.{ExtKind}
use Rattle.un_ir.specs.declared.extended.ExtKind.TheVariants.{In, Out, Body, End, Copy, Enter, Leave}
use Rattle.un_ir.specs.declared.extended.ExtBlock.{ExtBlock}
use Rattle.un_ir.specs.declared.extended.Ext.{Ext}
use Rattle.un_model.specs.declared.model.Options.{Options}
use Rattle.un_model.specs.declared.schedule.Issue.{Issue}
use Rattle.un_model.specs.Cost.{value_of}
use Rattle.un_model.specs.Instructions.{instruction_of, space_given, copy_of}
use Rattle.un_model.specs.Schedules.{issues_of, value_by, cycle_by}
use Rattle.un_model.specs.Solutions.{InSpace, IsPlaced, IsPlacedAs}
use Rattle.un_model.specs.Variables.{model_of, var_at, ops_count, block_count}
use Rattle.un_lists.proofs.Lists.{Each, Pairwise, Member, each_member, each_all, each_of, each_map, pairwise_more, pairwise_map}
use Rattle.un_lists.proofs.Lists.{pairwise_filter}
use Rattle.un_lists.proofs.Lists.{member_at, member_of_filter, length_get, place_of}
use Rattle.un_model.proofs.Operations.{placed_is}
use Rattle.un_model.proofs.Placed.{Placed, block_placed, blocks_placed, vars_of, end_of, issue_at, Spot, spot, spots_of, all_count}
use Rattle.un_model.proofs.Placed.{at_number}
use Rattle.un_model.proofs.PlacedSchedules.{all, spots, definer_in, one_spot, issue_here, given_space}
use Rattle.un_model.proofs.PlacedSchedules.{joined_member, places_member, split_member}
use Rattle.un_model.proofs.Readings.{Solved, numbered, placed_good}
use Rattle.un_model.proofs.TempKinds.{carried_at, spot_carried}
use Rattle.un_press.specs.Accesses.{is_spill, spills_by, Spills}
use Rattle.un_press.proofs.Counting.{Differ, PassesAt, many_pass, length_mapped}
use Rattle.un_press.proofs.Crossings.{reg_of, is_active, Crossing, Carried, carried_all, carried_values, spot_in, spot_member, spot_active}
use Rattle.un_press.proofs.Crossings.{spot_block, spot_there, spot_value, HasRegister, in_slot, Differs, many_in_slots, values_differ}
use Rattle.un_press.proofs.Descent.{cycle_at}
use Rattle.un_press.proofs.Needs.{no_slot, gives_register, gives_slot}

-- ---- tests

pub three : (a b c d : Bool) → a ≡ true → b ≡ true → c ≡ true → d ≡ true → (a && b && (c && d)) ≡ true
three true true true true p q r s = refl
three false b c d p q r s = absurd (cc p)
three true false c d p q r s = absurd (cc q)
three true true false d p q r s = absurd (cc r)
three true true true false p q r s = absurd (cc s)

pub lt_true : (a b : ℕ) → a < b → nat_lt a b ≡ true
lt_true a b lt = grind (arith, nat_tests, lt)

pub le_true : (a b : ℕ) → a ≤ b → nat_le a b ≡ true
le_true a b le = grind (arith, nat_tests, le)

pub true_le : (a b : ℕ) → nat_le a b ≡ true → a ≤ b
true_le a b h = grind (arith, nat_tests, h)

-- ---- ends of blocks

-- the variable of the end of the block at place k, where the first variable has the number `first`
abbrev close_at : ℕ → List ExtBlock → ℕ → VarId
close_at first [] k = var_at 0
close_at first (block ∷ blocks) zero = var_at (first + ops_count block.ops)
close_at first (block ∷ blocks) (suc k) = close_at (first + block_count block) blocks k

-- an operation has the end of its block
closes : (b n first : ℕ) (blocks : List ExtBlock) (p : Placed) → Member p (blocks_placed b n first blocks)
    → (k : ℕ) × (p.block ≡ b + k) × (p.close ≡ close_at first blocks k)
closes b n first [] p m = elim m [ ]
closes b n first (block ∷ blocks) p m = elim (split_member (block_placed b n first block)
    (blocks_placed (b + 1) (n + length block.ops) (first + block_count block) blocks) p m) [
      | inl here ↦ (
          let r = place_of (block_placed b n first block) p here in
          let is = placed_is b block (var_at (first + ops_count block.ops)) n first r.0 block.ops p r.2 in
          let at = is.2 in
          (0, omega (arith, at), is.4))
      | inr later ↦ (
          let r = closes (b + 1) (n + length block.ops) (first + block_count block) blocks p later in
          let at = r.1 in
          (suc r.0, omega (arith, at), r.2))
    ]

module _ (e : Ext) (o : Options) (values : List ℕ) (h : Solved e o values) where
  pub same_end : (p q : Placed) → Member p (all e o values) → Member q (all e o values) → p.block ≡ q.block
      → end_of values p ≡ end_of values q
  same_end p q mp mq same =
      let a = closes 0 0 0 e.blocks p mp in
      let b = closes 0 0 0 e.blocks q mq in
      let x = a.1 in
      let y = b.1 in
      let k : a.0 ≡ b.0 = omega (arith, x, y, same) in
      ap (λ (v : VarId). value_of values v) (a.2 ∙ ap (close_at 0 e.blocks) k ∙ sym b.2)

  pub placed_issue : (p : Placed) → Member p (all e o values) → IsPlaced (issue_at values p)
  placed_issue p m =
      let schedule = h.schedule in
      let latencies = schedule.latencies in
      let issues = issues_of (model_of e o) values in
      each_member IsPlaced issues (issue_at values p) (each_all IsPlaced issues latencies.0)
      (member_at issues p.number (issue_at values p) (issue_here e o values p m))

  -- an operation issues by the end of its block
  pub by_end : (p : Placed) → Member p (all e o values) → (issue_at values p).active ≡ true → cycle_at e o values h p ≤ end_of values p
  by_end p m act = let v = vars_of p in by p.op.kind (value_by values v.instr) refl refl act (placed_issue p m)
    where
      issued : (kind : ExtKind) (n cycle : ℕ) (i : Option Op) → instruction_of kind n ≡ i → is_delimiter kind ≡ false
          → (is_delimiter kind || is_some (instruction_of kind n)) ≡ true → IfSome (instruction_of kind n) (IsPlacedAs cycle
          (end_of values p))
          → cycle ≤ end_of values p
      issued kind n cycle None f d a placed =
          let no : false ≡ true = sym (ap (λ (b : Bool). b || is_some (instruction_of kind n)) d ∙ ap (λ (j : Option Op). is_some j) f)
          ∙ a in
          absurd (cc no)
      issued kind n cycle (Some op) f d a placed =
          let is = subst (λ (j : Option Op). IfSome j (IsPlacedAs cycle (end_of values p))) f placed in
          let within = is.0 in
          let lt = within.1 in
          omega (arith, lt)

      by : (kind : ExtKind) (n : ℕ) → p.op.kind ≡ kind → (let v = vars_of p in value_by values v.instr ≡ n)
          → (is_delimiter p.op.kind || is_some (instruction_of p.op.kind (let v = vars_of p in value_by values v.instr))) ≡ true
          → IfSome (instruction_of p.op.kind (let v = vars_of p in value_by values v.instr)) (IsPlacedAs (cycle_at e o values h p)
          (end_of values p))
          → cycle_at e o values h p ≤ end_of values p
      by In n k g a placed =
          let v = vars_of p in
          let z : cycle_at e o values h p ≡ 0 = ap (λ (kind : ExtKind). cycle_by values (end_of values p) kind v) k in omega (arith, z)
      by Out n k g a placed =
          let v = vars_of p in
          let z : cycle_at e o values h p ≡ end_of values p = ap (λ (kind : ExtKind). cycle_by values (end_of values p) kind v) k in
          omega (arith, z)
      by (Body so) n k g a placed = issued p.op.kind (let v = vars_of p in value_by values v.instr) (cycle_at e o values h p)
          (instruction_of p.op.kind (let v = vars_of p in value_by values v.instr)) refl (ap is_delimiter k) a placed
      by (End term) n k g a placed = issued p.op.kind (let v = vars_of p in value_by values v.instr) (cycle_at e o values h p)
          (instruction_of p.op.kind (let v = vars_of p in value_by values v.instr)) refl (ap is_delimiter k) a placed
      by (Copy node) n k g a placed = issued p.op.kind (let v = vars_of p in value_by values v.instr) (cycle_at e o values h p)
          (instruction_of p.op.kind (let v = vars_of p in value_by values v.instr)) refl (ap is_delimiter k) a placed
      by Enter n k g a placed = issued p.op.kind (let v = vars_of p in value_by values v.instr) (cycle_at e o values h p)
          (instruction_of p.op.kind (let v = vars_of p in value_by values v.instr)) refl (ap is_delimiter k) a placed
      by Leave n k g a placed = issued p.op.kind (let v = vars_of p in value_by values v.instr) (cycle_at e o values h p)
          (instruction_of p.op.kind (let v = vars_of p in value_by values v.instr)) refl (ap is_delimiter k) a placed

  -- two operations with one number are one
  pub one_placed : (p q : Placed) → Member p (all e o values) → Member q (all e o values) → p.number ≡ q.number → p ≡ q
  one_placed p q mp mq same =
      let a = at_number 0 (all e o values) p q.number (all_count 0 0 0 e.blocks) mp (same ∙ omega arith) in
      let b = at_number 0 (all e o values) q q.number (all_count 0 0 0 e.blocks) mq (omega arith) in
      let both : Some p ≡ Some q = sym a ∙ b in
      cc both

  -- ---- different operations

  -- at least n different operations of which P holds
  pub record Several (P : Placed → Type 0) (n : ℕ) : Type 0 where
    pub listed : List Placed
    pub differ : Differ listed
    pub each : Each P listed
    pub many : n ≤ length listed

  -- so many issues pass a test, where those of the operations do
  pub counted : (P : Placed → Type 0) (test : Issue → Bool) (n : ℕ) → ((p : Placed) → P p → Member p (all e o values))
      → ((p : Placed) → P p → test (issue_at values p) ≡ true) → Several P n → n ≤ count_by test (issues_of (model_of e o) values)
  counted P test n member passes s =
      let ns = map (λ (p : Placed). p.number) s.listed in
      let others : Differ ns = pairwise_map (λ x y. x ≡ y → ⊥) (λ (p : Placed). p.number) s.listed
      (pairwise_more (λ p q. p ≡ q → ⊥) (λ p q. p.number ≡ q.number → ⊥) s.listed
      (λ p q mp mq ne same. ne (one_placed p q (member p (each_member P s.listed p s.each mp)) (member q
      (each_member P s.listed q s.each mq))
      same)) s.differ) in
      let each = each_map (PassesAt test (issues_of (model_of e o) values)) (λ (p : Placed). p.number) s.listed
      (each_of (λ p. PassesAt test (issues_of (model_of e o) values) p.number) s.listed (λ p m.
      let holds = each_member P s.listed p s.each m in
      (issue_at values p, issue_here e o values p (member p holds), passes p holds))) in
      let le = many_pass test (issues_of (model_of e o) values) ns others each in
      let len = length_mapped (λ (p : Placed). p.number) s.listed in
      let many = s.many in
      omega (arith, le, len, many)

  -- ---- definers of slots

  pub result_at : (s : Spot) → Member s (spots e o values) → slice_get s.definer.op.results s.place ≡ Some s.temp
  result_at s m =
      let r = joined_member spots_of (all e o values) s m in
      let u = places_member (spot r.0) 0 r.0.op.results s r.2 in
      let z : 0 + u.0 ≡ u.0 = omega arith in
      let same : spot r.0 u.0 u.1 ≡ s = ap (λ k. spot r.0 k u.1) (sym z) ∙ u.3 in
      subst (λ (t : Spot). slice_get t.definer.op.results t.place ≡ Some t.temp) same u.2

  long : (s : Spot) → Member s (spots e o values) → s.place < result_count e.table s.definer.owner s.definer.op.kind
  long s m =
      let g = placed_good e o values h s.definer (definer_in e o values (numbered e o values h) s m) in
      let keeps = g.keeps in
      let count = keeps.results in
      let lt = length_get s.definer.op.results s.place s.temp (result_at s m) in
      omega (arith, count, lt)

  module _ (s : Spot) (m : Member s (spots e o values)) (act : is_active e o values h s ≡ true) (slot : FIRST_SLOT ≤ reg_of e o values h s)
      (other : is_in s.definer.op.kind ≡ false) where
    abbrev p : Placed
    p = s.definer

    abbrev n : ℕ
    n = let v = vars_of p in value_by values v.instr

    space : InSpace (reg_of e o values h s) (space_given (instruction_of p.op.kind n))
    space = let schedule = h.schedule in given_space e o values (numbered e o values h) s m schedule

    low : reg_of e o values h s < REGISTERS → ((issue_at values p).instr ≡ Some Spill) × (is_copy p.op.kind ≡ true)
    low lt = absurd (omega (arith, lt, slot))

    none : (kind : ExtKind) → p.op.kind ≡ kind → result_count e.table p.owner kind ≡ 0
        → ((issue_at values p).instr ≡ Some Spill) × (is_copy p.op.kind ≡ true)
    none kind k nil =
        let lt = long s m in
        let is : result_count e.table p.owner p.op.kind ≡ 0 = ap (result_count e.table p.owner) k ∙ nil in
        absurd (omega (arith, lt, is))

    by_kind : (kind : ExtKind) → p.op.kind ≡ kind → ((issue_at values p).instr ≡ Some Spill) × (is_copy p.op.kind ≡ true)
    by_kind In k = let no : true ≡ false = sym (ap is_in k) ∙ other in absurd (cc no)
    by_kind Out k = none Out k refl
    by_kind (End term) k = none (End term) k refl
    by_kind Enter k = none Enter k refl
    by_kind Leave k = none Leave k refl
    by_kind (Body so) k =
        let g = placed_good e o values h p (definer_in e o values (numbered e o values h) s m) in
        let keeps = g.keeps in
        let source : IsSourceOp so = subst (λ (z : ExtKind). IsGoodKind z p.op) k keeps.kind in
        let lt = long s m in
        let count : result_count e.table p.owner p.op.kind ≡ length (option_to_list so.dst) = ap (result_count e.table p.owner) k in
        let gives = gives_register so.op so.dst source.op source.result (omega (arith, lt, count)) in
        low (no_slot (reg_of e o values h s) (space_given (Some so.op))
        (subst (λ (z : ExtKind). InSpace (reg_of e o values h s) (space_given (instruction_of z n))) k space) gives)
    by_kind (Copy node) k =
        let goes : is_some (copy_of n) ≡ true = sym (ap (λ (z : ExtKind). is_delimiter z || is_some (instruction_of z n)) k) ∙ act in
        let there = subst (λ (z : ExtKind). InSpace (reg_of e o values h s) (space_given (instruction_of z n))) k space in
        (ap (λ (z : ExtKind). instruction_of z n) k ∙ gives_slot n (reg_of e o values h s) goes there slot, ap is_copy k)

    -- what gives a slot is a copy that spills, where it is not the block's start
    pub slot_spilled : ((issue_at values s.definer).instr ≡ Some Spill) × (is_copy s.definer.op.kind ≡ true)
    slot_spilled = by_kind s.definer.op.kind refl

  -- a copy gives one result
  one_result : (s u : Spot) → Member s (spots e o values) → Member u (spots e o values) → is_copy s.definer.op.kind ≡ true
      → s.definer ≡ u.definer → s.temp ≡ u.temp
  one_result s u ms mu copy same =
      let a = long s ms in
      let b = long u mu in
      let one = count s.definer.op.kind copy in
      let other : result_count e.table u.definer.owner u.definer.op.kind ≡ 1 =
      ap (λ (p : Placed). result_count e.table p.owner p.op.kind) (sym same) ∙ one in
      let place : s.place ≡ u.place = omega (arith, a, b, one, other) in
      let both : Some s.temp ≡ Some u.temp = sym (result_at s ms) ∙ ap (slice_get s.definer.op.results) place
      ∙ ap (λ (p : Placed). slice_get p.op.results u.place) same ∙ result_at u mu in
      cc both
    where
      count : (kind : ExtKind) → is_copy kind ≡ true → result_count e.table s.definer.owner kind ≡ 1
      count (Copy node) t = refl
      count In t = absurd (cc t)
      count Out t = absurd (cc t)
      count (Body so) t = absurd (cc t)
      count (End term) t = absurd (cc t)
      count Enter t = absurd (cc t)
      count Leave t = absurd (cc t)

  -- ---- Spills

  abbrev cycle : Placed → ℕ
  cycle p = cycle_at e o values h p

  -- value v is there in the cycle of operation c and read after it, and has no slot at the start of the block
  pub record Saved (c : Placed) (v : TempId) : Type 0 where
    pub crossing : Crossing e o values h c v
    pub starts : let u = crossing.own in is_in u.definer.op.kind ≡ true → reg_of e o values h u < REGISTERS

  abbrev pub crossings : (c : Placed) (vs : List TempId) → Each (Saved c) vs → Each (Crossing e o values h c) vs
  crossings c [] each = tt
  crossings c (v ∷ vs) each = (each.0.crossing, crossings c vs each.1)

  abbrev IsSaved : (c : Placed) → Carried e o values h c → Type 0
  IsSaved c k = let x = k.crossing in let u = x.own in is_in u.definer.op.kind ≡ true → reg_of e o values h u < REGISTERS

  all_saved : (c : Placed) (vs : List TempId) (each : Each (Saved c) vs) → Each (IsSaved c) (carried_all e o values h c vs
      (crossings c vs each))
  all_saved c [] each = tt
  all_saved c (v ∷ vs) each = (each.0.starts, all_saved c vs each.1)

  abbrev spiller : (c : Placed) → Carried e o values h c → Placed
  spiller c k = let s = spot_in e o values h c k in s.definer

  -- a copy in the block of operation c spills by its cycle
  pub record SpilledBy (c p : Placed) : Type 0 where
    pub member : Member p (all e o values)
    pub block : p.block ≡ c.block
    pub copy : is_copy p.op.kind ≡ true
    pub instr : (issue_at values p).instr ≡ Some Spill
    pub first : 0 < cycle p
    pub last : cycle p ≤ cycle c

  start_carries : (kind : ExtKind) (s : Spot) → is_in kind ≡ true → carried_at kind s ≡ s.temp
  start_carries In s t = refl
  start_carries Out s t = absurd (cc t)
  start_carries (Body so) s t = absurd (cc t)
  start_carries (End term) s t = absurd (cc t)
  start_carries (Copy node) s t = absurd (cc t)
  start_carries Enter s t = absurd (cc t)
  start_carries Leave s t = absurd (cc t)

  module _ (c : Placed) (k : Carried e o values h c) (saved : IsSaved c k) (t : in_slot e o values h c k ≡ true) where
    slot : FIRST_SLOT ≤ reg_of e o values h (spot_in e o values h c k)
    slot = true_le FIRST_SLOT (reg_of e o values h (spot_in e o values h c k)) t

    not_start : (b : Bool) → (let s = spot_in e o values h c k in is_in s.definer.op.kind ≡ b)
        → (let s = spot_in e o values h c k in is_in s.definer.op.kind ≡ false)
    not_start false q = q
    not_start true q =
        let s = spot_in e o values h c k in
        let x = k.crossing in
        let value : s.temp ≡ k.value = sym (start_carries s.definer.op.kind s q) ∙ spot_value e o values h c k in
        let one = one_spot e o values (numbered e o values h) s x.own (spot_member e o values h c k) x.member
        (ap (λ (z : TempId). z.0) (value ∙ sym x.is)) in
        let low : reg_of e o values h x.own < REGISTERS = saved (ap (λ (u : Spot). is_in u.definer.op.kind) (sym one) ∙ q) in
        let high : FIRST_SLOT ≤ reg_of e o values h x.own = subst (λ (u : Spot). FIRST_SLOT ≤ reg_of e o values h u) one slot in
        absurd (omega (arith, low, high))

    pub spilled : (let s = spot_in e o values h c k in ((issue_at values s.definer).instr ≡ Some Spill) ×
        (is_copy s.definer.op.kind ≡ true))
    spilled = let s = spot_in e o values h c k in
        slot_spilled s (spot_member e o values h c k) (spot_active e o values h c k) slot (not_start (is_in s.definer.op.kind) refl)

    pub spill_is : SpilledBy c (spiller c k)
    spill_is =
        let s = spot_in e o values h c k in
        let md = definer_in e o values (numbered e o values h) s (spot_member e o values h c k) in
        let is = spilled in
        let placed = subst (λ (j : Option Op). IfSome j (IsPlacedAs (cycle s.definer) (end_of values s.definer))) is.0
        (placed_issue s.definer md) in
        let within = placed.0 in
        let there = spot_there e o values h c k in
        record {
          member = md;
          block = spot_block e o values h c k;
          copy = is.1;
          instr = is.0;
          first = within.0;
          last = there.0;
        }

  spillers_differ : (c : Placed) (k l : Carried e o values h c) → IsSaved c k → in_slot e o values h c k ≡ true
      → Differs e o values h c k l → spiller c k ≡ spiller c l → ⊥
  spillers_differ c k l saved t ne same =
      let s = spot_in e o values h c k in
      let u = spot_in e o values h c l in
      let ms = spot_member e o values h c k in
      let mu = spot_member e o values h c l in
      let temp = one_result s u ms mu (spilled c k saved t).1 same in
      let spot_same = one_spot e o values (numbered e o values h) s u ms mu (ap (λ (z : TempId). z.0) temp) in
      ne (sym (spot_value e o values h c k) ∙ ap spot_carried spot_same ∙ spot_value e o values h c l)

  many_spill : (c : Placed) (ks : List (Carried e o values h c)) → Each (IsSaved c) ks → Pairwise (Differs e o values h c) ks
      → Several (SpilledBy c) (length (filter (in_slot e o values h c) ks))
  many_spill c ks all differ =
      let slot = in_slot e o values h c in
      let high = filter slot ks in
      let need : (k : Carried e o values h c) → Member k high → IsSaved c k =
      λ k m. each_member (IsSaved c) ks k all (member_of_filter slot ks k m).0 in
      let len = length_mapped (spiller c) high in
      record {
        listed = map (spiller c) high;
        differ = pairwise_map (λ x y. x ≡ y → ⊥) (spiller c) high
            (pairwise_more (Differs e o values h c) (λ k l. spiller c k ≡ spiller c l → ⊥) high
            (λ k l mk ml ne. spillers_differ c k l (need k mk) (member_of_filter slot ks k mk).1 ne)
            (pairwise_filter (Differs e o values h c) slot ks differ));
        each = each_map (SpilledBy c) (spiller c) high (each_of (λ k. SpilledBy c (spiller c k)) high
            (λ k m. spill_is c k (need k m) (member_of_filter slot ks k m).1));
        many = omega (arith, len);
      }

  pub fewer : (P : Placed → Type 0) (n m : ℕ) → n ≤ m → Several P m → Several P n
  fewer P n m le s = let many = s.many in
      record { listed = s.listed; differ = s.differ; each = s.each; many = omega (arith, le, many) }

  -- The values that are there in an operation's cycle and are read after it are spilled by then, but for as many as there are registers
  -- for them, where they have no slots at the start of its block.
  pub spill_copies : (c : Placed) → (kept : List ℕ) → HasRegister e o values h c kept → (vs : List TempId) → Each (Saved c) vs → Differ vs
      → (n : ℕ) → n + length kept ≤ length vs → Several (SpilledBy c) n
  spill_copies c kept has vs each differ n few =
      let cross = crossings c vs each in
      let ks = carried_all e o values h c vs cross in
      let apart = values_differ e o values h c vs cross differ in
      let some = many_in_slots e o values h c kept has ks apart in
      let a = ap length (carried_values e o values h c vs cross) in
      let b = length_mapped (λ (k : Carried e o values h c). k.value) ks in
      fewer (SpilledBy c) n (length (filter (in_slot e o values h c) ks)) (omega (arith, few, some, a, b))
      (many_spill c ks (all_saved c vs each) apart)

  pub must_spill : (c : Placed) → (kept : List ℕ) → HasRegister e o values h c kept → (vs : List TempId) → Each (Saved c) vs → Differ vs
      → (n : ℕ) → n + length kept ≤ length vs
      → Spills (model_of e o) (record { values = values }) c.block (cycle_at e o values h c) n
  must_spill c kept has vs each differ n few =
      counted (SpilledBy c) (spills_by c.block (cycle c)) n (λ p s. s.member) (λ p s.
      three (p.block == c.block) (is_spill (issue_at values p).instr) (nat_lt 0 (cycle p)) (nat_le (cycle p) (cycle c))
      (eq-eqb p.block c.block s.block) (ap is_spill s.instr) (lt_true 0 (cycle p) s.first) (le_true (cycle p) (cycle c) s.last))
      (spill_copies c kept has vs each differ n few)
