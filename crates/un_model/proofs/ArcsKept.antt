-- Every solution keeps every arc: the later operation issues at least the arc's gap after the earlier one. Copies only lengthen the
-- way from a definer to a reader, since each reads what an earlier operation gives.
use Rattle.std.proofs.Common.{◌≡◌, ℕ, zero, suc, ◌+◌, ◌<◌, ◌≤◌, Bool, true, false, List, [], ◌∷◌, length, refl, sym, ap, ◌∙◌, subst, arith}
use Rattle.std.proofs.Common.{Contains}
use Rattle.std.specs.Prelude.{Option, Some, None, IfSome, slice_get, slice_index_or, is_some, ◌==◌, ◌||◌}
use Rattle.std.specs.List.{AllZip}
use Rattle.std.specs.Option.{option_map, option_map_or}
use Rattle.std.proofs.lemmas.Bool.{eqb-true}
use Rattle.un_base.specs.declared.ids.TempId.{TempId}
use Rattle.un_isa.specs.Fit.{IsFit}
use Rattle.un_isa.specs.declared.op.Op.{Op}
use Rattle.un_ir.specs.declared.function.Term.{Term}
use Rattle.un_ir.specs.declared.function.Term.TheVariants.{Fall, Jump, Branch, Ret}
use Rattle.un_ir.specs.declared.extended.ExtKind.{ExtKind}
use Rattle.un_ir.specs.declared.extended.ExtKind.TheVariants.{In, Out, Body, End, Copy, Enter, Leave}
use Rattle.un_ir.specs.declared.extended.NodeCopy.{NodeCopy}
use Rattle.un_ir.specs.declared.extended.Operand.{Operand}
use Rattle.un_ir.specs.declared.extended.ExtOp.{ExtOp}
use Rattle.un_ir.specs.declared.extended.ExtBlock.{ExtBlock}
use Rattle.un_ir.specs.declared.extended.Ext.{Ext}
use Rattle.un_ir.specs.Extended.{IsExtended, IsGoodOperand, Want, temp, wants_of, first_read}
use Rattle.un_ir.specs.Linear.{first_of}
use Rattle.un_model.specs.declared.model.Arc.{Arc}
use Rattle.un_model.specs.declared.model.Model.{Model}
use Rattle.un_model.specs.declared.model.Options.{Options}
use Rattle.un_model.specs.declared.model.Solution.{Solution}
use Rattle.un_model.specs.declared.model.TempVars.{TempVars}
use Rattle.un_model.specs.declared.schedule.Issue.{Issue}
use Rattle.un_model.specs.declared.schedule.LiveRange.{LiveRange}
use Rattle.un_model.specs.ArcLaws.{arc_told}
use Rattle.un_ir.specs.Kinds.{is_mandatory, is_delimiter}
use Rattle.un_model.specs.Arcs.{own_instr, value_read, defines, reads_from, data_gap, memory_gap, NeedsGap, block_arcs}
use Rattle.un_model.specs.Arcs.{blocks_arcs}
use Rattle.un_model.specs.Arcs.NeedsGap.{ByData, ByMemory}
use Rattle.un_model.proofs.Operations.{placed_get}
use Rattle.un_model.proofs.Gaps.{gap_copy, gap_within}
use Rattle.un_model.specs.Instructions.{instruction_of, latency_by}
use Rattle.un_lists.proofs.Lists.{Member, any_of, place_of, member_at, member_append_left, member_append_right, index_get, length_get}
use Rattle.un_lists.proofs.Lists.{slice_get-map}
use Rattle.un_model.proofs.PlacedSchedules.{all, spots, issue_here, one_spot, definer_in, range_at, range_here, spot_range, spot_temp}
use Rattle.un_model.specs.Options.{AreOptions}
use Rattle.un_model.proofs.Placed.{Placed, Region, region_placed, blocks_placed, block_placed, issue_at, vars_of, Spot, temp_vars}
use Rattle.un_model.proofs.Placed.{temps_are, at_number, all_count}
use Rattle.un_model.proofs.Readings.{Solved, numbered, fit_kinds, placed_good, Reading, reading, zip_get}
use Rattle.un_model.specs.Schedules.{issues_of, schedule_of, value_by}
use Rattle.un_model.specs.Solutions.{IsSchedule, IsSolution, Precedes, memory_distance, latency_gap}
use Rattle.un_model.proofs.TempKinds.{carried_at, spot_carried, carried_is}
use Rattle.un_model.specs.Variables.{IsModel, model_of, arcs_of, blocks_temps, var_at, ops_count, block_count}

-- the two operations of an arc issue, the later one at least the gap after the earlier one
pub record KeepsArc (issues : List Issue) (a : Arc) : Type 0 where
  pub earlier : Issue
  pub later : Issue
  pub from_at : slice_get issues a.from.0 ≡ Some earlier
  pub to_at : slice_get issues a.to.0 ≡ Some later
  pub kept : earlier.cycle + a.gap ≤ later.cycle

-- ---- mandatory operations

own_instruction : (k : ExtKind) (n : ℕ) → is_mandatory k ≡ true → instruction_of k n ≡ instruction_of k 0
own_instruction In n h = refl
own_instruction Out n h = refl
own_instruction (Body o) n h = refl
own_instruction (End term) n h = refl
own_instruction (Copy node) n h = absurd (cc h)
own_instruction Enter n h = absurd (cc h)
own_instruction Leave n h = absurd (cc h)

own_value : (x : Operand) → temp (first_of x.alts) ≡ value_read x
own_value x = by x.alts refl
  where
    by : (alts : List TempId) → x.alts ≡ alts → temp (first_of x.alts) ≡ value_read x
    by [] e = rw e refl
    by (y ∷ ys) e = rw e refl

-- the block of which a list has the arcs
record OfRegion (e : Ext) (temps : List TempVars) (b n first : ℕ) (blocks : List ExtBlock) (arcs : List Arc) : Type 0 where
  region : Region
  is : arcs ≡ block_arcs e.table temps region.number region.owner.ops
  into : (p : Placed) → Member p (region_placed region) → Member p (blocks_placed b n first blocks)

region_of : (e : Ext) (temps : List TempVars) (b n first k : ℕ) (blocks : List ExtBlock) (arcs : List Arc)
    → slice_get (blocks_arcs e.table temps n blocks) k ≡ Some arcs → OfRegion e temps b n first blocks arcs
region_of e temps b n first k [] arcs h = absurd (cc h)
region_of e temps b n first zero (c ∷ cs) arcs h =
    let same : block_arcs e.table temps n c.ops ≡ arcs = cc h in
    record {
      region = record { block = b; number = n; first = first; owner = c };
      is = sym same;
      into = λ p m. member_append_left (block_placed b n first c) (blocks_placed (b + 1) (n + length c.ops) (first + block_count c) cs) p m;
    }
region_of e temps b n first (suc k) (c ∷ cs) arcs h =
    let w = region_of e temps (b + 1) (n + length c.ops) (first + block_count c) k cs arcs h in
    record {
      region = w.region;
      is = w.is;
      into = λ p m. member_append_right (block_placed b n first c) (blocks_placed (b + 1) (n + length c.ops) (first + block_count c) cs) p
          (w.into p m);
    }

module _ (e : Ext) (o : Options) (values : List ℕ) (h : Solved e o values) where
  own_is : (p : Placed) → is_mandatory p.op.kind ≡ true → (issue_at values p).instr ≡ own_instr p.op
  own_is p m = own_instruction p.op.kind (value_by values (vars_of p).instr) m

  -- ---- memory

  precedes : (p q : Placed) → Member p (all e o values) → Member q (all e o values) → p.number < q.number
      → Precedes memory_distance (issue_at values p) (issue_at values q)
  precedes p q mp mq lt =
      let s = h.schedule in
      let all_kept = s.memory in
      let is = issues_of (model_of e o) values in
      let d = issue_at values p in
      let x = issue_here e o values p mp in
      let y = issue_here e o values q mq in
      subst (λ i. Precedes memory_distance i (issue_at values q)) (index_get is p.number d (issue_at values p) x)
      (subst (λ j. Precedes memory_distance (slice_index_or is p.number d) j) (index_get is q.number d (issue_at values q) y)
      (all_kept p.number q.number d lt (length_get is q.number (issue_at values q) y)))

  by_memory : (p q : Placed) (g : ℕ) → Member p (all e o values) → Member q (all e o values) → p.number < q.number → p.block ≡ q.block
      → is_mandatory p.op.kind ≡ true → is_mandatory q.op.kind ≡ true → memory_gap p.op q.op ≡ Some g
      → (issue_at values p).cycle + g ≤ (issue_at values q).cycle
  unfolding Precedes
  by_memory p q g mp mq lt same a b gap =
      let k = precedes p q mp mq lt same in
      let f : memory_distance (issue_at values p).instr (issue_at values q).instr ≡ Some g =
      ap (λ (i : Option Op). memory_distance i (issue_at values q).instr) (own_is p a)
      ∙ ap (λ (j : Option Op). memory_distance (own_instr p.op) j) (own_is q b) ∙ gap in
      subst (λ (x : Option ℕ). IfSome x (λ (n : ℕ). (issue_at values p).cycle + n ≤ (issue_at values q).cycle)) f k

  -- ---- data

  -- the cycle from which an operation may read what a result's definer gives
  abbrev ready_for : Placed → Spot → ℕ
  ready_for q s = (issue_at values s.definer).cycle + latency_gap e.table (issue_at values s.definer).instr (issue_at values q).instr

  -- an operation reads values no earlier than it may after their definers, whatever carries them
  abbrev Waits : Placed → Type 0
  Waits q = (j : ℕ) (x : Operand) (s : Spot) → Member q (all e o values) → (issue_at values q).active ≡ true
      → slice_get q.op.operands j ≡ Some x → Member s (spots e o values) → s.temp ≡ temp (first_of x.alts)
      → ready_for q s ≤ (issue_at values q).cycle

  wait_step : (q : Placed) → ((p : Placed) → p.number < q.number → Waits p) → Waits q
  wait_step q below j x s m act at ms is = given (reading e o values h q j x m act at).0 (reading e o values h q j x m act at).2
    where
      given : (want : Want) → Reading e o values h q j x want → ready_for q s ≤ (issue_at values q).cycle
      given want r = by r.spot.definer.op.kind refl
        where
          range : range_at e o values r.spot.temp.0 ≡ spot_range e o values r.spot
          range = range_here e o values (numbered e o values h) r.spot r.member

          ready : ready_for q r.spot ≤ (issue_at values q).cycle
          ready = subst (λ (v : LiveRange). v.from + latency_gap e.table v.instr (issue_at values q).instr ≤ (issue_at values q).cycle) range
              r.ready

          active : (issue_at values r.spot.definer).active ≡ true
          active = subst (λ (v : LiveRange). v.active ≡ true) range r.active

          value : spot_carried r.spot ≡ s.temp
          value = sym (carried_is e o values (numbered e o values h) (fit_kinds e o values h) r.spot r.member) ∙ r.value ∙ sym is

          -- the value itself is read
          own : spot_carried r.spot ≡ r.spot.temp → ready_for q s ≤ (issue_at values q).cycle
          own c =
              let one = one_spot e o values (numbered e o values h) r.spot s r.member ms (ap (λ (t : TempId). t.0) (sym c ∙ value)) in
              subst (λ (z : Spot). ready_for q z ≤ (issue_at values q).cycle) one ready

          here : Member r.spot.definer (all e o values)
          here = definer_in e o values (numbered e o values h) r.spot r.member

          -- a copy is read, which waits itself
          copied : (node : NodeCopy) (xs : List Operand) → r.spot.definer.op.kind ≡ Copy node → r.spot.definer.op.operands ≡ xs
              → ready_for q s ≤ (issue_at values q).cycle
          copied node [] k f =
              let p = r.spot.definer in
              let g = placed_good e o values h p here in
              let keeps = g.keeps in
              let zip = subst (λ (z : ExtKind). AllZip (IsGoodOperand e.names e.blocks g.before) []
              (wants_of e.table e.names e.blocks p.owner z p.op)) k
              (subst (λ (xs : List Operand). AllZip (IsGoodOperand e.names e.blocks g.before) xs
              (wants_of e.table e.names e.blocks p.owner p.op.kind p.op)) f keeps.operands) in
              absurd zip
          copied node (y ∷ ys) k f =
              let p = r.spot.definer in
              let first : spot_carried r.spot ≡ temp (first_of y.alts) = ap (λ (z : ExtKind). carried_at z r.spot) k ∙ ap first_read f in
              let before = below p r.earlier 0 y s here active (ap (λ (xs : List Operand). slice_get xs 0) f) ms (sym value ∙ first) in
              -- it waits for what it copies as long as any reader
              let n = value_by values (vars_of p).instr in
              let waits : latency_gap e.table (issue_at values s.definer).instr (issue_at values p).instr
              ≡ latency_by e.table (issue_at values s.definer).instr =
              ap (λ (z : ExtKind). latency_gap e.table (issue_at values s.definer).instr (instruction_of z n)) k
              ∙ gap_copy e.table (issue_at values s.definer).instr n in
              let within = gap_within e.table (issue_at values s.definer).instr (issue_at values q).instr in
              omega (arith, before, ready, waits, within)

          by : (k : ExtKind) → r.spot.definer.op.kind ≡ k → ready_for q s ≤ (issue_at values q).cycle
          by (Copy node) f = copied node r.spot.definer.op.operands f refl
          by In f = own (ap (λ (z : ExtKind). carried_at z r.spot) f)
          by Out f = own (ap (λ (z : ExtKind). carried_at z r.spot) f)
          by (Body so) f = own (ap (λ (z : ExtKind). carried_at z r.spot) f)
          by (End term) f = own (ap (λ (z : ExtKind). carried_at z r.spot) f)
          by Enter f = own (ap (λ (z : ExtKind). carried_at z r.spot) f)
          by Leave f = own (ap (λ (z : ExtKind). carried_at z r.spot) f)

  waits : (n : ℕ) (q : Placed) → q.number < n → Waits q
  waits zero q lt = absurd (omega (arith, lt))
  waits (suc n) q lt = wait_step q (λ p less. waits n p (omega (arith, less, lt)))

  -- a mandatory operation that reads is active: a Fall reads nothing
  reads_active : (q : Placed) (j : ℕ) (x : Operand) → Member q (all e o values) → is_mandatory q.op.kind ≡ true
      → slice_get q.op.operands j ≡ Some x → (issue_at values q).active ≡ true
  reads_active q j x m mandatory at = by q.op.kind refl mandatory
    where
      active : ExtKind → Bool
      active k = is_delimiter k || is_some (instruction_of k (value_by values (vars_of q).instr))

      ends : (term : Term) → q.op.kind ≡ End term → active (End term) ≡ true
      ends Fall f =
          let g = placed_good e o values h q m in
          let keeps = g.keeps in
          let none = zip_get (IsGoodOperand e.names e.blocks g.before) q.op.operands [] j x
          (subst (λ (k : ExtKind). AllZip (IsGoodOperand e.names e.blocks g.before) q.op.operands
          (wants_of e.table e.names e.blocks q.owner k q.op)) f keeps.operands) at in
          absurd (cc none.1)
      ends (Jump to) f = refl
      ends (Branch pred true to) f = refl
      ends (Branch pred false to) f = refl
      ends (Ret value) f = refl

      by : (k : ExtKind) → q.op.kind ≡ k → is_mandatory k ≡ true → (issue_at values q).active ≡ true
      by In f t = ap active f
      by Out f t = ap active f
      by (Body so) f t = ap active f
      by (End term) f t = ap active f ∙ ends term f
      by (Copy node) f t = absurd (cc t)
      by Enter f t = absurd (cc t)
      by Leave f t = absurd (cc t)

  -- the result that a temporary is
  defined_by : (p : Placed) (v : TempId) → Member p (all e o values) → defines (blocks_temps 0 0 e.blocks) p.number v ≡ true
      → (s : Spot) × (Member s (spots e o values)) × (s.temp ≡ v) × (s.definer ≡ p)
  defined_by p v m d = by (slice_get (spots e o values) v.0) refl
    where
      by : (r : Option Spot) → slice_get (spots e o values) v.0 ≡ r
          → (s : Spot) × (Member s (spots e o values)) × (s.temp ≡ v) × (s.definer ≡ p)
      by r f =
          let at : slice_get (blocks_temps 0 0 e.blocks) v.0 ≡ option_map temp_vars r =
          ap (λ (ts : List TempVars). slice_get ts v.0) (temps_are 0 0 0 e.blocks) ∙ slice_get-map temp_vars (spots e o values) v.0
          ∙ ap (option_map temp_vars) f in
          let told : option_map_or (λ (t : TempVars). t.op.0 == p.number) (option_map temp_vars r) false ≡ true =
          sym (ap (λ (t : Option TempVars). option_map_or (λ (t : TempVars). t.op.0 == p.number) t false) at) ∙ d in
          go r f told
        where
          go : (r : Option Spot) → slice_get (spots e o values) v.0 ≡ r
              → option_map_or (λ (t : TempVars). t.op.0 == p.number) (option_map temp_vars r) false ≡ true
              → (s : Spot) × (Member s (spots e o values)) × (s.temp ≡ v) × (s.definer ≡ p)
          go None f t = absurd (cc t)
          go (Some s) f t =
              let ms = member_at (spots e o values) v.0 s f in
              let n : s.definer.number ≡ p.number = eqb-true _ _ t in
              let a = at_number 0 (all e o values) s.definer p.number (all_count 0 0 0 e.blocks)
              (definer_in e o values (numbered e o values h) s ms) (n ∙ omega arith) in
              let b = at_number 0 (all e o values) p p.number (all_count 0 0 0 e.blocks) m (omega arith) in
              let same : Some s.definer ≡ Some p = sym a ∙ b in
              (s, ms, spot_temp e o values (numbered e o values h) v.0 s f, cc same)

  by_data : (p q : Placed) → Member p (all e o values) → Member q (all e o values) → is_mandatory p.op.kind ≡ true
      → is_mandatory q.op.kind ≡ true → reads_from (blocks_temps 0 0 e.blocks) p.number q.op ≡ true
      → (issue_at values p).cycle + latency_gap e.table (own_instr p.op) (own_instr q.op) ≤ (issue_at values q).cycle
  by_data p q mp mq a b reads =
      let r = any_of (λ (x : Operand). defines (blocks_temps 0 0 e.blocks) p.number (value_read x)) q.op.operands reads in
      let x = r.0 in
      let at = place_of q.op.operands x r.1 in
      let s = defined_by p (value_read x) mp r.2 in
      let w = waits (suc q.number) q (omega arith) at.0 x s.0 mq (reads_active q at.0 x mq b at.2) at.2 s.1 (s.2 ∙ sym (own_value x)) in
      let to : Option Op = (issue_at values q).instr in
      let here : (issue_at values p).cycle + latency_gap e.table (issue_at values p).instr to ≤ (issue_at values q).cycle = subst
      (λ (z : Placed). (issue_at values z).cycle + latency_gap e.table (issue_at values z).instr to ≤ (issue_at values q).cycle) s.3 w in
      subst (λ (i : Option Op). (issue_at values p).cycle + latency_gap e.table (own_instr p.op) i ≤ (issue_at values q).cycle) (own_is q b)
      (subst (λ (i : Option Op). (issue_at values p).cycle + latency_gap e.table i to ≤ (issue_at values q).cycle) (own_is p a) here)

  -- ---- arcs

  need_kept : (p q : Placed) (g : ℕ) → Member p (all e o values) → Member q (all e o values) → p.number < q.number → p.block ≡ q.block
      → is_mandatory p.op.kind ≡ true → is_mandatory q.op.kind ≡ true
      → NeedsGap e.table (reads_from (blocks_temps 0 0 e.blocks) p.number q.op) p.op q.op g
      → (issue_at values p).cycle + g ≤ (issue_at values q).cycle
  need_kept p q g mp mq lt same a b (ByMemory gap) = by_memory p q g mp mq lt same a b gap
  need_kept p q g mp mq lt same a b (ByData gap) = by (reads_from (blocks_temps 0 0 e.blocks) p.number q.op) refl
    where
      by : (r : Bool) → reads_from (blocks_temps 0 0 e.blocks) p.number q.op ≡ r → (issue_at values p).cycle + g ≤ (issue_at values q).cycle
      by true f =
          let is : data_gap e.table true p.op q.op ≡ Some g = sym (ap (λ (r : Bool). data_gap e.table r p.op q.op) f) ∙ gap in
          let k : latency_gap e.table (own_instr p.op) (own_instr q.op) ≡ g = cc is in
          let w = by_data p q mp mq a b f in
          omega (arith, k, w)
      by false f =
          let is : data_gap e.table false p.op q.op ≡ Some g = sym (ap (λ (r : Bool). data_gap e.table r p.op q.op) f) ∙ gap in
          absurd (cc is)

  arc_kept : (k : ℕ) (arcs : List Arc) (a : Arc) → slice_get (arcs_of e) k ≡ Some arcs → Contains arcs a
      → KeepsArc (issues_of (model_of e o) values) a
  arc_kept k arcs a at c =
      let temps = blocks_temps 0 0 e.blocks in
      let w = region_of e temps 0 0 0 k e.blocks arcs at in
      let r = w.region in
      let is = arc_told e.table temps r.number r.owner.ops a (subst (λ (xs : List Arc). Contains xs a) w.is c) in
      let close = var_at (r.first + ops_count r.owner.ops) in
      let p = placed_get r.block r.owner close r.number r.first is.earlier r.owner.ops is.from is.from_at in
      let q = placed_get r.block r.owner close r.number r.first is.later r.owner.ops is.to is.to_at in
      let mp = w.into p.0 (member_at (region_placed r) is.earlier p.0 p.1) in
      let mq = w.into q.0 (member_at (region_placed r) is.later q.0 q.1) in
      let from : a.from.0 ≡ p.0.number = is.numbers.0 ∙ sym p.3 in
      let to : a.to.0 ≡ q.0.number = is.numbers.1 ∙ sym q.3 in
      let order = is.order in
      let np = p.3 in
      let nq = q.3 in
      let lt : p.0.number < q.0.number = omega (arith, order, np, nq) in
      let largest = is.gap in
      let need : NeedsGap e.table (reads_from temps p.0.number q.0.op) p.0.op q.0.op a.gap =
      subst (λ (n : ℕ). NeedsGap e.table (reads_from temps n q.0.op) p.0.op q.0.op a.gap) from
      (subst (λ (t : ExtOp). NeedsGap e.table (reads_from temps a.from.0 t) p.0.op t a.gap) (sym q.2)
      (subst (λ (f : ExtOp). NeedsGap e.table (reads_from temps a.from.0 is.to) f is.to a.gap) (sym p.2) largest.asked)) in
      let mandatory_p : is_mandatory p.0.op.kind ≡ true = ap (λ (z : ExtOp). is_mandatory z.kind) p.2 ∙ is.mandatory.0 in
      let mandatory_q : is_mandatory q.0.op.kind ≡ true = ap (λ (z : ExtOp). is_mandatory z.kind) q.2 ∙ is.mandatory.1 in
      record {
        earlier = issue_at values p.0;
        later = issue_at values q.0;
        from_at = ap (slice_get (issues_of (model_of e o) values)) from ∙ issue_here e o values p.0 mp;
        to_at = ap (slice_get (issues_of (model_of e o) values)) to ∙ issue_here e o values q.0 mq;
        kept = need_kept p.0 q.0 a.gap mp mq lt (p.4 ∙ sym q.4) mandatory_p mandatory_q need;
      }

-- every solution keeps every arc of every block
pub arcs_kept : (m : Model) (s : Solution) → IsModel m → IsExtended m.ext → IsFit m.ext.table → AreOptions m.options → IsSolution m s
    → (b : ℕ) (arcs : List Arc) (a : Arc) → slice_get m.arcs b ≡ Some arcs → Contains arcs a → KeepsArc (issues_of m s.values) a
arcs_kept m s own extended fit options solution b arcs a at c =
    let solved : Solved m.ext m.options s.values = record {
      extended = extended;
      fit = fit;
      options = options;
      schedule = subst (λ (x : Model). IsSchedule (latency_gap m.ext.table) x.domains x s.values (schedule_of x s.values)) own solution;
    } in
    let told = arc_kept m.ext m.options s.values solved b arcs a (sym (ap (λ (x : Model). slice_get x.arcs b) own) ∙ at) c in
    subst (λ (x : Model). KeepsArc (issues_of x s.values) a) (sym own) told
