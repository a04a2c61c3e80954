-- A block of a solution from its start: where its values stand, it is a block under way.
use Rattle.std.proofs.Common.{ℕ, zero, suc, ◌≡◌, ◌≢◌, ◌<◌, ◌≤◌, ◌+◌, ◌*◌, ◌/◌, ◌%◌, ◌^◌, Bool, true, false, List, [], ◌∷◌, length, map}
use Rattle.std.proofs.Common.{get_or, ◌⊎◌, inl, inr, ⊎_elim, refl, sym, ap, ◌∙◌, subst, arith}
use Rattle.std.specs.Prelude.{not, Some, slice_get, slice_index}
use Rattle.un_base.specs.declared.ids.TempId.{TempId}
use Rattle.un_isa.specs.Fit.{IsFit}
use Rattle.un_isa.specs.Tables.{in_mask}
use Rattle.un_isa.specs.declared.reg.TheConstants.{STACK, REGISTERS, FIRST_SLOT}
use Rattle.un_isa.specs.declared.table.Table.{Table}
use Rattle.un_ir.specs.declared.function.Kind.TheVariants.{Pred}
use Rattle.un_ir.specs.declared.extended.ExtKind.{ExtKind}
use Rattle.un_ir.specs.declared.extended.ExtKind.TheVariants.{In, Out, Body, End, Copy, Enter, Leave}
use Rattle.un_ir.specs.declared.extended.ExtOp.{ExtOp}
use Rattle.un_ir.specs.declared.extended.ExtBlock.{ExtBlock}
use Rattle.un_ir.specs.declared.extended.Ext.{Ext}
use Rattle.un_ir.specs.Extended.{Parts, IsMadeOf, IsGoodExtBlock}
use Rattle.un_ir.specs.Linear.{Values, World, LinearState, entered, in_temps, defined_all, defined, is_in}
use Rattle.un_model.specs.declared.model.Options.{Options}
use Rattle.un_model.specs.declared.schedule.LiveRange.{LiveRange}
use Rattle.un_model.specs.Instructions.{latency_by, instruction_of}
use Rattle.un_model.specs.Schedules.{value_by}
use Rattle.un_packet.specs.Step.{PacketState}
use Rattle.un_simulation.specs.Simulation.{as_held, held_at}
use Rattle.un_lists.proofs.Lists.{Each, Member, each_member, each_of, each_all, each_more, member_at, member_map, place_of, length_get}
use Rattle.un_emit.proofs.Timed.{Job, Stands}
use Rattle.un_emit.proofs.InTime.{CallsFit}
use Rattle.un_emit.proofs.Effects.{is_effect, run_later}
use Rattle.un_emit.proofs.Cycles.{Scene, IsScene, At}
use Rattle.un_model.proofs.Placed.{Placed, Spot, spot, spots_of, issue_at, vars_of, region_placed}
use Rattle.un_model.proofs.PlacedSchedules.{all, spots, range_at, one_spot, member_joined, member_places, range_here}
use Rattle.un_model.proofs.TempKinds.{kind_at, own_kind, carried_at}
use Rattle.un_model.proofs.Readings.{Solved, numbered, fit_kinds}
use Rattle.un_emit.proofs.JobDeeds.{temps_of}
use Rattle.un_emit.proofs.BlockJobs.{InRegion, active_of}
use Rattle.un_emit.proofs.BlockTimed.{its_spot, definer_of, own_end, own_jobs, block_timed, memory_order, no_results}
use Rattle.un_emit.proofs.Places.{words, placing}
use Rattle.un_emit.proofs.Stack.{op_in, inner_late, bytes, stack_of, stacks}
use Rattle.un_emit.proofs.BlockEdges.{starts, only_in}
use Rattle.un_emit.proofs.Values.{total, total_by, kept_all, defined_own, Spares, kept_by}
use Rattle.un_emit.proofs.BlockValues.{of_all, final, its_equations, carries, truths, StartTruths}
use Rattle.un_emit.proofs.JobValues.{all_facts}

pub calls_fit : (t : Table) → IsFit t → CallsFit t
calls_fit t fit = record {
  stack = fit.clobbered 29 (omega arith);
  result = ap (in_mask t.clobbered) fit.result ∙ fit.clobbered 0 (omega arith) ∙ kept (in_mask t.saved 0) refl;
  small = let z = fit.result in omega arith;
}
  where
    kept : (b : Bool) → in_mask t.saved 0 ≡ b → not (in_mask t.saved 0) ≡ true
    kept true q = let z = fit.saved 0 (omega arith) q in absurd (cc z)
    kept false q = ap not q

-- ---- values that a list defines

defined_at : (values : Values) (xs : List TempId) (vs : List ℕ) (j : ℕ) (x : TempId) → slice_get xs j ≡ Some x → j < length vs
    → ((i n : ℕ) (y z : TempId) → slice_get xs i ≡ Some y → slice_get xs n ≡ Some z → y.0 ≡ z.0 → i ≡ n)
    → defined_all values xs vs x.0 ≡ slice_index vs j
defined_at values [] vs j x q lt inj = absurd (cc q)
defined_at values (y ∷ ys) [] j x q lt inj = absurd (omega arith)
defined_at values (y ∷ ys) (v ∷ vs) zero x q lt inj =
    let same : y ≡ x = cc q in
    kept_all (defined values y v) ys vs x.0 (each_of (λ (z : TempId). x.0 ≢ z.0) ys (λ z m s.
    let r = place_of ys z m in let n = inj 0 (suc r.0) x z q r.2 s in absurd (omega arith)))
    ∙ ap (λ (z : TempId). defined values y v z.0) (sym same) ∙ defined_own values y v
defined_at values (y ∷ ys) (v ∷ vs) (suc j) x q lt inj =
    defined_at (defined values y v) ys vs j x q (omega arith) (λ i n a b qa qb s. let z = inj (suc i) (suc n) a b qa qb s in omega arith)

-- a temporary that each operation spares or has at the block's start keeps its value
kept_in : (ps : List Placed) (s : LinearState) (y : ℕ) → Each (λ p. (p.op.kind ≡ In) ⊎ Spares y p) ps → (total ps s).values y ≡ s.values y
kept_in [] s y h = refl
kept_in (p ∷ ps) s y h = kept_in ps (total_by p.op.kind p.op s) y h.1
    ∙ ⊎_elim (λ (q : p.op.kind ≡ In). ap (λ (k : ExtKind). (total_by k p.op s).values y) q)
    (λ (q : Spares y p). kept_by p.op.kind p.op s y q) h.0

module _ (e : Ext) (o : Options) (values : List ℕ) (h : Solved e o values) (k : ℕ) (block : ExtBlock)
    (r : InRegion (all e o values) k block) (at : slice_get e.blocks k ≡ Some block) where
  abbrev own_ops : List Placed
  own_ops = region_placed r.region

  pub good_block : IsGoodExtBlock e.table e.names e.blocks block
  good_block = let x = h.extended in let g = x.good in each_member (IsGoodExtBlock e.table e.names e.blocks) e.blocks block
      (each_all (IsGoodExtBlock e.table e.names e.blocks) e.blocks g.each) (member_at e.blocks k block at)

  pub parts : (p : Parts) × IsMadeOf block.ops p
  parts = let g = good_block in g.parts

  pub op_of : (p : Placed) → Member p own_ops → Member p.op block.ops
  op_of p m = op_in e o values h k block r at p m

  -- the results of the operation at the block's start are the block's first values
  in_results : (p : Placed) → Member p own_ops → p.op.kind ≡ In → in_temps block.ops ≡ p.op.results
  in_results p m q =
      let ps = parts in
      starts block.ops ps.0 ps.1 ∙ ap (λ (x : ExtOp). x.results) (sym (only_in block.ops ps.0 p.op ps.1 (op_of p m) (ap is_in q)))

  -- a value at the block's start
  pub start_value : (taken : List ℕ) (w : World) (u : Spot) → Member u (spots e o values) → u.definer.block ≡ k
      → (let p = u.definer in p.op.kind ≡ In) → length taken ≡ length (in_temps block.ops)
      → (slice_get (in_temps block.ops) u.place ≡ Some u.temp) × (final e o values h k block r taken w u.temp.0 ≡ slice_index taken u.place)
  start_value taken w u m b q l =
      let d = definer_of e o values h u m in
      let p = u.definer in
      let mine = r.all_in p d.0 b in
      let res = in_results p mine q in
      let get : slice_get (in_temps block.ops) u.place ≡ Some u.temp = ap (λ xs. slice_get xs u.place) res ∙ d.1 in
      let lt = length_get (in_temps block.ops) u.place u.temp get in (
        get,
        kept_in own_ops (entered block taken w) u.temp.0 (each_of (λ p. (p.op.kind ≡ In) ⊎ Spares u.temp.0 p) own_ops
            (λ x mx. spare x mx (is_in x.op.kind) refl))
            ∙ defined_at (λ x. 0) (in_temps block.ops) taken u.place u.temp get (omega (arith, lt, l)) (λ i n y z qy qz s.
            let a = at_place p d.0 i y (ap (λ xs. slice_get xs i) (sym res) ∙ qy) in
            let c = at_place p d.0 n z (ap (λ xs. slice_get xs n) (sym res) ∙ qz) in
            ap (λ (v : Spot). v.place) (one_spot e o values (numbered e o values h) (spot p i y) (spot p n z) a c s)),
      )
    where
      at_place : (p : Placed) → Member p (all e o values) → (n : ℕ) (x : TempId) → slice_get p.op.results n ≡ Some x
          → Member (spot p n x) (spots e o values)
      at_place p mp n x s = member_joined (map spots_of (all e o values)) (spots_of p) (spot p n x)
          (member_map spots_of (all e o values) p mp) (member_places (spot p) p.op.results 0 n n x (omega arith) s)

      in_kind : (x : ExtKind) → is_in x ≡ true → x ≡ In
      in_kind In q = refl
      in_kind _ q = absurd (cc q)

      spare : (x : Placed) → Member x own_ops → (b : Bool) → is_in x.op.kind ≡ b → (x.op.kind ≡ In) ⊎ Spares u.temp.0 x
      spare x mx true s = inl (in_kind x.op.kind s)
      spare x mx false s = inr (each_of (λ (y : TempId). u.temp.0 ≢ y.0) x.op.results (λ y my t.
          let n = place_of x.op.results y my in
          let z = at_place x (of_all e o values h k block r x mx).0 n.0 y n.2 in
          let same = one_spot e o values (numbered e o values h) u (spot x n.0 y) m z t in
          let f : true ≡ false = sym (ap is_in q) ∙ ap (λ (v : Spot). let p = v.definer in is_in p.op.kind) same ∙ s in absurd (cc f)))

  -- where the values stand at the block's start
  pub record AtStart (base : ℕ) (taken : List ℕ) (w : World) (s : PacketState) : Type 0 where
    pub regs_long : length s.regs ≡ REGISTERS
    pub ready_long : length s.ready ≡ REGISTERS
    pub frame_long : length s.frame ≡ words e o values h
    pub frame_start : s.frame_start ≡ base
    pub world : record { memory = s.memory; calls = s.calls; replies = s.replies } ≡ w
    pub taken_long : length taken ≡ length (in_temps block.ops)
    pub places : (j : ℕ) (x : TempId) → slice_get (in_temps block.ops) j ≡ Some x
        → held_at s (range_at e o values x.0).reg ≡ as_held (kind_at e o values (numbered e o values h) (fit_kinds e o values h) x.0)
        (range_at e o values x.0).reg (slice_index taken j)
    pub ready : (j : ℕ) (x : TempId) → slice_get (in_temps block.ops) j ≡ Some x → (range_at e o values x.0).reg < FIRST_SLOT
        → get_or s.ready (range_at e o values x.0).reg 0 ≤ s.cycle + 1
    pub truths : (j : ℕ) (x : TempId) → slice_get (in_temps block.ops) j ≡ Some x
        → kind_at e o values (numbered e o values h) (fit_kinds e o values h) x.0 ≡ Pred → slice_index taken j < 2
    pub stack : get_or s.regs STACK 0 ≡ stack_of e o values h k block r at base 0
    pub stack_ready : get_or s.ready STACK 0 ≤ s.cycle + 1

  abbrev pub scene : ℕ → List ℕ → World → PacketState → Scene
  scene base taken w s = record {
    table = e.table;
    temps = temps_of e o values h k;
    slots = words e o values h;
    base = base;
    end = own_end e o values h (words e o values h) (placing e o values h) k block r;
    start = s.cycle;
    jobs = own_jobs e o values h (words e o values h) (placing e o values h) k block r;
    val = final e o values h k block r taken w;
    stack = stack_of e o values h k block r at base;
    world = w;
  }

  pub start_truths : (base : ℕ) (taken : List ℕ) (w : World) (s : PacketState) → AtStart base taken w s
      → StartTruths e o values h k block r taken w
  start_truths base taken w s a u m b q t =
      let v = start_value taken w u m b q a.taken_long in
      let kd = own_kind e o values (numbered e o values h) (fit_kinds e o values h) u m (ap (λ (y : ExtKind). carried_at y u) q) ∙ t in
      subst (λ n. n < 2) (sym v.1) (a.truths u.place u.temp v.0 kd)

  pub is_scene : (base : ℕ) (taken : List ℕ) (w : World) (s : PacketState) → base % 4 ≡ 0 → base + bytes e o values h k block r at < 2 ^ 32
      → AtStart base taken w s → IsScene (scene base taken w s)
  is_scene base taken w s even room a =
      let eq = its_equations e o values h k block r taken w in
      let f = all_facts e o values h (final e o values h k block r taken w) own_ops k w (of_all e o values h k block r)
      (carries e o values h k block r taken w) eq.0 in
      record {
        fit = h.fit;
        calls = calls_fit e.table h.fit;
        timed = block_timed e o values h (words e o values h) (placing e o values h) k block r at;
        order = memory_order e o values h (words e o values h) (placing e o values h) k block r;
        flows = f.flows;
        truths = truths e o values h k block r taken w (start_truths base taken w s a);
        sees = f.sees;
        frame = record { even = even; inside = let z = fourth (bytes e o values h k block r at) in omega (arith, z, room) };
        stacks = stacks e o values h k block r at base room;
      }
    where
      fourth : (n : ℕ) → 4 * (n / 4) ≤ n
      fourth n = omega arith

  -- what stands before the first cycle is a value of the block's start
  from_start : (base : ℕ) → base + bytes e o values h k block r at < 2 ^ 32 → (x : ℕ) → Stands (temps_of e o values h k) x 0 → (u : Spot)
      × (Member u (spots e o values)) × (u.temp.0 ≡ x) × (u.definer.block ≡ k) × (let p = u.definer in p.op.kind ≡ In)
  from_start base room x st =
      let a = active_of e o values h x k st.active in
      let s = its_spot e o values h x a.0 in
      let u = s.0 in
      let p = u.definer in
      let d = definer_of e o values h u s.1 in
      let b : p.block ≡ k = ap (λ (v : LiveRange). v.block.0) s.3 ∙ a.1 in
      let mine = r.all_in p d.0 b in
      let act : (issue_at values p).active ≡ true = ap (λ (v : LiveRange). v.active) s.3 ∙ a.0 in
      let cyc : (issue_at values p).cycle ≡ (range_at e o values x).from = ap (λ (v : LiveRange). v.from) s.3 in
      let early = st.begun in
      (u, s.1, s.2, b, by_kind u.place u.temp p mine act d.1 (omega (arith, cyc, early)) p.op.kind refl)
    where
      late : (p : Placed) → Member p own_ops → (issue_at values p).active ≡ true → (issue_at values p).cycle ≤ 0 → (x : ExtKind)
          → p.op.kind ≡ x → (x ≡ In → ⊥) → (x ≡ Out → ⊥) → ⊥
      late p m act le x q ni nt =
          let z = inner_late e o values h k block r at base room p m (λ s. ni (sym q ∙ s)) (λ s. nt (sym q ∙ s)) act in
          let y = z.0 in absurd (omega arith)

      by_kind : (n : ℕ) (y : TempId) (p : Placed) → Member p own_ops → (issue_at values p).active ≡ true → slice_get p.op.results n ≡ Some y
          → (issue_at values p).cycle ≤ 0 → (k : ExtKind) → p.op.kind ≡ k → p.op.kind ≡ In
      by_kind n y p m act g le In q = q
      by_kind n y p m act g le Out q = let z = no_results e o values h (words e o values h) (placing e o values h) k block r p
          (of_all e o values h k block r p m).0 q in let lt = length_get p.op.results n y g in absurd (omega (arith, z, lt))
      by_kind n y p m act g le (Body so) q = absurd (late p m act le (Body so) q (λ s. absurd (cc s)) (λ s. absurd (cc s)))
      by_kind n y p m act g le (End term) q = absurd (late p m act le (End term) q (λ s. absurd (cc s)) (λ s. absurd (cc s)))
      by_kind n y p m act g le (Copy node) q = absurd (late p m act le (Copy node) q (λ s. absurd (cc s)) (λ s. absurd (cc s)))
      by_kind n y p m act g le Enter q = absurd (late p m act le Enter q (λ s. absurd (cc s)) (λ s. absurd (cc s)))
      by_kind n y p m act g le Leave q = absurd (late p m act le Leave q (λ s. absurd (cc s)) (λ s. absurd (cc s)))

  -- the state at the block's start is that after cycle 0
  pub at_start : (base : ℕ) (taken : List ℕ) (w : World) (s : PacketState) → base + bytes e o values h k block r at < 2 ^ 32
      → AtStart base taken w s → At (scene base taken w s) 0 s
  at_start base taken w s room a = record {
    time = record {
      cycle = omega arith;
      long = a.ready_long;
      ready = λ x st lt.
          let f = from_start base room x st in
          let u = f.0 in
          let v = start_value taken w u f.1 f.3 f.4 a.taken_long in
          let small : (range_at e o values u.temp.0).reg < FIRST_SLOT =
          subst (λ n. (range_at e o values n).reg < FIRST_SLOT) (sym f.2) lt in
          let z = a.ready u.place u.temp v.0 small in
          let lat : latency_by e.table (range_at e o values x).instr ≡ 1 =
          ap (λ n. latency_by e.table (range_at e o values n).instr) (sym f.2)
          ∙ ap (λ (v : LiveRange). latency_by e.table v.instr) (range_here e o values (numbered e o values h) u f.1)
          ∙ ap (λ (x : ExtKind). latency_by e.table (instruction_of x (let p = u.definer in value_by values (vars_of p).instr))) f.4 in
          let z' : get_or s.ready (range_at e o values x).reg 0 ≤ s.cycle + 1 =
          subst (λ n. get_or s.ready (range_at e o values n).reg 0 ≤ s.cycle + 1) f.2 z in
          omega (arith, z', lat);
      stack = let z = a.stack_ready in omega arith;
    };
    holds = record {
      long = a.regs_long;
      frame = a.frame_long;
      start = a.frame_start;
      held = λ x st.
          let f = from_start base room x st in
          let u = f.0 in
          let v = start_value taken w u f.1 f.3 f.4 a.taken_long in
          subst (λ n. held_at s (range_at e o values n).reg ≡ as_held
          (kind_at e o values (numbered e o values h) (fit_kinds e o values h) n) (range_at e o values n).reg
          (final e o values h k block r taken w n)) f.2
          (a.places u.place u.temp v.0 ∙ ap (as_held (kind_at e o values (numbered e o values h) (fit_kinds e o values h) u.temp.0)
          (range_at e o values u.temp.0).reg) (sym v.1));
      stack_is = a.stack;
    };
    world = a.world ∙ sym (run_later (final e o values h k block r taken w) 1
        (own_jobs e o values h (words e o values h) (placing e o values h) k block r) w
        (let t = block_timed e o values h (words e o values h) (placing e o values h) k block r at in
        each_more (λ (j : Job). 1 ≤ j.cycle) (λ (j : Job). is_effect j.instr.op ≡ true → 1 ≤ j.cycle)
        (own_jobs e o values h (words e o values h) (placing e o values h) k block r) (λ j le q. le) t.late));
  }
