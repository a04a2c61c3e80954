-- The packets of a solution do what the extended function does: an induction over the blocks entered.
use Rattle.std.proofs.Common.{ℕ, zero, suc, ◌≡◌, ◌<◌, ◌≤◌, ◌+◌, ◌-◌, ◌%◌, ◌^◌, Bool, true, false, List, [], ◌∷◌, length, map, drop, get_or}
use Rattle.std.proofs.Common.{inl, inr, refl, sym, ap, ◌∙◌, subst, arith, Contains}
use Rattle.std.specs.Prelude.{Option, Some, None, IfSome, slice_get, slice_index, unwrap_or, nat_eq, not, if◌then◌else◌}
use Rattle.std.specs.Option.{option_map}
use Rattle.std.specs.List.{range_with_len, AllZip}
use Rattle.un_isa.specs.Tables.{in_mask}
use Rattle.un_isa.specs.declared.table.Table.{Table}
use Rattle.un_ir.specs.declared.extended.ExtKind.{ExtKind}
use Rattle.un_ir.specs.declared.extended.ExtKind.TheVariants.{Out}
use Rattle.un_ir.specs.Extended.{Want, word_in, wants_of, wants_of_out, IsGoodOperand}
use Rattle.un_emit.proofs.FramePlace.{held_reg}
use Rattle.un_emit.proofs.BlockStarts.{calls_fit}
use Rattle.un_emit.proofs.BlockEnds.{out_op, owner_of}
use Rattle.un_emit.proofs.Own.{own_op}
use Rattle.un_model.proofs.Readings.{placed_good, placed_domains}
use Rattle.un_base.specs.declared.ids.TempId.{TempId}
use Rattle.un_base.specs.declared.ids.VarId.{VarId}
use Rattle.un_isa.specs.Registers.{callee_saved}
use Rattle.un_isa.specs.declared.op.Op.{Op}
use Rattle.un_isa.specs.declared.op.Op.TheVariants.{Imm, Call}
use Rattle.un_isa.specs.declared.outcome.CallRecord.{CallRecord}
use Rattle.un_isa.specs.declared.reg.TheConstants.{STACK, REGISTERS}
use Rattle.un_ir.specs.Live.{targets_of}
use Rattle.un_ir.specs.declared.function.Term.{Term}
use Rattle.un_ir.specs.declared.function.Term.TheVariants.{Fall, Jump, Branch, Ret}
use Rattle.un_ir.specs.declared.extended.ExtOp.{ExtOp}
use Rattle.un_ir.specs.declared.extended.ExtBlock.{ExtBlock}
use Rattle.un_ir.specs.declared.extended.Ext.{Ext}
use Rattle.un_ir.specs.Extended.{returns, is_return}
use Rattle.un_ir.specs.Linear.{World, LinearState, LinearStop, LinearEnd, LinearRun, Returned, Trapped, Waiting, Running, value_of}
use Rattle.un_ir.specs.Linear.{out_operands, Ending, ending_of, in_temps, entered, ops_run, taken_by, taken_over, enter, through, leave}
use Rattle.un_ir.specs.Linear.{leave_unless, leave_block, hand_over}
use Rattle.un_model.specs.declared.model.Options.{Options}
use Rattle.un_base.specs.declared.ids.NameId.{NameId}
use Rattle.un_model.specs.Instructions.{transfer_of as transfer_op_of}
use Rattle.un_model.specs.Emission.{frame_of, label_of}
use Rattle.un_model.specs.Solutions.{HasHome}
use Rattle.un_model.specs.Variables.{model_of, var_at, var_count, ops_count}
use Rattle.un_packet.specs.declared.code.CodeBlock.{CodeBlock}
use Rattle.un_packet.specs.Step.{PacketState, PacketStep, PacketStop, Went, Jumped, Stopped, Returned as ReturnedTo, Trapped as TrappedAt}
use Rattle.un_packet.specs.Step.{Waiting as WaitingFor, Running as RunningAt}
use Rattle.un_packet.specs.Run.{PacketRun, packets_run, label_place, leave as leave_packets, through as through_packets}
use Rattle.un_packet.specs.Run.{enter as enter_packets, NoneWaits, never_after, never_through, NeverWaits}
use Rattle.un_simulation.specs.Simulation.{as_held, held_at}
use Rattle.un_lists.proofs.Lists.{Member, each_member, each_all, each_more, member_at, get_below, member_of_filter, length_get}
use Rattle.un_model.proofs.Operations.{contains_member}
use Rattle.un_emit.proofs.Exits.{transfer_of, exit_of, exit_by}
use Rattle.un_emit.proofs.Effects.{run_jobs, run_done, is_effect, call_of}
use Rattle.un_emit.proofs.Timed.{Job}
use Rattle.un_emit.proofs.Cycles.{Scene, IsScene, At, Comes, passes, stops, block_comes, packets_from, stop_by, stop_of, first_read}
use Rattle.un_emit.proofs.Cycles.{Failing}
use Rattle.un_model.proofs.Placed.{Placed, placed, region_placed}
use Rattle.un_model.proofs.PlacedSchedules.{all, range_at}
use Rattle.un_model.proofs.TempKinds.{kind_at}
use Rattle.un_model.proofs.Readings.{Solved, numbered, fit_kinds}
use Rattle.un_emit.proofs.BlockJobs.{InRegion}
use Rattle.un_emit.proofs.BlockTimed.{own_end, own_jobs, its_end, block_timed}
use Rattle.un_emit.proofs.Places.{words, placing}
use Rattle.un_emit.proofs.Stack.{stack_returns}
use Rattle.un_emit.proofs.Values.{total}
use Rattle.un_emit.proofs.JobValues.{halt_by, OpsRun, goes_through, halts_at, ops_are, all_facts, one_failing, not_both}
use Rattle.un_emit.proofs.BlockValues.{of_all, final, runs, firsts, its_equations, carries}
use Rattle.un_emit.proofs.BlockStarts.{AtStart, scene, is_scene, at_start}
use Rattle.un_emit.proofs.BlockEnds.{EndJob, no_job, one_job, end_job, job_label, job_value, the_end, hands, handed}
use Rattle.un_emit.proofs.Edges.{arrive}
use Rattle.un_emit.proofs.Codes.{region_vars}

range_below : (a n r : ℕ) → Member r (range_with_len a n) → r < a + n
range_below a zero r m = elim m [ ]
range_below a (suc n) r (inl e) = omega arith
range_below a (suc n) r (inr m) = let z = range_below (a + 1) n r m in omega arith

callee_small : (t : Table) (r : ℕ) → Member r (callee_saved t) → r < 32
unfolding callee_saved
callee_small t r m = range_below 0 32 r (member_of_filter (in_mask t.saved) (range_with_len 0 32) r m).0

zip_length : {A B : Type 0} (R : A → B → Type 0) (xs : List A) (ys : List B) → AllZip R xs ys → length xs ≡ length ys
zip_length R [] [] z = refl
zip_length R [] (y ∷ ys) z = absurd z
zip_length R (x ∷ xs) [] z = absurd z
zip_length R (x ∷ xs) (y ∷ ys) z = ap suc (zip_length R xs ys z.1)

length-mapped : {A B : Type 0} (f : A → B) (xs : List A) → length (map f xs) ≡ length xs
length-mapped f [] = refl
length-mapped f (x ∷ xs) = ap suc (length-mapped f xs)

get_map : {A B : Type 0} (f : A → B) (xs : List A) (j : ℕ) (x : A) → slice_get xs j ≡ Some x → slice_get (map f xs) j ≡ Some (f x)
get_map f [] j x q = absurd (cc q)
get_map f (y ∷ ys) zero x q = let z : y ≡ x = cc q in ap (λ w. Some (f w)) z
get_map f (y ∷ ys) (suc j) x q = get_map f ys j x q

by_index : (f : ℕ → ℕ) (rs xs : List ℕ) → length rs ≡ length xs → ((i r : ℕ) → slice_get rs i ≡ Some r → f r ≡ slice_index xs i)
    → map f rs ≡ xs
by_index f [] [] l g = refl
by_index f [] (x ∷ xs) l g = absurd (omega arith)
by_index f (r ∷ rs) [] l g = absurd (omega arith)
by_index f (r ∷ rs) (x ∷ xs) l g = ap (λ v. v ∷ map f rs) (g 0 r refl)
    ∙ ap (λ vs. x ∷ vs) (by_index f rs xs (omega arith) (λ i q s. g (suc i) q s))

drop_one : (xs : List ℕ) (i : ℕ) → slice_index (drop 1 xs) i ≡ slice_index xs (suc i)
drop_one [] i = refl
drop_one (x ∷ xs) i = refl

module _ (e : Ext) (o : Options) (values : List ℕ) (h : Solved e o values) where
  -- the numbers of block k
  abbrev pub region : (k : ℕ) (block : ExtBlock) → slice_get e.blocks k ≡ Some block → InRegion (all e o values) k block
  region k block at = (region_vars e o values k block at).0

  -- the blocks of code are those of the solution, under the blocks' labels
  pub record IsCodeOf (code : List CodeBlock) : Type 0 where
    pub code_at : (k : ℕ) (block : ExtBlock) (at : slice_get e.blocks k ≡ Some block) → (c : CodeBlock) × (slice_get code k ≡ Some c)
        × (c.packets ≡ packets_from (own_jobs e o values h (words e o values h) (placing e o values h) k block (region k block at)) 1
        (own_end e o values h (words e o values h) (placing e o values h) k block (region k block at) - 1))
    pub label_at : (k : ℕ) (block : ExtBlock) → slice_get e.blocks k ≡ Some block → label_place code block.label ≡ k

  -- the values at the start of block b stand in their places
  abbrev pub StandAt : ℕ → List ℕ → PacketState → Type 0
  StandAt b taken p = (block : ExtBlock) → slice_get e.blocks b ≡ Some block → (j : ℕ) (x : TempId)
      → slice_get (in_temps block.ops) j ≡ Some x
      → held_at p (range_at e o values x.0).reg ≡ as_held (kind_at e o values (numbered e o values h) (fit_kinds e o values h) x.0)
      (range_at e o values x.0).reg (slice_index taken j)

  -- the two runs stop in one way, where the stack pointer was `top` at the start
  abbrev pub StopsAlike : ℕ → LinearStop → PacketStop → PacketState → Type 0
  StopsAlike top (Returned result link saved) (ReturnedTo v target) p = IfSome result (λ (x : ℕ). v ≡ x) × (target ≡ link)
      × (map (slice_index p.regs) (callee_saved e.table) ≡ saved) × (get_or p.regs STACK 0 ≡ top)
  StopsAlike top Trapped TrappedAt p = Unit {0}
  StopsAlike top (Waiting c) (WaitingFor d) p = c ≡ d
  StopsAlike top (Running b taken) (RunningAt d) p = (b ≡ d) × StandAt b taken p
  StopsAlike top stop other p = ⊥

  pub record RunsAlike (top : ℕ) (l : LinearRun) (p : PacketRun) : Type 0 where
    pub stop : StopsAlike top l.stop p.stop p.state
    pub world : (let s = p.state in record { memory = s.memory; calls = s.calls; replies = s.replies }) ≡ l.world

  abbrev pub frame_bytes : ℕ
  frame_bytes = frame_of (model_of e o) values

  halts_alike : (top : ℕ) (op : Op) (c d : CallRecord) (p : PacketState) → c ≡ d → StopsAlike top (halt_by op c) (stop_by op d) p
  halts_alike top Call c d p q = q
  halts_alike top _ c d p q = tt

  module _ (code : List CodeBlock) (is : IsCodeOf code) (base : ℕ) (even : base % 4 ≡ 0) (room : base + frame_bytes < 2 ^ 32) where
    abbrev Good : ℕ → ℕ → List ℕ → World → PacketState → Type 0
    Good n b taken w s = RunsAlike (base + frame_bytes) (enter e.blocks n b taken w) (enter_packets e.table code n b s)
        × NeverWaits e.table code n b s

    -- what is known of n blocks
    abbrev Known : ℕ → Type 0
    Known n = (k : ℕ) (block : ExtBlock) (at : slice_get e.blocks k ≡ Some block) (taken : List ℕ) (w : World) (s : PacketState)
        → AtStart e o values h k block (region k block at) at base taken w s → Good n k taken w s

    module _ (n : ℕ) (known : Known n) (k : ℕ) (block : ExtBlock) (at : slice_get e.blocks k ≡ Some block) (taken : List ℕ) (w : World)
        (s : PacketState) (a : AtStart e o values h k block (region k block at) at base taken w s) where
      abbrev r : InRegion (all e o values) k block
      r = region k block at

      abbrev x : Scene
      x = scene e o values h k block (region k block at) at base taken w s

      abbrev after : LinearState
      after = total (region_placed (let q = region k block at in q.region)) (entered block taken w)

      isx : IsScene (scene e o values h k block (region k block at) at base taken w s)
      isx = is_scene e o values h k block (region k block at) at base taken w s even room a

      facts_world : run_jobs x.val x.jobs w ≡ (let q = after in q.world)
      facts_world =
          let eq = its_equations e o values h k block r taken w in
          let f = all_facts e o values h (final e o values h k block r taken w) (region_placed (let q = r in q.region)) k w
          (of_all e o values h k block r) (carries e o values h k block r taken w) eq.0 in
          f.world ∙ eq.1

      ops : OpsRun e o values h (final e o values h k block r taken w) (region_placed (let q = r in q.region)) (entered block taken w)
      ops = ops_are e o values h (final e o values h k block r taken w) (let q = r in let z = q.region in z.number)
          (region_placed (let q = r in q.region)) k (entered block taken w) (of_all e o values h k block r)
          (carries e o values h k block r taken w)
          (its_equations e o values h k block r taken w).0 (runs e o values h k block r taken w)
          (firsts e o values h k block r (final e o values h k block r taken w))

      own_ops_are : map (λ (p : Placed). p.op) (region_placed (let q = r in q.region)) ≡ block.ops
      own_ops_are = let q = r in let z = q.region in back z.block z.owner (var_at (z.first + ops_count (z.owner).ops)) z.number z.first
          (z.owner).ops ∙ ap (λ (b : ExtBlock). b.ops) q.owner
        where
          back : (b : ℕ) (owner : ExtBlock) (close : VarId) (n first : ℕ) (ops : List ExtOp)
              → map (λ (p : Placed). p.op) (placed b owner close n first ops) ≡ ops
          back b owner close n first [] = refl
          back b owner close n first (op ∷ ops) = ap (λ xs. op ∷ xs) (back b owner close (n + 1) (first + var_count op) ops)

      -- the run of the extended function through the block
      linear_is : (t : LinearEnd) → ops_run (map (λ (p : Placed). p.op) (region_placed (let q = r in q.region))) (entered block taken w) ≡ t
          → enter e.blocks (suc n) k taken w ≡ leave_unless t.stop e.blocks k block t.state (enter e.blocks n)
      linear_is t q = ap (λ (b : Option ExtBlock). through e.blocks b k taken w (enter e.blocks n)) at
          ∙ ap (λ (z : LinearEnd). leave_unless z.stop e.blocks k block z.state (enter e.blocks n))
          (ap (λ os. ops_run os (entered block taken w)) (sym own_ops_are) ∙ q)

      -- that of the packets
      packets_are : (t : PacketStep) → packets_run e.table (packets_from x.jobs 1 (x.end - 1)) s ≡ t
          → enter_packets e.table code (suc n) k s ≡ leave_packets code k t (enter_packets e.table code n)
      packets_are t q =
          let c = is.code_at k block at in
          ap (λ (b : Option CodeBlock). through_packets e.table code b k s (enter_packets e.table code n)) c.1
          ∙ ap (λ (z : PacketStep). leave_packets code k z (enter_packets e.table code n)) (ap (λ ps. packets_run e.table ps s) c.2 ∙ q)

      waits_are : (t : PacketStep) → packets_run e.table (packets_from x.jobs 1 (x.end - 1)) s ≡ t
          → NoneWaits e.table (packets_from x.jobs 1 (x.end - 1)) s → never_after code k t (NeverWaits e.table code n)
          → NeverWaits e.table code (suc n) k s
      waits_are t q nw after =
          let c = is.code_at k block at in
          subst (λ (b : Option CodeBlock). never_through e.table code b k s (NeverWaits e.table code n)) (sym c.1)
          (subst (λ ps. NoneWaits e.table ps s × never_after code k (packets_run e.table ps s) (NeverWaits e.table code n)) (sym c.2)
          (nw, subst (λ (z : PacketStep). never_after code k z (NeverWaits e.table code n)) (sym q) after))

      good : (l : LinearRun) (p : PacketRun) → enter e.blocks (suc n) k taken w ≡ l → enter_packets e.table code (suc n) k s ≡ p
          → RunsAlike (base + frame_bytes) l p → NeverWaits e.table code (suc n) k s → Good (suc n) k taken w s
      good l p ql qp ra nw = (
        subst (λ (z : LinearRun). RunsAlike (base + frame_bytes) z (enter_packets e.table code (suc n) k s)) (sym ql)
            (subst (RunsAlike (base + frame_bytes) l) (sym qp) ra),
        nw,
      )

      -- ---- the block stops within

      stopping : (f : Failing x.val x.jobs x.world) (u : PacketState)
          → (record { memory = u.memory; calls = u.calls; replies = u.replies } ≡ run_jobs x.val f.before x.world)
          → packets_run e.table (packets_from x.jobs 1 (x.end - 1)) s ≡ Stopped (stop_of x f) u
          → NoneWaits e.table (packets_from x.jobs 1 (x.end - 1)) s
          → OpsRun e o values h x.val (region_placed (let q = r in q.region)) (entered block taken w) → Good (suc n) k taken w s
      stopping f u wu run nw (goes_through pass q) = absurd (not_both x.val x.jobs w pass f)
      stopping f u wu run nw (halts_at g q) =
          let same = one_failing x.val x.jobs w f g in
          let t = ops_run (map (λ (p : Placed). p.op) (region_placed (let q = r in q.region))) (entered block taken w) in
          let st = ap (λ (z : Option LinearStop). leave_unless z e.blocks k block t.state (enter e.blocks n)) q.0 in
          let j = g.job in
          let i = f.job in
          let ops_same : i.instr.op ≡ j.instr.op = ap (λ (z : Job). z.instr.op) same.1 in
          let call_same : call_of x.val j (run_jobs x.val g.before w) ≡ call_of x.val i (run_jobs x.val f.before w) =
          ap (λ (z : Job). call_of x.val z (run_jobs x.val g.before w)) (sym same.1)
          ∙ ap (λ js. call_of x.val i (run_jobs x.val js w)) (sym same.0) in
          good _ _ (linear_is t refl ∙ st) (packets_are (Stopped (stop_of x f) u) run)
          (record {
            stop = subst (λ (op : Op). StopsAlike (base + frame_bytes) (halt_by op (call_of x.val j (run_jobs x.val g.before w)))
                (stop_by i.instr.op (call_of x.val i (run_jobs x.val f.before w))) u) ops_same
                (halts_alike (base + frame_bytes) i.instr.op _ _ u call_same);
            world = wu ∙ ap (λ js. run_jobs x.val js w) same.0 ∙ sym q.1;
          })
          (waits_are (Stopped (stop_of x f) u) run nw tt)

      -- ---- the block is left

      module _ (u : PacketState) (au : At (scene e o values h k block (region k block at) at base taken w s)
          (the_end e o values h k block (region k block at) at - 1) u) (le : 1 ≤ the_end e o values h k block (region k block at) at)
          (run : packets_run e.table (packets_from x.jobs 1 (x.end - 1)) s ≡ exit_of (transfer_of x.jobs) (first_read x.val) u)
          (nw : NoneWaits e.table (packets_from x.jobs 1 (x.end - 1)) s)
          (through_ops : ops_run (map (λ (p : Placed). p.op) (region_placed (let q = r in q.region))) (entered block taken w) ≡
          record { stop = None; state = after }) where
        abbrev over : List ℕ
        over = handed e o values h k block (region k block at) at base taken w s a

        -- the run of the extended function leaves the block
        leaving : (l : LinearRun) → leave_block e.blocks k block after (enter e.blocks n) ≡ l → enter e.blocks (suc n) k taken w ≡ l
        leaving l q = linear_is (record { stop = None; state = after }) through_ops ∙ q

        -- it does so alike
        abbrev Left : PacketStep → LinearRun → Type 0
        Left t l = RunsAlike (base + frame_bytes) l (leave_packets code k t (enter_packets e.table code n))
            × never_after code k t (NeverWaits e.table code n)

        finish : (t : PacketStep) (l : LinearRun) → exit_of (transfer_of x.jobs) (first_read x.val) u ≡ t
            → leave_block e.blocks k block after (enter e.blocks n) ≡ l → Left t l → Good (suc n) k taken w s
        finish t l qt ql f = good l (leave_packets code k t (enter_packets e.table code n)) (leaving l ql) (packets_are t (run ∙ qt)) f.0
            (waits_are t (run ∙ qt) nw f.1)

        -- on to the next block that is entered
        onward : (c : ℕ) → (let z = ending_of block.ops in Contains (targets_of k z.term) c)
            → RunsAlike (base + frame_bytes) (hand_over e.blocks block over (let q = after in q.world) (enter e.blocks n) c)
            (enter_packets e.table code n c u) × NeverWaits e.table code n c u
        onward c edge =
            let ext = h.extended in
            let g = ext.good in
            let term = (let z = ending_of block.ops in z.term) in
            let l = each_member (λ (c : ℕ). (0 < c) × (c < length e.blocks)) (targets_of k term) c
            (each_all (λ (c : ℕ). (0 < c) × (c < length e.blocks)) (targets_of k term) (g.leads k block at))
            (contains_member (targets_of k term) c edge) in
            let b = get_below e.blocks c l.1 in
            let start = arrive e o values h k block r at c b.0 (region c b.0 b.1) b.1 edge base taken w s a u le au room in
            let start' = subst (λ (w' : World). AtStart e o values h c b.0 (region c b.0 b.1) b.1 base (taken_by block over b.0) w' u)
            facts_world start in
            let f = known c b.0 b.1 (taken_by block over b.0) (let q = after in q.world) u start' in
            let here : hand_over e.blocks block over (let q = after in q.world) (enter e.blocks n) c ≡ enter e.blocks n c
            (taken_by block over b.0) (let q = after in q.world) =
            ap (λ (z : Option ExtBlock). enter e.blocks n c (taken_over block over z) (let q = after in q.world)) b.1 in
            (subst (λ (z : LinearRun). RunsAlike (base + frame_bytes) z (enter_packets e.table code n c u)) (sym here) f.0, f.1)

        falling : (let z = ending_of block.ops in Contains (targets_of k z.term) (k + 1))
            → Left (Went u) (hand_over e.blocks block over (let q = after in q.world) (enter e.blocks n) (k + 1))
        falling edge = onward (k + 1) edge

        jumping : (c : ℕ) (label : List ℕ) → (let z = ending_of block.ops in Contains (targets_of k z.term) c) → label_place code label ≡ c
            → Left (Jumped label u) (hand_over e.blocks block over (let q = after in q.world) (enter e.blocks n) c)
        jumping c label edge q = let f = onward c edge in (
          subst (λ m. RunsAlike (base + frame_bytes) (hand_over e.blocks block over (let q = after in q.world) (enter e.blocks n) c)
              (enter_packets e.table code n m u)) (sym q) f.0,
          subst (λ m. NeverWaits e.table code n m u) (sym q) f.1,
        )

        -- the label of a target leads to it
        label_leads : (c : ℕ) → (let z = ending_of block.ops in Contains (targets_of k z.term) c)
            → label_place code (unwrap_or (option_map (λ (b : ExtBlock). b.label) (slice_get e.blocks c)) []) ≡ c
        label_leads c edge =
            let ext = h.extended in
            let g = ext.good in
            let term = (let z = ending_of block.ops in z.term) in
            let l = each_member (λ (c : ℕ). (0 < c) × (c < length e.blocks)) (targets_of k term) c
            (each_all (λ (c : ℕ). (0 < c) × (c < length e.blocks)) (targets_of k term) (g.leads k block at))
            (contains_member (targets_of k term) c edge) in
            let b = get_below e.blocks c l.1 in
            ap (λ (z : Option ExtBlock). label_place code (unwrap_or (option_map (λ (b : ExtBlock). b.label) z) [])) b.1
            ∙ is.label_at c b.0 b.1

        -- ---- the block returns

        abbrev out : Placed
        out = let p = out_op e o values h k block (region k block at) at in p.placed

        abbrev wants : List Want
        wants = wants_of_out e.table e.names block.live_out (let z = ending_of block.ops in z.term)

        out_wants : wants_of e.table e.names e.blocks block Out (let p = out in p.op) ≡ wants
        out_wants = refl

        out_length : (let p = out in length p.op.operands) ≡ length wants
        out_length =
            let oo = out_op e o values h k block (region k block at) at in
            let p = oo.placed in
            let g = placed_good e o values h p (of_all e o values h k block r p oo.member).0 in
            let f = g.keeps in
            zip_length (IsGoodOperand e.names e.blocks g.before) p.op.operands (wants_of e.table e.names e.blocks p.owner p.op.kind p.op)
            f.operands
            ∙ ap (λ (y : ExtKind). length (wants_of e.table e.names e.blocks p.owner y p.op)) oo.kind
            ∙ ap (λ (b : ExtBlock). length (wants_of e.table e.names e.blocks b Out p.op)) (owner_of e o values h k block r at p oo.member)

        over_length : length over ≡ length wants
        over_length =
            let oo = out_op e o values h k block (region k block at) at in
            length-mapped (value_of (let q = after in q.values)) (out_operands block.ops) ∙ ap length oo.operands ∙ out_length

        -- a register in which a word is wanted at the end has it
        word_there : (i reg : ℕ) → slice_get wants i ≡ Some (word_in reg) → reg < REGISTERS → slice_index u.regs reg ≡ slice_index over i
        word_there i reg q lt =
            let n = length_get wants i (word_in reg) q in
            let l = out_length in
            let op = get_below (let p = out in p.op.operands) i (omega (arith, n, l)) in
            let g = hands e o values h k block (region k block at) at base taken w s a i op.0 u le au op.1 in
            let same : Some g.want ≡ Some (word_in reg) = sym g.wanted ∙ q in
            let same' : g.want ≡ word_in reg = cc same in
            let rd = g.reading_is in
            let v = rd.spot in
            let home : (range_at e o values v.temp.0).reg ≡ reg =
            subst (λ (w : Want). HasHome w.home (range_at e o values v.temp.0)) same' rd.home in
            sym (held_reg u reg lt) ∙ ap (held_at u) (sym home) ∙ g.held
            ∙ ap (λ (w : Want). as_held w.kind (range_at e o values v.temp.0).reg (slice_index over i)) same'

        end_is : (p : Placed) (term : Term) → ending_of block.ops ≡ record { term = term; operands = p.op.operands } → (l : LinearRun)
            → leave k term (map (value_of (let q = after in q.values)) p.op.operands) over (let q = after in q.world)
            (hand_over e.blocks block over (let q = after in q.world) (enter e.blocks n)) ≡ l
            → leave_block e.blocks k block after (enter e.blocks n) ≡ l
        end_is p term q l g = ap (λ (z : Ending). leave k z.term (map (value_of (let q = after in q.values)) z.operands) over
            (let q = after in q.world) (hand_over e.blocks block over (let q = after in q.world) (enter e.blocks n))) q ∙ g

        top_again : returns block ≡ true → get_or u.regs STACK 0 ≡ base + frame_bytes
        top_again q = let hd = au.holds in hd.stack_is ∙ stack_returns e o values h k block r at base room q

        world_again : record { memory = u.memory; calls = u.calls; replies = u.replies } ≡ (let q = after in q.world)
        world_again =
            let t = block_timed e o values h (words e o values h) (placing e o values h) k block r at in
            let m = the_end e o values h k block r at in
            au.world ∙ run_done x.val (m - 1 + 1) x.jobs w (each_more (λ (j : Job). j.cycle < m)
            (λ (j : Job). is_effect j.instr.op ≡ true → j.cycle < m - 1 + 1) x.jobs (λ j lt q. omega arith) t.soon) ∙ facts_world

        returning : (value : Option NameId) (v : ℕ) → (let z = ending_of block.ops in z.term ≡ Ret value) → (link : ℕ) → v ≡ link
            → Left (Stopped (ReturnedTo (slice_index u.regs 0) v) u)
            (leave k (Ret value) (link ∷ []) over (let q = after in q.world)
            (hand_over e.blocks block over (let q = after in q.world) (enter e.blocks n)))
        returning None v q link same =
            let ws = ap (wants_of_out e.table e.names block.live_out) q in (
              record {
                stop = (
                  tt,
                  same,
                  by_index (slice_index u.regs) (callee_saved e.table) over
                      (let l = over_length in let z = ap length ws in let y = length-mapped word_in (callee_saved e.table) in
                      omega (arith, l, z, y))
                      (λ i reg s. word_there i reg (ap (λ xs. slice_get xs i) ws ∙ get_map word_in (callee_saved e.table) i reg s)
                      (let z = callee_small e.table reg (member_at (callee_saved e.table) i reg s) in omega arith)),
                  top_again (ap is_return q),
                );
                world = world_again;
              },
              tt,
            )
        returning (Some name) v q link same =
            let ws = ap (wants_of_out e.table e.names block.live_out) q in
            let f = h.fit in
            let res = f.result in (
              record {
                stop = (
                  subst (λ m. slice_index u.regs m ≡ slice_index over 0) res
                      (word_there 0 (e.table).result (ap (λ xs. slice_get xs 0) ws)
                      (let z = calls_fit e.table f in let y = z.small in omega arith)),
                  same,
                  by_index (slice_index u.regs) (callee_saved e.table) (drop 1 over)
                      (let l = over_length in let z = ap length ws in let y = length-mapped word_in (callee_saved e.table) in let d =
                      drop_length over in omega (arith, l, z, y, d))
                      (λ i reg s. word_there (suc i) reg (ap (λ xs. slice_get xs (suc i)) ws
                      ∙ get_map word_in (callee_saved e.table) i reg s)
                      (let z = callee_small e.table reg (member_at (callee_saved e.table) i reg s) in omega arith)
                      ∙ sym (drop_one over i)),
                  top_again (ap is_return q),
                );
                world = world_again;
              },
              tt,
            )
          where
            drop_length : (xs : List ℕ) → length (drop 1 xs) ≡ length xs - 1
            drop_length [] = refl
            drop_length (x ∷ xs) = omega arith

        -- ---- by the terminator

        leaves : EndJob e o values h k block (region k block at) at → Good (suc n) k taken w s
        leaves (no_job tr q) =
            let f = ap (λ (z : Option Job). exit_of z (first_read x.val) u) tr in
            let edge : (let z = ending_of block.ops in Contains (targets_of k z.term) (k + 1)) =
            subst (λ (t : Term). Contains (targets_of k t) (k + 1)) (sym q) (0, omega arith, refl) in
            let z = ending_of block.ops in
            finish (Went u) (hand_over e.blocks block over (let q = after in q.world) (enter e.blocks n) (k + 1)) f
            (ap (λ (t : Term). leave k t (map (value_of (let q = after in q.values)) z.operands) over (let q = after in q.world)
            (hand_over e.blocks block over (let q = after in q.world) (enter e.blocks n))) q) (falling edge)
        leaves (one_job p j term m g tr kp tj eq) = by_term term refl
          where
            v : ℕ
            v = first_read (let y = x in y.val) j

            f : exit_of (transfer_of x.jobs) (first_read x.val) u ≡ exit_by j.instr.op (first_read x.val j) j.instr.label u
            f = ap (λ (z : Option Job). exit_of z (first_read x.val) u) tr

            read : List ℕ
            read = map (value_of (let q = after in q.values)) p.op.operands

            v_is : first_read x.val j ≡ slice_index (map (value_of (let q = after in q.values)) p.op.operands) 0
            v_is = job_value e o values h k block r at taken w p j m g

            label : j.instr.label ≡ label_of e.blocks term
            label = job_label e o values h k block r at p j term g kp

            to_term : (t : Term) → term ≡ t → (c : ℕ) → Contains (targets_of k t) c
                → (let z = ending_of block.ops in Contains (targets_of k z.term) c)
            to_term t q c y = subst (λ (z : Term). Contains (targets_of k z) c) (sym (ap (λ (z : Ending). z.term) eq ∙ q)) y

            op_is : (op : Op) → Some op ≡ Some (own_op j.instr.op) → own_op j.instr.op ≡ op
            op_is op q = let z : op ≡ own_op j.instr.op = cc q in sym z

            -- what tests a predicate of its own packet leads where a branch does
            exit_alike : (op : Op) (v : ℕ) → exit_by (own_op op) v j.instr.label u ≡ exit_by op v j.instr.label u
            exit_alike Imm v = refl
            exit_alike op v = refl

            -- a choice by what is not so
            swapped : (b : Bool) (x y : PacketStep) → (if not b then x else y) ≡ (if b then y else x)
            swapped true x y = refl
            swapped false x y = refl

            exit_is : (op : Op) → own_op j.instr.op ≡ op → exit_of (transfer_of x.jobs) (first_read x.val) u ≡ exit_by op
                (slice_index (map (value_of (let q = after in q.values)) p.op.operands) 0) (label_of e.blocks term) u
            exit_is op q = f ∙ sym (exit_alike j.instr.op (first_read x.val j))
                ∙ ap (λ (z : Op). exit_by z (first_read x.val j) j.instr.label u) q
                ∙ ap (λ n. exit_by op n j.instr.label u) v_is ∙ ap
                (λ (l : Option (List ℕ)). exit_by op (slice_index (map (value_of (let q = after in q.values)) p.op.operands) 0) l u) label

            ended : (t : Term) → term ≡ t → ending_of block.ops ≡ record { term = t; operands = p.op.operands }
            ended t q = eq ∙ ap (λ (z : Term). let y : Ending = record { term = z; operands = p.op.operands } in y) q

            go_to : ℕ → LinearRun
            go_to c = hand_over e.blocks block over (let q = after in q.world) (enter e.blocks n) c

            -- a branch that jumps where the value is no zero, or where it is
            branching : (b : Bool) (c : ℕ) → (edge1 : (let z = ending_of block.ops in Contains (targets_of k z.term) (k + 1)))
                → (edge2 : (let z = ending_of block.ops in Contains (targets_of k z.term) c))
                → Left (if b then Went u else Jumped (unwrap_or (option_map (λ (b : ExtBlock). b.label) (slice_get e.blocks c)) []) u)
                (if b then go_to (k + 1) else go_to c)
            branching true c e1 e2 = falling e1
            branching false c e1 e2 = jumping c (unwrap_or (option_map (λ (b : ExtBlock). b.label) (slice_get e.blocks c)) []) e2
                (label_leads c e2)

            branching_not : (b : Bool) (c : ℕ) → (edge1 : (let z = ending_of block.ops in Contains (targets_of k z.term) (k + 1)))
                → (edge2 : (let z = ending_of block.ops in Contains (targets_of k z.term) c))
                → Left (if b then Jumped (unwrap_or (option_map (λ (b : ExtBlock). b.label) (slice_get e.blocks c)) []) u else Went u)
                (if b then go_to c else go_to (k + 1))
            branching_not false c e1 e2 = falling e1
            branching_not true c e1 e2 = jumping c (unwrap_or (option_map (λ (b : ExtBlock). b.label) (slice_get e.blocks c)) []) e2
                (label_leads c e2)

            exit_term : (t : Term) (op : Op) → term ≡ t → own_op j.instr.op ≡ op → exit_of (transfer_of x.jobs) (first_read x.val) u
                ≡ exit_by op (slice_index read 0) (label_of e.blocks t) u
            exit_term t op q is = exit_is op is ∙ ap (λ (t : Term). exit_by op (slice_index read 0) (label_of e.blocks t) u) q

            by_term : (t : Term) → term ≡ t → Good (suc n) k taken w s
            by_term Fall q = let z : None ≡ Some (own_op j.instr.op) = ap transfer_op_of (sym q) ∙ tj in absurd (cc z)
            by_term (Jump to) q =
                let op = op_is _ (ap transfer_op_of (sym q) ∙ tj) in
                let edge = to_term (Jump to) q to.0 (0, omega arith, refl) in
                finish (Jumped (unwrap_or (option_map (λ (b : ExtBlock). b.label) (slice_get e.blocks to.0)) []) u) (go_to to.0)
                (exit_term (Jump to) _ q op)
                (end_is p (Jump to) (ended (Jump to) q) (go_to to.0) refl)
                (jumping to.0 (unwrap_or (option_map (λ (b : ExtBlock). b.label) (slice_get e.blocks to.0)) []) edge
                (label_leads to.0 edge))
            by_term (Branch pred true to) q =
                let op = op_is _ (ap transfer_op_of (sym q) ∙ tj) in
                let e1 = to_term (Branch pred true to) q (k + 1) (0, omega arith, refl) in
                let e2 = to_term (Branch pred true to) q to.0 (1, omega arith, refl) in
                let b = nat_eq (slice_index read 0) 0 in
                finish (if b then Went u else Jumped (unwrap_or (option_map (λ (b : ExtBlock). b.label) (slice_get e.blocks to.0)) []) u)
                (if b then go_to (k + 1) else go_to to.0)
                (exit_term (Branch pred true to) _ q op
                ∙ swapped b (Jumped (unwrap_or (option_map (λ (b : ExtBlock). b.label) (slice_get e.blocks to.0)) []) u) (Went u))
                (end_is p (Branch pred true to) (ended (Branch pred true to) q) (if b then go_to (k + 1) else go_to to.0) refl)
                (branching b to.0 e1 e2)
            by_term (Branch pred false to) q =
                let op = op_is _ (ap transfer_op_of (sym q) ∙ tj) in
                let e1 = to_term (Branch pred false to) q (k + 1) (0, omega arith, refl) in
                let e2 = to_term (Branch pred false to) q to.0 (1, omega arith, refl) in
                let b = nat_eq (slice_index read 0) 0 in
                finish (if b then Jumped (unwrap_or (option_map (λ (b : ExtBlock). b.label) (slice_get e.blocks to.0)) []) u else Went u)
                (if b then go_to to.0 else go_to (k + 1))
                (exit_term (Branch pred false to) _ q op)
                (end_is p (Branch pred false to) (ended (Branch pred false to) q) (if b then go_to to.0 else go_to (k + 1)) refl)
                (branching_not b to.0 e1 e2)
            by_term (Ret value) q =
                let op = op_is _ (ap transfer_op_of (sym q) ∙ tj) in
                finish (Stopped (ReturnedTo (slice_index u.regs 0) (slice_index read 0)) u)
                (leave k (Ret value) read over (let q = after in q.world)
                (hand_over e.blocks block over (let q = after in q.world) (enter e.blocks n)))
                (exit_term (Ret value) _ q op)
                (end_is p (Ret value) (ended (Ret value) q) (leave k (Ret value) read over (let q = after in q.world)
                (hand_over e.blocks block over (let q = after in q.world) (enter e.blocks n))) refl)
                (again value (returning value (slice_index read 0) (ap (λ (z : Ending). z.term) (ended (Ret value) q)) (slice_index read 0)
                refl))
              where
                again : (value : Option NameId) → Left (Stopped (ReturnedTo (slice_index u.regs 0) (slice_index read 0)) u)
                    (leave k (Ret value) (slice_index read 0 ∷ []) over (let q = after in q.world)
                    (hand_over e.blocks block over (let q = after in q.world) (enter e.blocks n)))
                    → Left (Stopped (ReturnedTo (slice_index u.regs 0) (slice_index read 0)) u)
                    (leave k (Ret value) read over (let q = after in q.world)
                    (hand_over e.blocks block over (let q = after in q.world) (enter e.blocks n)))
                again None f = f
                again (Some name) f = f

      -- ---- the step

      end_late : 1 ≤ the_end e o values h k block (region k block at) at
      end_late =
          let oo = out_op e o values h k block r at in
          let p = oo.placed in
          let d = placed_domains e o values h p (of_all e o values h k block r p oo.member).0 in
          let c = d.close in
          let q = its_end e o values h (words e o values h) (placing e o values h) k block r p oo.member in
          omega (arith, c, q)

      comes_good : Comes (scene e o values h k block (region k block at) at base taken w s) (packets_from x.jobs 1 (x.end - 1)) s
          → Good (suc n) k taken w s
      comes_good (stops f u wu run nw) = stopping f u wu run nw ops
      comes_good (passes u au pass run nw) = by_ops ops
        where
          by_ops : OpsRun e o values h (final e o values h k block r taken w) (region_placed (let q = r in q.region))
              (entered block taken w) → Good (suc n) k taken w s
          by_ops (goes_through p q) = leaves u au end_late run nw q (end_job e o values h k block r at)
          by_ops (halts_at f q) = absurd (not_both x.val x.jobs w pass f)

      block_good : Good (suc n) k taken w s
      block_good = comes_good (block_comes x isx s end_late (at_start e o values h k block r at base taken w s room a))

    none_good : Known 0
    none_good k block at taken w s a = (record { stop = (refl, stands); world = a.world }, tt)
      where
        stands : StandAt k taken s
        stands other at2 j x q =
            let same : Some other ≡ Some block = sym at2 ∙ at in
            let same' : other ≡ block = cc same in
            a.places j x (subst (λ (b : ExtBlock). slice_get (in_temps b.ops) j ≡ Some x) same' q)

    -- a run of the extended function and one of the packets come to the same, for each number of blocks entered, and no packet waits
    pub known_all : (n : ℕ) → Known n
    known_all zero = none_good
    known_all (suc n) = λ k block at taken w s a. block_good n (known_all n) k block at taken w s a
