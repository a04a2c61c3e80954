-- The packets of a block do what its jobs do in their order: an induction over the cycles, which joins that no packet waits, that
-- occupied temporaries hold their values, and that effects come in order.
use Rattle.std.proofs.Common.{ℕ, zero, suc, ◌≡◌, ◌<◌, ◌≤◌, ◌+◌, ◌-◌, Bool, true, false, List, [], ◌∷◌, ◌++◌, map, ◌⊎◌, inl, inr, ⊎_elim}
use Rattle.std.proofs.Common.{refl, sym, ap, ◌∙◌, subst, arith}
use Rattle.std.specs.Prelude.{Option, Some, None, slice_index, is_none, unwrap_or, if◌then◌else◌}
use Rattle.std.specs.List.{list_any, range_with_len}
use Rattle.std.proofs.lemmas.Bool.{cases_lt, eq-eqb}
use Rattle.un_isa.specs.Fit.{IsFit}
use Rattle.un_isa.specs.Memories.{word_at}
use Rattle.un_isa.specs.Words.{address_of}
use Rattle.un_isa.specs.declared.op.Op.{Op}
use Rattle.un_isa.specs.declared.op.Op.TheVariants.{Load, Store, Call, Nop}
use Rattle.un_isa.specs.declared.instr.Instr.{Instr}
use Rattle.un_isa.specs.declared.table.Table.{Table}
use Rattle.un_isa.specs.declared.outcome.CallRecord.{CallRecord}
use Rattle.un_isa.specs.declared.start.Reply.{Reply}
use Rattle.un_isa.specs.Does.{moves_stack, is_transfer, is_new, is_control}
use Rattle.un_isa.specs.declared.reg.Reg.{Reg}
use Rattle.un_isa.proofs.DoesLaws.{new_transfer, transfer_control}
use Rattle.un_ir.specs.Linear.{World}
use Rattle.un_packet.specs.declared.code.Packet.{Packet}
use Rattle.un_packet.specs.Step.{PacketState, PacketStep, PacketStop, Went, Jumped, Stopped, Trapped, Waiting, traps, traps_by, reg_in}
use Rattle.un_packet.specs.Step.{operand_in, operand_of, regs_after, record_of, packet_step, with_call, issue_cycle, value_of, value_by, frame_place}
use Rattle.un_packet.specs.Run.{packets_run, then_packets, goes_on_unless, NoneWaits}
use Rattle.un_lists.proofs.Lists.{Each, Pairwise, Member, Split, split_at, Places, ahead, level, behind, two_places, find_filter}
use Rattle.un_lists.proofs.Lists.{pairwise_before, pairwise_after, each_member, each_of, each_filter, member_map, member_map_of}
use Rattle.un_lists.proofs.Lists.{member_append_left, member_append_right, member_filter, member_of_filter, any_of, none_any, found}
use Rattle.un_lists.proofs.Lists.{find_none, pairwise_two}
use Rattle.un_emit.proofs.Settled.{settled, the_call, CanAnswer, first_result, step_settles}
use Rattle.un_emit.proofs.Timed.{Job, Temps, IsInSlot, ReadsAll, Deed, computes, moves, spills, reloads, from_pred, to_pred, loads, stores}
use Rattle.un_emit.proofs.Timed.{TestsNew, Stands, NotBoth, numbers, calls, shifts, leaves, tests, rests, Timed, AreTemps, Together, together, packet_jobs, jobs_at, issues_at}
use Rattle.un_emit.proofs.Timed.{or_rest, rest_job, instrs}
use Rattle.un_emit.proofs.Deeds.{alu_op, transfer_op, shift_op}
use Rattle.un_emit.proofs.InTime.{InTime, CallsFit, issues, in_time_next, has_call, call_job}
use Rattle.un_emit.proofs.FramePlace.{IsFrame, held_reg}
use Rattle.un_emit.proofs.Holds.{Flows, AreTruths, Stacks, Holds, Finds, operands, frame_at, holds_next, uses_frame}
use Rattle.un_emit.proofs.Effects.{InOrder, is_access, is_effect, address, call_of, after_job, fails, fails_by, is_empty, run_jobs}
use Rattle.un_emit.proofs.Effects.{run_before, run_until, access_sees, world_of, world_next, ReadRight}
use Rattle.un_emit.proofs.Exits.{tested, transfer_of, exit_by, exit_of, leads_exit, is_false}

-- ---- what the jobs find and whether they fail, in their order

-- a load gives the word that it finds, 0 where there is none, and a call what its reply gives, 0 where there is none
pub record SeesOne (val : ℕ → ℕ) (j : Job) (w : World) : Type 0 where
  pub loaded : j.instr.op ≡ Load → (y : ℕ) → j.gives ≡ Some y → val y ≡ unwrap_or (word_at (address val j) w.memory) 0
  pub replied : j.instr.op ≡ Call → (y : ℕ) → j.gives ≡ Some y → val y ≡ first_result w.replies

abbrev pub Sees : (ℕ → ℕ) → List Job → World → Type 0
Sees val [] w = Unit {0}
Sees val (j ∷ js) w = SeesOne val j w × Sees val js (after_job val j w)

-- no job fails
abbrev pub Passes : (ℕ → ℕ) → List Job → World → Type 0
Passes val [] w = Unit {0}
Passes val (j ∷ js) w = (fails val j w ≡ false) × Passes val js (after_job val j w)

-- the first job that fails
pub record Failing (val : ℕ → ℕ) (js : List Job) (w : World) : Type 0 where
  pub before : List Job
  pub job : Job
  pub after : List Job
  pub is : js ≡ before ++ job ∷ after
  pub passes : Passes val before w
  pub failed : fails val job (run_jobs val before w) ≡ true

pub sees_at : (val : ℕ → ℕ) (before after : List Job) (j : Job) (w : World) → Sees val (before ++ j ∷ after) w
    → SeesOne val j (run_jobs val before w)
sees_at val [] after j w h = h.0
sees_at val (i ∷ is) after j w h = sees_at val is after j (after_job val i w) h.1

pub passes_at : (val : ℕ → ℕ) (before after : List Job) (j : Job) (w : World) → Passes val (before ++ j ∷ after) w
    → fails val j (run_jobs val before w) ≡ false
passes_at val [] after j w h = h.0
passes_at val (i ∷ is) after j w h = passes_at val is after j (after_job val i w) h.1

pub decide_passes : (val : ℕ → ℕ) (js : List Job) (w : World) → Passes val js w ⊎ Failing val js w
decide_passes val [] w = inl tt
decide_passes val (j ∷ js) w =
    let go : (b : Bool) → fails val j w ≡ b → Passes val (j ∷ js) w ⊎ Failing val (j ∷ js) w = elim [
      | true ↦ λ e. inr (record { before = []; job = j; after = js; is = refl; passes = tt; failed = e })
      | false ↦ λ e. ⊎_elim (λ (p : Passes val js (after_job val j w)). inl (e, p))
          (λ (f : Failing val js (after_job val j w)). inr (record {
            before = j ∷ f.before;
            job = f.job;
            after = f.after;
            is =
                ap (λ ks. j ∷ ks) f.is;
            passes = (e, f.passes);
            failed = f.failed;
          }))
          (decide_passes val js (after_job val j w))
    ] in
    go (fails val j w) refl

fails_access : (op : Op) (val : ℕ → ℕ) (j : Job) (w : World) → fails_by op val j w ≡ true → is_access op ≡ true
fails_access Load val j w h = refl
fails_access Store val j w h = refl
fails_access Call val j w h = refl
fails_access _ val j w h = absurd (cc h)

-- ---- a block under way

pub record Scene : Type 0 where
  pub table : Table
  pub temps : Temps
  pub slots : ℕ
  pub base : ℕ
  pub end : ℕ
  pub start : ℕ
  pub jobs : List Job
  pub val : ℕ → ℕ
  pub stack : ℕ → ℕ
  pub world : World

pub record IsScene (x : Scene) : Type 0 where
  pub fit : IsFit x.table
  pub calls : CallsFit x.table
  pub timed : Timed x.table x.temps x.slots x.end x.jobs
  pub order : Pairwise InOrder x.jobs
  pub flows : Each (Flows x.val) x.jobs
  pub truths : AreTruths x.temps x.val
  pub sees : Sees x.val x.jobs x.world
  pub frame : IsFrame x.base x.slots
  pub stacks : (c : ℕ) → Stacks x.stack x.base c (packet_jobs x.jobs (c + 1))

-- the state after cycle c
pub record At (x : Scene) (c : ℕ) (s : PacketState) : Type 0 where
  pub time : InTime x.temps x.start c s
  pub holds : Holds x.temps x.val x.stack x.base x.slots c s
  pub world : world_of x.val s ≡ run_before x.val (c + 1) x.jobs x.world

-- no job of the cycles up to c fails
abbrev pub Unfailed : Scene → ℕ → Type 0
Unfailed x c = (before after : List Job) (j : Job) → x.jobs ≡ before ++ j ∷ after → j.cycle ≤ c
    → fails x.val j (run_jobs x.val before x.world) ≡ false

abbrev pub packet_of : List Job → ℕ → Packet
packet_of jobs c = record { instrs = instrs (packet_jobs jobs c) }

-- the packets of so many cycles from c on
abbrev pub packets_from : List Job → ℕ → ℕ → List Packet
packets_from jobs c d = map (packet_of jobs) (range_with_len c d)

-- how packets stop at a job that fails
abbrev pub stop_by : Op → CallRecord → PacketStop
stop_by Call c = Waiting c
stop_by _ c = Trapped

abbrev pub FirstFail : Scene → Type 0
FirstFail x = Failing x.val x.jobs x.world

abbrev pub stop_of : (x : Scene) → FirstFail x → PacketStop
stop_of x f = stop_by f.job.instr.op (call_of x.val f.job (run_jobs x.val f.before x.world))

-- the value of a transfer's operand
abbrev pub first_read : (ℕ → ℕ) → Job → ℕ
first_read val j = slice_index (map val j.reads) 0

-- what packets come to
pub data Comes (x : Scene) (ps : List Packet) (s : PacketState) : Type 0 where
  passes : (u : PacketState) → At x (x.end - 1) u → Passes x.val x.jobs x.world
      → packets_run x.table ps s ≡ exit_of (transfer_of x.jobs) (first_read x.val) u → NoneWaits x.table ps s → Comes x ps s
  stops : (f : FirstFail x) (u : PacketState) → world_of x.val u ≡ run_jobs x.val f.before x.world
      → packets_run x.table ps s ≡ Stopped (stop_of x f) u → NoneWaits x.table ps s → Comes x ps s

pub each_packet : (P : Job → Type 0) (jobs : List Job) (c : ℕ) → Each P jobs → P (rest_job c) → Each P (packet_jobs jobs c)
each_packet P jobs c h k = go (jobs_at jobs c) (each_filter P (issues_at c) jobs h)
  where
    go : (js : List Job) → Each P js → Each P (or_rest c js)
    go [] h = (k, tt)
    go (j ∷ js) h = h

module _ (x : Scene) (h : IsScene x) (c : ℕ) (s : PacketState) (lt : c + 1 < x.end) (a : At x c s) (un : Unfailed x c) where
  abbrev js : List Job
  js = packet_jobs x.jobs (c + 1)

  abbrev is : List Instr
  is = instrs (packet_jobs x.jobs (c + 1))

  all : Together x.table x.temps x.slots (c + 1) (packet_jobs x.jobs (c + 1))
  all = together x.table x.temps x.slots x.end x.jobs (c + 1) h.timed (omega arith)

  temps : AreTemps x.temps x.slots
  temps = let t = h.timed in t.temps

  now : (j : Job) → Member j js → j.cycle ≡ c + 1
  now j m = let w = all in each_member (λ (i : Job). i.cycle ≡ c + 1) js j w.cycle m

  deed : (j : Job) → Member j js → Deed x.table x.temps x.slots j
  deed j m = let w = all in each_member (Deed x.table x.temps x.slots) js j w.deeds m

  in_packet : (j : Job) → Member j x.jobs → j.cycle ≡ c + 1 → Member j js
  in_packet j m e = go (jobs_at x.jobs (c + 1)) (member_filter (issues_at (c + 1)) x.jobs j m (eq-eqb j.cycle (c + 1) e))
    where
      go : (ks : List Job) → Member j ks → Member j (or_rest (c + 1) ks)
      go [] n = elim n [ ]
      go (k ∷ ks) n = n

  of_packet : (j : Job) → Member j js → (j.instr.op ≡ Nop → ⊥) → Member j x.jobs
  of_packet j m not_nop = go (jobs_at x.jobs (c + 1)) refl m
    where
      go : (ks : List Job) → ks ≡ jobs_at x.jobs (c + 1) → Member j (or_rest (c + 1) ks) → Member j x.jobs
      go [] e (inl r) = absurd (not_nop (ap (λ (i : Job). i.instr.op) (sym r)))
      go [] e (inr r) = elim r [ ]
      go (k ∷ ks) e n = (member_of_filter (issues_at (c + 1)) x.jobs j (subst (Member j) e n)).0

  access_here : (j : Job) → Member j js → is_access j.instr.op ≡ true → Member j x.jobs × (j.cycle ≡ c + 1)
  access_here j m p = (of_packet j m (λ q. let z : true ≡ false = sym p ∙ ap is_access q in absurd (cc z)), now j m)

  -- ---- the operands

  reads_right : (j : Job) → Member j js → ReadsAll x.temps j → map (reg_in s) j.instr.srcs ≡ map x.val j.reads
  reads_right j m r = operands x.table x.temps x.val x.stack x.base x.slots c s j temps a.holds (now j m) r

  framed : (j : Job) → Member j js → uses_frame j.instr.op ≡ true → x.stack c ≡ x.base
  framed j m = let g = h.stacks c in each_member (λ (i : Job). uses_frame i.instr.op ≡ true → x.stack c ≡ x.base) js j g.framed m

  abbrev Right : Job → Type 0
  Right j = map (reg_in s) j.instr.srcs ≡ map x.val j.reads

  -- an access traps where its job fails in the world of the state
  same_trap : (j : Job) → Right j → (j.instr.op ≡ Load) ⊎ (j.instr.op ≡ Store) → traps s j.instr ≡ fails x.val j (world_of x.val s)
  same_trap j r (inl o) = ap (λ (op : Op). traps_by op s j.instr) o
      ∙ ap (λ xs. is_none (word_at (address_of (slice_index xs 0) j.instr.imm) s.memory)) r
      ∙ sym (ap (λ (op : Op). fails_by op x.val j (world_of x.val s)) o)
  same_trap j r (inr o) = ap (λ (op : Op). traps_by op s j.instr) o
      ∙ ap (λ xs. is_none (word_at (address_of (slice_index xs 0) j.instr.imm) s.memory)) r
      ∙ sym (ap (λ (op : Op). fails_by op x.val j (world_of x.val s)) o)

  frame_safe : (j : Job) (y : ℕ) → Member j js → uses_frame j.instr.op ≡ true → IsInSlot x.temps x.slots j y
      → is_none (frame_place s j.instr) ≡ false
  frame_safe j y m u q = ap is_none (frame_at x.table x.temps x.val x.stack x.base x.slots c s j y h.frame a.holds (framed j m) u q)

  no_trap_op : (j : Job) (op : Op) → j.instr.op ≡ op → traps_by op s j.instr ≡ false → traps s j.instr ≡ true → ⊥
  no_trap_op j op o f e = let z : true ≡ false = sym e ∙ ap (λ (p : Op). traps_by p s j.instr) o ∙ f in absurd (cc z)

  -- what a job may be that is an access, by its deed
  access_right : (j : Job) → Member j js → Deed x.table x.temps x.slots j → is_access j.instr.op ≡ true → Right j
  access_right j m (computes y o n r g p) q = reads_right j m r
  access_right j m (moves w y o z lx ly) q = let k : true ≡ false = sym q ∙ ap is_access o in absurd (cc k)
  access_right j m (spills w y o z sr d p i) q = let k : true ≡ false = sym q ∙ ap is_access o in absurd (cc k)
  access_right j m (reloads w y o z sr d i ly) q = let k : true ≡ false = sym q ∙ ap is_access o in absurd (cc k)
  access_right j m (from_pred w y o z kind lo hi ly) q = let k : true ≡ false = sym q ∙ ap is_access o in absurd (cc k)
  access_right j m (to_pred w y o z kind lw lo hi) q = let k : true ≡ false = sym q ∙ ap is_access o in absurd (cc k)
  access_right j m (loads y o r g p) q = reads_right j m r
  access_right j m (stores o r g d) q = reads_right j m r
  access_right j m (calls o r d g) q = reads_right j m r
  access_right j m (shifts o sr g) q = absurd (not_both j.instr.op o q)
    where
      not_both : (op : Op) → moves_stack op ≡ true → is_access op ≡ true → ⊥
      not_both Load a b = absurd (cc a)
      not_both Store a b = absurd (cc a)
      not_both Call a b = absurd (cc a)
      not_both _ a b = absurd (cc b)
  access_right j m (leaves o old r d g) q = reads_right j m r
  access_right j m (tests y n d g) q = let t = new_transfer j.instr.op n.new in absurd (not_both j.instr.op t q)
    where
      not_both : (op : Op) → is_transfer op ≡ true → is_access op ≡ true → ⊥
      not_both Load a b = absurd (cc a)
      not_both Store a b = absurd (cc a)
      not_both Call a b = absurd (cc a)
      not_both _ a b = absurd (cc b)
  access_right j m (rests o sr d g) q = let k : true ≡ false = sym q ∙ ap is_access o in absurd (cc k)

  right : ReadRight x.val s js
  right = each_of (λ (j : Job). is_access j.instr.op ≡ true → Right j) js (λ j m q. access_right j m (deed j m) q)

  -- only a load or a store traps
  traps_what : (j : Job) → Member j js → Deed x.table x.temps x.slots j → traps s j.instr ≡ true → (j.instr.op ≡ Load)
      ⊎ (j.instr.op ≡ Store)
  traps_what j m (computes y o n r g p) e = let z : true ≡ false = sym e ∙ (alu_op j.instr.op o).traps s j.instr in absurd (cc z)
  traps_what j m (moves w y o z lx ly) e = absurd (no_trap_op j _ o refl e)
  traps_what j m (spills w y o z sr d p i) e = absurd (no_trap_op j _ o (frame_safe j y m (ap uses_frame o) i) e)
  traps_what j m (reloads w y o z sr d i ly) e = absurd (no_trap_op j _ o (frame_safe j w m (ap uses_frame o) i) e)
  traps_what j m (from_pred w y o z kind lo hi ly) e = absurd (no_trap_op j _ o refl e)
  traps_what j m (to_pred w y o z kind lw lo hi) e = absurd (no_trap_op j _ o refl e)
  traps_what j m (loads y o r g p) e = inl o
  traps_what j m (stores o r g d) e = inr o
  traps_what j m (calls o r d g) e = absurd (no_trap_op j _ o refl e)
  traps_what j m (shifts o sr g) e = let z : true ≡ false = sym e ∙ (shift_op j.instr.op o).traps s j.instr in absurd (cc z)
  traps_what j m (leaves o old r d g) e = let z : true ≡ false = sym e ∙ (transfer_op j.instr.op o).traps s j.instr in absurd (cc z)
  traps_what j m (tests y n d g) e =
      let z : true ≡ false = sym e ∙ (transfer_op j.instr.op (new_transfer j.instr.op n.new)).traps s j.instr in absurd (cc z)
  traps_what j m (rests o sr d g) e = absurd (no_trap_op j _ o refl e)

  -- ---- the moment of an access of this cycle is the state's

  moment : (before after : List Job) (j : Job) → x.jobs ≡ before ++ j ∷ after → j.cycle ≡ c + 1 → is_access j.instr.op ≡ true
      → world_of x.val s ≡ run_jobs x.val before x.world
  moment before after j e n p = a.world ∙ ap (λ k. run_before x.val k x.jobs x.world) (sym n)
      ∙ access_sees x.val x.jobs before after j x.world e h.order p

  -- ---- the packet goes on

  access_load : (op : Op) → op ≡ Load → is_access op ≡ true
  access_load op e = ap is_access e

  finds : Finds x.table x.temps x.val x.stack x.base x.slots c js s
  finds = record {
    flows = each_packet (Flows x.val) x.jobs (c + 1) h.flows (record { copied = λ y z o. absurd (cc o); computed = λ y o. absurd (cc o) });
    stacks = h.stacks c;
    loaded = each_of (λ (j : Job). j.instr.op ≡ Load → (y : ℕ) → j.gives ≡ Some y → x.val y ≡ value_of s j.instr) js (λ j m o y g.
        let m' = access_here j m (ap is_access o) in
        let p = split_at x.jobs j m'.0 in
        let see = sees_at x.val p.before p.after j x.world (subst (λ ks. Sees x.val ks x.world) p.is h.sees) in
        see.loaded o y g ∙ ap (λ (w : World). unwrap_or (word_at (address x.val j) w.memory) 0)
        (sym (moment p.before p.after j p.is m'.1 (ap is_access o)))
        ∙ ap (λ xs. unwrap_or (word_at (address_of (slice_index xs 0) j.instr.imm) s.memory) 0)
        (sym (access_right j m (deed j m) (ap is_access o)))
        ∙ ap (λ (op : Op). value_by op s j.instr) (sym o));
    replied = each_of (λ (j : Job). j.instr.op ≡ Call → (y : ℕ) → j.gives ≡ Some y → x.val y ≡ first_result s.replies) js (λ j m o y g.
        let m' = access_here j m (ap is_access o) in
        let p = split_at x.jobs j m'.0 in
        let see = sees_at x.val p.before p.after j x.world (subst (λ ks. Sees x.val ks x.world) p.is h.sees) in
        see.replied o y g ∙ ap (λ (w : World). first_result w.replies) (sym (moment p.before p.after j p.is m'.1 (ap is_access o))));
  }

  abbrev next : PacketState
  next = settled x.table (the_call (instrs (packet_jobs x.jobs (c + 1)))) s.replies s (instrs (packet_jobs x.jobs (c + 1)))

  pub at_next : CanAnswer (the_call is) s.replies → At x (c + 1) next
  at_next can =
      let w = all in
      record {
        time = in_time_next x.table x.temps x.slots x.start c js (the_call is) s h.fit h.calls temps all refl can a.time;
        holds = holds_next x.table x.temps x.val x.stack x.base x.slots c js s temps all h.truths h.frame a.holds finds (the_call is)
            h.calls refl can;
        world = world_next x.val x.table x.jobs js (c + 1) x.world h.order access_here in_packet w.one_write w.cycle s (the_call is) refl
            can right a.world;
      }

  pub issues_now : issue_cycle s is ≡ s.cycle + 1
  issues_now = issues x.table x.temps x.slots x.start c js s temps all a.time

  -- no job of the packet fails where it neither traps nor lacks a reply
  none_fails : (j : Job) → Member j js → list_any (traps s) is ≡ false → CanAnswer (the_call is) s.replies
      → fails x.val j (world_of x.val s) ≡ false
  none_fails j m quiet can = is_false (fails x.val j (world_of x.val s)) (λ f. go j.instr.op refl f)
    where
      trap_free : traps s j.instr ≡ false
      trap_free = each_member (λ (i : Instr). traps s i ≡ false) is j.instr (none_any (traps s) is quiet)
          (member_map (λ (j : Job). j.instr) js j m)

      memory : (j.instr.op ≡ Load) ⊎ (j.instr.op ≡ Store) → is_access j.instr.op ≡ true → fails x.val j (world_of x.val s) ≡ true → ⊥
      memory o p f = let z : true ≡ false = sym f ∙ sym (same_trap j (access_right j m (deed j m) p) o) ∙ trap_free in absurd (cc z)

      answered : (o : Option Instr) (rs : List Reply) → (call : Instr) × (o ≡ Some call) → CanAnswer o rs → is_empty rs ≡ true → ⊥
      answered None rs q k e = let z = q.1 in absurd (cc z)
      answered (Some i) [] q k e = absurd k
      answered (Some i) (r ∷ rs) q k e = absurd (cc e)

      go : (op : Op) → j.instr.op ≡ op → fails x.val j (world_of x.val s) ≡ true → ⊥
      go Load e f = memory (inl e) (ap is_access e) f
      go Store e f = memory (inr e) (ap is_access e) f
      go Call e f = answered (the_call is) s.replies (has_call js j (the_call is) m e refl) can
          (sym (ap (λ (op : Op). fails_by op x.val j (world_of x.val s)) e) ∙ f)
      go _ e f = let z : true ≡ false = sym f ∙ ap (λ (op : Op). fails_by op x.val j (world_of x.val s)) e in absurd (cc z)

  pub unfailed_next : list_any (traps s) is ≡ false → CanAnswer (the_call is) s.replies → Unfailed x (c + 1)
  unfailed_next quiet can before after j e le = ⊎_elim
      (λ (old : j.cycle < c + 1). un before after j e (omega arith))
      (λ (new : c + 1 ≤ j.cycle).
      let n : j.cycle ≡ c + 1 = omega arith in
      let m = in_packet j (subst (Member j) (sym e) (member_append_right before (j ∷ after) j (inl refl))) n in
      is_false (fails x.val j (run_jobs x.val before x.world)) (λ f.
      let p = fails_access j.instr.op x.val j (run_jobs x.val before x.world) f in
      let z : true ≡ false = sym f ∙ ap (fails x.val j) (sym (moment before after j e n p)) ∙ none_fails j m quiet can in absurd (cc z)))
      (cases_lt j.cycle (c + 1))

  -- ---- the packet stops

  -- the first job that fails, where job j of this cycle fails: it is of this cycle too, and the state is its moment
  pub record StopsHere (j : Job) : Type 0 where
    pub first : FirstFail x
    pub world : world_of x.val s ≡ run_jobs x.val first.before x.world
    pub alike : (first.job ≡ j) ⊎ ((first.job.instr.op ≡ Load) × (j.instr.op ≡ Call → ⊥))

  stops_here : (j : Job) → Member j js → is_access j.instr.op ≡ true → fails x.val j (world_of x.val s) ≡ true → StopsHere j
  stops_here j m p f = ⊎_elim
      (λ (ok : Passes x.val x.jobs x.world). let z : true ≡ false = sym failed
      ∙ passes_at x.val at.before at.after j x.world (subst (λ ks. Passes x.val ks x.world) at.is ok) in absurd (cc z))
      (λ (k : FirstFail x). by_place k (two_places k.before k.after at.before at.after k.job j (sym k.is ∙ at.is)))
      (decide_passes x.val x.jobs x.world)
    where
      at : Split j x.jobs
      at = split_at x.jobs j (access_here j m p).0

      world_at : world_of x.val s ≡ run_jobs x.val at.before x.world
      world_at = let q = at in moment q.before q.after j q.is (now j m) p

      failed : fails x.val j (run_jobs x.val at.before x.world) ≡ true
      failed = ap (fails x.val j) (sym world_at) ∙ f

      late : (k : FirstFail x) → c + 1 ≤ k.job.cycle
      late k = ⊎_elim (λ (old : k.job.cycle < c + 1). let z : true ≡ false = sym k.failed
          ∙ un k.before k.after k.job k.is (omega arith) in absurd (cc z)) (λ (le : c + 1 ≤ k.job.cycle). le) (cases_lt k.job.cycle (c + 1))

      by_place : (k : FirstFail x) → Places k.before at.before k.job j → StopsHere j
      by_place k (level e q) = record { first = k; world = world_at ∙ ap (λ ks. run_jobs x.val ks x.world) (sym e); alike = inl q }
      by_place k (behind ks e) =
          let z : true ≡ false = sym failed ∙ passes_at x.val at.before ks j x.world (subst (λ ks. Passes x.val ks x.world) e k.passes) in
          absurd (cc z)
      by_place k (ahead ks e) =
          let q = at in
          let o = subst (Pairwise InOrder) q.is h.order in
          let prior = pairwise_before InOrder q.before q.after j o in
          let kj : InOrder k.job j = each_member (λ (i : Job). InOrder i j) q.before k.job prior
          (subst (Member k.job) (sym e) (member_append_right k.before (k.job ∷ ks) k.job (inl refl))) in
          let ko = subst (Pairwise InOrder) k.is h.order in
          let later = pairwise_after InOrder k.before k.after k.job ko in
          let ka = fails_access k.job.instr.op x.val k.job (run_jobs x.val k.before x.world) k.failed in
          let l = late k in
          let n = now j m in
          record {
            first = k;
            world = a.world ∙ ap (λ ks. run_before x.val (c + 1) ks x.world) k.is
                ∙ run_until x.val (c + 1) k.before (k.job ∷ k.after) x.world
                (each_of (λ (i : Job). is_effect i.instr.op ≡ true → i.cycle < c + 1) k.before (λ i mi u.
                let ij : InOrder i j = each_member (λ (i : Job). InOrder i j) q.before i prior
                (subst (Member i) (sym e) (member_append_left k.before (k.job ∷ ks) i mi)) in
                let z = ij.after_effect u p in omega arith)) (
                  (λ u. l),
                  each_of (λ (i : Job). is_effect i.instr.op ≡ true → c + 1 ≤ i.cycle) k.after (λ i mi u.
                      let ki : InOrder k.job i = each_member (InOrder k.job) k.after i later mi in
                      let z = ki.before_effect ka u in omega arith),
                );
            alike = inr (
              load_op k.job.instr.op ka (λ u. let z = kj.after_effect u p in omega arith),
              λ u. let z = kj.before_call ka u in
                  omega arith,
            );
          }
        where
          load_op : (op : Op) → is_access op ≡ true → (is_effect op ≡ true → ⊥) → op ≡ Load
          load_op Load u v = refl
          load_op Store u v = absurd (v refl)
          load_op Call u v = absurd (v refl)
          load_op _ u v = absurd (cc u)

  -- the packet goes on, or it stops as the first job stops that fails
  pub data Stepped : Type 0 where
    goes : list_any (traps s) is ≡ false → CanAnswer (the_call is) s.replies → Stepped
    halts : (f : FirstFail x) → world_of x.val s ≡ run_jobs x.val f.before x.world → packet_step x.table is s ≡ Stopped (stop_of x f) s
        → Stepped

  trapped : (op : Op) (r : CallRecord) → (op ≡ Load) ⊎ (op ≡ Store) → stop_by op r ≡ Trapped
  trapped op r (inl e) = ap (λ (o : Op). stop_by o r) e
  trapped op r (inr e) = ap (λ (o : Op). stop_by o r) e

  halts_trapped : list_any (traps s) is ≡ true → Stepped
  halts_trapped t =
      let q = any_of (traps s) is t in
      let r = member_map_of (λ (j : Job). j.instr) js q.0 q.1 in
      let j = r.0 in
      let trap : traps s j.instr ≡ true = ap (traps s) r.2 ∙ q.2 in
      let op = traps_what j r.1 (deed j r.1) trap in
      let acc : is_access j.instr.op ≡ true = ⊎_elim (λ (e : j.instr.op ≡ Load). ap is_access e)
      (λ (e : j.instr.op ≡ Store). ap is_access e) op in
      let f : fails x.val j (world_of x.val s) ≡ true = sym (same_trap j (access_right j r.1 (deed j r.1) acc) op) ∙ trap in
      let g = stops_here j r.1 acc f in
      let k = g.first in
      let kind : (k.job.instr.op ≡ Load) ⊎ (k.job.instr.op ≡ Store) = ⊎_elim
      (λ (e : k.job ≡ j). subst (λ (i : Job). (i.instr.op ≡ Load) ⊎ (i.instr.op ≡ Store)) (sym e) op)
      (λ (e : (k.job.instr.op ≡ Load) × (j.instr.op ≡ Call → ⊥)). inl e.0) g.alike in
      halts g.first g.world (
      ap (λ (b : Bool). if b then Stopped Trapped s else with_call x.table (the_call is) s.replies s is) t
      ∙ ap (λ (p : PacketStop). Stopped p s) (sym (trapped k.job.instr.op (call_of x.val k.job (run_jobs x.val k.before x.world)) kind)))

  stop_waits : (op : Op) (r : CallRecord) → op ≡ Call → stop_by op r ≡ Waiting r
  stop_waits op r e = ap (λ (o : Op). stop_by o r) e

  halts_waiting : (call : Instr) → list_any (traps s) is ≡ false → the_call is ≡ Some call → s.replies ≡ [] → Stepped
  halts_waiting call t e r =
      let q = call_job js call e in
      let j = q.0 in
      let acc = ap is_access q.3 in
      let f : fails x.val j (world_of x.val s) ≡ true = ap (λ (op : Op). fails_by op x.val j (world_of x.val s)) q.3 ∙ ap is_empty r in
      let g = stops_here j q.1 acc f in
      let k = g.first in
      let same_job : k.job ≡ j = ⊎_elim (λ (e : k.job ≡ j). e) (λ (e : (k.job.instr.op ≡ Load) × (j.instr.op ≡ Call → ⊥)). absurd (e.1 q.3))
      g.alike in
      let record_is : record_of s call ≡ call_of x.val k.job (run_jobs x.val k.before x.world) =
      ap (record_of s) (sym q.2) ∙ ap (λ xs. let c : CallRecord =
      record { name = unwrap_or j.instr.label []; args = xs; memory = s.memory } in c) (access_right j q.1 (deed j q.1) acc)
      ∙ ap (λ (i : Job). call_of x.val i (world_of x.val s)) (sym same_job) ∙ ap (call_of x.val k.job) g.world in
      halts g.first g.world (
      ap (λ (b : Bool). if b then Stopped Trapped s else with_call x.table (the_call is) s.replies s is) t
      ∙ ap (λ (o : Option Instr). with_call x.table o s.replies s is) e
      ∙ ap (λ rs. with_call x.table (Some call) rs s is) r
      ∙ ap (λ (c : CallRecord). Stopped (Waiting c) s) record_is
      ∙ ap (λ (p : PacketStop). Stopped p s) (sym (stop_waits k.job.instr.op (call_of x.val k.job (run_jobs x.val k.before x.world))
      (ap (λ (i : Job). i.instr.op) same_job ∙ q.3))))

  pub step : Stepped
  step = by_trap (list_any (traps s) is) refl
    where
      by_call : list_any (traps s) is ≡ false → (o : Option Instr) (rs : List Reply) → the_call is ≡ o → s.replies ≡ rs → Stepped
      by_call t None rs e r = goes t (subst (λ (o : Option Instr). CanAnswer o s.replies) (sym e) tt)
      by_call t (Some call) [] e r = halts_waiting call t e r
      by_call t (Some call) (reply ∷ rest) e r = goes t (subst (λ (o : Option Instr). CanAnswer o s.replies) (sym e)
          (subst (CanAnswer (Some call)) (sym r) tt))

      by_trap : (b : Bool) → list_any (traps s) is ≡ b → Stepped
      by_trap true t = halts_trapped t
      by_trap false t = by_call t (the_call is) s.replies refl refl

  -- ---- where it leads

  -- what a transfer goes by
  abbrev passed : Job → ℕ
  passed j = tested s (regs_after s is s.regs) j.instr

  -- it is the value that the transfer reads
  abbrev GoesByRead : Job → Type 0
  GoesByRead j = passed j ≡ first_read x.val j

  old_right : (j : Job) → is_new j.instr.op ≡ false → Right j → GoesByRead j
  old_right j old r =
      ap (λ (b : Bool). if b then operand_of (regs_after s is s.regs) j.instr 0 else operand_in s j.instr 0) old
      ∙ ap (λ xs. slice_index xs 0) r

  never_old : (j : Job) → is_transfer j.instr.op ≡ true → is_transfer j.instr.op ≡ false → GoesByRead j
  never_old j t f = let z : true ≡ false = sym t ∙ f in absurd (cc z)

  -- no packet with a transfer calls
  no_call : (j : Job) → Member j js → is_transfer j.instr.op ≡ true → the_call is ≡ None
  no_call j m t = by (the_call is) refl
    where
      by : (o : Option Instr) → the_call is ≡ o → the_call is ≡ None
      by None e = e
      by (Some call) e =
          let w = all in
          let k = call_job js call e in
          let control = call_control k.0.instr.op k.3 in
          let same : k.0 ≡ j = ⊎_elim (λ (q : k.0 ≡ j). q)
          (λ (d : NotBoth is_control k.0 j ⊎ NotBoth is_control j k.0). ⊎_elim
          (λ (a : NotBoth is_control k.0 j). absurd (a (now k.0 k.1 ∙ sym (now j m)) control (transfer_control j.instr.op t)))
          (λ (a : NotBoth is_control j k.0). absurd (a (now j m ∙ sym (now k.0 k.1)) (transfer_control j.instr.op t) control)) d)
          (pairwise_two (NotBoth is_control) js k.0 j w.one_control k.1 m) in
          let z : true ≡ false = sym t ∙ ap (λ (k : Job). is_transfer k.instr.op) (sym same) ∙ ap is_transfer k.3 in
          absurd (cc z)
        where
          call_control : (op : Op) → op ≡ Call → is_control op ≡ true
          call_control op q = ap is_control q

  -- a predicate that is given in the packet's cycle is there behind its writes
  new_right : (can : CanAnswer (the_call is) s.replies) (j : Job) → Member j js → (y : ℕ) → TestsNew x.temps j y → GoesByRead j
  new_right can j m y n =
      let regs = regs_after s is s.regs in
      let t = new_transfer j.instr.op n.new in
      let spans = temps.spans y n.active in
      let from = n.from in
      let cj = now j m in
      let stands : Stands x.temps y (c + 1) = record { active = n.active; begun = omega (arith, from, cj); held = omega (arith, from, cj, spans) } in
      let held = (at_next can).holds.held y stands in
      let reg = n.reg in
      let settled_regs : next.regs ≡ regs = ap (λ (o : Option Instr). (settled x.table o s.replies s is).regs) (no_call j m t) in
      let there : slice_index regs (x.temps.place y) ≡ x.val y =
      ap (λ (rs : List ℕ). slice_index rs (x.temps.place y)) (sym settled_regs) ∙ sym (held_reg next (x.temps.place y) reg) ∙ held
      ∙ n.plain (x.val y) in
      ap (λ (b : Bool). if b then operand_of regs j.instr 0 else operand_in s j.instr 0) n.new
      ∙ ap (λ xs. slice_index xs 0) (values_in regs j.instr.srcs ∙ ap (map (slice_index regs)) n.srcs)
      ∙ there ∙ sym (ap (λ xs. slice_index (map x.val xs) 0) n.reads)
    where
      values_in : (regs : List ℕ) (rs : List Reg) → map (λ (r : Reg). slice_index regs r.0) rs ≡ map (slice_index regs) (numbers rs)
      values_in regs [] = refl
      values_in regs (r ∷ rs) = ap (λ vs. slice_index regs r.0 ∷ vs) (values_in regs rs)

  transfer_right : (can : CanAnswer (the_call is) s.replies) (j : Job) → Member j js → Deed x.table x.temps x.slots j
      → is_transfer j.instr.op ≡ true → GoesByRead j
  transfer_right can j m (computes y o n r g p) q = never_old j q (alu_op j.instr.op o).transfers
  transfer_right can j m (moves w y o z lx ly) q = never_old j q (ap is_transfer o)
  transfer_right can j m (spills w y o z sr d p i) q = never_old j q (ap is_transfer o)
  transfer_right can j m (reloads w y o z sr d i ly) q = never_old j q (ap is_transfer o)
  transfer_right can j m (from_pred w y o z kind lo hi ly) q = never_old j q (ap is_transfer o)
  transfer_right can j m (to_pred w y o z kind lw lo hi) q = never_old j q (ap is_transfer o)
  transfer_right can j m (loads y o r g p) q = never_old j q (ap is_transfer o)
  transfer_right can j m (stores o r g d) q = never_old j q (ap is_transfer o)
  transfer_right can j m (calls o r d g) q = never_old j q (ap is_transfer o)
  transfer_right can j m (shifts o sr g) q = never_old j q (shift_op j.instr.op o).transfers
  transfer_right can j m (leaves o old r d g) q = old_right j old (reads_right j m r)
  transfer_right can j m (tests y n d g) q = new_right can j m y n
  transfer_right can j m (rests o sr d g) q = never_old j q (ap is_transfer o)

  not_nop : (j : Job) → is_transfer j.instr.op ≡ true → j.instr.op ≡ Nop → ⊥
  not_nop j p q = let z : true ≡ false = sym p ∙ ap is_transfer q in absurd (cc z)

  settles : list_any (traps s) is ≡ false → CanAnswer (the_call is) s.replies
      → packet_step x.table is s ≡ exit_of (transfer_of js) passed next
  settles t can = let w = all in step_settles x.table s is t can ∙ leads_exit (c + 1) js w.cycle w.one_control s next

  -- before the last cycle
  pub goes_on : list_any (traps s) is ≡ false → CanAnswer (the_call is) s.replies → (c + 2 ≡ x.end → ⊥)
      → packet_step x.table is s ≡ Went next
  goes_on t can later =
      let k = h.timed in
      settles t can ∙ ap (λ (o : Option Job). exit_of o passed next)
      (find_none (λ (j : Job). is_transfer j.instr.op) js (each_of (λ (j : Job). is_transfer j.instr.op ≡ false) js
      (λ j m. is_false (is_transfer j.instr.op) (λ p.
      let z = each_member (λ (j : Job). is_transfer j.instr.op ≡ true → j.cycle + 1 ≡ x.end) x.jobs j k.last (of_packet j m (not_nop j p)) p
      in
      let n = now j m in later (omega arith)))))

  -- in the last one
  pub exits : list_any (traps s) is ≡ false → CanAnswer (the_call is) s.replies → c + 2 ≡ x.end
      → packet_step x.table is s ≡ exit_of (transfer_of x.jobs) (first_read x.val) next
  exits t can last = settles t can ∙ values (transfer_of js) refl ∙ ap (λ (o : Option Job). exit_of o (first_read x.val) next) transfers
    where
      values : (o : Option Job) → transfer_of js ≡ o → exit_of o passed next ≡ exit_of o (first_read x.val) next
      values None e = refl
      values (Some j) e =
          let f = found (λ (j : Job). is_transfer j.instr.op) js j e in
          ap (λ v. exit_by j.instr.op v j.instr.label next) (transfer_right can j f.0 (deed j f.0) f.1)

      here : transfer_of (jobs_at x.jobs (c + 1)) ≡ transfer_of x.jobs
      here =
          let k = h.timed in
          find_filter (λ (j : Job). is_transfer j.instr.op) (issues_at (c + 1)) x.jobs
          (each_of (λ (j : Job). is_transfer j.instr.op ≡ true → issues_at (c + 1) j ≡ true) x.jobs (λ j m p.
          let z = each_member (λ (j : Job). is_transfer j.instr.op ≡ true → j.cycle + 1 ≡ x.end) x.jobs j k.last m p in
          eq-eqb j.cycle (c + 1) (omega arith)))

      rested : (ks : List Job) → transfer_of (or_rest (c + 1) ks) ≡ transfer_of ks
      rested [] = refl
      rested (k ∷ ks) = refl

      transfers : transfer_of js ≡ transfer_of x.jobs
      transfers = rested (jobs_at x.jobs (c + 1)) ∙ here

-- ---- all packets of a block

all_pass : (x : Scene) → IsScene x → Unfailed x (x.end - 1) → Passes x.val x.jobs x.world
all_pass x h un = ⊎_elim (λ (p : Passes x.val x.jobs x.world). p) (λ (f : FirstFail x).
    let k = h.timed in
    let soon = each_member (λ (j : Job). j.cycle < x.end) x.jobs f.job k.soon
    (subst (Member f.job) (sym f.is) (member_append_right f.before (f.job ∷ f.after) f.job (inl refl))) in
    let z : true ≡ false = sym f.failed ∙ un f.before f.after f.job f.is (omega arith) in absurd (cc z))
    (decide_passes x.val x.jobs x.world)

comes_from : (x : Scene) (h : IsScene x) (d c : ℕ) (s : PacketState) → c + 2 + d ≡ x.end → At x c s → Unfailed x c
    → Comes x (packets_from x.jobs (c + 1) (suc d)) s
comes_from x h zero c s e a un = by_step (step x h c s (omega arith) a un)
  where
    lt : c + 1 < x.end
    lt = omega arith

    here : c + 1 ≡ x.end - 1
    here = omega arith

    by_step : Stepped x h c s lt a un → Comes x (packets_from x.jobs (c + 1) 1) s
    by_step (goes t can) =
        let u = next x h c s lt a un in
        let run = exits x h c s lt a un t can (omega arith) in
        passes u (subst (λ k. At x k u) here (at_next x h c s lt a un can))
        (all_pass x h (subst (Unfailed x) here (unfailed_next x h c s lt a un t can)))
        (ap (λ (r : PacketStep). then_packets r (packets_run x.table [])) run ∙ ended (transfer_of x.jobs) u)
        (issues_now x h c s lt a un, nothing (packet_step x.table (instrs (packet_jobs x.jobs (c + 1))) s))
      where
        ended_by : (op : Op) (v : ℕ) (label : Option (List ℕ)) (u : PacketState)
            → then_packets (exit_by op v label u) (packets_run x.table []) ≡ exit_by op v label u
        ended_by op v label u = kept (exit_by op v label u)
          where
            kept : (r : PacketStep) → then_packets r (packets_run x.table []) ≡ r
            kept (Went q) = refl
            kept (Jumped l q) = refl
            kept (Stopped p q) = refl

        ended : (o : Option Job) (u : PacketState) → then_packets (exit_of o (first_read x.val) u) (packets_run x.table []) ≡ exit_of o
            (first_read x.val) u
        ended None u = refl
        ended (Some j) u = ended_by j.instr.op (first_read x.val j) j.instr.label u

        nothing : (r : PacketStep) → goes_on_unless r (NoneWaits x.table [])
        nothing (Went q) = tt
        nothing (Jumped l q) = tt
        nothing (Stopped p q) = tt
    by_step (halts f w run) =
        stops f s w (ap (λ (r : PacketStep). then_packets r (packets_run x.table [])) run)
        (issues_now x h c s lt a un, subst (λ (r : PacketStep). goes_on_unless r (NoneWaits x.table [])) (sym run) tt)
comes_from x h (suc d) c s e a un = by_step (λ u b v. comes_from x h d (c + 1) u (omega arith) b v) (step x h c s (omega arith) a un)
  where
    lt : c + 1 < x.end
    lt = omega arith

    by_step : ((u : PacketState) → At x (c + 1) u → Unfailed x (c + 1) → Comes x (packets_from x.jobs (c + 1 + 1) (suc d)) u)
        → Stepped x h c s lt a un → Comes x (packet_of x.jobs (c + 1) ∷ packets_from x.jobs (c + 1 + 1) (suc d)) s
    by_step rest (goes t can) =
        let u = next x h c s lt a un in
        let run = goes_on x h c s lt a un t can (λ z. omega arith) in
        further run (rest u (at_next x h c s lt a un can) (unfailed_next x h c s lt a un t can))
      where
        further : {u : PacketState} → packet_step x.table (instrs (packet_jobs x.jobs (c + 1))) s ≡ Went u
            → Comes x (packets_from x.jobs (c + 1 + 1) (suc d)) u
            → Comes x (packet_of x.jobs (c + 1) ∷ packets_from x.jobs (c + 1 + 1) (suc d)) s
        further run (passes v b p r n) =
            passes v b p (ap (λ (q : PacketStep). then_packets q (packets_run x.table (packets_from x.jobs (c + 1 + 1) (suc d)))) run ∙ r) (
              issues_now x h c s lt a un,
              subst (λ (q : PacketStep). goes_on_unless q
                  (NoneWaits x.table (packets_from x.jobs (c + 1 + 1) (suc d)))) (sym run) n,
            )
        further run (stops f v w r n) =
            stops f v w (ap (λ (q : PacketStep). then_packets q (packets_run x.table (packets_from x.jobs (c + 1 + 1) (suc d)))) run ∙ r) (
              issues_now x h c s lt a un,
              subst (λ (q : PacketStep). goes_on_unless q
                  (NoneWaits x.table (packets_from x.jobs (c + 1 + 1) (suc d)))) (sym run) n,
            )
    by_step rest (halts f w run) =
        stops f s w (ap (λ (r : PacketStep). then_packets r (packets_run x.table (packets_from x.jobs (c + 1 + 1) (suc d)))) run) (
          issues_now x h c s lt a un,
          subst (λ (r : PacketStep). goes_on_unless r
              (NoneWaits x.table (packets_from x.jobs (c + 1 + 1) (suc d)))) (sym run) tt,
        )

-- what the packets of a block come to
pub block_comes : (x : Scene) (h : IsScene x) (s : PacketState) → 1 ≤ x.end → At x 0 s → Comes x (packets_from x.jobs 1 (x.end - 1)) s
block_comes x h s le a = go (x.end - 1) refl
  where
    early : Unfailed x 0
    early before after j e lt =
        let k = h.timed in
        let late = each_member (λ (j : Job). 1 ≤ j.cycle) x.jobs j k.late
        (subst (Member j) (sym e) (member_append_right before (j ∷ after) j (inl refl))) in
        absurd (omega arith)

    no_jobs : x.end ≡ 1 → Each (λ (j : Job). is_transfer j.instr.op ≡ false) x.jobs
    no_jobs one = each_of (λ (j : Job). is_transfer j.instr.op ≡ false) x.jobs (λ j m.
        let k = h.timed in
        let late = each_member (λ (j : Job). 1 ≤ j.cycle) x.jobs j k.late m in
        let soon = each_member (λ (j : Job). j.cycle < x.end) x.jobs j k.soon m in
        absurd (omega arith))

    go : (n : ℕ) → x.end - 1 ≡ n → Comes x (packets_from x.jobs 1 n) s
    go zero e =
        let one : x.end ≡ 1 = omega arith in
        passes s (subst (λ n. At x n s) (sym e) a) (all_pass x h (subst (Unfailed x) (sym e) early))
        (sym (ap (λ (o : Option Job). exit_of o (first_read x.val) s)
        (find_none (λ (j : Job). is_transfer j.instr.op) x.jobs (no_jobs one)))) tt
    go (suc d) e = comes_from x h d 0 s (omega arith) a early
