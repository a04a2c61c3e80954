-- The jobs of a block compute, load, store and call as its operations do, and they fail where the run of the extended function
-- stops.
use Rattle.std.proofs.Common.{ℕ, suc, ◌≡◌, ◌≤◌, ◌+◌, Bool, true, false, List, [], ◌∷◌, ◌++◌, length, map, ◌⊎◌, inl, inr, ⊎_elim, refl, sym}
use Rattle.std.proofs.Common.{ap, ◌∙◌, subst, arith}
use Rattle.std.specs.Prelude.{Option, Some, None, slice_get, slice_index, unwrap_or, nat_eq, ◌==◌, is_none, if◌then◌else◌}
use Rattle.std.specs.Option.{option_map}
use Rattle.un_base.specs.declared.ids.TempId.{TempId}
use Rattle.un_isa.specs.Memories.{word_at, set_word}
use Rattle.un_isa.specs.Operands.{is_alu}
use Rattle.un_isa.specs.Words.{eval, address_of}
use Rattle.un_isa.specs.declared.op.Op.{Op}
use Rattle.un_isa.specs.Facts.{is_source}
use Rattle.un_isa.specs.declared.op.Op.TheVariants.{Mov, Load, Store, Call, Spill, Reload, P2R}
use Rattle.un_isa.specs.declared.op.Op.TheVariants.{R2P, Enter as EnterOp, Leave as LeaveOp}
use Rattle.un_isa.specs.declared.reg.Reg.{Reg}
use Rattle.un_isa.specs.declared.instr.Instr.{Instr}
use Rattle.un_isa.specs.declared.outcome.CallRecord.{CallRecord}
use Rattle.un_isa.specs.declared.start.Reply.{Reply}
use Rattle.un_isa.specs.Does.{is_copy, is_transfer}
use Rattle.un_isa.proofs.DoesLaws.{so_fails, transfer_alu, transfer_copy}
use Rattle.un_ir.specs.declared.function.SrcOp.{SrcOp}
use Rattle.un_ir.specs.declared.function.Term.{Term}
use Rattle.un_ir.specs.declared.extended.ExtKind.{ExtKind}
use Rattle.un_ir.specs.declared.extended.ExtKind.TheVariants.{In, Out, Body, End, Copy, Enter, Leave}
use Rattle.un_ir.specs.declared.extended.Operand.{Operand}
use Rattle.un_ir.specs.declared.extended.ExtOp.{ExtOp}
use Rattle.un_ir.specs.declared.extended.Ext.{Ext}
use Rattle.un_ir.specs.Extended.{Want, IsSourceOp, IsGoodKind}
use Rattle.un_ir.specs.Linear.{Values, World, Effect, Gives, Stops, LinearState, LinearStop, Trapped, Waiting, LinearStep, Went, Stopped}
use Rattle.un_ir.specs.Linear.{LinearEnd, first_of, value_of, effect_of, effect_by, ops_run, step_by, then_ops, after_effect, loads, stores}
use Rattle.un_ir.specs.Linear.{calls_with, defined_all}
use Rattle.un_model.specs.declared.model.Options.{Options}
use Rattle.un_model.specs.Emission.{source_instr, instr_by, instr_if, frame_of, operand_registers, result_register, is_beside, emitted_by}
use Rattle.un_model.specs.Instructions.{instruction_of, transfer_of, copy_of, frame_instr}
use Rattle.un_model.specs.Pairs.{places_from}
use Rattle.un_model.specs.Schedules.{choice_of, value_by, schedule_of}
use Rattle.un_model.specs.Variables.{model_of}
use Rattle.un_lists.proofs.Lists.{Each, Member, Places, ahead, level, behind, two_places}
use Rattle.un_model.proofs.Transfers.{transfer_leaves, copy_copies}
use Rattle.un_emit.proofs.Timed.{Job}
use Rattle.un_emit.proofs.Settled.{first_result}
use Rattle.un_emit.proofs.Holds.{Flows}
use Rattle.un_emit.proofs.Effects.{is_access, address, call_of, after_job, after_by, fails, fails_by, is_empty, run_jobs, replied_world}
use Rattle.un_emit.proofs.Cycles.{SeesOne, Sees, Passes, Failing, passes_at}
use Rattle.un_model.proofs.Placed.{Placed, vars_of, issue_at, Spot}
use Rattle.un_model.proofs.PlacedSchedules.{all, spots}
use Rattle.un_model.proofs.TempKinds.{spot_carried, carried_is}
use Rattle.un_model.proofs.Readings.{Solved, numbered, fit_kinds, placed_good, Reading, reading}
use Rattle.un_emit.proofs.Jobs.{job_with, job_by, instr_at, job_of, jobs_of, read_temps, given_temp}
use Rattle.un_emit.proofs.JobDeeds.{copy_parts, TextClass, text_class, alu, load as loading, store as storing, call as calling}
use Rattle.un_emit.proofs.BlockJobs.{IsJob, some_active, job_is}
use Rattle.un_emit.proofs.BlockTimed.{only_result}
use Rattle.un_emit.proofs.Own.{own_op, own_by}
use Rattle.un_emit.proofs.Values.{effect_value, effect_world, total_by, total, world_by, world_after, Equation, Equations, Runs}
use Rattle.un_emit.proofs.Values.{FirstsBefore, same_operands, world_step, next}

-- ---- one operation of the source and its job

-- a store to an address that is not there changes nothing
absent : (a v : ℕ) (m : List (ℕ × ℕ)) → word_at a m ≡ None → set_word a v m ≡ m
absent a v [] h = refl
absent a v (w ∷ ws) h = go (absent a v ws) (nat_eq w.0 a) refl h
  where
    go : (word_at a ws ≡ None → set_word a v ws ≡ ws) → (b : Bool) → nat_eq w.0 a ≡ b → (if b then Some w.1 else word_at a ws) ≡ None
        → (if nat_eq w.0 a then (a, v) ∷ ws else w ∷ set_word a v ws) ≡ w ∷ ws
    go more true e h = absurd (cc h)
    go more false e h = ap (λ (b : Bool). if b then (a, v) ∷ ws else w ∷ set_word a v ws) e ∙ ap (λ xs. w ∷ xs) (more h)

abbrev pub stops : Effect → Bool
stops (Gives v w) = false
stops (Stops stop) = true

-- the stop of an operation that fails
abbrev pub halt_by : Op → CallRecord → LinearStop
halt_by Call c = Waiting c
halt_by _ c = Trapped

abbrev pub effect_stop : Effect → LinearStop
effect_stop (Gives v w) = Trapped
effect_stop (Stops stop) = stop

-- a job that does what an operation of the source does, of the same values
pub record Mirrors (val : Values) (j : Job) (so : SrcOp) (xs : List ℕ) : Type 0 where
  pub op : j.instr.op ≡ so.op
  pub imm : j.instr.imm ≡ so.imm
  pub label : j.instr.label ≡ so.callee
  pub args : map val j.reads ≡ xs

same_address : (val : Values) (j : Job) (so : SrcOp) (xs : List ℕ) → Mirrors val j so xs
    → address val j ≡ address_of (slice_index xs 0) so.imm
same_address val j so xs m = ap (λ ys. address_of (slice_index ys 0) j.instr.imm) m.args ∙ ap (address_of (slice_index xs 0)) m.imm

same_call : (val : Values) (j : Job) (so : SrcOp) (xs : List ℕ) (w : World) → Mirrors val j so xs
    → call_of val j w ≡ record { name = unwrap_or so.callee []; args = xs; memory = w.memory }
same_call val j so xs w m =
    ap (λ (l : Option (List ℕ)). let c : CallRecord = record { name = unwrap_or l []; args = map val j.reads; memory = w.memory } in c)
    m.label
    ∙ ap (λ ys. let c : CallRecord = record { name = unwrap_or so.callee []; args = ys; memory = w.memory } in c) m.args

-- what a mirrored operation leaves of the world, and whether it stops
pub record Mirrored (val : Values) (j : Job) (so : SrcOp) (xs : List ℕ) (w : World) : Type 0 where
  pub after : after_job val j w ≡ effect_world w (effect_of so xs w)
  pub fails_too : fails val j w ≡ stops (effect_of so xs w)
  pub halts : fails val j w ≡ true → effect_stop (effect_of so xs w) ≡ halt_by j.instr.op (call_of val j w)

load_mirrors : (val : Values) (j : Job) (so : SrcOp) (xs : List ℕ) (w : World) → Mirrors val j so xs → so.op ≡ Load → Mirrored val j so xs w
load_mirrors val j so xs w m q = record {
  after = ap (λ (op : Op). after_by op val j w) op ∙ go (word_at (address_of (slice_index xs 0) so.imm) w.memory)
      ∙ ap (effect_world w) (sym eff);
  fails_too = ap (λ (op : Op). fails_by op val j w) op ∙ ap (λ a. is_none (word_at a w.memory)) (same_address val j so xs m)
      ∙ stop (word_at (address_of (slice_index xs 0) so.imm) w.memory) ∙ ap stops (sym eff);
  halts = λ f. ap effect_stop eff ∙ trap (word_at (address_of (slice_index xs 0) so.imm) w.memory)
      ∙ sym (ap (λ (op : Op). halt_by op (call_of val j w)) op);
}
  where
    op : j.instr.op ≡ Load
    op = m.op ∙ q

    eff : effect_of so xs w ≡ loads w (word_at (address_of (slice_index xs 0) so.imm) w.memory)
    eff = ap (λ (op : Op). effect_by op so xs w) q

    go : (x : Option ℕ) → w ≡ effect_world w (loads w x)
    go None = refl
    go (Some v) = refl

    stop : (x : Option ℕ) → is_none x ≡ stops (loads w x)
    stop None = refl
    stop (Some v) = refl

    trap : (x : Option ℕ) → effect_stop (loads w x) ≡ Trapped
    trap None = refl
    trap (Some v) = refl

store_mirrors : (val : Values) (j : Job) (so : SrcOp) (xs : List ℕ) (w : World) → Mirrors val j so xs → so.op ≡ Store
    → Mirrored val j so xs w
store_mirrors val j so xs w m q = record {
  after = ap (λ (op : Op). after_by op val j w) op
      ∙ ap (λ a. let u : World = record w { memory = set_word a (slice_index (map val j.reads) 1) w.memory } in u)
      (same_address val j so xs m)
      ∙ ap (λ ys. let u : World = record w { memory = set_word addr (slice_index ys 1) w.memory } in u) m.args
      ∙ go (word_at addr w.memory) refl ∙ ap (effect_world w) (sym eff);
  fails_too = ap (λ (op : Op). fails_by op val j w) op ∙ ap (λ a. is_none (word_at a w.memory)) (same_address val j so xs m)
      ∙ stop (word_at addr w.memory) ∙ ap stops (sym eff);
  halts = λ f. ap effect_stop eff ∙ trap (word_at addr w.memory) ∙ sym (ap (λ (op : Op). halt_by op (call_of val j w)) op);
}
  where
    op : j.instr.op ≡ Store
    op = m.op ∙ q

    addr : ℕ
    addr = address_of (slice_index xs 0) so.imm

    eff : effect_of so xs w ≡ stores (address_of (slice_index xs 0) so.imm) (slice_index xs 1) w
        (word_at (address_of (slice_index xs 0) so.imm) w.memory)
    eff = ap (λ (op : Op). effect_by op so xs w) q

    go : (x : Option ℕ) → word_at (address_of (slice_index xs 0) so.imm) w.memory ≡ x
        → record w { memory = set_word (address_of (slice_index xs 0) so.imm) (slice_index xs 1) w.memory } ≡ effect_world w
        (stores (address_of (slice_index xs 0) so.imm) (slice_index xs 1) w x)
    go None e = ap (λ ms. let u : World = record w { memory = ms } in u)
        (absent (address_of (slice_index xs 0) so.imm) (slice_index xs 1) w.memory e)
    go (Some v) e = refl

    stop : (x : Option ℕ) → is_none x ≡ stops (stores (address_of (slice_index xs 0) so.imm) (slice_index xs 1) w x)
    stop None = refl
    stop (Some v) = refl

    trap : (x : Option ℕ) → effect_stop (stores (address_of (slice_index xs 0) so.imm) (slice_index xs 1) w x) ≡ Trapped
    trap None = refl
    trap (Some v) = refl

call_mirrors : (val : Values) (j : Job) (so : SrcOp) (xs : List ℕ) (w : World) → Mirrors val j so xs → so.op ≡ Call → Mirrored val j so xs w
call_mirrors val j so xs w m q = record {
  after = ap (λ (op : Op). after_by op val j w) op ∙ ap (λ (c : CallRecord). replied_world c w w.replies) (same_call val j so xs w m)
      ∙ go w.replies ∙ ap (effect_world w) (sym eff);
  fails_too = ap (λ (op : Op). fails_by op val j w) op ∙ stop w.replies ∙ ap stops (sym eff);
  halts = λ f. ap effect_stop eff ∙ wait w.replies (sym (ap (λ (op : Op). fails_by op val j w) op) ∙ f)
      ∙ ap Waiting (sym (same_call val j so xs w m)) ∙ sym (ap (λ (op : Op). halt_by op (call_of val j w)) op);
}
  where
    op : j.instr.op ≡ Call
    op = m.op ∙ q

    c : CallRecord
    c = record { name = unwrap_or so.callee []; args = xs; memory = w.memory }

    eff : effect_of so xs w ≡ calls_with c w w.replies
    eff = ap (λ (op : Op). effect_by op so xs w) q

    go : (rs : List Reply) → replied_world c w rs ≡ effect_world w (calls_with c w rs)
    go [] = refl
    go (r ∷ rs) = refl

    stop : (rs : List Reply) → is_empty rs ≡ stops (calls_with c w rs)
    stop [] = refl
    stop (r ∷ rs) = refl

    wait : (rs : List Reply) → is_empty rs ≡ true → effect_stop (calls_with c w rs) ≡ Waiting c
    wait [] f = refl
    wait (r ∷ rs) f = absurd (cc f)

computed : (so : SrcOp) (op : Op) (xs : List ℕ) (w : World) → is_alu op ≡ true → effect_by op so xs w ≡ Gives (eval so.op xs so.imm) w
computed so Load xs w a = absurd (cc a)
computed so Store xs w a = absurd (cc a)
computed so Call xs w a = absurd (cc a)
computed so _ xs w a = refl

idle_alu : (op : Op) (val : Values) (j : Job) (w : World) → is_alu op ≡ true → (after_by op val j w ≡ w) × (fails_by op val j w ≡ false)
idle_alu Load val j w a = absurd (cc a)
idle_alu Store val j w a = absurd (cc a)
idle_alu Call val j w a = absurd (cc a)
idle_alu _ val j w a = (refl, refl)

alu_mirrors : (val : Values) (j : Job) (so : SrcOp) (xs : List ℕ) (w : World) → Mirrors val j so xs → is_alu so.op ≡ true
    → Mirrored val j so xs w
alu_mirrors val j so xs w m a =
    let eff = computed so so.op xs w a in
    let idle = idle_alu so.op val j w a in
    record {
      after = ap (λ (op : Op). after_by op val j w) m.op ∙ idle.0 ∙ ap (effect_world w) (sym eff);
      fails_too = ap (λ (op : Op). fails_by op val j w) m.op ∙ idle.1 ∙ ap stops (sym eff);
      halts = λ f. let z : true ≡ false = sym f ∙ ap (λ (op : Op). fails_by op val j w) m.op ∙ idle.1 in absurd (cc z);
    }

pub mirrors : (val : Values) (j : Job) (so : SrcOp) (xs : List ℕ) (w : World) → Mirrors val j so xs → TextClass so.op
    → Mirrored val j so xs w
mirrors val j so xs w m (alu a s) = alu_mirrors val j so xs w m a
mirrors val j so xs w m (loading q) = load_mirrors val j so xs w m q
mirrors val j so xs w m (storing q) = store_mirrors val j so xs w m q
mirrors val j so xs w m (calling q) = call_mirrors val j so xs w m q

-- what a mirrored operation gives is what its job finds
pub mirror_sees : (val : Values) (j : Job) (so : SrcOp) (xs : List ℕ) (w : World) → Mirrors val j so xs
    → ((y : ℕ) → j.gives ≡ Some y → val y ≡ effect_value (effect_of so xs w)) → SeesOne val j w
mirror_sees val j so xs w m g = record {
  loaded = λ q y s. g y s ∙ ap (λ (op : Op). effect_value (effect_by op so xs w)) (sym m.op ∙ q)
      ∙ found (word_at (address_of (slice_index xs 0) so.imm) w.memory)
      ∙ ap (λ a. unwrap_or (word_at a w.memory) 0) (sym (same_address val j so xs m));
  replied = λ q y s. g y s ∙ ap (λ (op : Op). effect_value (effect_by op so xs w)) (sym m.op ∙ q) ∙ first w.replies;
}
  where
    found : (x : Option ℕ) → effect_value (loads w x) ≡ unwrap_or x 0
    found None = refl
    found (Some v) = refl

    first : (rs : List Reply) → effect_value (calls_with (record { name = unwrap_or so.callee []; args = xs; memory = w.memory }) w rs) ≡
        first_result rs
    first [] = refl
    first (r ∷ rs) = refl

pub mirror_flows : (val : Values) (j : Job) (so : SrcOp) (xs : List ℕ) (w : World) → Mirrors val j so xs → is_copy so.op ≡ false
    ⊎ (so.op ≡ Mov) → ((y : ℕ) → j.gives ≡ Some y → val y ≡ effect_value (effect_of so xs w)) → Flows val j
mirror_flows val j so xs w m kind g = record {
  copied = λ x y c r s. ⊎_elim (λ (q : is_copy so.op ≡ false). let z : true ≡ false = sym c ∙ ap is_copy m.op ∙ q in absurd (cc z))
      (λ (q : so.op ≡ Mov). g y s ∙ ap effect_value (computed so so.op xs w (ap is_alu q)) ∙ ap (λ (op : Op). eval op xs so.imm) q
      ∙ ap (λ ys. slice_index ys 0) (sym m.args) ∙ ap (λ rs. slice_index (map val rs) 0) r) kind;
  computed = λ y a c s. g y s ∙ ap effect_value (computed so so.op xs w (ap is_alu (sym m.op) ∙ a))
      ∙ ap (λ (op : Op). eval op xs so.imm) (sym m.op) ∙ ap (λ ys. eval j.instr.op ys so.imm) (sym m.args)
      ∙ ap (eval j.instr.op (map val j.reads)) (sym m.imm);
}

-- ---- two first failures are one

pub one_failing : (val : Values) (js : List Job) (w : World) (f g : Failing val js w) → (f.before ≡ g.before) × (f.job ≡ g.job)
one_failing val js w f g = go (two_places f.before f.after g.before g.after f.job g.job (sym f.is ∙ g.is))
  where
    go : Places f.before g.before f.job g.job → (f.before ≡ g.before) × (f.job ≡ g.job)
    go (level p q) = (p, q)
    go (ahead ks p) = let z : true ≡ false = sym f.failed ∙ passes_at val f.before ks f.job w (subst (λ xs. Passes val xs w) p g.passes) in
        absurd (cc z)
    go (behind ks p) = let z : true ≡ false = sym g.failed ∙ passes_at val g.before ks g.job w (subst (λ xs. Passes val xs w) p f.passes) in
        absurd (cc z)

pub not_both : (val : Values) (js : List Job) (w : World) → Passes val js w → Failing val js w → ⊥
not_both val js w p f = let z : true ≡ false = sym f.failed ∙ passes_at val f.before f.after f.job w
    (subst (λ xs. Passes val xs w) f.is p) in absurd (cc z)

module _ (e : Ext) (o : Options) (values : List ℕ) (h : Solved e o values) (val : Values) where
  -- every temporary has the value of what it carries
  abbrev pub Carries : ℕ → Type 0
  Carries k = (u : Spot) → Member u (spots e o values) → u.definer.block ≡ k → val u.temp.0 ≡ (let c = spot_carried u in val c.0)

  -- a chosen temporary has the value of the operand's first alternative
  pub choice_value : (p : Placed) (j : ℕ) (x : Operand) (want : Want) → Carries p.block → Reading e o values h p j x want
      → val (choice_of values (vars_of p) j x).0 ≡ val (first_of x.alts)
  choice_value p j x want c r =
      ap (λ (y : TempId). val y.0) (sym r.is) ∙ c r.spot r.member r.block
      ∙ ap (λ (y : TempId). val y.0) (sym (carried_is e o values (numbered e o values h) (fit_kinds e o values h) r.spot r.member)
      ∙ r.value)

  pub args_of : (p : Placed) → Member p (all e o values) → (issue_at values p).active ≡ true → Carries p.block
      → map val (read_temps values p) ≡ map (value_of val) p.op.operands
  args_of p m act c = go p.op.operands 0 (λ j x q. let r = reading e o values h p j x m act q in let z : j ≡ 0 + j = omega arith in
      subst (λ n. val (choice_of values (vars_of p) n x).0 ≡ val (first_of x.alts)) z (choice_value p j x r.0 c r.2))
    where
      go : (xs : List Operand) (k : ℕ) → ((j : ℕ) (x : Operand) → slice_get xs j ≡ Some x
          → val (choice_of values (vars_of p) (k + j) x).0 ≡ val (first_of x.alts))
          → map val (places_from (λ (j : ℕ) (x : Operand). (choice_of values (vars_of p) j x).0) k xs) ≡ map (value_of val) xs
      go [] k f = refl
      go (x ∷ xs) k f =
          let z : k + 0 ≡ k = omega arith in
          let here : val (choice_of values (vars_of p) k x).0 ≡ val (first_of x.alts) =
          ap (λ n. val (choice_of values (vars_of p) n x).0) (sym z) ∙ f 0 x refl in
          ap (λ v. v ∷ map val (places_from (λ (j : ℕ) (x : Operand). (choice_of values (vars_of p) j x).0) (k + 1) xs)) here
          ∙ ap (λ vs. val (first_of x.alts) ∷ vs) (go xs (k + 1) (λ j y q. let a : k + 1 + j ≡ k + suc j = omega arith in
          ap (λ n. val (choice_of values (vars_of p) n y).0) a ∙ f (suc j) y q))

  -- whether an operation stops the run
  abbrev pub stops_by : ExtKind → ExtOp → World → Bool
  stops_by (Body so) op w = stops (effect_of so (map (value_of val) op.operands) w)
  stops_by _ op w = false

  -- what a job does
  pub record JobFacts (p : Placed) (j : Job) (w : World) : Type 0 where
    pub after : after_job val j w ≡ world_by val p.op.kind p.op w
    pub sees : SeesOne val j w
    pub flows : Flows val j
    pub fails_as : fails val j w ≡ stops_by p.op.kind p.op w
    pub halts : (so : SrcOp) → p.op.kind ≡ Body so → fails val j w ≡ true
        → effect_stop (effect_of so (map (value_of val) p.op.operands) w) ≡ halt_by j.instr.op (call_of val j w)

  -- what the instructions of other operations do not do
  pub record IsOther (op : Op) : Type 0 where
    pub access : is_access op ≡ false
    pub computing : is_alu op ≡ true → is_copy op ≡ false → ⊥

  copy_other : (n : ℕ) (op : Op) → copy_of n ≡ Some op → IsOther op
  copy_other n op q =
      let c = copy_copies n op q in
      record { access = copy_access op c; computing = λ x y. let z : true ≡ false = sym c ∙ y in absurd (cc z) }
    where
      copy_access : (op : Op) → is_copy op ≡ true → is_access op ≡ false
      copy_access Mov c = refl
      copy_access op c = so_fails (is_copy op) (is_access op) refl c

  transfer_other : (term : Term) (op : Op) → transfer_of term ≡ Some op → IsOther op × (is_copy op ≡ false)
  transfer_other term op q =
      let t = transfer_leaves term op q in (
        record { access = goes_access op t; computing = λ x y. let z : true ≡ false = sym x ∙ transfer_alu op t in absurd (cc z) },
        transfer_copy op t,
      )
    where
      goes_access : (op : Op) → is_transfer op ≡ true → is_access op ≡ false
      goes_access Mov t = refl
      goes_access op t = so_fails (is_transfer op) (is_access op) refl t

  -- what a terminator is emitted as
  end_other : (term : Term) (op : Op) → transfer_of term ≡ Some (own_op op) → IsOther op × (is_copy op ≡ false)
  end_other term op q =
      let x = transfer_other term (own_op op) q in
      let other = x.0 in
      let access = sym (access_alike op) ∙ other.access in
      let copy = sym (copy_alike op) ∙ x.1 in
      (record { access = access; computing = λ a c. other.computing (alu_alike op ∙ a) (copy_alike op ∙ c) }, copy)
    where
      access_alike : (op : Op) → is_access (own_op op) ≡ is_access op
      access_alike Mov = refl
      access_alike op = refl

      copy_alike : (op : Op) → is_copy (own_op op) ≡ is_copy op
      copy_alike Mov = refl
      copy_alike op = refl

      alu_alike : (op : Op) → is_alu (own_op op) ≡ is_alu op
      alu_alike Mov = refl
      alu_alike op = refl

  shift_other : (f op : Op) (n : ℕ) → frame_instr f n ≡ Some op → IsOther f → is_copy f ≡ false → IsOther op × (is_copy op ≡ false)
  shift_other f op n q x c = go (n == 0) q
    where
      go : (b : Bool) → (if b then None else Some f) ≡ Some op → IsOther op × (is_copy op ≡ false)
      go true g = absurd (cc g)
      go false g = let z : f ≡ op = cc g in subst (λ f. IsOther f × (is_copy f ≡ false)) z (x, c)

  quiet : (op : Op) (j : Job) (w : World) → is_access op ≡ false → (after_by op val j w ≡ w) × (fails_by op val j w ≡ false)
  quiet Load j w a = absurd (cc a)
  quiet Store j w a = absurd (cc a)
  quiet Call j w a = absurd (cc a)
  quiet _ j w a = (refl, refl)

  other_world : (k : ExtKind) (op : ExtOp) (w : World) → ((so : SrcOp) → k ≡ Body so → ⊥) → (world_by val k op w ≡ w)
      × (stops_by k op w ≡ false)
  other_world (Body so) op w n = absurd (n so refl)
  other_world In op w n = (refl, refl)
  other_world Out op w n = (refl, refl)
  other_world (End term) op w n = (refl, refl)
  other_world (Copy node) op w n = (refl, refl)
  other_world Enter op w n = (refl, refl)
  other_world Leave op w n = (refl, refl)

  -- a job of an operation that is not of the source
  other_job : (p : Placed) (j : Job) (w : World) → ((so : SrcOp) → p.op.kind ≡ Body so → ⊥) → IsOther j.instr.op
      → ((x y : ℕ) → is_copy j.instr.op ≡ true → j.reads ≡ x ∷ [] → j.gives ≡ Some y → val y ≡ val x) → JobFacts p j w
  other_job p j w n x c =
      let q = quiet j.instr.op j w x.access in
      let s = other_world p.op.kind p.op w n in
      record {
        after = q.0 ∙ sym s.0;
        sees = record {
          loaded = λ f y g. let z : true ≡ false = sym (ap is_access f)
              ∙ x.access in absurd (cc z);
          replied = λ f y g. let z : true ≡ false = sym (ap is_access f) ∙ x.access in absurd (cc z);
        };
        flows = record { copied = c; computed = λ y a b g. absurd (x.computing a b) };
        fails_as = q.1 ∙ sym s.1;
        halts = λ so f g. absurd (n so f);
      }

  -- ---- the job of an operation of the source

  source_parts : (so : SrcOp) (op : Op) (srcs : List Reg) (dst : Option Reg)
      → (let i = source_instr so op srcs dst in (i.op ≡ op) × (i.imm ≡ so.imm) × (i.label ≡ so.callee))
  source_parts so Call srcs dst = (refl, refl, refl)
  source_parts so _ srcs dst = (refl, refl, refl)

  source_job : (p : Placed) (j : Job) (so : SrcOp) → IsJob e o values h p j → p.op.kind ≡ Body so → (j.instr.op ≡ so.op)
      × (j.instr.imm ≡ so.imm) × (j.instr.label ≡ so.callee)
  source_job p j so g k =
      let srcs = operand_registers (model_of e o) values p.op (vars_of p) in
      let dst = result_register (model_of e o) values p.op in
      let b = is_beside (schedule_of (model_of e o) values).ranges values p.op (vars_of p) in
      let made : instr_at (model_of e o) values p ≡ Some (source_instr so so.op srcs dst) =
      ap (λ (x : ExtKind). instr_if (model_of e o) values p.op (vars_of p) (instruction_of x (value_by values (vars_of p).instr))) k
      ∙ ap (λ (x : ExtKind). instr_by e.blocks (frame_of (model_of e o) values) x (emitted_by b x so.op) srcs dst) k in
      let same : Some g.instr ≡ Some (source_instr so so.op srcs dst) = sym g.emitted ∙ made in
      let same' : g.instr ≡ source_instr so so.op srcs dst = cc same in
      let all : j.instr ≡ source_instr so so.op srcs dst = ap (λ (x : Job). x.instr) g.is ∙ same' in
      subst (λ (i : Instr). (i.op ≡ so.op) × (i.imm ≡ so.imm) × (i.label ≡ so.callee)) (sym all) (source_parts so so.op srcs dst)

  good_source : (p : Placed) (so : SrcOp) → Member p (all e o values) → p.op.kind ≡ Body so → IsSourceOp so
  good_source p so m k = let g = placed_good e o values h p m in let f = g.keeps in subst (λ (x : ExtKind). IsGoodKind x p.op) k f.kind

  head_of : (p : Placed) (y : ℕ) → given_temp p ≡ Some y → length p.op.results ≤ 1 → (t : TempId) × (t.0 ≡ y) × (p.op.results ≡ t ∷ [])
  head_of p y q le = go p.op.results refl q le
    where
      go : (xs : List TempId) → p.op.results ≡ xs → option_map (λ (x : TempId). x.0) (slice_get p.op.results 0) ≡ Some y
          → length p.op.results ≤ 1 → (t : TempId) × (t.0 ≡ y) × (p.op.results ≡ t ∷ [])
      go [] s q le = let z : None ≡ Some y = sym (ap (λ ys. option_map (λ (x : TempId). x.0) (slice_get ys 0)) s) ∙ q in absurd (cc z)
      go (t ∷ []) s q le = let z : Some t.0 ≡ Some y = sym (ap (λ ys. option_map (λ (x : TempId). x.0) (slice_get ys 0)) s)
          ∙ q in (t, cc z, s)
      go (t ∷ u ∷ xs) s q le = let l = ap length s in absurd (omega arith)

  text_copy : (op : Op) → TextClass op → (is_copy op ≡ false) ⊎ (op ≡ Mov)
  text_copy op (alu a s) = go op a s
    where
      go : (op : Op) → is_alu op ≡ true → is_source op ≡ true → (is_copy op ≡ false) ⊎ (op ≡ Mov)
      go Mov a s = inr refl
      go Spill a s = absurd (cc s)
      go Reload a s = absurd (cc s)
      go P2R a s = absurd (cc s)
      go R2P a s = absurd (cc s)
      go _ a s = inl refl
  text_copy op (loading q) = inl (ap is_copy q)
  text_copy op (storing q) = inl (ap is_copy q)
  text_copy op (calling q) = inl (ap is_copy q)

  source_facts : (p : Placed) (j : Job) (w : World) (so : SrcOp) → Member p (all e o values) → IsJob e o values h p j → p.op.kind ≡ Body so
      → Carries p.block → Equation val p w → JobFacts p j w
  source_facts p j w so m g k c eq =
      let parts = source_job p j so g k in
      let act = some_active e o values h p (own_by p.op.kind g.instr.op) g.issues in
      let xs = map (value_of val) p.op.operands in
      let mir : Mirrors val j so xs = record {
        op = parts.0;
        imm = parts.1;
        label = parts.2;
        args = ap (λ (x : Job). map val x.reads) g.is
            ∙ args_of p m act c;
      } in
      let good = good_source p so m k in
      let cl = text_class so.op good.op in
      let d = mirrors val j so xs w mir cl in
      let le : length p.op.results ≤ 1 = only_result e o values h p m (λ q. let z : Body so ≡ In = sym k ∙ q in absurd (cc z)) in
      let gives : (y : ℕ) → j.gives ≡ Some y → val y ≡ effect_value (effect_of so xs w) = λ y s.
      let t = head_of p y (ap (λ (x : Job). x.gives) (sym g.is) ∙ s) le in ap val (sym t.1) ∙ eq.source so t.0 k t.2 in
      record {
        after = d.after ∙ ap (λ (x : ExtKind). world_by val x p.op w) (sym k);
        sees = mirror_sees val j so xs w mir gives;
        flows = mirror_flows val j so xs w mir (text_copy so.op cl) gives;
        fails_as = d.fails_too ∙ ap (λ (x : ExtKind). stops_by x p.op w) (sym k);
        halts = λ so' k' f. let same : Body so ≡ Body so' = sym k ∙ k' in let s : so ≡ so' = cc same in
            ap (λ (x : SrcOp). effect_stop (effect_of x xs w)) (sym s) ∙ d.halts f;
      }

  job_instr : (p : Placed) (j : Job) (k : ExtKind) → IsJob e o values h p j → p.op.kind ≡ k
      → instruction_of k (value_by values (vars_of p).instr) ≡ Some (own_by k j.instr.op)
  job_instr p j k g q = ap (λ (x : ExtKind). instruction_of x (value_by values (vars_of p).instr)) (sym q) ∙ g.issues
      ∙ ap (λ (x : Job). Some (own_by p.op.kind x.instr.op)) (sym g.is) ∙ ap (λ (x : ExtKind). Some (own_by x j.instr.op)) q

  never_copies : (p : Placed) (j : Job) → is_copy j.instr.op ≡ false → (x y : ℕ) → is_copy j.instr.op ≡ true → j.reads ≡ x ∷ []
      → j.gives ≡ Some y → val y ≡ val x
  never_copies p j f x y c r s = let z : true ≡ false = sym c ∙ f in absurd (cc z)

  pub job_facts : (p : Placed) (j : Job) (w : World) → Member p (all e o values) → IsJob e o values h p j → Carries p.block
      → Equation val p w → JobFacts p j w
  job_facts p j w m g c eq = by_kind p.op.kind refl
    where
      not_body : (k : ExtKind) → p.op.kind ≡ k → ((so : SrcOp) → k ≡ Body so → ⊥) → (so : SrcOp) → p.op.kind ≡ Body so → ⊥
      not_body k q n so r = n so (sym q ∙ r)

      by_kind : (k : ExtKind) → p.op.kind ≡ k → JobFacts p j w
      by_kind (Body so) q = source_facts p j w so m g q c eq
      by_kind In q = let z = job_instr p j In g q in absurd (cc z)
      by_kind Out q = let z = job_instr p j Out g q in absurd (cc z)
      by_kind (End term) q =
          let x = end_other term j.instr.op (job_instr p j (End term) g q) in
          other_job p j w (not_body (End term) q (λ so r. absurd (cc r))) x.0 (never_copies p j x.1)
      by_kind Enter q =
          let x = shift_other EnterOp j.instr.op (value_by values (vars_of p).instr) (job_instr p j Enter g q)
          (record { access = refl; computing = λ a b. absurd (cc a) }) refl in
          other_job p j w (not_body Enter q (λ so r. absurd (cc r))) x.0 (never_copies p j x.1)
      by_kind Leave q =
          let x = shift_other LeaveOp j.instr.op (value_by values (vars_of p).instr) (job_instr p j Leave g q)
          (record { access = refl; computing = λ a b. absurd (cc a) }) refl in
          other_job p j w (not_body Leave q (λ so r. absurd (cc r))) x.0 (never_copies p j x.1)
      by_kind (Copy node) q =
          let x = copy_other (value_by values (vars_of p).instr) j.instr.op (job_instr p j (Copy node) g q) in
          let act = some_active e o values h p (own_by p.op.kind g.instr.op) g.issues in
          other_job p j w (not_body (Copy node) q (λ so r. absurd (cc r))) x (λ a b cp r s.
          let parts = copy_parts e o values h p m node q act in
          let t = head_of p b (ap (λ (x : Job). x.gives) (sym g.is) ∙ s) (let l = ap length parts.results in omega arith) in
          let same : parts.result ∷ [] ≡ t.0 ∷ [] = sym parts.results ∙ t.2 in
          let args = args_of p m act c in
          let one : val a ∷ [] ≡ value_of val parts.operand ∷ [] = ap (map val) (sym r) ∙ ap (λ (x : Job). map val x.reads) g.is ∙ args
          ∙ ap (map (value_of val)) parts.operands in
          let v : val a ≡ value_of val parts.operand = cc one in
          ap val (sym t.1) ∙ eq.copy node t.0 parts.operand q t.2 parts.operands ∙ sym v)

  -- an operation without a job neither changes the world nor fails
  idle : (p : Placed) (w : World) → instr_at (model_of e o) values p ≡ None → (world_by val p.op.kind p.op w ≡ w)
      × (stops_by p.op.kind p.op w ≡ false)
  idle p w q = other_world p.op.kind p.op w (λ so k.
      let made : instr_at (model_of e o) values p ≡ Some (source_instr so so.op (operand_registers (model_of e o) values p.op (vars_of p))
      (result_register (model_of e o) values p.op)) =
      ap (λ (x : ExtKind). instr_if (model_of e o) values p.op (vars_of p) (instruction_of x (value_by values (vars_of p).instr))) k
      ∙ ap (λ (x : ExtKind). instr_by e.blocks (frame_of (model_of e o) values) x
      (emitted_by (is_beside (schedule_of (model_of e o) values).ranges values p.op (vars_of p)) x so.op)
      (operand_registers (model_of e o) values p.op (vars_of p)) (result_register (model_of e o) values p.op)) k in
      let z = sym q ∙ made in absurd (cc z))

  -- ---- all jobs of a block

  pub record AllFacts (ps : List Placed) (w : World) : Type 0 where
    pub sees : Sees val (jobs_of (model_of e o) values ps) w
    pub flows : Each (Flows val) (jobs_of (model_of e o) values ps)
    pub world : run_jobs val (jobs_of (model_of e o) values ps) w ≡ world_after val ps w

  pub all_facts : (ps : List Placed) (k : ℕ) (w : World) → ((p : Placed) → Member p ps → Member p (all e o values) × (p.block ≡ k))
      → Carries k → Equations val ps w → AllFacts ps w
  all_facts [] k w i c eq = record { sees = tt; flows = tt; world = refl }
  all_facts (p ∷ ps) k w i c eq =
      let rest = all_facts ps k (world_by val p.op.kind p.op w) (λ q m. i q (inr m)) c eq.1 in
      let r = go (instr_at (model_of e o) values p) refl rest in
      record { sees = r.sees; flows = r.flows; world = r.world }
    where
      go : (x : Option Instr) → instr_at (model_of e o) values p ≡ x → AllFacts ps (world_by val p.op.kind p.op w)
          → record {
            sees : Sees val (job_by values p x ++ jobs_of (model_of e o) values ps) w;
            flows : Each (Flows val)
                (job_by values p x ++ jobs_of (model_of e o) values ps);
            world : run_jobs val
                (job_by values p x ++ jobs_of (model_of e o) values ps) w ≡ world_after val ps (world_by val p.op.kind p.op w);
          }
      go None q rest =
          let n = (idle p w q).0 in
          record {
            sees = subst (Sees val (jobs_of (model_of e o) values ps)) n rest.sees;
            flows = rest.flows;
            world =
                ap (run_jobs val (jobs_of (model_of e o) values ps)) (sym n) ∙ rest.world;
          }
      go (Some ins) q rest =
          let a = i p (inl refl) in
          let j = job_with values p ins in
          let f = job_facts p j w a.0 (job_is e o values h p (Some ins) j q (inl refl)) (subst Carries (sym a.1) c) eq.0 in
          record {
            sees = (f.sees, subst (Sees val (jobs_of (model_of e o) values ps)) (sym f.after) rest.sees);
            flows =
                (f.flows, rest.flows);
            world = ap (run_jobs val (jobs_of (model_of e o) values ps)) f.after ∙ rest.world;
          }

  -- ---- the run of the extended function

  -- a run of operations from a state: through, or up to the first job that fails
  pub data OpsRun (ps : List Placed) (s : LinearState) : Type 0 where
    goes_through : Passes val (jobs_of (model_of e o) values ps) s.world
        → ops_run (map (λ (p : Placed). p.op) ps) s ≡ record { stop = None; state = total ps s } → OpsRun ps s
    halts_at : (f : Failing val (jobs_of (model_of e o) values ps) s.world)
        → (let r = ops_run (map (λ (p : Placed). p.op) ps) s in (r.stop ≡ Some
        (let j = f.job in halt_by j.instr.op (call_of val j (run_jobs val f.before s.world))))
        × (let t = r.state in t.world ≡ run_jobs val f.before s.world)) → OpsRun ps s

  -- a step that goes on is that of the run past failures
  step_goes : (k : ExtKind) (op : ExtOp) (s : LinearState) → map (value_of s.values) op.operands ≡ map (value_of val) op.operands
      → stops_by k op s.world ≡ false → step_by k op s ≡ Went (total_by k op s)
  step_goes (Body so) op s q f = go (effect_of so (map (value_of s.values) op.operands) s.world)
      (ap (λ xs. stops (effect_of so xs s.world)) q ∙ f)
    where
      go : (x : Effect) → stops x ≡ false → after_effect op.results s x ≡ Went
          (record { values = defined_all s.values op.results (effect_value x ∷ []); world = effect_world s.world x })
      go (Gives v w) f = refl
      go (Stops stop) f = absurd (cc f)
  step_goes (Copy node) op s q f = refl
  step_goes In op s q f = refl
  step_goes Out op s q f = refl
  step_goes (End term) op s q f = refl
  step_goes Enter op s q f = refl
  step_goes Leave op s q f = refl

  step_stops : (so : SrcOp) (op : ExtOp) (s : LinearState) → map (value_of s.values) op.operands ≡ map (value_of val) op.operands
      → stops (effect_of so (map (value_of val) op.operands) s.world) ≡ true
      → step_by (Body so) op s ≡ Stopped (effect_stop (effect_of so (map (value_of val) op.operands) s.world))
  step_stops so op s q f = ap (λ xs. after_effect op.results s (effect_of so xs s.world)) q
      ∙ go (effect_of so (map (value_of val) op.operands) s.world) f
    where
      go : (x : Effect) → stops x ≡ true → after_effect op.results s x ≡ Stopped (effect_stop x)
      go (Gives v w) f = absurd (cc f)
      go (Stops stop) f = refl

  stops_source : (p : Placed) (w : World) → stops_by p.op.kind p.op w ≡ true → (so : SrcOp) × (p.op.kind ≡ Body so)
  stops_source p w f = go p.op.kind refl f
    where
      go : (k : ExtKind) → p.op.kind ≡ k → stops_by k p.op w ≡ true → (so : SrcOp) × (p.op.kind ≡ Body so)
      go (Body so) q f = (so, q)
      go In q f = absurd (cc f)
      go Out q f = absurd (cc f)
      go (End term) q f = absurd (cc f)
      go (Copy node) q f = absurd (cc f)
      go Enter q f = absurd (cc f)
      go Leave q f = absurd (cc f)

  pub ops_are : (n : ℕ) (ps : List Placed) (k : ℕ) (s : LinearState)
      → ((p : Placed) → Member p ps → Member p (all e o values) × (p.block ≡ k)) → Carries k → Equations val ps s.world
      → Runs e o values h val n ps s → Each (FirstsBefore e o values h val) ps → OpsRun ps s
  ops_are n [] k s i c eq r f = goes_through tt refl
  ops_are n (p ∷ ps) k s i c eq r f =
      let same = same_operands e o values h val n p ps s r f.0 in
      let w = world_step e o values h val n p ps s r f.0 in
      let rest = ops_are (n + 1) ps k (total_by p.op.kind p.op s) (λ q m. i q (inr m)) c
      (subst (λ (w : World). Equations val ps w) (sym w) eq.1) (next e o values h val n p ps s r) f.1 in
      by_job same w rest (instr_at (model_of e o) values p) refl
    where
      -- the first operation goes on
      further : step_by p.op.kind p.op s ≡ Went (total_by p.op.kind p.op s)
          → ops_run (map (λ (p : Placed). p.op) (p ∷ ps)) s ≡ ops_run (map (λ (p : Placed). p.op) ps) (total_by p.op.kind p.op s)
      further q = ap (λ (x : LinearStep). then_ops x s (ops_run (map (λ (p : Placed). p.op) ps))) q

      Later : List Job → Type 0
      Later js = OpsRun ps (total_by p.op.kind p.op s)

      -- without a job
      plain : instr_at (model_of e o) values p ≡ None → map (value_of s.values) p.op.operands ≡ map (value_of val) p.op.operands
          → (total_by p.op.kind p.op s).world ≡ world_by val p.op.kind p.op s.world → OpsRun ps (total_by p.op.kind p.op s)
          → OpsRun (p ∷ ps) s
      plain q same w (goes_through pass run) =
          let z = idle p s.world q in
          let on = further (step_goes p.op.kind p.op s same z.1) in
          let none : job_of (model_of e o) values p ≡ [] = ap (job_by values p) q in
          let jobs : jobs_of (model_of e o) values (p ∷ ps) ≡ jobs_of (model_of e o) values ps =
          ap (λ js. js ++ jobs_of (model_of e o) values ps) none in
          goes_through (subst (λ js. Passes val js s.world) (sym jobs)
          (subst (Passes val (jobs_of (model_of e o) values ps)) (w ∙ z.0) pass)) (on ∙ run)
      plain q same w (halts_at g run) =
          let z = idle p s.world q in
          let on = further (step_goes p.op.kind p.op s same z.1) in
          let none : job_of (model_of e o) values p ≡ [] = ap (job_by values p) q in
          let jobs : jobs_of (model_of e o) values (p ∷ ps) ≡ jobs_of (model_of e o) values ps =
          ap (λ js. js ++ jobs_of (model_of e o) values ps) none in
          let wld = w ∙ z.0 in
          let g' : Failing val (jobs_of (model_of e o) values (p ∷ ps)) s.world =
          record {
            before = g.before;
            job = g.job;
            after = g.after;
            is = jobs
                ∙ g.is;
            passes = subst (Passes val g.before) wld g.passes;
            failed =
                ap (λ (w : World). fails val g.job (run_jobs val g.before w)) (sym wld) ∙ g.failed;
          } in
          halts_at g' (
            ap (λ (x : LinearEnd). x.stop) on ∙ run.0 ∙ ap (λ (w : World). Some
                (halt_by g.job.instr.op (call_of val g.job (run_jobs val g.before w)))) wld,
            ap (λ (x : LinearEnd). x.state.world) on ∙ run.1 ∙ ap (run_jobs val g.before) wld,
          )

      -- with a job
      working : (ins : Instr) → instr_at (model_of e o) values p ≡ Some ins
          → map (value_of s.values) p.op.operands ≡ map (value_of val) p.op.operands
          → (total_by p.op.kind p.op s).world ≡ world_by val p.op.kind p.op s.world → OpsRun ps (total_by p.op.kind p.op s)
          → OpsRun (p ∷ ps) s
      working ins q same w rest = go (fails val j s.world) refl rest
        where
          j : Job
          j = job_with values p ins

          facts : JobFacts p (job_with values p ins) s.world
          facts = let a = i p (inl refl) in job_facts p (job_with values p ins) s.world a.0
              (job_is e o values h p (Some ins) (job_with values p ins) q (inl refl)) (subst Carries (sym a.1) c) eq.0

          jobs : jobs_of (model_of e o) values (p ∷ ps) ≡ job_with values p ins ∷ jobs_of (model_of e o) values ps
          jobs = ap (λ (x : Option Instr). job_by values p x ++ jobs_of (model_of e o) values ps) q

          wld : (total_by p.op.kind p.op s).world ≡ after_job val (job_with values p ins) s.world
          wld = let f = facts in w ∙ sym f.after

          go : (b : Bool) → fails val (job_with values p ins) s.world ≡ b → OpsRun ps (total_by p.op.kind p.op s) → OpsRun (p ∷ ps) s
          go true fl rest =
              let f = facts in
              let src = stops_source p s.world (sym f.fails_as ∙ fl) in
              let st = ap (λ (x : ExtKind). stops_by x p.op s.world) (sym src.1) ∙ sym f.fails_as ∙ fl in
              let run : step_by p.op.kind p.op s ≡ Stopped (halt_by (job_with values p ins).instr.op
              (call_of val (job_with values p ins) s.world)) =
              ap (λ (x : ExtKind). step_by x p.op s) src.1 ∙ step_stops src.0 p.op s same st ∙ ap Stopped (f.halts src.0 src.1 fl) in
              let on = ap (λ (x : LinearStep). then_ops x s (ops_run (map (λ (p : Placed). p.op) ps))) run in
              halts_at (record {
                before = [];
                job = job_with values p ins;
                after = jobs_of (model_of e o) values ps;
                is = jobs;
                passes = tt;
                failed = fl;
              }) (ap (λ (x : LinearEnd). x.stop) on, ap (λ (x : LinearEnd). x.state.world) on)
          go false fl (goes_through pass run) =
              let f = facts in
              let on = further (step_goes p.op.kind p.op s same (sym f.fails_as ∙ fl)) in
              goes_through (subst (λ js. Passes val js s.world) (sym jobs)
              (fl, subst (Passes val (jobs_of (model_of e o) values ps)) wld pass)) (on ∙ run)
          go false fl (halts_at g run) =
              let f = facts in
              let on = further (step_goes p.op.kind p.op s same (sym f.fails_as ∙ fl)) in
              let g' : Failing val (jobs_of (model_of e o) values (p ∷ ps)) s.world =
              record {
                before = job_with values p ins ∷ g.before;
                job = g.job;
                after = g.after;
                is = jobs
                    ∙ ap (λ js. job_with values p ins ∷ js) g.is;
                passes = (fl, subst (Passes val g.before) wld g.passes);
                failed =
                    ap (λ (w : World). fails val g.job (run_jobs val g.before w)) (sym wld) ∙ g.failed;
              } in
              halts_at g' (
                ap (λ (x : LinearEnd). x.stop) on ∙ run.0 ∙ ap (λ (w : World). Some
                    (halt_by g.job.instr.op (call_of val g.job (run_jobs val g.before w)))) wld,
                ap (λ (x : LinearEnd). x.state.world) on ∙ run.1 ∙ ap (run_jobs val g.before) wld,
              )

      by_job : map (value_of s.values) p.op.operands ≡ map (value_of val) p.op.operands
          → (total_by p.op.kind p.op s).world ≡ world_by val p.op.kind p.op s.world → OpsRun ps (total_by p.op.kind p.op s)
          → (x : Option Instr) → instr_at (model_of e o) values p ≡ x → OpsRun (p ∷ ps) s
      by_job same w rest None q = plain q same w rest
      by_job same w rest (Some ins) q = working ins q same w rest
