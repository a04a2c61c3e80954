-- A block of a solution at its end: where the values stand that it hands over, and where it leads.
use Rattle.std.proofs.Common.{ℕ, zero, suc, ◌≡◌, ◌<◌, ◌≤◌, ◌+◌, ◌-◌, Bool, true, false, List, [], ◌∷◌, map, get_or, ◌⊎◌, ⊎_elim, refl, sym}
use Rattle.std.proofs.Common.{ap, ◌∙◌, subst, arith}
use Rattle.std.specs.Prelude.{◌||◌, is_some, Option, Some, None, slice_get, slice_index, ◌==◌, if◌then◌else◌}
use Rattle.std.specs.Option.{option_map}
use Rattle.un_base.specs.declared.ids.TempId.{TempId}
use Rattle.un_isa.specs.declared.op.Op.{Op}
use Rattle.un_isa.specs.declared.op.Op.TheVariants.{Enter as EnterOp, Leave as LeaveOp}
use Rattle.un_isa.specs.declared.reg.TheConstants.{FIRST_SLOT}
use Rattle.un_isa.specs.declared.instr.Instr.{Instr}
use Rattle.un_isa.specs.Does.{is_transfer, is_control}
use Rattle.un_isa.proofs.DoesLaws.{transfer_control, source_stays, copy_stays}
use Rattle.un_ir.specs.declared.function.Kind.{Kind}
use Rattle.un_ir.specs.declared.function.Kind.TheVariants.{Pred}
use Rattle.un_ir.specs.declared.function.Term.{Term}
use Rattle.un_ir.specs.declared.function.Term.TheVariants.{Fall, Jump, Branch, Ret}
use Rattle.un_ir.specs.declared.extended.ExtKind.{ExtKind}
use Rattle.un_ir.specs.declared.extended.ExtKind.TheVariants.{In, Out, Body, End, Copy, Enter, Leave}
use Rattle.un_ir.specs.declared.extended.Operand.{Operand}
use Rattle.un_ir.specs.declared.extended.ExtOp.{ExtOp}
use Rattle.un_ir.specs.declared.extended.ExtBlock.{ExtBlock}
use Rattle.un_ir.specs.declared.extended.Ext.{Ext}
use Rattle.un_ir.specs.Extended.{Want, wants_of, is_end, IsGoodKind, IsSourceOp}
use Rattle.un_ir.specs.Linear.{Values, World, value_of, out_operands, Ending, ending_of, is_out}
use Rattle.un_model.specs.declared.model.Options.{Options}
use Rattle.un_model.specs.Emission.{label_of, instr_if, instr_by, frame_of, operand_registers, result_register, is_beside, emitted_by}
use Rattle.un_model.specs.Instructions.{instruction_of, transfer_of as transfer_op_of, frame_instr}
use Rattle.un_model.proofs.Transfers.{transfer_leaves, copy_copies}
use Rattle.un_ir.specs.Kinds.{is_delimiter}
use Rattle.un_model.specs.Schedules.{cycle_by, value_by, instr_of, schedule_of}
use Rattle.un_model.specs.Variables.{model_of, var_at, ops_count}
use Rattle.un_packet.specs.Step.{PacketState}
use Rattle.un_simulation.specs.Simulation.{as_held, held_at}
use Rattle.un_lists.proofs.Lists.{Member, each_member, each_of, pairwise_two, place_of, found, none_found, find_none}
use Rattle.un_emit.proofs.Timed.{Job, Stands, NotBoth}
use Rattle.un_emit.proofs.Exits.{transfer_of, is_false}
use Rattle.un_emit.proofs.Cycles.{At, first_read}
use Rattle.un_model.proofs.Placed.{Placed, vars_of, issue_at, end_of, region_placed}
use Rattle.un_model.proofs.PlacedSchedules.{all, range_at}
use Rattle.un_model.proofs.Readings.{Solved, placed_good, Reading, reading, waited_latency}
use Rattle.un_model.proofs.Gaps.{is_branch_in, no_branch}
use Rattle.un_emit.proofs.JobDeeds.{temps_of, active_in}
use Rattle.un_emit.proofs.Own.{own_op, own_by, transfer_alike}
use Rattle.un_emit.proofs.BlockJobs.{InRegion, IsJob, job_from, some_active}
use Rattle.un_emit.proofs.BlockTimed.{its_end, its_block, own_end, own_jobs, block_timed, has_job, job_op}
use Rattle.un_emit.proofs.Places.{words, placing}
use Rattle.un_emit.proofs.Stack.{placed_for}
use Rattle.un_emit.proofs.BlockEdges.{finishes, out_in, EndsBy, falls, ends, ends_by}
use Rattle.un_emit.proofs.BlockValues.{of_all, final, carries, truths}
use Rattle.un_emit.proofs.JobValues.{Carries, choice_value, args_of}
use Rattle.un_model.proofs.Operations.{placed_is}
use Rattle.un_emit.proofs.BlockStarts.{parts, op_of, AtStart, scene, start_truths}

module _ (e : Ext) (o : Options) (values : List ℕ) (h : Solved e o values) (k : ℕ) (block : ExtBlock)
    (r : InRegion (all e o values) k block) (at : slice_get e.blocks k ≡ Some block) where
  abbrev own_ops : List Placed
  own_ops = region_placed r.region

  abbrev pub the_end : ℕ
  the_end = own_end e o values h (words e o values h) (placing e o values h) k block r

  pub owner_of : (p : Placed) → Member p own_ops → p.owner ≡ block
  owner_of p m =
      let q = r.region in
      let z = place_of own_ops p m in
      (placed_is q.block q.owner (var_at (q.first + ops_count (q.owner).ops)) q.number q.first z.0 (q.owner).ops p z.2).3 ∙ r.owner

  -- ---- the block's last operation

  pub record OutOp : Type 0 where
    pub placed : Placed
    pub member : Member placed own_ops
    pub kind : placed.op.kind ≡ Out
    pub operands : out_operands block.ops ≡ placed.op.operands

  out_kind : (x : ExtKind) → is_out x ≡ true → x ≡ Out
  out_kind Out q = refl
  out_kind _ q = absurd (cc q)

  pub out_op : OutOp
  out_op =
      let ps = parts e o values h k block r at in
      let p = ps.0 in
      let is = ps.1 in
      let z = placed_for e o values h k block r at p.out (out_in block.ops p is) in
      record {
        placed = z.0;
        member = z.1;
        kind = out_kind z.0.op.kind (ap (λ (x : ExtOp). is_out x.kind) z.2 ∙ is.out);
        operands = finishes block.ops p is ∙ ap (λ (x : ExtOp). x.operands) (sym z.2);
      }

  module _ (base : ℕ) (taken : List ℕ) (w : World) (s : PacketState) (a : AtStart e o values h k block r at base taken w s) where
    abbrev pub val : Values
    val = final e o values h k block r taken w

    -- what the block hands over
    abbrev pub handed : List ℕ
    handed = map (value_of (final e o values h k block r taken w)) (out_operands block.ops)

    index_map : {A : Type 0} (f : A → ℕ) (xs : List A) (i : ℕ) (x : A) → slice_get xs i ≡ Some x → slice_index (map f xs) i ≡ f x
    index_map f [] i x q = absurd (cc q)
    index_map f (y ∷ ys) zero x q = let z : y ≡ x = cc q in ap f z
    index_map f (y ∷ ys) (suc i) x q = index_map f ys i x q

    -- where a value stands that the block hands over at place i, once its packets have issued
    pub record Handed (i : ℕ) (x : Operand) (u : PacketState) : Type 0 where
      pub want : Want
      pub wanted : slice_get (wants_of e.table e.names e.blocks block Out (let p = out_op in let q = p.placed in q.op)) i ≡ Some want
      pub reading_is : Reading e o values h (let p = out_op in p.placed) i x want
      pub held : held_at u (range_at e o values (let v = reading_is.spot in v.temp.0)).reg ≡ as_held want.kind
          (range_at e o values (let v = reading_is.spot in v.temp.0)).reg (slice_index handed i)
      pub ready : (range_at e o values (let v = reading_is.spot in v.temp.0)).reg < FIRST_SLOT
          → get_or u.ready (range_at e o values (let v = reading_is.spot in v.temp.0)).reg 0 ≤ u.cycle + 1
      pub truth : want.kind ≡ Pred → slice_index handed i < 2

    pub hands : (i : ℕ) (x : Operand) (u : PacketState) → 1 ≤ the_end → At (scene e o values h k block r at base taken w s) (the_end - 1) u
        → (let p = out_op in let q = p.placed in slice_get q.op.operands i ≡ Some x) → Handed i x u
    hands i x u le au q =
        let out = out_op in
        let p = out.placed in
        let m = (of_all e o values h k block r p out.member).0 in
        let act : (issue_at values p).active ≡ true = ap (λ (y : ExtKind). let z = instruction_of y (value_by values (vars_of p).instr) in
        is_delimiter y || is_some z) out.kind in
        let rd = reading e o values h p i x m act q in
        let want = rd.0 in
        let g = rd.2 in
        let v = g.spot in
        let n = v.temp.0 in
        let blk = its_block e o values h (words e o values h) (placing e o values h) k block r p out.member in
        let there : (range_at e o values n).block.0 ≡ k = g.there ∙ blk in
        let cyc : (issue_at values p).cycle ≡ the_end = ap (λ (y : ExtKind). cycle_by values (end_of values p) y (vars_of p)) out.kind
        ∙ its_end e o values h (words e o values h) (placing e o values h) k block r p out.member in
        let timed = block_timed e o values h (words e o values h) (placing e o values h) k block r at in
        let temps = timed.temps in
        let actv = active_in e o values h n k g.active there in
        let quick = temps.quick n actv in
        let old = ap (λ (y : ExtKind). is_branch_in (instruction_of y (value_by values (vars_of p).instr))) out.kind in
        let rdy = waited_latency e o values h p i x want g
        (no_branch e.table (range_at e o values n).instr (issue_at values p).instr old) in
        let lst = g.last in
        let stands : Stands (temps_of e o values h k) n (the_end - 1) =
        record { active = actv; begun = omega (arith, quick, rdy, cyc); held = omega (arith, lst, cyc, le) } in
        let time = au.time in
        let holds = au.holds in
        let value : val n ≡ slice_index handed i =
        ap (λ (y : TempId). val y.0) g.is ∙ choice_value e o values h val p i x want
        (subst (λ b. Carries e o values h val b) (sym blk) (carries e o values h k block r taken w)) g
        ∙ sym (index_map (value_of val) (out_operands block.ops) i x (ap (λ xs. slice_get xs i) out.operands ∙ q)) in
        let own : p.owner ≡ block = owner_of p out.member in
        record {
          want = want;
          wanted = ap (λ (b : ExtBlock). slice_get (wants_of e.table e.names e.blocks b Out p.op) i) (sym own)
              ∙ ap (λ (y : ExtKind). slice_get (wants_of e.table e.names e.blocks p.owner y p.op) i) (sym out.kind) ∙ rd.1;
          reading_is = g;
          held = holds.held n stands ∙ ap (λ (kd : Kind). as_held kd (range_at e o values n).reg (val n)) g.kind
              ∙ ap (as_held want.kind (range_at e o values n).reg) value;
          ready = λ lt. let z = time.ready n stands lt in let c = time.cycle in omega (arith, z, c, rdy, cyc, le);
          truth = λ kd. subst (λ v. v < 2) value (truths e o values h k block r taken w
              (start_truths e o values h k block r at base taken w s a) n actv (g.kind ∙ kd));
        }

  -- ---- the control transfer

  -- a job that transfers control is of the terminator
  pub transfer_kind : (p : Placed) (op : Op) → Member p own_ops → instr_of values p.op (vars_of p) ≡ Some op → is_transfer op ≡ true
      → (term : Term) × (p.op.kind ≡ End term) × (transfer_op_of term ≡ Some op)
  transfer_kind p op m q t = by_kind p.op.kind refl q
    where
      Goal : Type 0
      Goal = (term : Term) × (p.op.kind ≡ End term) × (transfer_op_of term ≡ Some op)

      never : is_transfer op ≡ false → Goal
      never f = let z : true ≡ false = sym t ∙ f in absurd (cc z)

      with_kind : (x : ExtKind) → p.op.kind ≡ x → instr_of values p.op (vars_of p) ≡ Some op
          → instruction_of x (value_by values (vars_of p).instr) ≡ Some op
      with_kind x s g = ap (λ (y : ExtKind). instruction_of y (value_by values (vars_of p).instr)) (sym s) ∙ g

      framed : (f : Op) (n : ℕ) → is_transfer f ≡ false → frame_instr f n ≡ Some op → Goal
      framed f n z g = go (n == 0) g
        where
          go : (b : Bool) → (if b then None else Some f) ≡ Some op → Goal
          go true g = absurd (cc g)
          go false g = let y : f ≡ op = cc g in never (ap is_transfer (sym y) ∙ z)

      by_kind : (x : ExtKind) → p.op.kind ≡ x → instr_of values p.op (vars_of p) ≡ Some op → Goal
      by_kind In s g = let z = with_kind In s g in absurd (cc z)
      by_kind Out s g = let z = with_kind Out s g in absurd (cc z)
      by_kind (Body so) s g =
          let z = with_kind (Body so) s g in
          let good = placed_good e o values h p (of_all e o values h k block r p m).0 in
          let ks = good.keeps in
          let so_good : IsSourceOp so = subst (λ (x : ExtKind). IsGoodKind x p.op) s ks.kind in
          let same : so.op ≡ op = cc z in
          never (ap is_transfer (sym same) ∙ source_stays so.op so_good.op)
      by_kind (End term) s g = (term, s, with_kind (End term) s g)
      by_kind (Copy node) s g = never (copy_stays op (copy_copies (value_by values (vars_of p).instr) op (with_kind (Copy node) s g)))
      by_kind Enter s g = framed EnterOp (value_by values (vars_of p).instr) refl (with_kind Enter s g)
      by_kind Leave s g = framed LeaveOp (value_by values (vars_of p).instr) refl (with_kind Leave s g)

  abbrev jobs : List Job
  jobs = own_jobs e o values h (words e o values h) (placing e o values h) k block r

  -- two jobs that transfer control are one
  one_transfer : (i j : Job) → Member i jobs → Member j jobs → is_transfer i.instr.op ≡ true → is_transfer j.instr.op ≡ true → i ≡ j
  one_transfer i j m n s t =
      let z = block_timed e o values h (words e o values h) (placing e o values h) k block r at in
      let li = each_member (λ (x : Job). is_transfer x.instr.op ≡ true → x.cycle + 1 ≡ the_end) jobs i z.last m s in
      let lj = each_member (λ (x : Job). is_transfer x.instr.op ≡ true → x.cycle + 1 ≡ the_end) jobs j z.last n t in
      let same : i.cycle ≡ j.cycle = omega (arith, li, lj) in
      ⊎_elim (λ (q : i ≡ j). q) (λ (d : NotBoth is_control i j ⊎ NotBoth is_control j i). ⊎_elim
      (λ (x : NotBoth is_control i j). absurd (x same (transfer_control i.instr.op s) (transfer_control j.instr.op t)))
      (λ (x : NotBoth is_control j i). absurd (x (sym same) (transfer_control j.instr.op t) (transfer_control i.instr.op s))) d)
      (pairwise_two (NotBoth is_control) jobs i j z.one_control m n)

  -- how the block ends: by no transfer, or by the job of its terminator
  pub data EndJob : Type 0 where
    no_job : transfer_of jobs ≡ None → (let x = ending_of block.ops in x.term ≡ Fall) → EndJob
    one_job : (p : Placed) (j : Job) (term : Term) → Member p own_ops → IsJob e o values h p j → transfer_of jobs ≡ Some j
        → p.op.kind ≡ End term → transfer_op_of term ≡ Some (own_op j.instr.op)
        → ending_of block.ops ≡ record { term = term; operands = p.op.operands } → EndJob

  none_transfers : ((p : Placed) (term : Term) → Member p own_ops → p.op.kind ≡ End term → term ≡ Fall) → transfer_of jobs ≡ None
  none_transfers f = find_none (λ (j : Job). is_transfer j.instr.op) jobs
      (each_of (λ (j : Job). is_transfer j.instr.op ≡ false) jobs (λ j m. is_false (is_transfer j.instr.op) (λ t.
      let x = job_from e o values h own_ops j m in
      let kind = (let p = x.0 in p.op.kind) in
      let own = own_by kind j.instr.op in
      let y = transfer_kind x.0 own x.1 (job_op e o values h x.0 j x.2) (transfer_alike kind j.instr.op ∙ t) in
      let z = f x.0 y.0 x.1 y.1 in
      let g : None ≡ Some own = ap transfer_op_of (sym z) ∙ y.2 in absurd (cc g))))

  pub end_job : EndJob
  end_job = let ps = parts e o values h k block r at in by_end (ends_by block.ops ps.0 ps.1)
    where
      not_end_kind : (x : ExtKind) → is_end x ≡ false → (term : Term) → x ≡ End term → ⊥
      not_end_kind x f term q = let z : true ≡ false = sym (ap is_end q) ∙ f in absurd (cc z)

      by_end : EndsBy block.ops → EndJob
      by_end (falls q none) = no_job (none_transfers (λ p term m s. absurd
          (not_end_kind p.op.kind (each_member (λ (x : ExtOp). is_end x.kind ≡ false) block.ops p.op none
          (op_of e o values h k block r at p m)) term s))) (ap (λ (x : Ending). x.term) q)
      by_end (ends op term kd mem q only) = by_term term refl kd q
        where
          by_op : (tr : Op) → transfer_op_of term ≡ Some tr → EndJob
          by_op tr s =
              let z = placed_for e o values h k block r at op mem in
              let p = z.0 in
              let kp : p.op.kind ≡ End term = ap (λ (x : ExtOp). x.kind) z.2 ∙ kd in
              let ins : instr_of values p.op (vars_of p) ≡ Some tr =
              ap (λ (y : ExtKind). instruction_of y (value_by values (vars_of p).instr)) kp ∙ s in
              let act = some_active e o values h p tr ins in
              let j = has_job e o values h (words e o values h) (placing e o values h) k block r p z.1 act
              (λ y. let g : End term ≡ In = sym kp ∙ y in absurd (cc g)) (λ y. let g : End term ≡ Out = sym kp ∙ y in absurd (cc g)) in
              let jo : Some (own_by p.op.kind j.0.instr.op) ≡ Some tr = sym (job_op e o values h p j.0 j.2) ∙ ins in
              let jo' : own_by p.op.kind j.0.instr.op ≡ tr = cc jo in
              let t : is_transfer j.0.instr.op ≡ true =
              sym (transfer_alike p.op.kind j.0.instr.op) ∙ ap is_transfer jo' ∙ transfer_leaves term tr s in
              let own : own_op j.0.instr.op ≡ tr = ap (λ (y : ExtKind). own_by y j.0.instr.op) (sym kp) ∙ jo' in
              one_job p j.0 term z.1 j.2 (first j.0 j.1 t (transfer_of jobs) refl) kp (s ∙ ap Some (sym own))
              (q ∙ ap (λ (x : ExtOp). let y : Ending = record { term = term; operands = x.operands } in y) (sym z.2))
            where
              first : (j : Job) → Member j jobs → is_transfer j.instr.op ≡ true → (x : Option Job) → transfer_of jobs ≡ x
                  → transfer_of jobs ≡ Some j
              first j m t None f = let z : true ≡ false = sym t ∙
                  each_member (λ (j : Job). is_transfer j.instr.op ≡ false) jobs j (none_found (λ (j : Job). is_transfer j.instr.op) jobs f)
                  m in absurd (cc z)
              first j m t (Some i) f = let g = found (λ (j : Job). is_transfer j.instr.op) jobs i f in f
                  ∙ ap Some (one_transfer i j g.0 m g.1 t)

          by_term : (x : Term) → term ≡ x → op.kind ≡ End term → ending_of block.ops ≡ record { term = term; operands = op.operands }
              → EndJob
          by_term Fall s kd q = no_job (none_transfers (λ p t m z.
              let g = only p.op (op_of e o values h k block r at p m) (ap is_end z) in
              let y : End t ≡ End term = sym z ∙ ap (λ (w : ExtOp). w.kind) g ∙ kd in
              let y' : t ≡ term = cc y in y' ∙ s)) (ap (λ (x : Ending). x.term) q ∙ s)
          by_term (Jump to) s kd q = by_op _ (ap transfer_op_of s)
          by_term (Branch pred true to) s kd q = by_op _ (ap transfer_op_of s)
          by_term (Branch pred false to) s kd q = by_op _ (ap transfer_op_of s)
          by_term (Ret value) s kd q = by_op _ (ap transfer_op_of s)

  -- the label of the terminator's job
  pub job_label : (p : Placed) (j : Job) (term : Term) → IsJob e o values h p j → p.op.kind ≡ End term
      → j.instr.label ≡ label_of e.blocks term
  job_label p j term g q = ap (λ (x : Job). x.instr.label) g.is ∙ go (instr_of values p.op (vars_of p)) g.emitted
    where
      go : (x : Option Op) → instr_if (model_of e o) values p.op (vars_of p) x ≡ Some g.instr
          → (let i = g.instr in i.label ≡ label_of e.blocks term)
      go None s = absurd (cc s)
      go (Some op) s =
          let b = is_beside (schedule_of (model_of e o) values).ranges values p.op (vars_of p) in
          let made = ap (λ (y : ExtKind). instr_by e.blocks (frame_of (model_of e o) values) y (emitted_by b y op)
          (operand_registers (model_of e o) values p.op (vars_of p)) (result_register (model_of e o) values p.op)) (sym q) ∙ s in
          let z = ap (λ (x : Option Instr). option_map (λ (y : Instr). y.label) x) made in sym (cc z)

  -- the value of the terminator's operand
  pub job_value : (taken : List ℕ) (w : World) (p : Placed) (j : Job) → Member p own_ops → IsJob e o values h p j
      → first_read (final e o values h k block r taken w) j ≡ slice_index
      (map (value_of (final e o values h k block r taken w)) p.op.operands) 0
  job_value taken w p j m g =
      let v = final e o values h k block r taken w in
      let b = (of_all e o values h k block r p m).1 in
      ap (λ (x : Job). first_read v x) g.is
      ∙ ap (λ xs. slice_index xs 0) (args_of e o values h v p (of_all e o values h k block r p m).0
      (let i = g.instr in some_active e o values h p (own_by p.op.kind i.op) g.issues)
      (subst (λ n. Carries e o values h v n) (sym b) (carries e o values h k block r taken w)))
