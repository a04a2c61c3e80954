-- What leaves a block of the emitted code stands in its last packet and leads to a block, and the last block does not fall through.
use Rattle.std.proofs.Common.{ℕ, ◌≡◌, ◌<◌, ◌≤◌, ◌+◌, ◌-◌, Bool, true, false, List, [], ◌∷◌, length, refl, sym, ap, ◌∙◌, subst, arith, All}
use Rattle.std.proofs.Common.{Contains}
use Rattle.std.specs.Prelude.{Option, Some, slice_get, IsSomeAnd}
use Rattle.std.specs.Bool.{OnTrue}
use Rattle.std.specs.List.{range_with_len}
use Rattle.std.specs.Option.{option_map}
use Rattle.std.proofs.lemmas.Bool.{eq-eqb}
use Rattle.std.proofs.lemmas.List.FromFn.{length-map-range_with_len}
use Rattle.un_isa.specs.declared.instr.Instr.{Instr}
use Rattle.un_isa.specs.declared.op.Op.{Op}
use Rattle.un_isa.specs.declared.op.Op.TheVariants.{Jump as JumpOp, Jumpr}
use Rattle.un_isa.specs.Does.{is_jump, is_transfer, is_leaving}
use Rattle.un_isa.proofs.DoesLaws.{jump_transfer}
use Rattle.un_ir.specs.declared.function.Term.{Term}
use Rattle.un_ir.specs.declared.function.Term.TheVariants.{Fall, Jump, Branch, Ret}
use Rattle.un_ir.specs.declared.extended.ExtKind.TheVariants.{End}
use Rattle.un_ir.specs.declared.extended.ExtBlock.{ExtBlock}
use Rattle.un_ir.specs.declared.extended.Ext.{Ext}
use Rattle.un_ir.specs.Linear.{Ending, ending_of}
use Rattle.un_model.specs.declared.model.Options.{Options}
use Rattle.un_model.specs.Emission.{label_of}
use Rattle.un_model.specs.Instructions.{transfer_of as transfer_op_of}
use Rattle.un_packet.specs.declared.code.Packet.{Packet}
use Rattle.un_packet.specs.CodeRules.{TransfersLast, LeadsToOneOf, transfers, leaves}
use Rattle.un_emit.proofs.BlockEnds.{EndJob, no_job, one_job, end_job, transfer_kind, job_label}
use Rattle.un_emit.proofs.BlockJobs.{InRegion, IsJob, each_job}
use Rattle.un_emit.proofs.BlockTimed.{own_jobs, own_end, here, job_op, block_timed}
use Rattle.un_emit.proofs.Cycles.{packet_of, packets_from, each_packet}
use Rattle.un_emit.proofs.Exits.{is_false}
use Rattle.un_emit.proofs.JobDeeds.{temps_of}
use Rattle.un_emit.proofs.Own.{own_op, own_by, transfer_alike, jump_alike, leaving_alike}
use Rattle.un_lists.proofs.Lists.{Member, each_member, each_of, each_map, any_none, found, member_map, member_filter, slice_get-map}
use Rattle.un_model.proofs.Placed.{Placed, region_placed}
use Rattle.un_emit.proofs.Places.{words, placing, any_true}
use Rattle.un_model.proofs.Readings.{Solved, good}
use Rattle.un_emit.proofs.RulesInstrs.{end_leads}
use Rattle.un_emit.proofs.RulesLists.{all_each, some_and}
use Rattle.un_emit.proofs.RulesOps.{LeadsIn, there}
use Rattle.un_model.proofs.PlacedSchedules.{all, get_range}
use Rattle.un_emit.proofs.Timed.{Job, Timed, instrs, issues_at, jobs_at, or_rest, packet_jobs, together}

-- the labels are those of the blocks
abbrev pub AreLabels : List ExtBlock → List (List ℕ) → Type 0
AreLabels blocks labels = (k : ℕ) (block : ExtBlock) → slice_get blocks k ≡ Some block → Contains labels block.label

-- a jump's label is one of the labels
jump_label : (blocks : List ExtBlock) (labels : List (List ℕ)) (b : ℕ) (term : Term) (op : Op) (label : Option (List ℕ))
    → AreLabels blocks labels → LeadsIn blocks b term → transfer_op_of term ≡ Some op → is_jump op ≡ true → label ≡ label_of blocks term
    → IsSomeAnd label (Contains labels)
jump_label blocks labels b Fall op label known l q j s = absurd (cc q)
jump_label blocks labels b (Jump to) op label known l q j s =
    let r = there blocks to (l 0 0 (omega arith)).1 in
    some_and (Contains labels) label (let x = r.0 in x.label) (s ∙ r.2) (known to.0 r.0 r.1)
jump_label blocks labels b (Branch pred sense to) op label known l q j s =
    let r = there blocks to (l 1 0 (omega arith)).1 in
    some_and (Contains labels) label (let x = r.0 in x.label) (s ∙ r.2) (known to.0 r.0 r.1)
jump_label blocks labels b (Ret value) op label known l q j s =
    let k : Jumpr ≡ op = cc q in let z : true ≡ false = sym j ∙ ap is_jump (sym k) in absurd (cc z)

-- a terminator of the last block always leaves it
last_leaves : (blocks : List ExtBlock) (b : ℕ) (term : Term) (op : Op) → b + 1 ≡ length blocks → LeadsIn blocks b term
    → transfer_op_of term ≡ Some op → is_leaving op ≡ true
last_leaves blocks b Fall op s l q = absurd (cc q)
last_leaves blocks b (Jump to) op s l q = let k : JumpOp ≡ op = cc q in ap is_leaving (sym k)
last_leaves blocks b (Branch pred sense to) op s l q = let z = (l 0 0 (omega arith)).1 in absurd (omega (arith, z, s))
last_leaves blocks b (Ret value) op s l q = let k : Jumpr ≡ op = cc q in ap is_leaving (sym k)

falls_not : (blocks : List ExtBlock) (b : ℕ) (term : Term) → b + 1 ≡ length blocks → LeadsIn blocks b term → term ≡ Fall → ⊥
falls_not blocks b term s l q = let z = subst (LeadsIn blocks b) q l in let y = (z 0 0 (omega arith)).1 in omega (arith, y, s)

length-packets : (jobs : List Job) (a n : ℕ) → length (packets_from jobs a n) ≡ n
length-packets jobs a n = length-map-range_with_len (packet_of jobs) a n

packet_at : (jobs : List Job) (n i : ℕ) → i < n → slice_get (packets_from jobs 1 n) i ≡ Some (packet_of jobs (1 + i))
packet_at jobs n i lt =
    slice_get-map (packet_of jobs) (range_with_len 1 n) i ∙ ap (option_map (packet_of jobs)) (get_range 1 n i lt)

-- the last of these packets always leaves
abbrev pub LastLeaves : List Packet → Type 0
LastLeaves packets = (i : ℕ) × (i + 1 ≡ length packets) × IsSomeAnd (slice_get packets i) (λ (p : Packet). leaves p ≡ true)

-- every jump of these packets leads to one of the labels
abbrev pub AllLead : List (List ℕ) → Packet → Type 0
AllLead labels p = All (LeadsToOneOf labels) p.instrs

module _ (e : Ext) (o : Options) (values : List ℕ) (h : Solved e o values) (k : ℕ) (block : ExtBlock)
    (r : InRegion (all e o values) k block) (at : slice_get e.blocks k ≡ Some block) where
  abbrev own : List Placed
  own = region_placed r.region

  abbrev pub jobs : List Job
  jobs = own_jobs e o values h (words e o values h) (placing e o values h) k block r

  abbrev pub the_end : ℕ
  the_end = own_end e o values h (words e o values h) (placing e o values h) k block r

  abbrev pub packets : List Packet
  packets = packets_from jobs 1 (the_end - 1)

  pub timed : Timed e.table (temps_of e o values h k) (words e o values h) the_end jobs
  timed = block_timed e o values h (words e o values h) (placing e o values h) k block r at

  last_cycle : (j : Job) → Member j jobs → is_transfer j.instr.op ≡ true → j.cycle + 1 ≡ the_end
  last_cycle j m t = let z = timed in each_member (λ (x : Job). is_transfer x.instr.op ≡ true → x.cycle + 1 ≡ the_end) jobs j z.last m t

  -- no packet before the last one has a transfer
  stays : (c : ℕ) → 1 ≤ c → c + 1 < the_end → transfers (packet_of jobs c) ≡ false
  stays c le lt =
      let js = packet_jobs jobs c in
      let w = together e.table (temps_of e o values h k) (words e o values h) the_end jobs c timed le in
      let Stays : Job → Type 0 = λ j. is_transfer j.instr.op ≡ false in
      let Here : Job → Type 0 = λ j. j.cycle ≡ c → Stays j in
      let inner : (j : Job) → Member j jobs → Here j = λ j m q. is_false (is_transfer j.instr.op) (λ t.
      let z = last_cycle j m t in absurd (omega (arith, z, q, lt))) in
      let here = each_packet Here jobs c (each_of Here jobs inner) (λ q. refl) in
      let all = each_of Stays js (λ j m. each_member Here js j here m (each_member (λ (j : Job). j.cycle ≡ c) js j w.cycle m)) in
      let stay = each_map (λ (i : Instr). is_transfer i.op ≡ false) (λ (j : Job). j.instr) js all in
      any_none (λ (i : Instr). is_transfer i.op) (instrs js) stay

  pub transfers_last : TransfersLast packets
  transfers_last = λ i lt.
      let n = length-packets jobs 1 (the_end - 1) in
      let at = packet_at jobs (the_end - 1) i (omega (arith, n, lt)) in
      let none = stays (1 + i) (omega arith) (omega (arith, n, lt)) in
      some_and (λ (p : Packet). transfers p ≡ false) (slice_get packets i) (packet_of jobs (1 + i)) at none

  -- where all labels are those of the blocks, each jump leads to one of them
  pub targets : (labels : List (List ℕ)) → AreLabels e.blocks labels → All (AllLead labels) packets
  targets labels known =
      let Leads : Job → Type 0 = λ j. LeadsToOneOf labels j.instr in
      let cycles = range_with_len 1 (the_end - 1) in
      all_each (AllLead labels) packets (each_map (AllLead labels) (packet_of jobs) cycles
      (each_of (λ (c : ℕ). AllLead labels (packet_of jobs c)) cycles (λ c m.
      let js = packet_jobs jobs c in
      let lead = each_packet Leads jobs c (each_job e o values h Leads own leads) tt in
      all_each (LeadsToOneOf labels) (instrs js) (each_map (LeadsToOneOf labels) (λ (j : Job). j.instr) js lead))))
    where
      leads : (p : Placed) (j : Job) → Member p own → IsJob e o values h p j → LeadsToOneOf labels j.instr
      leads p j m g = by_jump (is_jump j.instr.op) refl
        where
          by_jump : (b : Bool) → is_jump j.instr.op ≡ b → OnTrue b (IsSomeAnd j.instr.label (Contains labels))
          by_jump false q = tt
          by_jump true q =
              let pm = here e o values h (words e o values h) (placing e o values h) k block r p m in
              let issues = job_op e o values h p j g in
              let own = own_by p.op.kind j.instr.op in
              let t = transfer_kind e o values h k block r at p own m issues
              (transfer_alike p.op.kind j.instr.op ∙ jump_transfer j.instr.op q) in
              let label = job_label e o values h k block r at p j t.0 g t.1 in
              let inside = end_leads e o values h p pm t.0 t.1 in
              jump_label e.blocks labels p.block t.0 own j.instr.label known inside t.2 (jump_alike p.op.kind j.instr.op ∙ q) label

  in_packet : (j : Job) → Member j jobs → Member j (packet_jobs jobs j.cycle)
  in_packet j m = go (jobs_at jobs j.cycle) (member_filter (issues_at j.cycle) jobs j m (eq-eqb j.cycle j.cycle refl))
    where
      go : (ks : List Job) → Member j ks → Member j (or_rest j.cycle ks)
      go [] n = elim n [ ]
      go (i ∷ is) n = n

  -- a job that leaves is in the last packet
  leaves_last : (j : Job) → Member j jobs → is_transfer j.instr.op ≡ true → is_leaving j.instr.op ≡ true → LastLeaves packets
  leaves_last j m t leaving =
      let z = timed in
      let js = packet_jobs jobs j.cycle in
      let late = each_member (λ (j : Job). 1 ≤ j.cycle) jobs j z.late m in
      let last = last_cycle j m t in
      let n = length-packets jobs 1 (the_end - 1) in
      let mem = member_map (λ (j : Job). j.instr) js j (in_packet j m) in
      let here : leaves (packet_of jobs j.cycle) ≡ true = any_true (λ (i : Instr). is_leaving i.op) (instrs js) j.instr mem leaving in
      let cycle : 1 + (j.cycle - 1) ≡ j.cycle = omega (arith, late) in
      let at = packet_at jobs (the_end - 1) (j.cycle - 1) (omega (arith, late, last)) ∙ ap (λ c. Some (packet_of jobs c)) cycle in (
        j.cycle - 1,
        omega (arith, n, late, last),
        some_and (λ (p : Packet). leaves p ≡ true) (slice_get packets (j.cycle - 1)) (packet_of jobs j.cycle) at here,
      )

  -- the last block ends by leaving
  pub ends_by_leaving : k + 1 ≡ length e.blocks → LastLeaves packets
  ends_by_leaving s = by_end (end_job e o values h k block r at)
    where
      leads : LeadsIn e.blocks k (let x = ending_of block.ops in x.term)
      leads = let g = good e o values h in g.leads k block at

      by_end : EndJob e o values h k block r at → LastLeaves packets
      by_end (no_job none q) = absurd (falls_not e.blocks k (let x = ending_of block.ops in x.term) s leads q)
      by_end (one_job p j term mp g tr kp top q) =
          let f = found (λ (j : Job). is_transfer j.instr.op) jobs j tr in
          let l = subst (LeadsIn e.blocks k) (ap (λ (x : Ending). x.term) q) leads in
          leaves_last j f.0 f.1 (sym (leaving_alike (End term) j.instr.op) ∙ last_leaves e.blocks k term (own_op j.instr.op) s l top)
