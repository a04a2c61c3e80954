-- The instructions of a packet have room in it, and a nop stands alone.
use Rattle.std.proofs.Common.{ℕ, ◌≡◌, ◌≤◌, ◌+◌, Bool, true, false, cond, List, [], ◌∷◌, ◌++◌, length, map, inl, refl, sym, ap, ◌∙◌, subst}
use Rattle.std.proofs.Common.{arith}
use Rattle.std.specs.Prelude.{Option, Some, None, nat_eq, ◌==◌, if◌then◌else◌, sum_by}
use Rattle.std.specs.Bool.{OnTrue}
use Rattle.std.specs.List.{list_any}
use Rattle.std.proofs.lemmas.Bool.{and_from, eq-eqb}
use Rattle.un_isa.specs.Facts.{class_of}
use Rattle.un_isa.specs.Hexagon.{needs_by as least_needs}
use Rattle.un_isa.specs.PacketCounts.{FitPacket}
use Rattle.un_isa.specs.declared.instr.Instr.{Instr}
use Rattle.un_isa.specs.declared.op.Op.{Op}
use Rattle.un_isa.specs.declared.op.Op.TheVariants.{Enter as EnterOp, Leave as LeaveOp, Nop}
use Rattle.un_isa.specs.declared.table.Needs.{Needs}
use Rattle.un_isa.specs.Does.{is_nop}
use Rattle.un_isa.proofs.DoesLaws.{source_nop, transfer_nop, copy_nop}
use Rattle.un_ir.specs.declared.extended.ExtBlock.{ExtBlock}
use Rattle.un_ir.specs.declared.extended.ExtKind.{ExtKind}
use Rattle.un_ir.specs.declared.extended.ExtKind.TheVariants.{In, Out, Body, End, Copy, Enter, Leave}
use Rattle.un_ir.specs.declared.extended.ExtOp.{ExtOp}
use Rattle.un_ir.specs.declared.extended.Ext.{Ext}
use Rattle.un_ir.specs.Extended.{IsGoodKind}
use Rattle.un_model.specs.declared.model.Options.{Options}
use Rattle.un_model.specs.declared.schedule.Issue.{Issue}
use Rattle.un_model.proofs.Transfers.{transfer_leaves, copy_copies, needs_at_least}
use Rattle.un_isa.specs.declared.packet_counts.Resource.{Resource}
use Rattle.un_isa.specs.declared.packet_counts.Resource.TheVariants.{Instructions, Memory, Stores, MultiplyOrControl, Control}
use Rattle.un_model.specs.Instructions.{instruction_of, frame_instr}
use Rattle.un_model.specs.Schedules.{issues_of, value_by}
use Rattle.un_model.specs.Solutions.{HasRoom, share_of, taken, issues_at as issues_in}
use Rattle.un_isa.specs.PacketCounts.{places_of}
use Rattle.un_model.specs.Variables.{model_of}
use Rattle.un_packet.specs.CodeRules.{needs_of}
use Rattle.un_emit.proofs.BlockJobs.{InRegion, job_is, each_job}
use Rattle.un_emit.proofs.BlockTimed.{own_jobs, its_block, here, job_op}
use Rattle.un_emit.proofs.Jobs.{job_with, job_by, instr_at, jobs_of}
use Rattle.un_emit.proofs.Own.{own_by, class_alike, nop_alike}
use Rattle.un_lists.proofs.Lists.{Each, Member, each_of, each_map, each_filter, any_none}
use Rattle.un_model.proofs.Placed.{Placed, vars_of, issue_at, issues_are, region_placed}
use Rattle.un_emit.proofs.Places.{words, placing}
use Rattle.un_model.proofs.Readings.{Solved, placed_good}
use Rattle.un_emit.proofs.RulesLists.{total, sum_total, total_map, total_append}
use Rattle.un_model.proofs.PlacedSchedules.{all}
use Rattle.un_emit.proofs.Timed.{Job, instrs, issues_at, jobs_at, or_rest, packet_jobs, rest_job}

-- ---- needs

-- ---- no operation is a nop

frame_busy : (x op : Op) (n : ℕ) → is_nop x ≡ false → frame_instr x n ≡ Some op → is_nop op ≡ false
frame_busy x op n f q = go (n == 0) q
  where
    go : (b : Bool) → (if b then None else Some x) ≡ Some op → is_nop op ≡ false
    go true q = absurd (cc q)
    go false q = let s : x ≡ op = cc q in ap is_nop (sym s) ∙ f

busy : (k : ExtKind) (n : ℕ) (op : Op) (x : ExtOp) → IsGoodKind k x → instruction_of k n ≡ Some op → is_nop op ≡ false
busy In n op x g q = absurd (cc q)
busy Out n op x g q = absurd (cc q)
busy (Body so) n op x g q = let s : so.op ≡ op = cc q in ap is_nop (sym s) ∙ source_nop so.op g.op
busy (End term) n op x g q = transfer_nop op (transfer_leaves term op q)
busy (Copy node) n op x g q = copy_nop op (copy_copies n op q)
busy Enter n op x g q = frame_busy EnterOp op n refl q
busy Leave n op x g q = frame_busy LeaveOp op n refl q

-- ---- a packet

abbrev has_nop : List Job → Bool
has_nop js = list_any (λ (i : Instr). is_nop i.op) (instrs js)

abbrev IsBusy : Job → Type 0
IsBusy j = is_nop j.instr.op ≡ false

alone : (c : ℕ) (js : List Job) → Each IsBusy js → OnTrue (has_nop (or_rest c js)) (length (instrs (or_rest c js)) ≡ 1)
alone c [] h = refl
alone c (j ∷ js) h =
    let busy = each_map (λ (i : Instr). is_nop i.op ≡ false) (λ (j : Job). j.instr) (j ∷ js) h in
    let none = any_none (λ (i : Instr). is_nop i.op) (instrs (j ∷ js)) busy in
    subst (λ (b : Bool). OnTrue b (length (instrs (j ∷ js)) ≡ 1)) (sym none) tt

rest_fits : (f : Job → ℕ) (n c : ℕ) (js : List Job) → total f js ≤ n → f (rest_job c) ≤ n → total f (or_rest c js) ≤ n
rest_fits f n c [] h g = omega arith
rest_fits f n c (j ∷ js) h g = h

needs_sum : (f : Needs → ℕ) (js : List Job) → sum_by f (map needs_of (instrs js)) ≡ total (λ (j : Job). f (needs_of j.instr)) js
needs_sum f js =
    sum_total f (map needs_of (instrs js)) ∙ total_map f needs_of (instrs js)
    ∙ total_map (λ (i : Instr). f (needs_of i)) (λ (j : Job). j.instr) js

needs_length : (js : List Job) → length (map needs_of (instrs js)) ≡ total (λ (j : Job). 1) js
needs_length [] = refl
needs_length (j ∷ js) = let z = needs_length js in omega (arith, z)

module _ (e : Ext) (o : Options) (values : List ℕ) (h : Solved e o values) (k : ℕ) (block : ExtBlock)
    (r : InRegion (all e o values) k block) where
  abbrev own : List Placed
  own = region_placed r.region

  abbrev jobs : List Job
  jobs = own_jobs e o values h (words e o values h) (placing e o values h) k block r

  abbrev jobs_in : List Placed → List Job
  jobs_in ps = jobs_of (model_of e o) values ps

  module _ (f : Op → ℕ) (res : Resource) (alike : (kind : ExtKind) (op : Op) → f (own_by kind op) ≡ f op)
      (need : (op : Op) → f op ≤ share_of e.table res (Some op)) (c : ℕ) where
    abbrev takes : Placed → ℕ
    takes p = if issues_in k c (issue_at values p) then share_of e.table res (issue_at values p).instr else 0

    abbrev uses : Job → ℕ
    uses j = f j.instr.op

    at_most : (ps : List Placed) → Each (λ (p : Placed). p.block ≡ k) ps → total uses (jobs_at (jobs_in ps) c) ≤ total takes ps
    at_most [] g = omega arith
    at_most (p ∷ ps) g = by_instr (instr_at (model_of e o) values p) refl (at_most ps g.1)
      where
        by_instr : (x : Option Instr) → instr_at (model_of e o) values p ≡ x → total uses (jobs_at (jobs_in ps) c) ≤ total takes ps
            → total uses (jobs_at (job_by values p x ++ jobs_in ps) c) ≤ takes p + total takes ps
        by_instr None q le = omega arith
        by_instr (Some i) q le = by_cycle (nat_eq (issue_at values p).cycle c) refl
          where
            by_cycle : (b : Bool) → nat_eq (issue_at values p).cycle c ≡ b
                → total uses (cond b (job_with values p i ∷ jobs_at (jobs_in ps) c) (jobs_at (jobs_in ps) c)) ≤ takes p + total takes ps
            by_cycle true s =
                let j = job_with values p i in
                let job = job_is e o values h p (Some i) j q (inl refl) in
                let now : issues_in k c (issue_at values p) ≡ true =
                and_from (p.block == k) ((issue_at values p).cycle == c) (eq-eqb p.block k g.0) s in
                let own = own_by p.op.kind i.op in
                let share : takes p ≡ share_of e.table res (Some own) =
                ap (λ (b : Bool). if b then share_of e.table res (issue_at values p).instr else 0) now
                ∙ ap (share_of e.table res) (job_op e o values h p j job) in
                let same : f own ≡ f i.op = alike p.op.kind i.op in
                let n = need own in
                omega (arith, share, same, n, le)
            by_cycle false s = omega (arith, le)

    room : taken e.table res (issues_of (model_of e o) values) k c ≤ places_of res
    unfolding HasRoom
    room = let s = h.schedule in s.packets k c res

    abbrev takes_issue : Issue → ℕ
    takes_issue i = if issues_in k c i then share_of e.table res i.instr else 0

    all_takes : taken e.table res (issues_of (model_of e o) values) k c ≡ total takes (all e o values)
    all_takes =
        sum_total takes_issue (issues_of (model_of e o) values) ∙ ap (total takes_issue) (issues_are values 0 0 0 e.blocks)
        ∙ total_map takes_issue (issue_at values) (all e o values)

    own_block : (p : Placed) → Member p own → p.block ≡ k
    own_block p m = its_block e o values h (words e o values h) (placing e o values h) k block r p m

    fits : f Nop ≤ places_of res → total uses (packet_jobs jobs c) ≤ places_of res
    fits nop =
        let le = at_most own (each_of (λ (p : Placed). p.block ≡ k) own own_block) in
        let parts = ap (total takes) r.is ∙ total_append takes r.before (own ++ r.after) in
        let parts' = total_append takes own r.after in
        let rm = room in
        let same = all_takes in
        rest_fits uses (places_of res) c (jobs_at jobs c) (omega (arith, le, parts, parts', rm, same)) nop

  abbrev least_of : (Needs → ℕ) → Op → ℕ
  least_of f op = f (least_needs (class_of op))

  -- how much of a resource a packet needs
  needed : (f : Needs → ℕ) (res : Resource) (c : ℕ) → ((op : Op) → least_of f op ≤ share_of e.table res (Some op))
      → least_of f Nop ≤ places_of res → sum_by f (map needs_of (instrs (packet_jobs jobs c))) ≤ places_of res
  needed f res c need nop =
      let s = needs_sum f (packet_jobs jobs c) in
      let z = fits (least_of f) res (λ kind op. ap (λ cl. f (least_needs cl)) (class_alike kind op)) need c nop in omega (arith, s, z)

  pub fit_packet : (c : ℕ) → FitPacket (map needs_of (instrs (packet_jobs jobs c)))
  fit_packet c = record {
    instructions =
        let l = needs_length (packet_jobs jobs c) in
        let z = fits (λ op. 1) Instructions (λ kind op. refl) (λ op. omega arith) c (omega arith) in omega (arith, l, z);
    mem = needed (λ (n : Needs). n.mem) Memory c (λ op. let x = needs_at_least e.table h.fit op in let y = x.mem in y.0) (omega arith);
    store = needed (λ (n : Needs). n.store) Stores c (λ op. let x = needs_at_least e.table h.fit op in let y = x.store in y.0) (omega arith);
    xc = needed (λ (n : Needs). n.xc) MultiplyOrControl c (λ op. let x = needs_at_least e.table h.fit op in let y = x.xc in y.0) (omega arith);
    control = needed (λ (n : Needs). n.control) Control c (λ op. let x = needs_at_least e.table h.fit op in let y = x.control in y.0) (omega arith);
  }

  none_idle : Each IsBusy jobs
  none_idle = each_job e o values h IsBusy own (λ p j m g.
      let pm = here e o values h (words e o values h) (placing e o values h) k block r p m in
      let good = placed_good e o values h p pm in
      let ks = good.keeps in
      sym (nop_alike p.op.kind j.instr.op)
      ∙ busy p.op.kind (value_by values (vars_of p).instr) (own_by p.op.kind j.instr.op) p.op ks.kind (job_op e o values h p j g))

  pub idle_alone : (c : ℕ) → OnTrue (has_nop (packet_jobs jobs c)) (length (instrs (packet_jobs jobs c)) ≡ 1)
  idle_alone c = alone c (jobs_at jobs c) (each_filter IsBusy (issues_at c) jobs none_idle)
