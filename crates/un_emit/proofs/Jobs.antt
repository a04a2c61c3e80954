-- The jobs of a block's operations, and that the emitted packets are those of the jobs.
use Rattle.std.proofs.Common.{ℕ, ◌≡◌, ◌+◌, Bool, true, false, cond, List, [], ◌∷◌, ◌++◌, map, filter, refl, sym, ap, ◌∙◌}
use Rattle.std.specs.Prelude.{Option, Some, None, slice_get, ◌==◌, if◌then◌else◌}
use Rattle.std.specs.List.{zip}
use Rattle.std.specs.Option.{option_map, option_to_list}
use Rattle.un_base.specs.declared.ids.TempId.{TempId}
use Rattle.un_base.specs.declared.ids.VarId.{VarId}
use Rattle.un_isa.specs.declared.instr.Instr.{Instr}
use Rattle.un_ir.specs.declared.extended.Operand.{Operand}
use Rattle.un_ir.specs.declared.extended.ExtOp.{ExtOp}
use Rattle.un_ir.specs.declared.extended.ExtBlock.{ExtBlock}
use Rattle.un_model.specs.declared.model.OpVars.{OpVars}
use Rattle.un_model.specs.declared.model.Model.{Model}
use Rattle.un_model.specs.Cost.{value_of}
use Rattle.un_model.specs.Emission.{emitted_instr, issued_in, instrs_in, or_nop}
use Rattle.un_model.specs.Pairs.{places_from, joined}
use Rattle.un_model.specs.Schedules.{choice_of, cycle_of}
use Rattle.un_model.specs.Variables.{op_vars, ops_vars, var_count, var_at, ops_count, block_vars}
use Rattle.un_lists.proofs.Lists.{map-append}
use Rattle.un_model.proofs.Placed.{Placed, placed, block_placed, vars_of, issue_at, end_of}
use Rattle.un_emit.proofs.Timed.{Job, instrs, jobs_at, issues_at, or_rest, packet_jobs}

-- the temporaries that an operation reads, and the one that it gives
abbrev pub read_temps : List ℕ → Placed → List ℕ
read_temps values p = places_from (λ (j : ℕ) (x : Operand). (choice_of values (vars_of p) j x).0) 0 p.op.operands

abbrev pub given_temp : Placed → Option ℕ
given_temp p = option_map (λ (x : TempId). x.0) (slice_get p.op.results 0)

abbrev pub job_with : List ℕ → Placed → Instr → Job
job_with values p i = record { cycle = (issue_at values p).cycle; instr = i; reads = read_temps values p; gives = given_temp p }

abbrev pub job_by : List ℕ → Placed → Option Instr → List Job
job_by values p None = []
job_by values p (Some i) = job_with values p i ∷ []

module _ (m : Model) (values : List ℕ) where
  abbrev pub instr_at : Placed → Option Instr
  instr_at p = emitted_instr m values p.op (vars_of p)

  -- the job of an operation that issues an instruction
  abbrev pub job_of : Placed → List Job
  job_of p = job_by values p (instr_at p)

  abbrev pub jobs_of : List Placed → List Job
  jobs_of ps = joined (map job_of ps)

  filter-append : (t : Job → Bool) (xs ys : List Job) → filter t (xs ++ ys) ≡ filter t xs ++ filter t ys
  filter-append t [] ys = refl
  filter-append t (x ∷ xs) ys =
      let k = filter-append t xs ys in
      elim (t x) as (λ b. cond b (x ∷ filter t (xs ++ ys)) (filter t (xs ++ ys)) ≡ cond b (x ∷ filter t xs) (filter t xs) ++
      filter t ys) [ true ↦ ap (λ zs. x ∷ zs) k | false ↦ k ]

  abbrev issued : ℕ → Placed → List Instr
  issued c p = issued_in m values (end_of values p) c p.op (vars_of p)

  one_issued : (c : ℕ) (p : Placed) (i : Option Instr) → instrs (filter (issues_at c) (job_by values p i)) ≡
      (if cycle_of values (end_of values p) p.op (vars_of p) == c then option_to_list i else [])
  one_issued c p None = elim (cycle_of values (end_of values p) p.op (vars_of p) == c) as
      (λ b. instrs [] ≡ (if b then [] else [])) [ true ↦ refl | false ↦ refl ]
  one_issued c p (Some i) =
      let j = job_with values p i in
      elim (cycle_of values (end_of values p) p.op (vars_of p) == c) as
      (λ b. instrs (cond b (j ∷ []) []) ≡ (if b then i ∷ [] else [])) [ true ↦ refl | false ↦ refl ]

  issued_are : (c : ℕ) (ps : List Placed) → instrs (jobs_at (jobs_of ps) c) ≡ joined (map (issued c) ps)
  issued_are c [] = refl
  issued_are c (p ∷ ps) =
      ap instrs (filter-append (issues_at c) (job_of p) (jobs_of ps))
      ∙ map-append (λ (j : Job). j.instr) (filter (issues_at c) (job_of p)) (filter (issues_at c) (jobs_of ps))
      ∙ ap (λ is. is ++ instrs (jobs_at (jobs_of ps) c)) (one_issued c p (instr_at p))
      ∙ ap (λ is. issued c p ++ is) (issued_are c ps)

  zipped : (c : ℕ) (b : ℕ) (owner : ExtBlock) (close : VarId) (n first : ℕ) (ops : List ExtOp)
      → map (λ (o : ExtOp × OpVars). issued_in m values (value_of values close) c o.0 o.1) (zip ops (ops_vars first ops)) ≡ map (issued c)
      (placed b owner close n first ops)
  zipped c b owner close n first [] = refl
  zipped c b owner close n first (op ∷ ops) = ap (λ is. issued_in m values (value_of values close) c op (op_vars first op) ∷ is)
      (zipped c b owner close (n + 1) (first + var_count op) ops)

  rested : (c : ℕ) (ks : List Job) → instrs (or_rest c ks) ≡ or_nop (instrs ks)
  rested c [] = refl
  rested c (k ∷ ks) = refl

  -- the instructions of a cycle are those of its jobs
  pub cycle_instrs : (b n first c : ℕ) (block : ExtBlock) → instrs (packet_jobs (jobs_of (block_placed b n first block)) c) ≡ or_nop
      (instrs_in m values block (block_vars first block) c)
  cycle_instrs b n first c block =
      let close = var_at (first + ops_count block.ops) in
      rested c (jobs_at (jobs_of (block_placed b n first block)) c)
      ∙ ap or_nop (issued_are c (block_placed b n first block) ∙ ap joined (sym (zipped c b block close n first block.ops)))

  pub block_instrs : (b n first : ℕ) (block : ExtBlock) (cs : List ℕ)
      → map (λ (c : ℕ). instrs (packet_jobs (jobs_of (block_placed b n first block)) c)) cs ≡ map
      (λ (c : ℕ). or_nop (instrs_in m values block (block_vars first block) c)) cs
  block_instrs b n first block [] = refl
  block_instrs b n first block (c ∷ cs) =
      ap (λ is. is ∷ map (λ (c : ℕ). instrs (packet_jobs (jobs_of (block_placed b n first block)) c)) cs) (cycle_instrs b n first c block)
      ∙ ap (λ iss. or_nop (instrs_in m values block (block_vars first block) c) ∷ iss) (block_instrs b n first block cs)
