-- The jobs of one block of a solution: which operation each comes from, and what the clauses on pairs of operations say of them.
use Rattle.std.proofs.Common.{ℕ, zero, suc, ◌≡◌, ◌≢◌, ◌<◌, ◌≤◌, ◌+◌, Bool, true, false, ◌&&◌, ◌||◌, List, [], ◌∷◌, ◌++◌, length, ◌⊎◌, inl}
use Rattle.std.proofs.Common.{inr, ⊎_elim, refl, sym, ap, ◌∙◌, subst, arith, append_assoc}
use Rattle.std.specs.Prelude.{Option, Some, None, slice_get, is_some, ◌==◌, nat_eq, if◌then◌else◌}
use Rattle.std.specs.Option.{option_map}
use Rattle.std.proofs.lemmas.Bool.{cases_eq}
use Rattle.un_base.specs.declared.ids.TempId.{TempId}
use Rattle.un_base.specs.declared.ids.VarId.{VarId}
use Rattle.un_isa.specs.declared.op.Op.{Op}
use Rattle.un_isa.specs.declared.op.Op.TheVariants.{Call, Spill, Reload, Enter as EnterOp, Leave as LeaveOp}
use Rattle.un_isa.specs.declared.reg.TheConstants.{FIRST_SLOT}
use Rattle.un_isa.specs.declared.reg.Reg.{Reg}
use Rattle.un_isa.specs.declared.instr.Instr.{Instr}
use Rattle.un_isa.specs.Does.{moves_stack}
use Rattle.un_ir.specs.declared.function.Kind.TheVariants.{Pred}
use Rattle.un_ir.specs.declared.function.SrcOp.{SrcOp}
use Rattle.un_ir.specs.declared.extended.NodeCopy.{NodeCopy}
use Rattle.un_ir.specs.declared.extended.ExtKind.{ExtKind}
use Rattle.un_ir.specs.declared.extended.ExtKind.TheVariants.{In, Out, Body, End, Copy, Enter, Leave}
use Rattle.un_ir.specs.declared.extended.ExtOp.{ExtOp}
use Rattle.un_ir.specs.declared.extended.ExtBlock.{ExtBlock}
use Rattle.un_ir.specs.declared.extended.Ext.{Ext}
use Rattle.un_ir.specs.Extended.{result_count}
use Rattle.un_model.specs.declared.model.Options.{Options}
use Rattle.un_model.specs.Emission.{instr_by, instr_if, frame_of, operand_registers, result_register, source_instr, copy_instr}
use Rattle.un_model.specs.Emission.{is_beside, emitted_by}
use Rattle.un_model.specs.Instructions.{instruction_of, frame_instr}
use Rattle.un_ir.specs.Kinds.{is_delimiter}
use Rattle.un_model.specs.Schedules.{instr_of, schedule_of, value_by}
use Rattle.un_model.specs.Variables.{model_of, var_at, var_count, ops_count, block_count, block_vars, blocks_vars}
use Rattle.un_lists.proofs.Lists.{Each, Pairwise, Member, each_member, each_of, pairwise_append_left, pairwise_append_right}
use Rattle.un_lists.proofs.Lists.{member_append_left, member_append_right}
use Rattle.un_emit.proofs.Timed.{Job, Deed}
use Rattle.un_model.proofs.Placed.{Placed, placed, block_placed, blocks_placed, vars_of, issue_at, Region, region_placed}
use Rattle.un_model.proofs.PlacedSchedules.{all, range_at, joined_member}
use Rattle.un_model.proofs.Readings.{Solved, placed_good}
use Rattle.un_emit.proofs.Jobs.{job_with, job_by, instr_at, job_of, jobs_of}
use Rattle.un_emit.proofs.JobDeeds.{temps_of, deed_source, beside, deed_end, deed_shift, deed_copy}
use Rattle.un_emit.proofs.Own.{own_by, own_emitted}

-- ---- the operations of a block among all

placed_block : (b : ℕ) (owner : ExtBlock) (close : VarId) (n first : ℕ) (ops : List ExtOp) (p : Placed)
    → Member p (placed b owner close n first ops) → p.block ≡ b
placed_block b owner close n first [] p m = elim m [ ]
placed_block b owner close n first (op ∷ ops) p (inl e) = ap (λ (q : Placed). q.block) (sym e)
placed_block b owner close n first (op ∷ ops) p (inr m) = placed_block b owner close (n + 1) (first + var_count op) ops p m

part : {X : Type 0} (xs ys : List X) (x : X) → Member x (xs ++ ys) → Member x xs ⊎ Member x ys
part [] ys x m = inr m
part (z ∷ zs) ys x (inl e) = inl (inl e)
part (z ∷ zs) ys x (inr m) = ⊎_elim (λ (k : Member x zs). inl (inr k)) (λ (k : Member x ys). inr k) (part zs ys x m)

blocks_from : (b n first : ℕ) (blocks : List ExtBlock) (p : Placed) → Member p (blocks_placed b n first blocks) → b ≤ p.block
blocks_from b n first [] p m = elim m [ ]
blocks_from b n first (block ∷ blocks) p m =
    let here = block_placed b n first block in
    let rest = blocks_placed (b + 1) (n + length block.ops) (first + block_count block) blocks in
    ⊎_elim (λ (k : Member p here). let z = placed_block b block (var_at (first + ops_count block.ops)) n first block.ops p k in omega arith)
    (λ (k : Member p rest). let z = blocks_from (b + 1) (n + length block.ops) (first + block_count block) blocks p k in omega arith)
    (part here rest p m)

-- the first numbers of a block, and what is before and after it
pub record InRegion (alls : List Placed) (k : ℕ) (block : ExtBlock) : Type 0 where
  pub region : Region
  pub number : region.block ≡ k
  pub owner : region.owner ≡ block
  pub before : List Placed
  pub after : List Placed
  pub is : alls ≡ before ++ (region_placed region ++ after)
  pub all_in : (p : Placed) → Member p alls → p.block ≡ k → Member p (region_placed region)

pub region_of : (b n first k : ℕ) (blocks : List ExtBlock) (block : ExtBlock) → slice_get blocks k ≡ Some block
    → InRegion (blocks_placed b n first blocks) (b + k) block
region_of b n first k [] block e = absurd (cc e)
region_of b n first zero (c ∷ cs) block e =
    let here = block_placed b n first c in
    let rest = blocks_placed (b + 1) (n + length c.ops) (first + block_count c) cs in
    record {
      region = record { block = b; number = n; first = first; owner = c };
      number = omega arith;
      owner = cc e;
      before = [];
      after = rest;
      is = refl;
      all_in = λ p m q. ⊎_elim (λ (k : Member p here). k) (λ (k : Member p rest). let z =
          blocks_from (b + 1) (n + length c.ops) (first + block_count c) cs p k in absurd (omega arith)) (part here rest p m);
    }
region_of b n first (suc k) (c ∷ cs) block e =
    let here = block_placed b n first c in
    let rest = blocks_placed (b + 1) (n + length c.ops) (first + block_count c) cs in
    let r = region_of (b + 1) (n + length c.ops) (first + block_count c) k cs block e in
    let num = r.number in
    record {
      region = r.region;
      number = omega arith;
      owner = r.owner;
      before = here ++ r.before;
      after = r.after;
      is = ap (λ ps. here ++ ps) r.is ∙ sym (append_assoc here r.before (region_placed r.region ++ r.after));
      all_in = λ p m q. ⊎_elim (λ (j : Member p here). let z = placed_block b c (var_at (first + ops_count c.ops)) n first c.ops p j in
          absurd (omega arith)) (λ (j : Member p rest). r.all_in p j (omega arith)) (part here rest p m);
    }

-- the variables of block k are those of its region
pub vars_at : (b n first k : ℕ) (blocks : List ExtBlock) (block : ExtBlock) (q : slice_get blocks k ≡ Some block)
    → slice_get (blocks_vars first blocks) k ≡ Some (let r = region_of b n first k blocks block q in let g = r.region in
    block_vars g.first block)
unfolding region_of
vars_at b n first k [] block q = absurd (cc q)
vars_at b n first zero (c ∷ cs) block q = let z : c ≡ block = cc q in ap (λ (x : ExtBlock). Some (block_vars first x)) z
vars_at b n first (suc k) (c ∷ cs) block q = vars_at (b + 1) (n + length c.ops) (first + block_count c) k cs block q

pub in_region : (alls : List Placed) (k : ℕ) (block : ExtBlock) (r : InRegion alls k block) (p : Placed) → Member p (region_placed r.region)
    → Member p alls
in_region alls k block r p m = subst (Member p) (sym r.is) (member_append_right r.before (region_placed r.region ++ r.after) p
    (member_append_left (region_placed r.region) r.after p m))

pub region_block : (r : Region) (p : Placed) → Member p (region_placed r) → p.block ≡ r.block
region_block r p m = placed_block r.block r.owner (var_at (r.first + ops_count (r.owner).ops)) r.number r.first (r.owner).ops p m

pub pairwise_region : (R : Placed → Placed → Type 0) (alls : List Placed) (k : ℕ) (block : ExtBlock) (r : InRegion alls k block)
    → Pairwise R alls → Pairwise R (region_placed r.region)
pairwise_region R alls k block r h = pairwise_append_left R (region_placed r.region) r.after
    (pairwise_append_right R r.before (region_placed r.region ++ r.after) (subst (Pairwise R) r.is h))

module _ (e : Ext) (o : Options) (values : List ℕ) (h : Solved e o values) where
  -- ---- jobs and their operations

  -- the job of an operation
  pub record IsJob (p : Placed) (j : Job) : Type 0 where
    pub instr : Instr
    pub emitted : instr_at (model_of e o) values p ≡ Some instr
    pub is : j ≡ job_with values p instr
    pub issues : (issue_at values p).instr ≡ Some (own_by p.op.kind instr.op)

  source_op : (so : SrcOp) (op : Op) (srcs : List Reg) (dst : Option Reg) → (source_instr so op srcs dst).op ≡ op
  source_op so Call srcs dst = refl
  source_op so _ srcs dst = refl

  copied_op : (op : Op) (srcs : List Reg) (dst : Option Reg) → (copy_instr op srcs dst).op ≡ op
  copied_op Spill srcs dst = refl
  copied_op Reload srcs dst = refl
  copied_op _ srcs dst = refl

  instr_op : (kind : ExtKind) (op : Op) (srcs : List Reg) (dst : Option Reg) (i : Instr)
      → instr_by e.blocks (frame_of (model_of e o) values) kind op srcs dst ≡ Some i → i.op ≡ op
  instr_op In op srcs dst i q = absurd (cc q)
  instr_op Out op srcs dst i q = absurd (cc q)
  instr_op (Body so) op srcs dst i q = let k : source_instr so op srcs dst ≡ i = cc q in ap (λ (x : Instr). x.op) (sym k)
      ∙ source_op so op srcs dst
  instr_op (End term) op srcs dst i q = let k = ap (λ (x : Option Instr). option_map (λ (y : Instr). y.op) x) q in cc k
  instr_op (Copy node) op srcs dst i q = let k : copy_instr op srcs dst ≡ i = cc q in ap (λ (x : Instr). x.op) (sym k)
      ∙ copied_op op srcs dst
  instr_op Enter op srcs dst i q = let k = ap (λ (x : Option Instr). option_map (λ (y : Instr). y.op) x) q in cc k
  instr_op Leave op srcs dst i q = let k = ap (λ (x : Option Instr). option_map (λ (y : Instr). y.op) x) q in cc k

  issued_op : (p : Placed) (x : Option Op) (i : Instr) → instr_of values p.op (vars_of p) ≡ x
      → instr_if (model_of e o) values p.op (vars_of p) x ≡ Some i → instr_of values p.op (vars_of p) ≡ Some (own_by p.op.kind i.op)
  issued_op p None i q g = absurd (cc g)
  issued_op p (Some op) i q g =
      let b = is_beside (schedule_of (model_of e o) values).ranges values p.op (vars_of p) in
      let is = instr_op p.op.kind (emitted_by b p.op.kind op) (operand_registers (model_of e o) values p.op (vars_of p))
      (result_register (model_of e o) values p.op) i g in
      q ∙ ap Some (sym (ap (own_by p.op.kind) is ∙ own_emitted b p.op.kind (value_by values (vars_of p).instr) op q))

  pub job_is : (p : Placed) (x : Option Instr) (j : Job) → instr_at (model_of e o) values p ≡ x → Member j (job_by values p x) → IsJob p j
  job_is p None j q m = elim m [ ]
  job_is p (Some i) j q (inl s) = record {
    instr = i;
    emitted = q;
    is = sym s;
    issues =
        issued_op p (instr_of values p.op (vars_of p)) i refl q;
  }
  job_is p (Some i) j q (inr n) = elim n [ ]

  pub job_from : (ps : List Placed) (j : Job) → Member j (jobs_of (model_of e o) values ps) → (p : Placed) × (Member p ps) × IsJob p j
  job_from ps j m = let r = joined_member (job_of (model_of e o) values) ps j m in
      (r.0, r.1, job_is r.0 (instr_at (model_of e o) values r.0) j refl r.2)

  pub each_job : (Q : Job → Type 0) (ps : List Placed) → ((p : Placed) (j : Job) → Member p ps → IsJob p j → Q j)
      → Each Q (jobs_of (model_of e o) values ps)
  each_job Q ps f = each_of Q (jobs_of (model_of e o) values ps) (λ j m. let r = job_from ps j m in f r.0 j r.1 r.2)

  each_by : (Q : Job → Type 0) (p : Placed) (x : Option Instr) → instr_at (model_of e o) values p ≡ x → ((j : Job) → IsJob p j → Q j)
      → Each Q (job_by values p x)
  each_by Q p None q f = tt
  each_by Q p (Some i) q f = (f (job_with values p i) (job_is p (Some i) (job_with values p i) q (inl refl)), tt)

  -- what holds of each two operations, the earlier one first, holds of their jobs
  pub pairwise_jobs : (R : Job → Job → Type 0) (S : Placed → Placed → Type 0) (ps : List Placed) → Pairwise S ps
      → ((p q : Placed) (i j : Job) → Member p ps → Member q ps → S p q → IsJob p i → IsJob q j → R i j)
      → Pairwise R (jobs_of (model_of e o) values ps)
  pairwise_jobs R S [] w f = tt
  pairwise_jobs R S (p ∷ ps) w f =
      let rest = pairwise_jobs R S ps w.1 (λ a b i j ma mb. f a b i j (inr ma) (inr mb)) in
      joins (instr_at (model_of e o) values p) refl rest
    where
      joins : (x : Option Instr) → instr_at (model_of e o) values p ≡ x → Pairwise R (jobs_of (model_of e o) values ps)
          → Pairwise R (job_by values p x ++ jobs_of (model_of e o) values ps)
      joins None q rest = rest
      joins (Some i) q rest =
          let j = job_with values p i in (
            each_job (R j) ps (λ b k mb jb. f p b j k (inl refl) (inr mb) (each_member (S p) ps b w.0 mb) (job_is p (Some i) j q (inl refl))
                jb),
            rest,
          )

  -- ---- deeds

  pub some_active : (p : Placed) (op : Op) → instr_of values p.op (vars_of p) ≡ Some op → (issue_at values p).active ≡ true
  some_active p op q = ap (λ (x : Option Op). is_delimiter p.op.kind || is_some x) q ∙ go (is_delimiter p.op.kind)
    where
      go : (b : Bool) → (b || true) ≡ true
      go true = refl
      go false = refl

  shift_is : (op : Op) (q : Op) (n : ℕ) → frame_instr q n ≡ Some op → moves_stack q ≡ true → moves_stack op ≡ true
  shift_is op q n f s = go (n == 0) f
    where
      go : (b : Bool) → (if b then None else Some q) ≡ Some op → moves_stack op ≡ true
      go true f = absurd (cc f)
      go false f = let k : q ≡ op = cc f in ap moves_stack (sym k) ∙ s

  -- a copy between predicates and words carries a truth value, and places lie within the frame
  pub record Placing (slots : ℕ) : Type 0 where
    pub truths : (p : Placed) (node : NodeCopy) → Member p (all e o values) → p.op.kind ≡ Copy node → 4 ≤ value_by values (vars_of p).instr
        → (y : TempId) → p.op.results ≡ y ∷ [] → (let T = temps_of e o values h p.block in T.kind y.0) ≡ Pred
    pub within : (k : ℕ) → (range_at e o values k).active ≡ true → (range_at e o values k).reg < FIRST_SLOT + slots
    pub not_stack : (k : ℕ) → (range_at e o values k).active ≡ true → (range_at e o values k).reg ≢ 29

  pub active_of : (k b : ℕ) → (let T = temps_of e o values h b in T.active k ≡ true) → ((range_at e o values k).active ≡ true)
      × ((range_at e o values k).block.0 ≡ b)
  active_of k b a = go (range_at e o values k).active (nat_eq (range_at e o values k).block.0 b) refl refl a
    where
      go : (x y : Bool) → (range_at e o values k).active ≡ x → nat_eq (range_at e o values k).block.0 b ≡ y → (x && y) ≡ true
          → ((range_at e o values k).active ≡ true) × ((range_at e o values k).block.0 ≡ b)
      go true true p q r = (
        p,
        ⊎_elim (λ (e : (range_at e o values k).block.0 ≡ b). e)
            (λ (n : (range_at e o values k).block.0 ≢ b). absurd (grind (arith, q))) (cases_eq (range_at e o values k).block.0 b),
      )
      go true false p q r = absurd (cc r)
      go false y p q r = absurd (cc r)

  deed_with : (slots : ℕ) → Placing slots → (p : Placed) → Member p (all e o values) → (x : Option Op)
      → instr_of values p.op (vars_of p) ≡ x → Each (Deed e.table (temps_of e o values h p.block) slots)
      (job_by values p (instr_if (model_of e o) values p.op (vars_of p) x))
  deed_with slots w p m None q = tt
  deed_with slots w p m (Some op) q = subst (λ (k : ExtKind). Each (Deed e.table (temps_of e o values h p.block) slots)
      (job_by values p (instr_by e.blocks (frame_of (model_of e o) values) k (emitted_by (beside e o values h p m) k op) srcs dst))) refl
      (by_kind p.op.kind refl)
    where
      srcs : List Reg
      srcs = operand_registers (model_of e o) values p.op (vars_of p)

      dst : Option Reg
      dst = result_register (model_of e o) values p.op

      act : (issue_at values p).active ≡ true
      act = some_active p op q

      with_kind : (k : ExtKind) → p.op.kind ≡ k → instruction_of k (value_by values (vars_of p).instr) ≡ Some op
      with_kind k s = ap (λ (x : ExtKind). instruction_of x (value_by values (vars_of p).instr)) (sym s) ∙ q

      counted : (k : ExtKind) → p.op.kind ≡ k → result_count e.table p.owner k ≡ 0 → length p.op.results ≡ 0
      counted k s z = let g = placed_good e o values h p m in let f = g.keeps in f.results ∙ ap (result_count e.table p.owner) s ∙ z

      by_kind : (k : ExtKind) → p.op.kind ≡ k → Each (Deed e.table (temps_of e o values h p.block) slots)
          (job_by values p (instr_by e.blocks (frame_of (model_of e o) values) k (emitted_by (beside e o values h p m) k op) srcs dst))
      by_kind In s = tt
      by_kind Out s = tt
      by_kind (Body so) s =
          let f = with_kind (Body so) s in
          let same : so.op ≡ op = cc f in
          let d = deed_source e o values h p m slots so s act (q ∙ ap Some (sym same)) in (
            subst (λ (x : Op). Deed e.table (temps_of e o values h p.block) slots (job_with values p (source_instr so x srcs dst))) same d,
            tt,
          )
      by_kind (End term) s = (deed_end e o values h p m slots term op s act q (with_kind (End term) s), tt)
      by_kind (Copy node) s = (
        deed_copy e o values h p m slots node op s act q (with_kind (Copy node) s) (λ le y r. w.truths p node m s le y r)
            (λ x a. w.within x (active_of x p.block a).0),
        tt,
      )
      by_kind Enter s = (
        deed_shift e o values h p m slots op _ (shift_is op EnterOp (value_by values (vars_of p).instr) (with_kind Enter s)
            refl) (counted Enter s refl),
        tt,
      )
      by_kind Leave s = (
        deed_shift e o values h p m slots op _ (shift_is op LeaveOp (value_by values (vars_of p).instr) (with_kind Leave s)
            refl) (counted Leave s refl),
        tt,
      )

  pub deed_of : (slots : ℕ) → Placing slots → (p : Placed) (j : Job) → Member p (all e o values) → IsJob p j
      → Deed e.table (temps_of e o values h p.block) slots j
  deed_of slots w p j m g =
      let d = deed_with slots w p m (instr_of values p.op (vars_of p)) refl in
      let d' = subst (λ (x : Option Instr). Each (Deed e.table (temps_of e o values h p.block) slots) (job_by values p x)) g.emitted d in
      subst (Deed e.table (temps_of e o values h p.block) slots) (sym g.is) d'.0
