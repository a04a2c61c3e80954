-- The stack pointer in a block of a solution: the frame's first address once Enter has issued and until Leave issues.
use Rattle.std.proofs.Common.{ℕ, zero, suc, pos, neg_ℤ, negsuc, ◌≡◌, ◌≢◌, ◌<◌, ◌≤◌, ◌+◌, ◌-◌, ◌%◌, ◌^◌, Bool, true, false, cond, ◌&&◌, ◌||◌}
use Rattle.std.proofs.Common.{not, List, [], ◌∷◌, ◌⊎◌, inl, inr, ⊎_elim, refl, sym, ap, ◌∙◌, subst, arith}
use Rattle.un_base.specs.declared.ids.VarId.{VarId}
use Rattle.un_model.specs.Variables.{var_at, var_count, ops_count}
use Rattle.un_emit.proofs.Exits.{is_false}
use Rattle.un_emit.proofs.Holds.{Stacks, uses_frame}
use Rattle.un_model.proofs.OpDomains.{flag_sits}
use Rattle.un_emit.proofs.BlockTimed.{own_end, block_timed, shift_job, fold_with, once, flag_set, frame_apart, has_job, job_op, job_itself}
use Rattle.un_emit.proofs.Own.{own_op, own_by, stack_alike}
use Rattle.std.specs.Prelude.{Option, Some, None, slice_get, fold, nat_eq, nat_le, ◌==◌, is_some, if◌then◌else◌, IfSome, count_by}
use Rattle.std.specs.List.{list_any}
use Rattle.std.specs.Option.{option_map}
use Rattle.std.proofs.lemmas.Bool.{cases_eq, cases_lt, eq-eqb}
use Rattle.un_isa.specs.Words.{address_of, word_of, sum_of}
use Rattle.un_isa.specs.declared.op.Op.{Op}
use Rattle.un_isa.specs.declared.op.Op.TheVariants.{Nop, Spill, Reload, Enter as EnterOp, Leave as LeaveOp}
use Rattle.un_isa.specs.declared.instr.Instr.{Instr}
use Rattle.un_isa.specs.Does.{moves_stack}
use Rattle.un_ir.specs.declared.extended.ExtKind.{ExtKind}
use Rattle.un_ir.specs.declared.extended.ExtKind.TheVariants.{In, Out, Enter, Leave}
use Rattle.un_ir.specs.declared.extended.ExtOp.{ExtOp}
use Rattle.un_ir.specs.declared.extended.ExtBlock.{ExtBlock}
use Rattle.un_ir.specs.declared.extended.Ext.{Ext}
use Rattle.un_ir.specs.Extended.{is_enter, is_leave, one_if, returns}
use Rattle.un_model.specs.declared.model.Options.{Options}
use Rattle.un_model.specs.Emission.{frame_bytes, largest_slot, frame_of, instr_if, instr_by, operand_registers, result_register}
use Rattle.un_model.specs.Emission.{is_beside, emitted_by}
use Rattle.un_model.specs.Cost.{value_of}
use Rattle.un_model.specs.Instructions.{instruction_of, frame_instr}
use Rattle.un_ir.specs.Kinds.{is_frame_op, is_delimiter}
use Rattle.un_model.specs.Schedules.{value_by, instr_of, issues_of, schedule_of}
use Rattle.un_model.specs.declared.schedule.Issue.{Issue}
use Rattle.un_model.specs.Solutions.{frame_distance, HasFrame, is_frame_access, starts_in_slot}
use Rattle.un_model.specs.Variables.{model_of}
use Rattle.un_lists.proofs.Lists.{Each, Member, each_member, each_of, pairwise_two, any_of, any_none, none_any, member_map, each_all}
use Rattle.un_lists.proofs.Lists.{member_at, place_of, member_filter, member_of_filter}
use Rattle.un_emit.proofs.FramePlace.{le_true, le_false}
use Rattle.un_model.proofs.Placed.{issues_are, placed, Placed, vars_of, issue_at, region_placed}
use Rattle.un_model.proofs.PlacedSchedules.{all, the_ranges, each_issue}
use Rattle.un_model.proofs.Readings.{Solved}
use Rattle.un_emit.proofs.BlockJobs.{InRegion, IsJob, job_from, some_active, in_region, region_block}
use Rattle.un_emit.proofs.Jobs.{jobs_of}
use Rattle.un_model.proofs.Operations.{placed_get}
use Rattle.un_emit.proofs.Timed.{Job, packet_jobs, jobs_at, issues_at, or_rest}
use Rattle.un_emit.proofs.Places.{words, placing, any_true}

-- ---- the stack pointer moved

back : (base f : ℕ) → base + f < 2 ^ 32 → address_of (base + f) (neg_ℤ (pos f)) ≡ base
back base zero lt = omega (arith, lt)
back base (suc n) lt = let e : word_of (negsuc n) ≡ 2 ^ 32 - suc n = refl in ap (sum_of (base + suc n)) e ∙ wrapped base (suc n) lt
  where
    wrapped : (b m : ℕ) → b + m < 2 ^ 32 → (b + m + (2 ^ 32 - m)) % 2 ^ 32 ≡ b
    wrapped b m lt = omega (arith, lt)

forth : (base f : ℕ) → base + f < 2 ^ 32 → address_of base (pos f) ≡ base + f
forth base f lt = omega (arith, lt)

cond_one : (b : Bool) → b ≡ true → 1 ≤ cond b 1 0
cond_one true q = omega arith
cond_one false q = absurd (cc q)

counted : {A : Type 0} (t : A → Bool) (xs : List A) (x : A) → Member x xs → t x ≡ true → 1 ≤ count_by t xs
counted t xs x m q = let k = fold_with (λ y. cond (t y) 1 0) xs 0 x m in let z = cond_one (t x) q in omega (arith, k, z)

and_split : (a b : Bool) → (a && b) ≡ true → (a ≡ true) × (b ≡ true)
and_split true b q = (refl, q)
and_split false b q = absurd (cc q)

le_of : (a b : ℕ) → nat_le a b ≡ true → a ≤ b
le_of a b q = ⊎_elim (λ (lt : b < a). let z : true ≡ false = sym q ∙ le_false a b lt in absurd (cc z)) (λ (le : a ≤ b). le) (cases_lt b a)

module _ (e : Ext) (o : Options) (values : List ℕ) (h : Solved e o values) (k : ℕ) (block : ExtBlock)
    (r : InRegion (all e o values) k block) (at : slice_get e.blocks k ≡ Some block) where
  abbrev own_ops : List Placed
  own_ops = region_placed r.region

  -- an operation of this kind has issued in a cycle up to c
  abbrev did : (ExtKind → Bool) → ℕ → Placed → Bool
  did test c p = test p.op.kind && ((issue_at values p).active && nat_le (issue_at values p).cycle c)

  abbrev pub has_done : (ExtKind → Bool) → ℕ → Bool
  has_done test c = list_any (did test c) (region_placed r.region)

  -- the bytes of the frame
  abbrev pub bytes : ℕ
  bytes = frame_of (model_of e o) values

  -- the stack pointer after cycle c, where the frame begins at this address
  abbrev pub stack_of : ℕ → ℕ → ℕ
  stack_of base c = if has_done is_leave c then base + bytes else (if nat_eq k 0 && not (has_done is_enter c) then base + bytes else base)

  done_true : (test : ExtKind → Bool) (c : ℕ) (p : Placed) → Member p own_ops → test p.op.kind ≡ true → (issue_at values p).active ≡ true
      → (issue_at values p).cycle ≤ c → has_done test c ≡ true
  done_true test c p m t a le = any_true (did test c) own_ops p m (let l = le_true (issue_at values p).cycle c le in rw (t, a, l) refl)

  done_false : (test : ExtKind → Bool) (c : ℕ) → ((p : Placed) → Member p own_ops → test p.op.kind ≡ true
      → (issue_at values p).active ≡ true → c < (issue_at values p).cycle) → has_done test c ≡ false
  done_false test c f = any_none (did test c) own_ops (each_of (λ p. did test c p ≡ false) own_ops (λ p m. is_false (did test c p) (λ q.
      let a = and_split (test p.op.kind) ((issue_at values p).active && nat_le (issue_at values p).cycle c) q in
      let b = and_split (issue_at values p).active (nat_le (issue_at values p).cycle c) a.1 in
      let lt = f p m a.0 b.0 in let le = le_of (issue_at values p).cycle c b.1 in absurd (omega arith))))

  -- a cycle in which none issues
  done_same : (test : ExtKind → Bool) (c : ℕ) → ((p : Placed) → Member p own_ops → test p.op.kind ≡ true → (issue_at values p).active ≡ true
      → (issue_at values p).cycle ≡ c + 1 → ⊥) → has_done test (c + 1) ≡ has_done test c
  done_same test c f = go (has_done test (c + 1)) refl
    where
      go : (b : Bool) → has_done test (c + 1) ≡ b → has_done test (c + 1) ≡ has_done test c
      go true q =
          let r = any_of (did test (c + 1)) own_ops q in
          let a = and_split (test r.0.op.kind) ((issue_at values r.0).active && nat_le (issue_at values r.0).cycle (c + 1)) r.2 in
          let b = and_split (issue_at values r.0).active (nat_le (issue_at values r.0).cycle (c + 1)) a.1 in
          let le = le_of (issue_at values r.0).cycle (c + 1) b.1 in
          let n = f r.0 r.1 a.0 b.0 in
          q ∙ sym (done_true test c r.0 r.1 a.0 b.0 (⊎_elim (λ (s : (issue_at values r.0).cycle ≡ c + 1). absurd (n s))
          (λ (d : (issue_at values r.0).cycle ≢ c + 1). omega arith) (cases_eq (issue_at values r.0).cycle (c + 1))))
      go false q = q ∙ sym (done_false test c (λ p m t a. ⊎_elim (λ (lt : c < (issue_at values p).cycle). lt)
          (λ (le : (issue_at values p).cycle ≤ c). let z : true ≡ false = sym (done_true test (c + 1) p m t a (omega arith))
          ∙ q in absurd (cc z)) (cases_lt c (issue_at values p).cycle)))

  -- there is one Enter in the entry and none elsewhere, and one Leave in a block that returns
  one_enter : count_by (λ (op : ExtOp). is_enter op.kind) block.ops ≡ one_if (k == 0)
  one_enter = let x = h.extended in let f = x.frames in f.enters k block at

  one_leave : count_by (λ (op : ExtOp). is_leave op.kind) block.ops ≡ one_if (returns block)
  one_leave = let x = h.extended in let f = x.frames in each_member
      (λ (b : ExtBlock). count_by (λ (op : ExtOp). is_leave op.kind) b.ops ≡ one_if (returns b)) e.blocks block
      (each_all (λ (b : ExtBlock). count_by (λ (op : ExtOp). is_leave op.kind) b.ops ≡ one_if (returns b)) e.blocks f.leaves)
      (member_at e.blocks k block at)

  at_most : (b : Bool) → one_if b ≤ 1
  at_most true = omega arith
  at_most false = omega arith

  pub op_in : (p : Placed) → Member p own_ops → Member p.op block.ops
  op_in p m = subst (λ (b : ExtBlock). Member p.op b.ops) r.owner
      (let q = r.region in placed_op q.block q.owner (var_at (q.first + ops_count (q.owner).ops)) q.number q.first (q.owner).ops p m)
    where
      placed_op : (b : ℕ) (owner : ExtBlock) (close : VarId) (n first : ℕ) (ops : List ExtOp) (p : Placed)
          → Member p (placed b owner close n first ops) → Member p.op ops
      placed_op b owner close n first [] p m = elim m [ ]
      placed_op b owner close n first (op ∷ ops) p (inl e) = inl (ap (λ (q : Placed). q.op) e)
      placed_op b owner close n first (op ∷ ops) p (inr m) = inr (placed_op b owner close (n + 1) (first + var_count op) ops p m)

  -- Enter is in the entry alone
  enter_entry : (p : Placed) → Member p own_ops → is_enter p.op.kind ≡ true → k ≡ 0
  enter_entry p m t = ⊎_elim (λ (q : k ≡ 0). q) (λ (n : k ≢ 0).
      let c = counted (λ (op : ExtOp). is_enter op.kind) block.ops p.op (op_in p m) t in
      let z : (k == 0) ≡ false = grind (arith, n) in
      let y : one_if (k == 0) ≡ 0 = ap one_if z in
      let x = one_enter in absurd (omega (arith, c, x, y))) (cases_eq k 0)

  -- Leave is in a block that returns alone
  leave_returns : (p : Placed) → Member p own_ops → is_leave p.op.kind ≡ true → returns block ≡ true
  leave_returns p m t = go (returns block) refl
    where
      go : (b : Bool) → returns block ≡ b → returns block ≡ true
      go true q = q
      go false q = let c = counted (λ (op : ExtOp). is_leave op.kind) block.ops p.op (op_in p m) t in let y : one_if (returns block) ≡ 0 =
          ap one_if q in let x = one_leave in absurd (omega (arith, c, x, y))

  pub same_op : (test : ExtKind → Bool) → count_by (λ (op : ExtOp). test op.kind) block.ops ≤ 1 → (p q : Placed) → Member p own_ops
      → Member q own_ops → test p.op.kind ≡ true → test q.op.kind ≡ true → p ≡ q
  same_op test le p q m n s t = ⊎_elim (λ (e : p ≡ q). e)
      (λ (d : (test p.op.kind ≡ true → test q.op.kind ≡ true → ⊥) ⊎ (test q.op.kind ≡ true → test p.op.kind ≡ true → ⊥)).
      ⊎_elim (λ (f : test p.op.kind ≡ true → test q.op.kind ≡ true → ⊥). absurd (f s t))
      (λ (f : test q.op.kind ≡ true → test p.op.kind ≡ true → ⊥). absurd (f t s)) d)
      (pairwise_two (λ (p q : Placed). test p.op.kind ≡ true → test q.op.kind ≡ true → ⊥) own_ops p q
      (once e o values h (words e o values h) (placing e o values h) k block r test 0 le) m n)

  -- ---- where the flag is 1

  abbrev flag_is : Type 0
  flag_is = value_of values (model_of e o).flag ≡ 1

  -- an active Enter or Leave and what comes after or before it
  apart_by : (p q : Placed) (a b : Op) (n : ℕ) → Member p own_ops → Member q own_ops → flag_is → (issue_at values p).instr ≡ Some a
      → (issue_at values q).instr ≡ Some b → frame_distance (Some a) (Some b) ≡ Some n
      → (issue_at values p).cycle + n ≤ (issue_at values q).cycle
  apart_by p q a b n m mq f x y d =
      let z = frame_apart e o values h (words e o values h) (placing e o values h) k block r p q (in_region (all e o values) k block r p m)
      (in_region (all e o values) k block r q mq) f (region_block r.region p m ∙ sym (region_block r.region q mq)) in
      let z1 = subst (λ (i : Option Op). IfSome (frame_distance i (issue_at values q).instr)
      (λ (n : ℕ). (issue_at values p).cycle + n ≤ (issue_at values q).cycle)) x z in
      let z2 = subst (λ (i : Option Op). IfSome (frame_distance (Some a) i)
      (λ (n : ℕ). (issue_at values p).cycle + n ≤ (issue_at values q).cycle)) y z1 in
      subst (λ (i : Option ℕ). IfSome i (λ (n : ℕ). (issue_at values p).cycle + n ≤ (issue_at values q).cycle)) d z2

  -- the instruction of an active Enter or Leave
  shift_instr : (p : Placed) (kind : ExtKind) (op : Op) → p.op.kind ≡ kind → is_delimiter kind ≡ false
      → ((n : ℕ) → instruction_of kind n ≡ frame_instr op n) → (issue_at values p).active ≡ true → (issue_at values p).instr ≡ Some op
  shift_instr p kind op q d f a =
      let act : (is_delimiter kind || is_some (instruction_of kind (value_by values (vars_of p).instr))) ≡ true =
      ap (λ (x : ExtKind). is_delimiter x || is_some (instruction_of x (value_by values (vars_of p).instr))) (sym q) ∙ a in
      let act' : is_some (instruction_of kind (value_by values (vars_of p).instr)) ≡ true =
      sym (ap (λ (b : Bool). b || is_some (instruction_of kind (value_by values (vars_of p).instr))) d) ∙ act in
      let act'' : is_some (frame_instr op (value_by values (vars_of p).instr)) ≡ true =
      ap is_some (sym (f (value_by values (vars_of p).instr))) ∙ act' in
      ap (λ (x : ExtKind). instruction_of x (value_by values (vars_of p).instr)) q ∙ f (value_by values (vars_of p).instr)
      ∙ go (value_by values (vars_of p).instr == 0) act''
    where
      go : (b : Bool) → is_some (if b then None else Some op) ≡ true → (if b then None else Some op) ≡ Some op
      go true s = absurd (cc s)
      go false s = refl

  enter_instr : (p : Placed) → is_enter p.op.kind ≡ true → (issue_at values p).active ≡ true → (issue_at values p).instr ≡ Some EnterOp
  enter_instr p t a = go p.op.kind refl t
    where
      go : (x : ExtKind) → p.op.kind ≡ x → is_enter x ≡ true → (issue_at values p).instr ≡ Some EnterOp
      go Enter q t = shift_instr p Enter EnterOp q refl (λ n. refl) a
      go _ q t = absurd (cc t)

  leave_instr : (p : Placed) → is_leave p.op.kind ≡ true → (issue_at values p).active ≡ true → (issue_at values p).instr ≡ Some LeaveOp
  leave_instr p t a = go p.op.kind refl t
    where
      go : (x : ExtKind) → p.op.kind ≡ x → is_leave x ≡ true → (issue_at values p).instr ≡ Some LeaveOp
      go Leave q t = shift_instr p Leave LeaveOp q refl (λ n. refl) a
      go _ q t = absurd (cc t)

  enter_frame : (p : Placed) → is_enter p.op.kind ≡ true → (issue_at values p).frame ≡ true
  enter_frame p t = go p.op.kind refl t
    where
      go : (x : ExtKind) → p.op.kind ≡ x → is_enter x ≡ true → (issue_at values p).frame ≡ true
      go Enter q t = ap is_frame_op q
      go _ q t = absurd (cc t)

  leave_frame : (p : Placed) → is_leave p.op.kind ≡ true → (issue_at values p).frame ≡ true
  leave_frame p t = go p.op.kind refl t
    where
      go : (x : ExtKind) → p.op.kind ≡ x → is_leave x ≡ true → (issue_at values p).frame ≡ true
      go Leave q t = ap is_frame_op q
      go _ q t = absurd (cc t)

  flag_by : (p : Placed) → Member p own_ops → (issue_at values p).frame ≡ true → (issue_at values p).active ≡ true → flag_is
  flag_by p m f a = flag_set e o values h (words e o values h) (placing e o values h) k block r p (in_region (all e o values) k block r p m)
      f a

  -- ---- the pointer in each case

  as_outside : (base c : ℕ) → has_done is_leave c ≡ true → stack_of base c ≡ base + bytes
  as_outside base c q = ap (λ (b : Bool). if b then base + bytes else
      (if nat_eq k 0 && not (has_done is_enter c) then base + bytes else base)) q

  as_before : (base c : ℕ) → has_done is_leave c ≡ false → k ≡ 0 → has_done is_enter c ≡ false → stack_of base c ≡ base + bytes
  as_before base c q z n =
      let z' = eq-eqb k 0 z in
      ap (λ (b : Bool). if b then base + bytes else (if nat_eq k 0 && not (has_done is_enter c) then base + bytes else base)) q
      ∙ ap (λ (b : Bool). if b && not (has_done is_enter c) then base + bytes else base) z'
      ∙ ap (λ (b : Bool). if not b then base + bytes else base) n

  as_entered : (base c : ℕ) → has_done is_leave c ≡ false → has_done is_enter c ≡ true → stack_of base c ≡ base
  as_entered base c q n =
      ap (λ (b : Bool). if b then base + bytes else (if nat_eq k 0 && not (has_done is_enter c) then base + bytes else base)) q
      ∙ ap (λ (b : Bool). if nat_eq k 0 && not b then base + bytes else base) n ∙ go (nat_eq k 0)
    where
      go : (b : Bool) → (if b && false then base + bytes else base) ≡ base
      go true = refl
      go false = refl

  as_other : (base c : ℕ) → has_done is_leave c ≡ false → k ≢ 0 → stack_of base c ≡ base
  as_other base c q n =
      let z : nat_eq k 0 ≡ false = grind (arith, n) in
      ap (λ (b : Bool). if b then base + bytes else (if nat_eq k 0 && not (has_done is_enter c) then base + bytes else base)) q
      ∙ ap (λ (b : Bool). if b && not (has_done is_enter c) then base + bytes else base) z

  -- ---- job by job

  abbrev jobs : List Job
  jobs = jobs_of (model_of e o) values (region_placed r.region)

  from_packet : (c : ℕ) (j : Job) → Member j (packet_jobs jobs c) → (j.instr.op ≡ Nop → ⊥) → Member j jobs × (j.cycle ≡ c)
  from_packet c j m n = go (jobs_at jobs c) refl m
    where
      is_cycle : nat_eq j.cycle c ≡ true → j.cycle ≡ c
      is_cycle q = ⊎_elim (λ (e : j.cycle ≡ c). e) (λ (d : j.cycle ≢ c). absurd (grind (arith, q))) (cases_eq j.cycle c)

      go : (ks : List Job) → ks ≡ jobs_at jobs c → Member j (or_rest c ks) → Member j jobs × (j.cycle ≡ c)
      go [] q (inl s) = absurd (n (ap (λ (i : Job). i.instr.op) (sym s)))
      go [] q (inr s) = elim s [ ]
      go (i ∷ is) q m = let f = member_of_filter (issues_at c) jobs j (subst (Member j) q m) in (f.0, is_cycle f.1)

  to_packet : (c : ℕ) (j : Job) → Member j jobs → j.cycle ≡ c → Member j (packet_jobs jobs c)
  to_packet c j m q = go (jobs_at jobs c) (member_filter (issues_at c) jobs j m (eq-eqb j.cycle c q))
    where
      go : (ks : List Job) → Member j ks → Member j (or_rest c ks)
      go [] n = elim n [ ]
      go (k ∷ ks) n = n

  -- the offset of Enter and of Leave
  enter_imm : (p : Placed) (j : Job) → IsJob e o values h p j → p.op.kind ≡ Enter → j.instr.imm ≡ neg_ℤ (pos bytes)
  enter_imm p j g q = ap (λ (x : Job). x.instr.imm) g.is ∙ go (instr_of values p.op (vars_of p)) g.emitted
    where
      go : (x : Option Op) → instr_if (model_of e o) values p.op (vars_of p) x ≡ Some g.instr
          → (let i = g.instr in i.imm ≡ neg_ℤ (pos bytes))
      go None s = absurd (cc s)
      go (Some op) s =
          let b = is_beside (schedule_of (model_of e o) values).ranges values p.op (vars_of p) in
          let made = ap (λ (y : ExtKind). instr_by e.blocks bytes y (emitted_by b y op)
          (operand_registers (model_of e o) values p.op (vars_of p))
          (result_register (model_of e o) values p.op)) (sym q) ∙ s in
          let k = ap (λ (x : Option Instr). option_map (λ (y : Instr). y.imm) x) made in sym (cc k)

  leave_imm : (p : Placed) (j : Job) → IsJob e o values h p j → p.op.kind ≡ Leave → j.instr.imm ≡ pos bytes
  leave_imm p j g q = ap (λ (x : Job). x.instr.imm) g.is ∙ go (instr_of values p.op (vars_of p)) g.emitted
    where
      go : (x : Option Op) → instr_if (model_of e o) values p.op (vars_of p) x ≡ Some g.instr → (let i = g.instr in i.imm ≡ pos bytes)
      go None s = absurd (cc s)
      go (Some op) s =
          let b = is_beside (schedule_of (model_of e o) values).ranges values p.op (vars_of p) in
          let made = ap (λ (y : ExtKind). instr_by e.blocks bytes y (emitted_by b y op)
          (operand_registers (model_of e o) values p.op (vars_of p))
          (result_register (model_of e o) values p.op)) (sym q) ∙ s in
          let k = ap (λ (x : Option Instr). option_map (λ (y : Instr). y.imm) x) made in sym (cc k)

  -- who else leaves, and when
  after_enter : (p q : Placed) → Member p own_ops → Member q own_ops → is_enter p.op.kind ≡ true → (issue_at values p).active ≡ true
      → is_leave q.op.kind ≡ true → (issue_at values q).active ≡ true → (issue_at values p).cycle + 1 ≤ (issue_at values q).cycle
  after_enter p q m n s a t b = apart_by p q EnterOp LeaveOp 1 m n (flag_by p m (enter_frame p s) a) (enter_instr p s a) (leave_instr q t b)
      refl

  has_one : (t : ExtOp → Bool) (xs : List ExtOp) → 1 ≤ count_by t xs → (x : ExtOp) × (Member x xs) × (t x ≡ true)
  has_one t xs le = go (list_any t xs) refl
    where
      none_count : (ys : List ExtOp) (a : ℕ) → Each (λ y. t y ≡ false) ys → fold (λ (a : ℕ) (y : ExtOp). a + cond (t y) 1 0) a ys ≡ a
      none_count [] a f = refl
      none_count (y ∷ ys) a f = let z : a + cond (t y) 1 0 ≡ a = ap (λ (b : Bool). a + cond b 1 0) f.0
          ∙ omega arith in ap (λ n. fold (λ (a : ℕ) (y : ExtOp). a + cond (t y) 1 0) n ys) z ∙ none_count ys a f.1

      go : (b : Bool) → list_any t xs ≡ b → (x : ExtOp) × (Member x xs) × (t x ≡ true)
      go true q = any_of t xs q
      go false q = let z = none_count xs 0 (none_any t xs q) in absurd (omega (arith, z, le))

  pub placed_for : (op : ExtOp) → Member op block.ops → (p : Placed) × (Member p own_ops) × (p.op ≡ op)
  placed_for op m =
      let q = r.region in
      let at = place_of block.ops op m in
      let z = placed_get q.block q.owner (var_at (q.first + ops_count (q.owner).ops)) q.number q.first at.0 (q.owner).ops op
      (ap (λ (b : ExtBlock). slice_get b.ops at.0) r.owner ∙ at.2) in
      (z.0, member_at own_ops at.0 z.0 z.1, z.2)

  -- where the flag is 1, Enter and Leave are active
  active_when : (p : Placed) → Member p own_ops → flag_is → (issue_at values p).frame ≡ true → (issue_at values p).active ≡ true
  active_when p m f fr =
      let s = h.schedule in
      let fs = s.frame in
      each_member (λ q. HasFrame true (issue_at values q)) (all e o values) p (each_issue e o values (HasFrame true) (fs.with_frame f))
      (in_region (all e o values) k block r p m) fr

  -- Enter stands in the entry where the flag is 1
  the_enter : flag_is → k ≡ 0 → (p : Placed) × (Member p own_ops) × (is_enter p.op.kind ≡ true) × ((issue_at values p).active ≡ true)
  the_enter f z =
      let c = one_enter in
      let y : one_if (k == 0) ≡ 1 = ap one_if (eq-eqb k 0 z) in
      let x = has_one (λ (op : ExtOp). is_enter op.kind) block.ops (omega (arith, c, y)) in
      let p = placed_for x.0 x.1 in
      let t : is_enter p.0.op.kind ≡ true = ap (λ (w : ExtOp). is_enter w.kind) p.2 ∙ x.2 in
      (p.0, p.1, t, active_when p.0 p.1 f (enter_frame p.0 t))

  the_leave : flag_is → returns block ≡ true → (p : Placed) × (Member p own_ops) × (is_leave p.op.kind ≡ true)
      × ((issue_at values p).active ≡ true)
  the_leave f z =
      let c = one_leave in
      let y : one_if (returns block) ≡ 1 = ap one_if z in
      let x = has_one (λ (op : ExtOp). is_leave op.kind) block.ops (omega (arith, c, y)) in
      let p = placed_for x.0 x.1 in
      let t : is_leave p.0.op.kind ≡ true = ap (λ (w : ExtOp). is_leave w.kind) p.2 ∙ x.2 in
      (p.0, p.1, t, active_when p.0 p.1 f (leave_frame p.0 t))

  -- ---- the facts on the stack pointer

  module _ (base : ℕ) (room : base + bytes < 2 ^ 32) where
    -- an active operation of a job, with its cycle
    job_active : (p : Placed) (j : Job) → IsJob e o values h p j → (issue_at values p).active ≡ true
    job_active p j g = let i = g.instr in some_active e o values h p (own_by p.op.kind i.op) g.issues

    cycle_of_job : (p : Placed) (j : Job) → IsJob e o values h p j → (issue_at values p).cycle ≡ j.cycle
    cycle_of_job p j g = ap (λ (x : Job). x.cycle) (sym g.is)

    enter_most : count_by (λ (op : ExtOp). is_enter op.kind) block.ops ≤ 1
    enter_most = let z = one_enter in let y = at_most (k == 0) in omega (arith, z, y)

    leave_most : count_by (λ (op : ExtOp). is_leave op.kind) block.ops ≤ 1
    leave_most = let z = one_leave in let y = at_most (returns block) in omega (arith, z, y)

    at_enter : (p : Placed) (j : Job) (c : ℕ) → Member p own_ops → IsJob e o values h p j → p.op.kind ≡ Enter → j.cycle ≡ c + 1
        → stack_of base (c + 1) ≡ address_of (stack_of base c) j.instr.imm
    at_enter p j c m g q n =
        let t : is_enter p.op.kind ≡ true = ap is_enter q in
        let a = job_active p j g in
        let cp = cycle_of_job p j g in
        let later : (d : ℕ) → d ≤ c + 1 → has_done is_leave d ≡ false =
        λ d le. done_false is_leave d (λ x mx tx ax. let z = after_enter p x m mx t a tx ax in omega arith) in
        let earlier : has_done is_enter c ≡ false = done_false is_enter c
        (λ x mx tx ax. let same = same_op is_enter enter_most x p mx m tx t in
        let z : (issue_at values x).cycle ≡ (issue_at values p).cycle = ap (λ (y : Placed). (issue_at values y).cycle) same in
        omega arith) in
        as_entered base (c + 1) (later (c + 1) (omega arith)) (done_true is_enter (c + 1) p m t a (omega arith))
        ∙ sym (ap (λ x. address_of x j.instr.imm) (as_before base c (later c (omega arith)) (enter_entry p m t) earlier)
        ∙ ap (address_of (base + bytes)) (enter_imm p j g q) ∙ back base bytes room)

    -- Enter is behind whoever comes after it in the entry
    entered_by : (c : ℕ) → flag_is → has_done is_leave c ≡ false →
        ((p : Placed) → Member p own_ops → is_enter p.op.kind ≡ true → (issue_at values p).active ≡ true → (issue_at values p).cycle ≤ c)
        → stack_of base c ≡ base
    entered_by c f l b = ⊎_elim
        (λ (z : k ≡ 0). let x = the_enter f z in as_entered base c l (done_true is_enter c x.0 x.1 x.2 x.3 (b x.0 x.1 x.2 x.3)))
        (λ (n : k ≢ 0). as_other base c l n) (cases_eq k 0)

    at_leave : (p : Placed) (j : Job) (c : ℕ) → Member p own_ops → IsJob e o values h p j → p.op.kind ≡ Leave → j.cycle ≡ c + 1
        → stack_of base (c + 1) ≡ address_of (stack_of base c) j.instr.imm
    at_leave p j c m g q n =
        let t : is_leave p.op.kind ≡ true = ap is_leave q in
        let a = job_active p j g in
        let cp = cycle_of_job p j g in
        let earlier : has_done is_leave c ≡ false = done_false is_leave c
        (λ x mx tx ax. let same = same_op is_leave leave_most x p mx m tx t in
        let z : (issue_at values x).cycle ≡ (issue_at values p).cycle = ap (λ (y : Placed). (issue_at values y).cycle) same in
        omega arith) in
        let inside = entered_by c (flag_by p m (leave_frame p t) a) earlier
        (λ x mx tx ax. let z = after_enter x p mx m tx ax t a in omega arith) in
        as_outside base (c + 1) (done_true is_leave (c + 1) p m t a (omega arith))
        ∙ sym (ap (λ x. address_of x j.instr.imm) inside ∙ ap (address_of base) (leave_imm p j g q) ∙ forth base bytes room)

    not_nop : (j : Job) → moves_stack j.instr.op ≡ true → j.instr.op ≡ Nop → ⊥
    not_nop j s q = let z : true ≡ false = sym s ∙ ap moves_stack q in absurd (cc z)

    frame_op_nop : (j : Job) → uses_frame j.instr.op ≡ true → j.instr.op ≡ Nop → ⊥
    frame_op_nop j s q = let z : true ≡ false = sym s ∙ ap uses_frame q in absurd (cc z)

    -- an Enter or Leave of the cycle is a job of the packet that moves the stack pointer
    moves_here : (p : Placed) (op : Op) (c : ℕ) → Member p own_ops → (p.op.kind ≡ In → ⊥) → (p.op.kind ≡ Out → ⊥)
        → (issue_at values p).active ≡ true → (issue_at values p).instr ≡ Some op → moves_stack op ≡ true
        → (issue_at values p).cycle ≡ c + 1 → Each (λ (j : Job). moves_stack j.instr.op ≡ false) (packet_jobs jobs (c + 1)) → ⊥
    moves_here p op c m ni nt a i s n none =
        let z = has_job e o values h (words e o values h) (placing e o values h) k block r p m a ni nt in
        let j = z.0 in
        let mem = to_packet (c + 1) j z.1 (sym (cycle_of_job p j z.2) ∙ n) in
        let same : Some (own_by p.op.kind j.instr.op) ≡ Some op = sym (job_op e o values h p j z.2) ∙ i in
        let same' : own_by p.op.kind j.instr.op ≡ op = cc same in
        let y : true ≡ false = sym (ap moves_stack same' ∙ s) ∙ stack_alike p.op.kind j.instr.op ∙ each_member (λ (j : Job). moves_stack j.instr.op ≡ false)
        (packet_jobs jobs (c + 1)) j none mem in absurd (cc y)

    kind_not : (test : ExtKind → Bool) (p : Placed) (x : ExtKind) → test p.op.kind ≡ true → test x ≡ false → p.op.kind ≡ x → ⊥
    kind_not test p x t f q = let z : true ≡ false = sym t ∙ ap test q ∙ f in absurd (cc z)

    framed_at : (p : Placed) (j : Job) (c : ℕ) → Member p own_ops → IsJob e o values h p j → uses_frame j.instr.op ≡ true → j.cycle ≡ c + 1
        → stack_of base c ≡ base
    framed_at p j c m g u n = by_op j.instr.op refl u
      where
        flag : (op : Op) → (issue_at values p).instr ≡ Some op → is_frame_access (Some op) ≡ true → flag_is
        flag op i q =
            let s = h.schedule in
            let fs = s.frame in
            let used = fs.used in
            let all' = in_region (all e o values) k block r p m in
            let mem : Member (issue_at values p) (issues_of (model_of e o) values) =
            subst (Member (issue_at values p)) (sym (issues_are values 0 0 0 e.blocks))
            (member_map (issue_at values) (all e o values) p all') in
            let y = any_true (λ (i : Issue). is_frame_access i.instr) (issues_of (model_of e o) values) (issue_at values p) mem
            (ap is_frame_access i ∙ q) in
            used (ap (λ (b : Bool). b || list_any starts_in_slot (the_ranges e o values)) y)

        by_access : (op : Op) → own_op op ≡ op → j.instr.op ≡ op → is_frame_access (Some op) ≡ true → frame_distance (Some op) (Some LeaveOp) ≡ Some 0
            → frame_distance (Some EnterOp) (Some op) ≡ Some 1 → stack_of base c ≡ base
        by_access op own q f d d' =
            let i = job_itself e o values h p j op g own q in
            let fl = flag op i f in
            let cp = cycle_of_job p j g in
            entered_by c fl (done_false is_leave c (λ x mx tx ax. let z = apart_by p x op LeaveOp 0 m mx fl i (leave_instr x tx ax) d in
            omega arith))
            (λ x mx tx ax. let z = apart_by x p EnterOp op 1 mx m fl (enter_instr x tx ax) i d' in omega arith)

        by_op : (op : Op) → j.instr.op ≡ op → uses_frame op ≡ true → stack_of base c ≡ base
        by_op Spill q u = by_access Spill refl q refl refl refl
        by_op Reload q u = by_access Reload refl q refl refl refl
        by_op _ q u = absurd (cc u)

    pub stacks : (c : ℕ) → Stacks (stack_of base) base c (packet_jobs jobs (c + 1))
    stacks c = record {
      moved = each_of (λ (j : Job). moves_stack j.instr.op ≡ true → stack_of base (c + 1) ≡ address_of (stack_of base c) j.instr.imm)
          (packet_jobs jobs (c + 1)) (λ j m s.
          let f = from_packet (c + 1) j m (not_nop j s) in
          let x = job_from e o values h own_ops j f.0 in
          let p = x.0 in
          ⊎_elim (λ (u : (p.op.kind ≡ Enter) × (j.instr.op ≡ EnterOp)). at_enter p j c x.1 x.2 u.0 f.1)
          (λ (u : (p.op.kind ≡ Leave) × (j.instr.op ≡ LeaveOp)). at_leave p j c x.1 x.2 u.0 f.1)
          (shift_job e o values h (words e o values h) (placing e o values h) k block r p j
          (in_region (all e o values) k block r p x.1) x.2 s));
      kept = λ none.
          let l = done_same is_leave c (λ p m t a n. moves_here p LeaveOp c m (kind_not is_leave p In t refl)
          (kind_not is_leave p Out t refl) a (leave_instr p t a) refl n none) in
          let en = done_same is_enter c (λ p m t a n. moves_here p EnterOp c m (kind_not is_enter p In t refl)
          (kind_not is_enter p Out t refl) a (enter_instr p t a) refl n none) in
          ap (λ (b : Bool). if b then base + bytes else (if nat_eq k 0 && not (has_done is_enter (c + 1)) then base + bytes else base)) l
          ∙ ap (λ (b : Bool). if has_done is_leave c then base + bytes else (if nat_eq k 0 && not b then base + bytes else base)) en;
      framed = each_of (λ (j : Job). uses_frame j.instr.op ≡ true → stack_of base c ≡ base) (packet_jobs jobs (c + 1)) (λ j m u.
          let f = from_packet (c + 1) j m (frame_op_nop j u) in
          let x = job_from e o values h own_ops j f.0 in
          framed_at x.0 j c x.1 x.2 u f.1);
    }

    -- ---- at the block's start and at its end

    pub inner_late : (p : Placed) → Member p own_ops → (p.op.kind ≡ In → ⊥) → (p.op.kind ≡ Out → ⊥) → (issue_at values p).active ≡ true
        → (1 ≤ (issue_at values p).cycle) × ((issue_at values p).cycle < own_end e o values h (words e o values h) (placing e o values h) k
        block r)
    inner_late p m ni nt a =
        let z = has_job e o values h (words e o values h) (placing e o values h) k block r p m a ni nt in
        let t = block_timed e o values h (words e o values h) (placing e o values h) k block r at in
        let l = each_member (λ (j : Job). 1 ≤ j.cycle) jobs z.0 t.late z.1 in
        let s = each_member (λ (j : Job). j.cycle < own_end e o values h (words e o values h) (placing e o values h) k block r) jobs z.0
        t.soon z.1 in
        let c = cycle_of_job p z.0 z.2 in
        (omega arith, omega (arith, c, s))

    none_yet : (test : ExtKind → Bool) → test In ≡ false → test Out ≡ false → has_done test 0 ≡ false
    none_yet test f g = done_false test 0 (λ p m t a. let z = inner_late p m (kind_not test p In t f) (kind_not test p Out t g) a in let y =
        z.0 in omega arith)

    pub stack_first : k ≡ 0 → stack_of base 0 ≡ base + bytes
    stack_first z = as_before base 0 (none_yet is_leave refl refl) z (none_yet is_enter refl refl)

    pub stack_later : k ≢ 0 → stack_of base 0 ≡ base
    stack_later n = as_other base 0 (none_yet is_leave refl refl) n

    no_frame : value_of values (model_of e o).flag ≡ 0 → bytes ≡ 0
    no_frame q = ap (λ n. if n == 0 then 0 else frame_bytes (largest_slot (the_ranges e o values))) q

    -- with no frame the stack pointer stays
    flat : (c : ℕ) → bytes ≡ 0 → (stack_of base c ≡ base) × (stack_of base c ≡ base + bytes)
    flat c q =
        let s : base + bytes ≡ base = omega (arith, q) in
        let z = go (has_done is_leave c) (nat_eq k 0 && not (has_done is_enter c)) s in (z, z ∙ sym s)
      where
        go : (a b : Bool) → base + bytes ≡ base → (if a then base + bytes else (if b then base + bytes else base)) ≡ base
        go true b s = s
        go false true s = s
        go false false s = refl

    flag_cases : (flag_is) ⊎ (bytes ≡ 0)
    flag_cases =
        let s = h.schedule in
        let le = flag_sits e o values s.in_domains in
        ⊎_elim (λ (q : value_of values (model_of e o).flag ≡ 0). inr (no_frame q))
        (λ (n : value_of values (model_of e o).flag ≢ 0). inl (omega arith)) (cases_eq (value_of values (model_of e o).flag) 0)

    pub stack_returns : returns block ≡ true → stack_of base (own_end e o values h (words e o values h) (placing e o values h) k block r -
        1) ≡ base + bytes
    stack_returns q = ⊎_elim
        (λ (f : flag_is). let x = the_leave f q in let z = inner_late x.0 x.1 (kind_not is_leave x.0 In x.2 refl)
        (kind_not is_leave x.0 Out x.2 refl) x.3 in let y = z.1 in
        as_outside base (own_end e o values h (words e o values h) (placing e o values h) k block r - 1)
        (done_true is_leave _ x.0 x.1 x.2 x.3 (omega arith)))
        (λ (b : bytes ≡ 0). (flat _ b).1) flag_cases

    pub stack_goes : returns block ≡ false → stack_of base (own_end e o values h (words e o values h) (placing e o values h) k block r - 1)
        ≡ base
    stack_goes q = ⊎_elim
        (λ (f : flag_is). entered_by (own_end e o values h (words e o values h) (placing e o values h) k block r - 1) f
        (done_false is_leave _ (λ x m t a. let z : true ≡ false = sym (leave_returns x m t) ∙ q in absurd (cc z)))
        (λ x m t a. let z = inner_late x m (kind_not is_enter x In t refl) (kind_not is_enter x Out t refl) a in let y = z.1 in
        omega arith))
        (λ (b : bytes ≡ 0). (flat _ b).0) flag_cases
