-- A block of a solution is a timed block.
use Rattle.std.proofs.Common.{ℕ, zero, suc, ◌≡◌, ◌≢◌, ◌<◌, ◌≤◌, ◌+◌, Bool, true, false, cond, ◌&&◌, ◌||◌, List, [], ◌∷◌, length, map, ◌⊎◌}
use Rattle.std.proofs.Common.{inl, inr, ⊎_elim, refl, sym, ap, ◌∙◌, subst, arith, All}
use Rattle.std.specs.Prelude.{Option, Some, None, slice_get, slice_index_or, is_some, ◌==◌, if◌then◌else◌, IfSome}
use Rattle.std.specs.Prelude.{sum_by, count_by, fold}
use Rattle.std.specs.Option.{option_map, option_to_list}
use Rattle.std.proofs.lemmas.Bool.{cases_eq, cases_lt, eq-eqb}
use Rattle.un_base.specs.declared.ids.TempId.{TempId}
use Rattle.un_base.specs.declared.ids.VarId.{VarId}
use Rattle.un_isa.specs.Tables.{in_mask}
use Rattle.un_isa.specs.declared.op.Op.{Op}
use Rattle.un_isa.specs.declared.op.Op.TheVariants.{Load, Store, Call}
use Rattle.un_isa.specs.declared.op.Op.TheVariants.{Enter as EnterOp, Leave as LeaveOp}
use Rattle.un_isa.specs.declared.instr.Instr.{Instr}
use Rattle.un_isa.specs.Does.{writes_memory, is_control, is_transfer, moves_stack}
use Rattle.un_isa.proofs.DoesLaws.{copy_stack, transfer_stack, source_stack}
use Rattle.un_ir.specs.declared.extended.ExtKind.{ExtKind}
use Rattle.un_ir.specs.declared.extended.ExtKind.TheVariants.{In, Out, Body, End, Copy, Enter, Leave}
use Rattle.un_ir.specs.declared.extended.ExtOp.{ExtOp}
use Rattle.un_ir.specs.declared.extended.ExtBlock.{ExtBlock}
use Rattle.un_ir.specs.declared.extended.Ext.{Ext}
use Rattle.un_ir.specs.Extended.{result_count, IsSourceOp, IsGoodKind, is_enter, is_leave, one_if, returns}
use Rattle.un_model.specs.declared.model.Options.{Options}
use Rattle.un_model.specs.declared.schedule.LiveRange.{LiveRange}
use Rattle.un_model.specs.declared.schedule.Issue.{Issue}
use Rattle.un_model.proofs.Transfers.{transfer_leaves, copy_copies, control_need, store_need}
use Rattle.un_isa.specs.declared.packet_counts.Resource.{Resource}
use Rattle.un_isa.specs.declared.packet_counts.Resource.TheVariants.{Stores, Control}
use Rattle.un_model.specs.Cost.{value_of}
use Rattle.un_model.specs.Instructions.{latency_by, instruction_of, frame_instr}
use Rattle.un_model.specs.Emission.{instr_if, instr_by, frame_of, operand_registers, result_register, is_beside, emitted_by}
use Rattle.un_ir.specs.Kinds.{is_delimiter, is_frame_op}
use Rattle.un_model.specs.Schedules.{instr_of, issues_of, value_by, cycle_by, schedule_of}
use Rattle.un_model.specs.Solutions.{IsPlaced, IsPlacedAs, Precedes, memory_distance, ShareNoCycle, SparesRange, IsSpared, HasRoom}
use Rattle.un_model.specs.Solutions.{share_of, taken, issues_at, HasFrame, frame_distance, IsLast}
use Rattle.un_isa.specs.PacketCounts.{places_of}
use Rattle.un_model.specs.Variables.{model_of, var_at, var_count, ops_count}
use Rattle.un_lists.proofs.Lists.{Each, Pairwise, Member, each_member, each_of, each_all, pairwise_of_map, pairwise_more, member_at}
use Rattle.un_lists.proofs.Lists.{member_map, length_get}
use Rattle.un_emit.proofs.Timed.{Job, Stands, Deed, AreTemps, Timed, NotBoth, GiveApart, Clobbers}
use Rattle.un_emit.proofs.Effects.{InOrder, is_access, is_effect}
use Rattle.un_model.proofs.Placed.{Placed, placed, vars_of, issue_at, end_of, region_placed, Spot, spot, spots_of, Counts, all_count}
use Rattle.un_model.proofs.Placed.{at_number, issues_are}
use Rattle.un_model.proofs.PlacedSchedules.{all, spots, the_ranges, range_at, spot_range, active_spot, idle_range, one_spot, each_issue}
use Rattle.un_model.proofs.PlacedSchedules.{pairwise_issues, joined_member, places_member, member_joined, member_places}
use Rattle.un_model.proofs.Readings.{Solved, numbered, placed_good}
use Rattle.un_emit.proofs.Jobs.{job_with, job_by, instr_at, job_of, jobs_of, given_temp}
use Rattle.un_model.proofs.OpDomains.{flag_sits}
use Rattle.un_emit.proofs.JobDeeds.{temps_of}
use Rattle.un_emit.proofs.Own.{own_op, own_by, own_itself, transfer_alike, control_alike, memory_alike, stack_alike, earlier_alike, later_alike}
use Rattle.un_emit.proofs.BlockJobs.{InRegion, in_region, region_block, pairwise_region, IsJob, job_is, each_job, pairwise_jobs, Placing}
use Rattle.un_emit.proofs.BlockJobs.{active_of, deed_of}

-- ---- order of accesses

data Access (op : Op) : Type 0 where
  load : op ≡ Load → Access op
  store : op ≡ Store → Access op
  call : op ≡ Call → Access op

access_of : (op : Op) → is_access op ≡ true → Access op
access_of Load h = load refl
access_of Store h = store refl
access_of Call h = call refl
access_of _ h = absurd (cc h)

effect_is : (op : Op) → is_effect op ≡ true → is_access op ≡ true
effect_is Store h = refl
effect_is Call h = refl
effect_is _ h = absurd (cc h)

both_are : (a b x y : Op) → a ≡ x → b ≡ y → memory_distance (Some a) (Some b) ≡ memory_distance (Some x) (Some y)
both_are a b x y p q = ap (λ (z : Op). memory_distance (Some z) (Some b)) p ∙ ap (λ (z : Op). memory_distance (Some x) (Some z)) q

after_one : (a b : Op) → is_effect a ≡ true → Access a → Access b → memory_distance (Some a) (Some b) ≡ Some 1
after_one a b f (load p) y = let z : true ≡ false = sym f ∙ ap is_effect p in absurd (cc z)
after_one a b f (store p) (load q) = both_are a b Store Load p q
after_one a b f (store p) (store q) = both_are a b Store Store p q
after_one a b f (store p) (call q) = both_are a b Store Call p q
after_one a b f (call p) (load q) = both_are a b Call Load p q
after_one a b f (call p) (store q) = both_are a b Call Store p q
after_one a b f (call p) (call q) = both_are a b Call Call p q

before_some : (a b : Op) → is_effect b ≡ true → Access a → Access b → (n : ℕ) × (memory_distance (Some a) (Some b) ≡ Some n)
before_some a b f x (load q) = let z : true ≡ false = sym f ∙ ap is_effect q in absurd (cc z)
before_some a b f (load p) (store q) = (0, both_are a b Load Store p q)
before_some a b f (load p) (call q) = (1, both_are a b Load Call p q)
before_some a b f (store p) (store q) = (1, both_are a b Store Store p q)
before_some a b f (store p) (call q) = (1, both_are a b Store Call p q)
before_some a b f (call p) (store q) = (1, both_are a b Call Store p q)
before_some a b f (call p) (call q) = (1, both_are a b Call Call p q)

call_one : (a b : Op) → b ≡ Call → Access a → memory_distance (Some a) (Some b) ≡ Some 1
call_one a b q (load p) = both_are a b Load Call p q
call_one a b q (store p) = both_are a b Store Call p q
call_one a b q (call p) = both_are a b Call Call p q

far_by : (x : Option ℕ) (n c d : ℕ) → IfSome x (λ (n : ℕ). c + n ≤ d) → x ≡ Some n → c + n ≤ d
far_by x n c d k q = subst (λ (y : Option ℕ). IfSome y (λ (n : ℕ). c + n ≤ d)) q k

-- what the distance between two accesses asks
in_order : (i j : Job) → IfSome (memory_distance (Some i.instr.op) (Some j.instr.op)) (λ (n : ℕ). i.cycle + n ≤ j.cycle) → InOrder i j
in_order i j k =
    let a = i.instr.op in
    let b = j.instr.op in
    let far = λ (n : ℕ) (q : memory_distance (Some a) (Some b) ≡ Some n). far_by (memory_distance (Some a) (Some b)) n i.cycle j.cycle k q
    in
    record {
      after_effect = λ p q. let f = far 1 (after_one a b p (access_of a (effect_is a p)) (access_of b q)) in omega arith;
      before_effect = λ p q. let r = before_some a b q (access_of a p) (access_of b (effect_is b q)) in let f = far r.0 r.1 in omega arith;
      before_call = λ p q. let f = far 1 (call_one a b q (access_of a p)) in omega arith;
    }

-- ---- what of which a packet has one place

fold_at_least : {X : Type 0} (f : X → ℕ) (xs : List X) (a : ℕ) → a ≤ fold (λ (a : ℕ) (x : X). a + f x) a xs
fold_at_least f [] a = omega arith
fold_at_least f (x ∷ xs) a = let k = fold_at_least f xs (a + f x) in omega arith

pub fold_with : {X : Type 0} (f : X → ℕ) (xs : List X) (a : ℕ) (x : X) → Member x xs → a + f x ≤ fold (λ (a : ℕ) (x : X). a + f x) a xs
fold_with f [] a x m = elim m [ ]
fold_with f (y ∷ ys) a x (inl e) = let k = fold_at_least f ys (a + f y) in let s : f y ≡ f x = ap f e in omega arith
fold_with f (y ∷ ys) a x (inr m) = let k = fold_with f ys (a + f y) x m in omega arith

fold_pairs : {X : Type 0} (f : X → ℕ) (xs : List X) (a : ℕ) → fold (λ (a : ℕ) (x : X). a + f x) a xs ≤ a + 1
    → Pairwise (λ x y. 1 ≤ f x → 1 ≤ f y → ⊥) xs
fold_pairs f [] a h = tt
fold_pairs f (x ∷ xs) a h = (
  each_of (λ y. 1 ≤ f x → 1 ≤ f y → ⊥) xs (λ y m p q. let k = fold_with f xs (a + f x) y m in omega arith),
  fold_pairs f xs (a + f x) (let k = fold_at_least f xs (a + f x) in omega arith),
)

one_place : {X : Type 0} (f : X → ℕ) (xs : List X) → sum_by f xs ≤ 1 → Pairwise (λ x y. 1 ≤ f x → 1 ≤ f y → ⊥) xs
one_place f xs h = fold_pairs f xs 0 h

placed_close : (b : ℕ) (owner : ExtBlock) (close : VarId) (n first : ℕ) (ops : List ExtOp) (p : Placed)
    → Member p (placed b owner close n first ops) → p.close ≡ close
placed_close b owner close n first [] p m = elim m [ ]
placed_close b owner close n first (op ∷ ops) p (inl e) = ap (λ (q : Placed). q.close) (sym e)
placed_close b owner close n first (op ∷ ops) p (inr m) = placed_close b owner close (n + 1) (first + var_count op) ops p m

pub counts_rise : (n : ℕ) (ps : List Placed) → Counts n ps → Pairwise (λ (p q : Placed). p.number < q.number) ps
    × Each (λ (p : Placed). n ≤ p.number) ps
counts_rise n [] h = (tt, tt)
counts_rise n (p ∷ ps) h =
    let r = counts_rise (n + 1) ps h.1 in
    let here = h.0 in (
      (
        each_of (λ (q : Placed). p.number < q.number) ps (λ q m. let z = each_member (λ (q : Placed). n + 1 ≤ q.number) ps q r.1 m in
            omega arith),
        r.0,
      ),
      (
        omega arith,
        each_of (λ (q : Placed). n ≤ q.number) ps (λ q m. let z = each_member (λ (q : Placed). n + 1 ≤ q.number) ps q r.1 m in
            omega arith),
      ),
    )

module _ (e : Ext) (o : Options) (values : List ℕ) (h : Solved e o values) where
  abbrev memory_apart : Placed → Placed → Type 0
  memory_apart p q = Precedes memory_distance (issue_at values p) (issue_at values q)

  -- the operation that a job comes from issues the one that its instruction comes from
  pub job_op : (p : Placed) (j : Job) → IsJob e o values h p j → (issue_at values p).instr ≡ Some (own_by p.op.kind j.instr.op)
  job_op p j g = g.issues ∙ ap (λ (x : Job). Some (own_by p.op.kind x.instr.op)) (sym g.is)

  pub job_itself : (p : Placed) (j : Job) (op : Op) → IsJob e o values h p j → own_op op ≡ op → j.instr.op ≡ op
      → (issue_at values p).instr ≡ Some op
  job_itself p j op g same is = job_op p j g ∙ ap Some (ap (own_by p.op.kind) is ∙ own_itself p.op.kind op same)

  precedes : (p q : Placed) (i j : Job) → memory_apart p q → p.block ≡ q.block → IsJob e o values h p i → IsJob e o values h q j
      → IfSome (memory_distance (Some i.instr.op) (Some j.instr.op)) (λ (n : ℕ). i.cycle + n ≤ j.cycle)
  unfolding Precedes
  precedes p q i j s same gi gj =
      let alike : memory_distance (issue_at values p).instr (issue_at values q).instr
      ≡ memory_distance (Some i.instr.op) (Some j.instr.op) =
      ap (λ (x : Option Op). memory_distance x (issue_at values q).instr) (job_op p i gi)
      ∙ ap (λ (x : Option Op). memory_distance (Some (own_by p.op.kind i.instr.op)) x) (job_op q j gj)
      ∙ earlier_alike p.op.kind i.instr.op (Some (own_by q.op.kind j.instr.op))
      ∙ later_alike q.op.kind j.instr.op (Some i.instr.op) in
      let f2 = subst (λ (x : Option ℕ). IfSome x (λ (n : ℕ). (issue_at values p).cycle + n ≤ (issue_at values q).cycle)) alike
      (s same) in
      let ci : (issue_at values p).cycle ≡ i.cycle = ap (λ (x : Job). x.cycle) (sym gi.is) in
      let cj : (issue_at values q).cycle ≡ j.cycle = ap (λ (x : Job). x.cycle) (sym gj.is) in
      subst (λ c. IfSome (memory_distance (Some i.instr.op) (Some j.instr.op)) (λ (n : ℕ). i.cycle + n ≤ c)) cj
      (subst (λ c. IfSome (memory_distance (Some i.instr.op) (Some j.instr.op)) (λ (n : ℕ). c + n ≤ (issue_at values q).cycle)) ci f2)

  pub job_cycle : (p : Placed) (j : Job) → IsJob e o values h p j → j.cycle ≡ (issue_at values p).cycle
  job_cycle p j g = ap (λ (x : Job). x.cycle) g.is

  pub job_gives : (p : Placed) (j : Job) → IsJob e o values h p j → j.gives ≡ given_temp p
  job_gives p j g = ap (λ (x : Job). x.gives) g.is

  placed_as : (p : Placed) (j : Job) → Member p (all e o values) → IsJob e o values h p j
      → IsPlacedAs (issue_at values p).cycle (end_of values p) (own_by p.op.kind j.instr.op)
  placed_as p j m g =
      let s = h.schedule in
      let l = s.latencies in
      let f = each_member (λ p. IsPlaced (issue_at values p)) (all e o values) p (each_issue e o values IsPlaced l.0) m in
      subst (λ (x : Option Op). IfSome x (IsPlacedAs (issue_at values p).cycle (end_of values p))) (job_op p j g) f

  -- what takes the one place of a packet
  abbrev takes_place : Resource → ℕ → ℕ → Issue → ℕ
  takes_place r b c i = if issues_at b c i then share_of e.table r i.instr else 0

  taken_pairs : (r : Resource) (b c : ℕ) → taken e.table r (issues_of (model_of e o) values) b c ≤ 1
      → Pairwise (λ (p q : Placed). 1 ≤ takes_place r b c (issue_at values p) → 1 ≤ takes_place r b c (issue_at values q) → ⊥)
      (all e o values)
  taken_pairs r b c le =
      let f = takes_place r b c in
      pairwise_of_map (λ x y. 1 ≤ f x → 1 ≤ f y → ⊥) (issue_at values) (all e o values)
      (subst (Pairwise (λ x y. 1 ≤ f x → 1 ≤ f y → ⊥)) (issues_are values 0 0 0 e.blocks)
      (one_place f (issues_of (model_of e o) values) le))

  -- every cycle has room
  room : (r : Resource) (b c : ℕ) → taken e.table r (issues_of (model_of e o) values) b c ≤ places_of r
  unfolding HasRoom
  room r b c = let s = h.schedule in s.packets b c r

  takes_by : (r : Resource) (p : Placed) (j : Job) → IsJob e o values h p j
      → 1 ≤ share_of e.table r (Some (own_by p.op.kind j.instr.op))
      → 1 ≤ takes_place r p.block j.cycle (issue_at values p)
  takes_by r p j g le =
      let c = job_cycle p j g in
      let a : issues_at p.block j.cycle (issue_at values p) ≡ true =
      both (eq-eqb p.block p.block refl) (eq-eqb (issue_at values p).cycle j.cycle (sym c)) in
      let s : takes_place r p.block j.cycle (issue_at values p) ≡ share_of e.table r (Some (own_by p.op.kind j.instr.op)) =
      ap (λ (b : Bool). if b then share_of e.table r (issue_at values p).instr else 0) a ∙ ap (share_of e.table r) (job_op p j g) in
      omega arith
    where
      both : {x y : Bool} → x ≡ true → y ≡ true → (x && y) ≡ true
      both p q = rw (p, q) refl

  -- ---- results

  given_spot : (p : Placed) (x : ℕ) → Member p (all e o values) → given_temp p ≡ Some x → (y : TempId) × (y.0 ≡ x)
      × (Member (spot p 0 y) (spots e o values))
  given_spot p x m q = go (slice_get p.op.results 0) refl q
    where
      go : (z : Option TempId) → slice_get p.op.results 0 ≡ z → option_map (λ (y : TempId). y.0) z ≡ Some x → (y : TempId) × (y.0 ≡ x)
          × (Member (spot p 0 y) (spots e o values))
      go None s q = absurd (cc q)
      go (Some y) s q = (
        y,
        cc q,
        member_joined (map spots_of (all e o values)) (spots_of p) (spot p 0 y)
            (member_map spots_of (all e o values) p m) (member_places (spot p) p.op.results 0 0 0 y (omega arith) s),
      )

  give_apart : (p q : Placed) (i j : Job) → Member p (all e o values) → Member q (all e o values) → p.number < q.number
      → IsJob e o values h p i → IsJob e o values h q j → GiveApart i j
  give_apart p q i j m n lt gi gj x a b =
      let s = given_spot p x m (sym (job_gives p i gi) ∙ a) in
      let u = given_spot q x n (sym (job_gives q j gj) ∙ b) in
      let same = one_spot e o values (numbered e o values h) (spot p 0 s.0) (spot q 0 u.0) s.2 u.2 (s.1 ∙ sym u.1) in
      let num : p.number ≡ q.number = ap (λ (z : Spot). z.definer.number) same in
      omega arith

  pub range_in : (k : ℕ) → (range_at e o values k).active ≡ true → slice_get (the_ranges e o values) k ≡ Some (range_at e o values k)
  range_in k a = go (the_ranges e o values) k a
    where
      go : (xs : List LiveRange) (n : ℕ) → (slice_index_or xs n idle_range).active ≡ true
          → slice_get xs n ≡ Some (slice_index_or xs n idle_range)
      go [] n a = absurd (cc a)
      go (x ∷ xs) zero a = refl
      go (x ∷ xs) (suc n) a = go xs n a

  -- an active temporary is a result
  pub its_spot : (k : ℕ) → (range_at e o values k).active ≡ true → (s : Spot) × (Member s (spots e o values)) × (s.temp.0 ≡ k)
      × (spot_range e o values s ≡ range_at e o values k)
  its_spot k a = active_spot e o values (numbered e o values h) k (range_at e o values k) (range_in k a)

  pub definer_of : (s : Spot) → Member s (spots e o values) → Member s.definer (all e o values)
      × (slice_get s.definer.op.results s.place ≡ Some s.temp)
  definer_of s m =
      let r = joined_member spots_of (all e o values) s m in
      let q = places_member (spot r.0) 0 r.0.op.results s r.2 in
      let d : r.0 ≡ s.definer = ap (λ (s : Spot). s.definer) q.3 in
      let pl : q.0 ≡ s.place = ap (λ n. n) (omega arith) ∙ ap (λ (s : Spot). s.place) q.3 in
      let t : q.1 ≡ s.temp = ap (λ (s : Spot). s.temp) q.3 in (
        subst (λ p. Member p (all e o values)) d r.1,
        ap (λ (p : Placed). slice_get p.op.results s.place) (sym d)
            ∙ ap (slice_get r.0.op.results) (sym pl) ∙ q.2 ∙ ap Some t,
      )

  -- only a block's start has several results
  pub only_result : (p : Placed) → Member p (all e o values) → (p.op.kind ≡ In → ⊥) → length p.op.results ≤ 1
  only_result p m n = let g = placed_good e o values h p m in let k = g.keeps in by_kind p.op.kind refl k.results
    where
      at_most : {A : Type 0} (x : Option A) → length (option_to_list x) ≤ 1
      at_most None = omega arith
      at_most (Some y) = omega arith

      by_kind : (k : ExtKind) → p.op.kind ≡ k → length p.op.results ≡ result_count e.table p.owner p.op.kind → length p.op.results ≤ 1
      by_kind In s l = absurd (n s)
      by_kind (Body so) s l = let a = ap (result_count e.table p.owner) s in let b = at_most so.dst in omega arith
      by_kind (Copy node) s l = let a = ap (result_count e.table p.owner) s in omega arith
      by_kind Out s l = let a = ap (result_count e.table p.owner) s in omega arith
      by_kind (End term) s l = let a = ap (result_count e.table p.owner) s in omega arith
      by_kind Enter s l = let a = ap (result_count e.table p.owner) s in omega arith
      by_kind Leave s l = let a = ap (result_count e.table p.owner) s in omega arith

  -- the temporary of a result whose definer is no block's start
  gives_first : (s : Spot) → Member s (spots e o values) → (s.definer.op.kind ≡ In → ⊥) → given_temp s.definer ≡ Some s.temp.0
  gives_first s m n =
      let d = definer_of s m in
      let le = only_result s.definer d.0 n in
      let lt = length_get s.definer.op.results s.place s.temp d.1 in
      let z : s.place ≡ 0 = omega arith in
      ap (option_map (λ (x : TempId). x.0)) (ap (slice_get s.definer.op.results) (sym z) ∙ d.1)

  -- ---- temporaries of a block

  -- two active temporaries of a block with one place in one cycle are one
  apart_below : (x y b c : ℕ) → x < y → Stands (temps_of e o values h b) x c → Stands (temps_of e o values h b) y c
      → (range_at e o values x).reg ≡ (range_at e o values y).reg → ⊥
  unfolding ShareNoCycle
  apart_below x y b c lt s u r =
      let k = h.schedule in
      let regs = k.registers in
      let ax = active_of e o values h x b s.active in
      let ay = active_of e o values h y b u.active in
      let n = length_get (the_ranges e o values) y (range_at e o values y) (range_in y ay.0) in
      let f = regs.0 x y idle_range lt n in
      let hs = s.held in
      let hu = u.held in
      f ax.0 ay.0 (ax.1 ∙ sym ay.1) r c (s.begun, omega arith) (u.begun, omega arith)

  pub are_temps : (slots b : ℕ) → Placing e o values h slots → AreTemps (temps_of e o values h b) slots
  are_temps slots b w = record {
    apart = λ x y c s u r. ⊎_elim (λ (q : x ≡ y). q)
        (λ (n : x ≢ y). ⊎_elim (λ (lt : x < y). absurd (apart_below x y b c lt s u r))
        (λ (le : y ≤ x). let g : y < x = omega arith in absurd (apart_below y x b c g u s (sym r))) (cases_lt x y)) (cases_eq x y);
    spans = λ x a.
        let r = its_spot x (active_of e o values h x b a).0 in
        let f : (range_at e o values x).from ≤ (range_at e o values x).last =
        subst (λ (v : LiveRange). v.from ≤ v.last) r.3 (omega arith) in
        omega arith;
    quick = λ x a. quick (range_at e o values x).instr;
    not_stack = λ x a. w.not_stack x (active_of e o values h x b a).0;
    within = λ x a. w.within x (active_of e o values h x b a).0;
  }
    where
      quick : (x : Option Op) → 1 ≤ latency_by e.table x
      quick None = omega arith
      quick (Some op) = let f = h.fit in let l = f.latencies op in l.0

  -- ---- the block

  module _ (slots : ℕ) (w : Placing e o values h slots) (k : ℕ) (block : ExtBlock) (r : InRegion (all e o values) k block) where
    abbrev pub own : List Placed
    own = region_placed r.region

    abbrev pub own_jobs : List Job
    own_jobs = jobs_of (model_of e o) values (region_placed r.region)

    abbrev pub own_end : ℕ
    own_end = let q = r.region in value_of values (var_at (q.first + ops_count (q.owner).ops))

    pub here : (p : Placed) → Member p own → Member p (all e o values)
    here p m = in_region (all e o values) k block r p m

    pub its_block : (p : Placed) → Member p own → p.block ≡ k
    its_block p m = region_block r.region p m ∙ r.number

    pub its_end : (p : Placed) → Member p own → end_of values p ≡ own_end
    its_end p m = let q = r.region in ap (value_of values) (placed_close q.block q.owner (var_at (q.first + ops_count (q.owner).ops))
        q.number q.first (q.owner).ops p m)

    order_job : Placed → Placed → Type 0
    order_job p q = memory_apart p q

    pub memory_order : Pairwise InOrder own_jobs
    memory_order =
        let s = h.schedule in
        pairwise_jobs e o values h InOrder memory_apart own (pairwise_region memory_apart (all e o values) k block r
        (pairwise_issues e o values (Precedes memory_distance) s.memory))
        (λ p q i j m n a gi gj. in_order i j (precedes p q i j a (its_block p m ∙ sym (its_block q n)) gi gj))

    one_of : (test : Op → Bool) (res : Resource) → places_of res ≡ 1 → ((kind : ExtKind) (op : Op) → test (own_by kind op) ≡ test op)
        → ((op : Op) → test op ≡ true → 1 ≤ share_of e.table res (Some op)) → Pairwise (NotBoth test) own_jobs
    one_of test res one alike need =
        pairwise_jobs e o values h (NotBoth test) (λ p q. (c : ℕ) → 1 ≤ takes_place res k c (issue_at values p)
        → 1 ≤ takes_place res k c (issue_at values q) → ⊥) own
        (all_cycles (λ c p q. 1 ≤ takes_place res k c (issue_at values p) → 1 ≤ takes_place res k c (issue_at values q) → ⊥) own
        (λ c. pairwise_region (λ (p q : Placed). 1 ≤ takes_place res k c (issue_at values p)
        → 1 ≤ takes_place res k c (issue_at values q) → ⊥) (all e o values) k block r
        (taken_pairs res k c (let z = room res k c in omega (arith, one)))))
        (λ p q i j m n a gi gj same ti tj.
        let fi = takes_by res p i gi (need (own_by p.op.kind i.instr.op) (alike p.op.kind i.instr.op ∙ ti)) in
        let fj = takes_by res q j gj (need (own_by q.op.kind j.instr.op) (alike q.op.kind j.instr.op ∙ tj)) in
        a i.cycle (subst (λ b. 1 ≤ takes_place res b i.cycle (issue_at values p)) (its_block p m) fi)
        (subst (λ c. 1 ≤ takes_place res k c (issue_at values q)) (sym same)
        (subst (λ b. 1 ≤ takes_place res b j.cycle (issue_at values q)) (its_block q n) fj)))
      where
        all_cycles : (R : ℕ → Placed → Placed → Type 0) (ps : List Placed) → ((c : ℕ) → Pairwise (R c) ps)
            → Pairwise (λ p q. (c : ℕ) → R c p q) ps
        all_cycles R [] f = tt
        all_cycles R (p ∷ ps) f = (
          each_of (λ q. (c : ℕ) → R c p q) ps (λ q m c. each_member (R c p) ps q (let z = f c in z.0) m),
          all_cycles R ps (λ c. let z = f c in z.1),
        )

    -- a call finds the clobbered registers free of all but its own result
    spared : (p : Placed) (j : Job) (x : ℕ) → Member p own → IsJob e o values h p j → j.instr.op ≡ Call
        → Stands (temps_of e o values h k) x j.cycle → in_mask (e.table).clobbered (range_at e o values x).reg ≡ true
        → (range_at e o values x).op.0 ≡ p.number
    unfolding SparesRange IsSpared
    spared p j x m g c s q =
        let z = h.schedule in
        let regs = z.registers in
        let a = active_of e o values h x k s.active in
        let range = range_at e o values x in
        let f = each_member (IsSpared (e.table).clobbered (issues_of (model_of e o) values)) (the_ranges e o values) range
        (each_all (IsSpared (e.table).clobbered (issues_of (model_of e o) values)) (the_ranges e o values) regs.1)
        (member_at (the_ranges e o values) x range (range_in x a.0)) in
        let i = each_member (λ q. SparesRange (e.table).clobbered (issue_at values q) range) (all e o values) p
        (each_issue e o values (λ i. SparesRange (e.table).clobbered i range) f) (here p m) in
        let cyc = job_cycle p j g in
        let b = s.begun in
        let l = s.held in
        sym (i (job_itself p j Call g refl c) a.0 (its_block p m ∙ sym a.1) q
        (subst (λ n. (range.from ≤ n) × (n ≤ range.last)) cyc (b, omega arith)))

    not_in : (p : Placed) (j : Job) → IsJob e o values h p j → p.op.kind ≡ In → ⊥
    not_in p j g q =
        let f = g.emitted in
        let none : instr_at (model_of e o) values p ≡ None = start_none p q in
        let z : None ≡ Some g.instr = sym none ∙ f in absurd (cc z)
      where
        start_none : (p : Placed) → p.op.kind ≡ In → instr_at (model_of e o) values p ≡ None
        start_none p q = go (instr_of values p.op (vars_of p)) (ap (λ (x : ExtKind). instruction_of x (value_by values (vars_of p).instr))
            q)
          where
            go : (x : Option Op) → x ≡ None → instr_if (model_of e o) values p.op (vars_of p) x ≡ None
            go None s = refl
            go (Some op) s = absurd (cc s)

    clobbering : (p : Placed) (j : Job) → Member p own → IsJob e o values h p j → Clobbers e.table (temps_of e o values h k) j
    clobbering p j m g c x s lt q =
        let num = spared p j x m g c s q in
        let a = active_of e o values h x k s.active in
        let u = its_spot x a.0 in
        let d = definer_of u.0 u.1 in
        let dn : u.0.definer.number ≡ p.number = ap (λ (v : LiveRange). v.op.0) u.3 ∙ num in
        let counts = all_count 0 0 0 e.blocks in
        let same : Some u.0.definer ≡ Some p = sym (at_number 0 (all e o values) u.0.definer p.number counts d.0 (omega arith))
        ∙ at_number 0 (all e o values) p p.number counts (here p m) (omega arith) in
        let same' : u.0.definer ≡ p = cc same in
        job_gives p j g ∙ ap given_temp (sym same') ∙ gives_first u.0 u.1
        (λ z. not_in p j g (ap (λ (r : Placed). r.op.kind) (sym same') ∙ z)) ∙ ap Some u.2

    -- ---- who gives a temporary

    start_cycle : (p : Placed) → p.op.kind ≡ In → (issue_at values p).cycle ≡ 0
    start_cycle p q = ap (λ (x : ExtKind). cycle_by values (end_of values p) x (vars_of p)) q

    pub no_results : (p : Placed) → Member p (all e o values) → p.op.kind ≡ Out → length p.op.results ≡ 0
    no_results p m q = let g = placed_good e o values h p m in let f = g.keeps in f.results ∙ ap (result_count e.table p.owner) q

    -- an active operation between a block's start and its end has a job
    pub has_job : (p : Placed) → Member p own → (issue_at values p).active ≡ true → (p.op.kind ≡ In → ⊥) → (p.op.kind ≡ Out → ⊥) → (j : Job)
        × (Member j own_jobs) × (IsJob e o values h p j)
    has_job p m a nin nout = go (instr_of values p.op (vars_of p)) refl
      where
        inner : is_delimiter p.op.kind ≡ false
        inner = by_kind p.op.kind refl
          where
            by_kind : (x : ExtKind) → p.op.kind ≡ x → is_delimiter x ≡ false
            by_kind In s = absurd (nin s)
            by_kind Out s = absurd (nout s)
            by_kind (Body so) s = refl
            by_kind (End term) s = refl
            by_kind (Copy node) s = refl
            by_kind Enter s = refl
            by_kind Leave s = refl

        go : (x : Option Op) → instr_of values p.op (vars_of p) ≡ x → (j : Job) × (Member j own_jobs) × (IsJob e o values h p j)
        go None s =
            let f : (is_delimiter p.op.kind || is_some (instr_of values p.op (vars_of p))) ≡ false = rw (inner, s) refl in
            let z : true ≡ false = sym a ∙ f in absurd (cc z)
        go (Some op) s = has (instr_at (model_of e o) values p) refl
          where
            is_there : (x : Option Op) → instr_of values p.op (vars_of p) ≡ x → x ≡ Some op
                → instr_if (model_of e o) values p.op (vars_of p) x ≡ None → ⊥
            is_there None q r n = absurd (cc r)
            is_there (Some z) q r n = none p.op.kind refl n
              where
                none : (x : ExtKind) → p.op.kind ≡ x → instr_by e.blocks (frame_of (model_of e o) values) x
                    (emitted_by (is_beside (schedule_of (model_of e o) values).ranges values p.op (vars_of p)) x z)
                    (operand_registers (model_of e o) values p.op (vars_of p)) (result_register (model_of e o) values p.op) ≡ None → ⊥
                none In s n = nin s
                none Out s n = nout s
                none (Body so) s n = absurd (cc n)
                none (End term) s n = absurd (cc n)
                none (Copy node) s n = absurd (cc n)
                none Enter s n = absurd (cc n)
                none Leave s n = absurd (cc n)

            has : (i : Option Instr) → instr_at (model_of e o) values p ≡ i → (j : Job) × (Member j own_jobs) × (IsJob e o values h p j)
            has None q = absurd (is_there (instr_of values p.op (vars_of p)) refl s q)
            has (Some i) q =
                let mem : Member (job_with values p i) (job_of (model_of e o) values p) =
                subst (λ (x : Option Instr). Member (job_with values p i) (job_by values p x)) (sym q) (inl refl) in (
                  job_with values p i,
                  member_joined (map (job_of (model_of e o) values) own) (job_of (model_of e o) values p) (job_with values p i)
                      (member_map (job_of (model_of e o) values) own p m) mem,
                  job_is e o values h p (instr_at (model_of e o) values p) (job_with values p i) refl mem,
                )

    pub givers : (x : ℕ) → (let T = temps_of e o values h k in T.active x ≡ true) → 1 ≤ (let T = temps_of e o values h k in T.from x)
        → (j : Job) × (Member j own_jobs) × (j.gives ≡ Some x)
    givers x act le =
        let a = active_of e o values h x k act in
        let u = its_spot x a.0 in
        let s = u.0 in
        let d = definer_of s u.1 in
        let p = s.definer in
        let blk : p.block ≡ k = ap (λ (v : LiveRange). v.block.0) u.3 ∙ a.1 in
        let mine = r.all_in p d.0 blk in
        let from : (issue_at values p).cycle ≡ (range_at e o values x).from = ap (λ (v : LiveRange). v.from) u.3 in
        let activ : (issue_at values p).active ≡ true = ap (λ (v : LiveRange). v.active) u.3 ∙ a.0 in
        let nin : p.op.kind ≡ In → ⊥ = λ q. let z = start_cycle p q in omega arith in
        let nout : p.op.kind ≡ Out → ⊥ = λ q. let z = no_results p d.0 q in let lt = length_get p.op.results s.place s.temp d.1 in
        omega arith in
        let j = has_job p mine activ nin nout in
        (j.0, j.1, job_gives p j.0 j.2 ∙ gives_first s u.1 nin ∙ ap Some u.2)

    -- ---- Enter and Leave

    -- what moves the stack pointer is Enter or Leave
    pub shift_kind : (p : Placed) (op : Op) → Member p (all e o values) → instr_of values p.op (vars_of p) ≡ Some op → moves_stack op ≡ true
        → ((p.op.kind ≡ Enter) × (op ≡ EnterOp)) ⊎ ((p.op.kind ≡ Leave) × (op ≡ LeaveOp))
    shift_kind p op m q s = by_kind p.op.kind refl q
      where
        never : moves_stack op ≡ false → ((p.op.kind ≡ Enter) × (op ≡ EnterOp)) ⊎ ((p.op.kind ≡ Leave) × (op ≡ LeaveOp))
        never f = let z : true ≡ false = sym s ∙ f in absurd (cc z)

        frame_op : (f : Op) (n : ℕ) → frame_instr f n ≡ Some op → op ≡ f
        frame_op f n g = go (n == 0) g
          where
            go : (b : Bool) → (if b then None else Some f) ≡ Some op → op ≡ f
            go true g = absurd (cc g)
            go false g = let z : f ≡ op = cc g in sym z

        by_kind : (x : ExtKind) → p.op.kind ≡ x → instruction_of p.op.kind (value_by values (vars_of p).instr) ≡ Some op
            → ((p.op.kind ≡ Enter) × (op ≡ EnterOp)) ⊎ ((p.op.kind ≡ Leave) × (op ≡ LeaveOp))
        by_kind In x g = let z : None ≡ Some op = sym (ap (λ (y : ExtKind). instruction_of y (value_by values (vars_of p).instr)) x)
            ∙ g in absurd (cc z)
        by_kind Out x g = let z : None ≡ Some op = sym (ap (λ (y : ExtKind). instruction_of y (value_by values (vars_of p).instr)) x)
            ∙ g in absurd (cc z)
        by_kind (Body so) x g =
            let z : Some so.op ≡ Some op = sym (ap (λ (y : ExtKind). instruction_of y (value_by values (vars_of p).instr)) x) ∙ g in
            let same : so.op ≡ op = cc z in
            let gp = placed_good e o values h p m in
            let ks = gp.keeps in
            never (ap moves_stack (sym same) ∙ (let g : IsSourceOp so = subst (λ (y : ExtKind). IsGoodKind y p.op) x ks.kind in source_stack so.op g.op))
        by_kind (End term) x g = never (transfer_stack op (transfer_leaves term op (sym
            (ap (λ (y : ExtKind). instruction_of y (value_by values (vars_of p).instr)) x) ∙ g)))
        by_kind (Copy node) x g = never (copy_stack op (copy_copies (value_by values (vars_of p).instr) op
            (sym (ap (λ (y : ExtKind). instruction_of y (value_by values (vars_of p).instr)) x) ∙ g)))
        by_kind Enter x g = inl (
          x,
          frame_op EnterOp (value_by values (vars_of p).instr)
              (sym (ap (λ (y : ExtKind). instruction_of y (value_by values (vars_of p).instr)) x) ∙ g),
        )
        by_kind Leave x g = inr (
          x,
          frame_op LeaveOp (value_by values (vars_of p).instr)
              (sym (ap (λ (y : ExtKind). instruction_of y (value_by values (vars_of p).instr)) x) ∙ g),
        )

    pub shift_job : (p : Placed) (j : Job) → Member p (all e o values) → IsJob e o values h p j → moves_stack j.instr.op ≡ true
        → ((p.op.kind ≡ Enter) × (j.instr.op ≡ EnterOp)) ⊎ ((p.op.kind ≡ Leave) × (j.instr.op ≡ LeaveOp))
    shift_job p j m g s = ⊎_elim
        (λ (u : (p.op.kind ≡ Enter) × (own_by p.op.kind j.instr.op ≡ EnterOp)). inl (u.0, itself Enter refl u.0 ∙ u.1))
        (λ (u : (p.op.kind ≡ Leave) × (own_by p.op.kind j.instr.op ≡ LeaveOp)). inr (u.0, itself Leave refl u.0 ∙ u.1))
        (shift_kind p (own_by p.op.kind j.instr.op) m (job_op p j g) (stack_alike p.op.kind j.instr.op ∙ s))
      where
        itself : (x : ExtKind) → own_by x j.instr.op ≡ j.instr.op → p.op.kind ≡ x → j.instr.op ≡ own_by p.op.kind j.instr.op
        itself x f q = sym (ap (λ (y : ExtKind). own_by y j.instr.op) q ∙ f)

    abbrev the_flag : ℕ
    the_flag = value_of values (model_of e o).flag

    -- where Enter or Leave is active, the flag is 1
    pub flag_set : (p : Placed) → Member p (all e o values) → (issue_at values p).frame ≡ true → (issue_at values p).active ≡ true
        → the_flag ≡ 1
    flag_set p m f a =
        let s = h.schedule in
        let le = flag_sits e o values s.in_domains in
        let fr = s.frame in
        ⊎_elim (λ (q : the_flag ≡ 0).
        let off = each_member (λ q. HasFrame false (issue_at values q)) (all e o values) p
        (each_issue e o values (HasFrame false) (fr.without q)) m in
        let z : true ≡ false = sym a ∙ off f in absurd (cc z))
        (λ (n : the_flag ≢ 0). omega arith) (cases_eq the_flag 0)

    -- the distance that the frame asks of two operations of a block
    pub frame_apart : (p q : Placed) → Member p (all e o values) → Member q (all e o values) → the_flag ≡ 1 → p.block ≡ q.block
        → IfSome (frame_distance (issue_at values p).instr (issue_at values q).instr)
        (λ (n : ℕ). (issue_at values p).cycle + n ≤ (issue_at values q).cycle)
    unfolding Precedes
    frame_apart p q m n f same =
        let s = h.schedule in
        let fr = s.frame in
        let one = each_member (λ p. All (Precedes frame_distance (issue_at values p)) (issues_of (model_of e o) values)) (all e o values) p
        (each_issue e o values (λ i. All (Precedes frame_distance i) (issues_of (model_of e o) values)) (fr.ordered f)) m in
        each_member (λ q. Precedes frame_distance (issue_at values p) (issue_at values q)) (all e o values) q
        (each_issue e o values (Precedes frame_distance (issue_at values p)) one) n same

    pub once : (test : ExtKind → Bool) (n : ℕ) → count_by (λ (op : ExtOp). test op.kind) block.ops ≤ 1
        → Pairwise (λ (p q : Placed). test p.op.kind ≡ true → test q.op.kind ≡ true → ⊥) own
    once test n le =
        let q = r.region in
        let f = λ (op : ExtOp). cond (test op.kind) 1 0 in
        let pairs = one_place f block.ops le in
        let pairs' = subst (λ (b : ExtBlock). Pairwise (λ x y. 1 ≤ f x → 1 ≤ f y → ⊥) b.ops) (sym r.owner) pairs in
        pairwise_more (λ (p q : Placed). 1 ≤ f p.op → 1 ≤ f q.op → ⊥) (λ (p q : Placed). test p.op.kind ≡ true → test q.op.kind ≡ true → ⊥)
        own
        (λ a b ma mb g x y. g (one (test a.op.kind) x) (one (test b.op.kind) y))
        (pairwise_of_map (λ x y. 1 ≤ f x → 1 ≤ f y → ⊥) (λ (p : Placed). p.op) own
        (subst (Pairwise (λ x y. 1 ≤ f x → 1 ≤ f y → ⊥)) (sym
        (ops_back q.block q.owner (var_at (q.first + ops_count (q.owner).ops)) q.number q.first (q.owner).ops)) pairs'))
      where
        one : (b : Bool) → b ≡ true → 1 ≤ cond b 1 0
        one true q = omega arith
        one false q = absurd (cc q)

        ops_back : (b : ℕ) (owner : ExtBlock) (close : VarId) (n first : ℕ) (ops : List ExtOp)
            → map (λ (p : Placed). p.op) (placed b owner close n first ops) ≡ ops
        ops_back b owner close n first [] = refl
        ops_back b owner close n first (op ∷ ops) = ap (λ xs. op ∷ xs) (ops_back b owner close (n + 1) (first + var_count op) ops)

    one_shift : slice_get e.blocks k ≡ Some block → Pairwise (NotBoth moves_stack) own_jobs
    one_shift at =
        let x = h.extended in
        let fr = x.frames in
        let enters = once is_enter 0 (let z = fr.enters k block at in let y = at_most (k == 0) in omega (arith, z, y)) in
        let leaves = once is_leave 0 (let z = each_member (λ (b : ExtBlock). count_by (λ (op : ExtOp). is_leave op.kind) b.ops ≡ one_if
        (returns b)) e.blocks block (each_all (λ (b : ExtBlock). count_by (λ (op : ExtOp). is_leave op.kind) b.ops ≡ one_if (returns b))
        e.blocks fr.leaves) (member_at e.blocks k block at) in let y = at_most (returns block) in omega (arith, z, y)) in
        pairwise_jobs e o values h (NotBoth moves_stack) (λ p q. (is_enter p.op.kind ≡ true → is_enter q.op.kind ≡ true → ⊥)
        × (is_leave p.op.kind ≡ true → is_leave q.op.kind ≡ true → ⊥)) own
        (both own enters leaves) (λ p q i j m n a gi gj same si sj.
        let ki = shift_job p i (here p m) gi si in
        let kj = shift_job q j (here q n) gj sj in
        let blk = its_block p m ∙ sym (its_block q n) in
        let cyc = sym (job_cycle p i gi) ∙ same ∙ job_cycle q j gj in
        ⊎_elim
        (λ (u : (p.op.kind ≡ Enter) × (i.instr.op ≡ EnterOp)). ⊎_elim
        (λ (v : (q.op.kind ≡ Enter) × (j.instr.op ≡ EnterOp)). a.0 (ap is_enter u.0) (ap is_enter v.0))
        (λ (v : (q.op.kind ≡ Leave) × (j.instr.op ≡ LeaveOp)). clash p q i j m n gi gj u v blk cyc) kj)
        (λ (u : (p.op.kind ≡ Leave) × (i.instr.op ≡ LeaveOp)). ⊎_elim
        (λ (v : (q.op.kind ≡ Enter) × (j.instr.op ≡ EnterOp)). clash q p j i n m gj gi v u (sym blk) (sym cyc))
        (λ (v : (q.op.kind ≡ Leave) × (j.instr.op ≡ LeaveOp)). a.1 (ap is_leave u.0) (ap is_leave v.0)) kj) ki)
      where
        at_most : (b : Bool) → one_if b ≤ 1
        at_most true = omega arith
        at_most false = omega arith

        both : (ps : List Placed) → Pairwise (λ (p q : Placed). is_enter p.op.kind ≡ true → is_enter q.op.kind ≡ true → ⊥) ps
            → Pairwise (λ (p q : Placed). is_leave p.op.kind ≡ true → is_leave q.op.kind ≡ true → ⊥) ps
            → Pairwise (λ (p q : Placed). (is_enter p.op.kind ≡ true → is_enter q.op.kind ≡ true → ⊥)
            × (is_leave p.op.kind ≡ true → is_leave q.op.kind ≡ true → ⊥)) ps
        both [] f g = tt
        both (p ∷ ps) f g = (
          each_of (λ (q : Placed). (is_enter p.op.kind ≡ true → is_enter q.op.kind ≡ true → ⊥)
              × (is_leave p.op.kind ≡ true → is_leave q.op.kind ≡ true → ⊥)) ps
              (λ q m. (
                each_member (λ (q : Placed). is_enter p.op.kind ≡ true → is_enter q.op.kind ≡ true → ⊥) ps q f.0 m,
                each_member (λ (q : Placed). is_leave p.op.kind ≡ true → is_leave q.op.kind ≡ true → ⊥) ps q g.0 m,
              )),
          both ps f.1 g.1,
        )

        clash : (p q : Placed) (i j : Job) → Member p own → Member q own → IsJob e o values h p i → IsJob e o values h q j
            → (p.op.kind ≡ Enter) × (i.instr.op ≡ EnterOp) → (q.op.kind ≡ Leave) × (j.instr.op ≡ LeaveOp) → p.block ≡ q.block
            → (issue_at values p).cycle ≡ (issue_at values q).cycle → ⊥
        clash p q i j m n gi gj u v blk cyc =
            let flag = flag_set p (here p m) (ap is_frame_op u.0) (is_active_job p i gi) in
            let f = frame_apart p q (here p m) (here q n) flag blk in
            let f1 = subst (λ (x : Option Op). IfSome (frame_distance x (issue_at values q).instr)
            (λ (n : ℕ). (issue_at values p).cycle + n ≤ (issue_at values q).cycle)) (job_itself p i EnterOp gi refl u.1) f in
            let f2 : (issue_at values p).cycle + 1 ≤ (issue_at values q).cycle =
            subst (λ (x : Option Op). IfSome (frame_distance (Some EnterOp) x)
            (λ (n : ℕ). (issue_at values p).cycle + n ≤ (issue_at values q).cycle)) (job_itself q j LeaveOp gj refl v.1) f1 in
            omega arith
          where
            is_active_job : (p : Placed) (j : Job) → IsJob e o values h p j → (issue_at values p).active ≡ true
            is_active_job p j g = ap (λ (x : Option Op). is_delimiter p.op.kind || is_some x) (job_op p j g)
                ∙ or_true (is_delimiter p.op.kind)
              where
                or_true : (b : Bool) → (b || true) ≡ true
                or_true true = refl
                or_true false = refl

    -- the block as a timed block
    pub block_timed : slice_get e.blocks k ≡ Some block → Timed e.table (temps_of e o values h k) slots own_end own_jobs
    block_timed at = record {
      temps = are_temps slots k w;
      deeds = each_job e o values h (Deed e.table (temps_of e o values h k) slots) own
          (λ p j m g. subst (λ b. Deed e.table (temps_of e o values h b) slots j) (its_block p m)
          (deed_of e o values h slots w p j (here p m) g));
      late = each_job e o values h (λ j. 1 ≤ j.cycle) own (λ p j m g. let f = placed_as p j (here p m) g in let c = job_cycle p j g in
          let l = f.0 in let z = l.0 in omega arith);
      soon = each_job e o values h (λ j. j.cycle < own_end) own (λ p j m g. let f = placed_as p j (here p m) g in let c = job_cycle p j g in
          let q = its_end p m in let l = f.0 in let z = l.1 in omega (arith, c, q, z));
      last = each_job e o values h (λ j. is_transfer j.instr.op ≡ true → j.cycle + 1 ≡ own_end) own (λ p j m g t.
          let f = placed_as p j (here p m) g in let c = job_cycle p j g in let q = its_end p m in
          let z = subst (λ b. IsLast (issue_at values p).cycle (end_of values p) b) (transfer_alike p.op.kind j.instr.op ∙ t) f.1 in
          omega (arith, c, q, z));
      giver = givers;
      give_apart = let counts = (counts_rise 0 (all e o values) (all_count 0 0 0 e.blocks)).0 in
          pairwise_jobs e o values h GiveApart (λ (p q : Placed). p.number < q.number) own
          (pairwise_region (λ (p q : Placed). p.number < q.number) (all e o values) k block r counts)
          (λ p q i j m n lt gi gj. give_apart p q i j (here p m) (here q n) lt gi gj);
      clobbers = each_job e o values h (Clobbers e.table (temps_of e o values h k)) own clobbering;
      one_write = one_of writes_memory Stores refl memory_alike (λ op t. store_need e.table h.fit op t);
      one_control = one_of is_control Control refl control_alike (λ op t. control_need e.table h.fit op t);
      one_shift = one_shift at;
    }
