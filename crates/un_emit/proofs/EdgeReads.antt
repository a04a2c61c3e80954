-- What the model's congruences speak of: the reads of a block's end are the operands of its last operation, in order.
use Rattle.std.proofs.Common.{ℕ, ◌≡◌, ◌≢◌, ◌<◌, ◌≤◌, ◌+◌, Bool, true, false, cond, ◌&&◌, List, [], ◌∷◌, ◌++◌, map, filter, inr, ⊎_elim}
use Rattle.std.proofs.Common.{refl, sym, ap, ◌∙◌, subst, arith}
use Rattle.std.specs.Prelude.{Option, Some, None, slice_get, is_none, is_some, ◌||◌, ◌==◌, fold, count_by, if◌then◌else◌}
use Rattle.std.specs.List.{AllZip}
use Rattle.std.proofs.lemmas.Bool.{cases_eq, eq-eqb}
use Rattle.un_isa.specs.declared.op.Op.{Op}
use Rattle.un_ir.specs.declared.extended.ExtKind.{ExtKind}
use Rattle.un_ir.specs.declared.extended.ExtKind.TheVariants.{In, Out, Body, End, Copy, Enter, Leave}
use Rattle.un_ir.specs.declared.extended.Operand.{Operand}
use Rattle.un_ir.specs.declared.extended.ExtOp.{ExtOp}
use Rattle.un_ir.specs.declared.extended.ExtBlock.{ExtBlock}
use Rattle.un_ir.specs.declared.extended.Ext.{Ext}
use Rattle.un_ir.specs.Extended.{Want, wants_of, Parts, IsMadeOf, IsGoodOperand}
use Rattle.un_ir.specs.Linear.{ending_of, ending_or, is_out}
use Rattle.un_model.specs.declared.model.Options.{Options}
use Rattle.un_model.specs.Congruences.{term_of, term_or, is_live_out, live_out_reads}
use Rattle.un_model.specs.Instructions.{instruction_of}
use Rattle.un_model.specs.Pairs.{places_from, joined}
use Rattle.un_ir.specs.Kinds.{is_delimiter}
use Rattle.un_model.specs.Schedules.{read_of, value_by, instr_of}
use Rattle.un_lists.proofs.Lists.{Each, Pairwise, Member, split_at, each_member, each_of, pairwise_before, pairwise_after}
use Rattle.un_lists.proofs.Lists.{member_append_left, member_append_right}
use Rattle.un_model.proofs.OpDomains.{get_places}
use Rattle.un_model.proofs.Placed.{Placed, vars_of, issue_at, reads_at, reads_are, joined_map-append, all_count}
use Rattle.un_model.proofs.PlacedSchedules.{all, the_reads}
use Rattle.un_model.proofs.Readings.{Solved, placed_good}
use Rattle.un_emit.proofs.BlockJobs.{InRegion}
use Rattle.un_emit.proofs.BlockTimed.{counts_rise}
use Rattle.un_emit.proofs.Stack.{same_op}
use Rattle.un_emit.proofs.BlockEdges.{middle, regrouped, middle_neither, Neither, in_not}
use Rattle.un_emit.proofs.BlockStarts.{parts}
use Rattle.un_emit.proofs.BlockEnds.{out_op}
use Rattle.un_emit.proofs.BlockValues.{of_all}

-- the model's terminator is the run's
pub same_term : (ops : List ExtOp) → term_of ops ≡ (let x = ending_of ops in x.term)
same_term [] = refl
same_term (op ∷ ops) = go op.kind (same_term ops)
  where
    go : (k : ExtKind) → term_of ops ≡ (let x = ending_of ops in x.term)
        → term_or k (term_of ops) ≡ (let x = ending_or k op.operands (ending_of ops) in x.term)
    go (End term) q = refl
    go In q = q
    go Out q = q
    go (Body so) q = q
    go (Copy node) q = q
    go Enter q = q
    go Leave q = q

filter_append : {A : Type 0} (t : A → Bool) (xs ys : List A) → filter t (xs ++ ys) ≡ filter t xs ++ filter t ys
filter_append t [] ys = refl
filter_append t (x ∷ xs) ys =
    let k = filter_append t xs ys in
    elim (t x) as (λ b. cond b (x ∷ filter t (xs ++ ys)) (filter t (xs ++ ys)) ≡ cond b (x ∷ filter t xs) (filter t xs) ++
    filter t ys) [ true ↦ ap (λ zs. x ∷ zs) k | false ↦ k ]

filter_none : {A : Type 0} (t : A → Bool) (xs : List A) → Each (λ x. t x ≡ false) xs → filter t xs ≡ []
filter_none t [] h = refl
filter_none t (x ∷ xs) h = ap (λ b. cond b (x ∷ filter t xs) (filter t xs)) h.0 ∙ filter_none t xs h.1

filter_all : {A : Type 0} (t : A → Bool) (xs : List A) → Each (λ x. t x ≡ true) xs → filter t xs ≡ xs
filter_all t [] h = refl
filter_all t (x ∷ xs) h = ap (λ b. cond b (x ∷ filter t xs) (filter t xs)) h.0 ∙ ap (λ ys. x ∷ ys) (filter_all t xs h.1)

filter_joined : {A B : Type 0} (t : B → Bool) (f : A → List B) (xs : List A) → Each (λ x. filter t (f x) ≡ []) xs
    → filter t (joined (map f xs)) ≡ []
filter_joined t f [] h = refl
filter_joined t f (x ∷ xs) h = filter_append t (f x) (joined (map f xs)) ∙ ap (λ ys. ys ++ filter t (joined (map f xs))) h.0
    ∙ filter_joined t f xs h.1

append_nil : {A : Type 0} (xs : List A) → xs ++ [] ≡ xs
append_nil [] = refl
append_nil (x ∷ xs) = ap (λ ys. x ∷ ys) (append_nil xs)

each_places : {A B : Type 0} (P : B → Type 0) (f : ℕ → A → B) (i : ℕ) (xs : List A) → ((n : ℕ) (x : A) → P (f n x))
    → Each P (places_from f i xs)
each_places P f i [] g = tt
each_places P f i (x ∷ xs) g = (g i x, each_places P f (i + 1) xs g)

count_none : (t : ExtOp → Bool) (ys : List ExtOp) (a : ℕ) → Each (λ y. t y ≡ false) ys → (zs : List ExtOp)
    → fold (λ (a : ℕ) (y : ExtOp). a + cond (t y) 1 0) a (ys ++ zs) ≡ fold (λ (a : ℕ) (y : ExtOp). a + cond (t y) 1 0) a zs
count_none t [] a h zs = refl
count_none t (y ∷ ys) a h zs =
    let z : a + cond (t y) 1 0 ≡ a = ap (λ (b : Bool). a + cond b 1 0) h.0 ∙ omega arith in
    ap (λ n. fold (λ (a : ℕ) (y : ExtOp). a + cond (t y) 1 0) n (ys ++ zs)) z ∙ count_none t ys a h.1 zs

-- a block has one end
one_out : (ops : List ExtOp) (p : Parts) → IsMadeOf ops p → count_by (λ (op : ExtOp). is_out op.kind) ops ≤ 1
one_out ops p h =
    let t = λ (op : ExtOp). is_out op.kind in
    let s = p.start in
    let n = middle_neither ops p h in
    let first : is_out s.kind ≡ false = (in_not s.kind h.start).0 in
    let all_false : Each (λ op. t op ≡ false) (p.start ∷ middle p) =
    (first, each_of (λ op. t op ≡ false) (middle p) (λ op m. (each_member Neither (middle p) op n m).1)) in
    let e = ap (λ xs. fold (λ (a : ℕ) (y : ExtOp). a + cond (t y) 1 0) 0 xs) (regrouped ops p h)
    ∙ count_none t (p.start ∷ middle p) 0 all_false (p.out ∷ []) in
    let last = at_most (t p.out) in
    omega (arith, e, last)
  where
    at_most : (b : Bool) → 0 + cond b 1 0 ≤ 1
    at_most true = omega arith
    at_most false = omega arith

module _ (e : Ext) (o : Options) (values : List ℕ) (h : Solved e o values) (k : ℕ) (block : ExtBlock)
    (r : InRegion (all e o values) k block) (at : slice_get e.blocks k ≡ Some block) where
  abbrev last_one : Placed
  last_one = let p = out_op e o values h k block r at in p.placed

  -- no other operation's reads are of the block's end
  other_reads : (p : Placed) → Member p (all e o values) → (p.number ≡ (let q = last_one in q.number) → ⊥)
      → filter (is_live_out k) (reads_at values p) ≡ []
  other_reads p m d = go (issue_at values p).active refl
    where
      in_none : p.op.kind ≡ In → p.op.operands ≡ []
      in_none q =
          let g = placed_good e o values h p m in
          let f = g.keeps in
          empty (IsGoodOperand e.names e.blocks g.before) p.op.operands
          (subst (AllZip (IsGoodOperand e.names e.blocks g.before) p.op.operands)
          (ap (λ (x : ExtKind). wants_of e.table e.names e.blocks p.owner x p.op) q) f.operands)
        where
          empty : (Q : Operand → Want → Type 0) (xs : List Operand) → AllZip Q xs [] → xs ≡ []
          empty Q [] z = refl
          empty Q (x ∷ xs) z = absurd z

      -- an active operation of the block without an instruction is its start
      passing : (issue_at values p).active ≡ true → p.block ≡ k → instr_of values p.op (vars_of p) ≡ None → p.op.operands ≡ []
      passing a b i = by_kind p.op.kind refl
        where
          inactive : (x : ExtKind) → p.op.kind ≡ x → is_delimiter x ≡ false → p.op.operands ≡ []
          inactive x q f =
              let z : (is_delimiter p.op.kind || is_some (instr_of values p.op (vars_of p))) ≡ false =
              ap (λ (y : ExtKind). is_delimiter y || is_some (instr_of values p.op (vars_of p))) q
              ∙ ap (λ (c : Bool). c || is_some (instr_of values p.op (vars_of p))) f ∙ ap is_some i in
              let y : true ≡ false = sym a ∙ z in absurd (cc y)

          by_kind : (x : ExtKind) → p.op.kind ≡ x → p.op.operands ≡ []
          by_kind In q = in_none q
          by_kind Out q =
              let mine = r.all_in p m b in
              let out = out_op e o values h k block r at in
              let ps = parts e o values h k block r at in
              let same = same_op e o values h k block r at is_out (one_out block.ops ps.0 ps.1) p out.placed mine out.member (ap is_out q)
              (ap is_out out.kind) in
              absurd (d (ap (λ (z : Placed). z.number) same))
          by_kind (Body so) q = inactive (Body so) q refl
          by_kind (End term) q = inactive (End term) q refl
          by_kind (Copy node) q = inactive (Copy node) q refl
          by_kind Enter q = inactive Enter q refl
          by_kind Leave q = inactive Leave q refl

      fails : ((p.block == k) && is_none (instr_of values p.op (vars_of p))) ≡ false
          → filter (is_live_out k) (places_from (read_of values (issue_at values p) (vars_of p)) 0 p.op.operands) ≡ []
      fails f = filter_none (is_live_out k) (places_from (read_of values (issue_at values p) (vars_of p)) 0 p.op.operands)
          (each_places (λ x. is_live_out k x ≡ false) (read_of values (issue_at values p) (vars_of p)) 0 p.op.operands (λ n x. f))

      is_same : (p.block == k) ≡ true → p.block ≡ k
      is_same q = ⊎_elim (λ (s : p.block ≡ k). s) (λ (n : p.block ≢ k). absurd (grind (arith, q))) (cases_eq p.block k)

      by_test : (a b : Bool) → (p.block == k) ≡ a → is_none (instr_of values p.op (vars_of p)) ≡ b → (issue_at values p).active ≡ true
          → filter (is_live_out k) (places_from (read_of values (issue_at values p) (vars_of p)) 0 p.op.operands) ≡ []
      by_test false b s t act = fails (ap (λ (c : Bool). c && is_none (instr_of values p.op (vars_of p))) s)
      by_test true false s t act = fails (ap (λ (c : Bool). c && is_none (instr_of values p.op (vars_of p))) s ∙ t)
      by_test true true s t act = ap (λ xs. filter (is_live_out k) (places_from (read_of values (issue_at values p) (vars_of p)) 0 xs))
          (passing act (is_same s) (none_of (instr_of values p.op (vars_of p)) t))
        where
          none_of : (x : Option Op) → is_none x ≡ true → x ≡ None
          none_of None q = refl
          none_of (Some y) q = absurd (cc q)

      go : (b : Bool) → (issue_at values p).active ≡ b → filter (is_live_out k)
          (if b then places_from (read_of values (issue_at values p) (vars_of p)) 0 p.op.operands else []) ≡ []
      go false q = refl
      go true q = by_test (p.block == k) (is_none (instr_of values p.op (vars_of p))) refl refl q

  -- those of the block's last operation
  own_reads : filter (is_live_out k) (reads_at values last_one) ≡ places_from (read_of values (issue_at values last_one) (vars_of last_one))
      0 (let q = last_one in q.op.operands)
  own_reads =
      let out = out_op e o values h k block r at in
      let p = out.placed in
      let act : (issue_at values p).active ≡ true = ap (λ (y : ExtKind). is_delimiter y ||
      is_some (instruction_of y (value_by values (vars_of p).instr))) out.kind in
      let none : instr_of values p.op (vars_of p) ≡ None = ap (λ (y : ExtKind). instruction_of y (value_by values (vars_of p).instr))
      out.kind in
      let b = (of_all e o values h k block r p out.member).1 in
      let f = eq-eqb p.block k b in
      let pass : ((p.block == k) && is_none (instr_of values p.op (vars_of p))) ≡ true =
      ap (λ (c : Bool). c && is_none (instr_of values p.op (vars_of p))) f ∙ ap is_none none in
      ap (λ (c : Bool). filter (is_live_out k) (if c then places_from (read_of values (issue_at values p) (vars_of p)) 0 p.op.operands
      else [])) act
      ∙ filter_all (is_live_out k) (places_from (read_of values (issue_at values p) (vars_of p)) 0 p.op.operands)
      (each_places (λ x. is_live_out k x ≡ true) (read_of values (issue_at values p) (vars_of p)) 0 p.op.operands (λ n x. pass))

  pub end_reads : live_out_reads k (the_reads e o values) ≡ places_from (read_of values (issue_at values last_one) (vars_of last_one)) 0
      (let q = last_one in q.op.operands)
  end_reads =
      let out = out_op e o values h k block r at in
      let p = out.placed in
      let m = (of_all e o values h k block r p out.member).0 in
      let sp = split_at (all e o values) p m in
      let rise = (counts_rise 0 (all e o values) (all_count 0 0 0 e.blocks)).0 in
      let rise' = subst (Pairwise (λ (p q : Placed). p.number < q.number)) sp.is rise in
      let below = pairwise_before (λ (p q : Placed). p.number < q.number) sp.before sp.after p rise' in
      let above = pairwise_after (λ (p q : Placed). p.number < q.number) sp.before sp.after p rise' in
      let pre = each_of (λ x. filter (is_live_out k) (reads_at values x) ≡ []) sp.before
      (λ x mx. other_reads x (subst (Member x) (sym sp.is) (member_append_left sp.before (p ∷ sp.after) x mx))
      (λ z. let lt = each_member (λ (q : Placed). q.number < p.number) sp.before x below mx in omega arith)) in
      let post = each_of (λ x. filter (is_live_out k) (reads_at values x) ≡ []) sp.after
      (λ x mx. other_reads x (subst (Member x) (sym sp.is) (member_append_right sp.before (p ∷ sp.after) x (inr mx)))
      (λ z. let lt = each_member (λ (q : Placed). p.number < q.number) sp.after x above mx in omega arith)) in
      ap (filter (is_live_out k)) (reads_are values 0 0 0 e.blocks ∙ ap (λ ps. joined (map (reads_at values) ps)) sp.is
      ∙ joined_map-append (reads_at values) sp.before (p ∷ sp.after))
      ∙ filter_append (is_live_out k) (joined (map (reads_at values) sp.before)) (joined (map (reads_at values) (p ∷ sp.after)))
      ∙ ap (λ xs. xs ++ filter (is_live_out k) (joined (map (reads_at values) (p ∷ sp.after))))
      (filter_joined (is_live_out k) (reads_at values) sp.before pre)
      ∙ filter_append (is_live_out k) (reads_at values p) (joined (map (reads_at values) sp.after))
      ∙ ap (λ xs. filter (is_live_out k) (reads_at values p) ++ xs) (filter_joined (is_live_out k) (reads_at values) sp.after post)
      ∙ append_nil (filter (is_live_out k) (reads_at values p)) ∙ own_reads

  -- the read of the operand at place i
  pub end_read : (i : ℕ) (x : Operand) → (let q = last_one in slice_get q.op.operands i ≡ Some x)
      → slice_get (live_out_reads k (the_reads e o values)) i ≡ Some (read_of values (issue_at values last_one) (vars_of last_one) i x)
  end_read i x q = ap (λ xs. slice_get xs i) end_reads ∙ get_places e o values
      (read_of values (issue_at values last_one) (vars_of last_one)) (let p = last_one in p.op.operands) 0 i i x (omega arith) q
