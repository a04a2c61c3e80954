-- The values of one block's temporaries: what they carry, and that predicates are 0 or 1.
use Rattle.std.proofs.Common.{ℕ, zero, suc, ◌≡◌, ◌<◌, ◌≤◌, ◌+◌, ◌%◌, Bool, true, false, List, [], ◌∷◌, length, map, inl, inr, refl, sym, ap}
use Rattle.std.proofs.Common.{◌∙◌, subst, arith, Contains}
use Rattle.std.specs.Prelude.{Some, slice_get, slice_index, unwrap_or}
use Rattle.std.specs.List.{AllZip}
use Rattle.un_base.specs.declared.ids.TempId.{TempId}
use Rattle.un_isa.specs.Words.{eval, truth_of}
use Rattle.un_isa.specs.declared.op.Op.{Op}
use Rattle.un_isa.specs.declared.op.Op.TheVariants.{CmpEq, CmpGt, CmpGtu, CmpEqi, CmpGti, R2P}
use Rattle.un_ir.specs.declared.function.Kind.TheVariants.{General, Pred}
use Rattle.un_ir.specs.declared.function.SrcOp.{SrcOp}
use Rattle.un_ir.specs.declared.extended.NodeCopy.{NodeCopy}
use Rattle.un_ir.specs.declared.extended.ExtKind.{ExtKind}
use Rattle.un_ir.specs.declared.extended.ExtKind.TheVariants.{In, Out, Body, End, Copy, Enter, Leave}
use Rattle.un_ir.specs.declared.extended.Operand.{Operand}
use Rattle.un_ir.specs.declared.extended.ExtBlock.{ExtBlock}
use Rattle.un_ir.specs.declared.extended.Ext.{Ext}
use Rattle.un_ir.specs.WellFormed.{result_kind}
use Rattle.un_ir.specs.Extended.{temp, carried, first_read, anywhere, kind_of_temp, wants_of, IsGoodOperand, result_count, defined_kinds}
use Rattle.un_ir.specs.Linear.{Values, World, first_of, value_of, effect_by, entered}
use Rattle.un_model.specs.declared.model.Options.{Options}
use Rattle.un_model.specs.declared.schedule.LiveRange.{LiveRange}
use Rattle.un_model.specs.Variables.{var_at, ops_count}
use Rattle.un_lists.proofs.Lists.{Each, Member, each_of, place_of}
use Rattle.un_emit.proofs.Holds.{AreTruths}
use Rattle.un_model.proofs.Placed.{Placed, region_placed, Spot, placed_count}
use Rattle.un_model.proofs.PlacedSchedules.{all, spots}
use Rattle.un_model.proofs.TempKinds.{spot_carried, carried_at, carried_is, kind_at, kind_or, spot_kind, own_kind, same_kind}
use Rattle.un_model.proofs.Readings.{Solved, numbered, fit_kinds, placed_good, zip_get, all_member}
use Rattle.un_emit.proofs.JobDeeds.{temps_of, one_zip}
use Rattle.un_emit.proofs.BlockJobs.{InRegion, active_of}
use Rattle.un_emit.proofs.BlockTimed.{its_spot, definer_of, only_result}
use Rattle.un_emit.proofs.BlockJobs.{in_region, region_block}
use Rattle.un_emit.proofs.JobValues.{Carries}
use Rattle.un_emit.proofs.Values.{effect_value, total, world_by, world_after, Equation, Equations, Runs, FirstsBefore, equations}

module _ (e : Ext) (o : Options) (values : List ℕ) (h : Solved e o values) (k : ℕ) (block : ExtBlock)
    (r : InRegion (all e o values) k block) where
  abbrev pub ops : List Placed
  ops = region_placed r.region

  pub of_all : (p : Placed) → Member p ops → Member p (all e o values) × (p.block ≡ k)
  of_all p m = (in_region (all e o values) k block r p m, region_block r.region p m ∙ r.number)

  -- the values at the end of the run past failures
  abbrev pub final : List ℕ → World → Values
  final taken w = (total (region_placed r.region) (entered block taken w)).values

  pub firsts : (val : Values) → Each (FirstsBefore e o values h val) ops
  firsts val = each_of (FirstsBefore e o values h val) ops (λ p m x mx.
      let g = placed_good e o values h p (of_all p m).0 in
      let keeps = g.keeps in
      let j = place_of p.op.operands x mx in
      let z = zip_get (IsGoodOperand e.names e.blocks g.before) p.op.operands (wants_of e.table e.names e.blocks p.owner p.op.kind p.op) j.0
      x keeps.operands j.2 in
      let ok = z.2 in
      let s = g.local (temp (first_of x.alts)) (all_member (Contains g.before) x.alts (temp (first_of x.alts)) ok.known
      (first_in x.alts ok.chooses)) in
      (s.0, s.1, ap (λ (t : TempId). t.0) s.2, s.4))
    where
      first_in : (alts : List TempId) → 0 < length alts → Member (temp (first_of alts)) alts
      first_in [] lt = absurd (omega arith)
      first_in (y ∷ ys) lt = inl refl

  pub runs : (taken : List ℕ) (w : World) → Runs e o values h (final taken w) (let q = r.region in q.number) ops (entered block taken w)
  runs taken w = let q = r.region in record {
    counts = placed_count q.block q.owner (var_at (q.first + ops_count (q.owner).ops)) q.number q.first (q.owner).ops;
    into = λ p m. (of_all p m).0;
    end = λ x. refl;
  }

  pub its_equations : (taken : List ℕ) (w : World) → Equations (final taken w) ops w
      × (world_after (final taken w) ops w ≡ (total ops (entered block taken w)).world)
  its_equations taken w = equations e o values h (final taken w) (let q = r.region in q.number) ops (entered block taken w) (runs taken w)
      (firsts (final taken w))

  equation_of : (val : Values) (ps : List Placed) (w : World) (p : Placed) → Equations val ps w → Member p ps → (u : World)
      × Equation val p u
  equation_of val [] w p q m = elim m [ ]
  equation_of val (x ∷ xs) w p q (inl s) = (w, subst (λ (y : Placed). Equation val y w) s q.0)
  equation_of val (x ∷ xs) w p q (inr m) = equation_of val xs (world_by val x.op.kind x.op w) p q.1 m

  -- ---- what a copy carries

  copy_shape : (u : Spot) (node : NodeCopy) → Member u (spots e o values) → (let p = u.definer in p.op.kind ≡ Copy node) → (x : Operand)
      × (let p = u.definer in (p.op.operands ≡ x ∷ []) × (p.op.results ≡ u.temp ∷ []))
  copy_shape u node m q =
      let d = definer_of e o values h u m in
      let p = u.definer in
      let g = placed_good e o values h p d.0 in
      let keeps = g.keeps in
      let w = anywhere (unwrap_or (kind_of_temp e.names e.blocks (first_read p.op.operands)) General) in
      let wanted : wants_of e.table e.names e.blocks p.owner p.op.kind p.op ≡ w ∷ [] =
      ap (λ (x : ExtKind). wants_of e.table e.names e.blocks p.owner x p.op) q in
      let one = one_zip (IsGoodOperand e.names e.blocks g.before) p.op.operands w
      (subst (AllZip (IsGoodOperand e.names e.blocks g.before) p.op.operands) wanted keeps.operands) in
      let l : length p.op.results ≡ 1 = keeps.results ∙ ap (result_count e.table p.owner) q in
      (one.0, (one.1, only p.op.results u.place u.temp d.1 l))
    where
      only : (xs : List TempId) (n : ℕ) (x : TempId) → slice_get xs n ≡ Some x → length xs ≡ 1 → xs ≡ x ∷ []
      only [] n x s l = absurd (cc s)
      only (y ∷ []) zero x s l = let z : y ≡ x = cc s in ap (λ t. t ∷ []) z
      only (y ∷ []) (suc n) x s l = absurd (cc s)
      only (y ∷ z ∷ zs) n x s l = absurd (omega arith)

  pub carries : (taken : List ℕ) (w : World) → Carries e o values h (final taken w) k
  carries taken w u m b = by_kind (let p = u.definer in p.op.kind) refl
    where
      val : Values
      val = final taken w

      by_kind : (x : ExtKind) → (let p = u.definer in p.op.kind ≡ x)
          → (final taken w) u.temp.0 ≡ (let c = spot_carried u in (final taken w) c.0)
      by_kind (Copy node) q =
          let s = copy_shape u node m q in
          let mine = r.all_in u.definer (definer_of e o values h u m).0 b in
          let eq = equation_of (final taken w) ops w u.definer (its_equations taken w).0 mine in
          let c = eq.1 in
          c.copy node u.temp s.0 q s.1.1 s.1.0
          ∙ sym (ap (λ (x : ExtKind). let c = carried_at x u in (final taken w) c.0) q
          ∙ ap (λ xs. let c = first_read xs in (final taken w) c.0) s.1.0)
      by_kind In q = sym (ap (λ (x : ExtKind). let c = carried_at x u in (final taken w) c.0) q)
      by_kind Out q = sym (ap (λ (x : ExtKind). let c = carried_at x u in (final taken w) c.0) q)
      by_kind (Body so) q = sym (ap (λ (x : ExtKind). let c = carried_at x u in (final taken w) c.0) q)
      by_kind (End term) q = sym (ap (λ (x : ExtKind). let c = carried_at x u in (final taken w) c.0) q)
      by_kind Enter q = sym (ap (λ (x : ExtKind). let c = carried_at x u in (final taken w) c.0) q)
      by_kind Leave q = sym (ap (λ (x : ExtKind). let c = carried_at x u in (final taken w) c.0) q)

  -- ---- predicates

  truth_small : (b : Bool) → truth_of b < 2
  truth_small true = omega arith
  truth_small false = omega arith

  rest_small : (n : ℕ) → n % 2 < 2
  rest_small n = omega arith

  computed_truth : (so : SrcOp) (op : Op) (xs : List ℕ) (w : World) → op ≡ so.op → result_kind op ≡ Pred
      → effect_value (effect_by op so xs w) < 2
  computed_truth so CmpEq xs w q s = subst (λ (op : Op). eval op xs so.imm < 2) q (truth_small _)
  computed_truth so CmpGt xs w q s = subst (λ (op : Op). eval op xs so.imm < 2) q (truth_small _)
  computed_truth so CmpGtu xs w q s = subst (λ (op : Op). eval op xs so.imm < 2) q (truth_small _)
  computed_truth so CmpEqi xs w q s = subst (λ (op : Op). eval op xs so.imm < 2) q (truth_small _)
  computed_truth so CmpGti xs w q s = subst (λ (op : Op). eval op xs so.imm < 2) q (truth_small _)
  computed_truth so R2P xs w q s = subst (λ (op : Op). eval op xs so.imm < 2) q (rest_small (slice_index xs 0))
  computed_truth so _ xs w q s = absurd (cc s)

  -- the predicates at the block's start are 0 or 1
  abbrev pub StartTruths : List ℕ → World → Type 0
  StartTruths taken w = (u : Spot) → Member u (spots e o values) → u.definer.block ≡ k → (let p = u.definer in p.op.kind ≡ In)
      → spot_kind e.names u ≡ Pred → (final taken w) u.temp.0 < 2

  general : (xs : List TempId) (n : ℕ) → kind_or (map (λ (y : TempId). General) xs) n ≡ General
  general [] n = refl
  general (x ∷ xs) zero = refl
  general (x ∷ xs) (suc n) = general xs n

  one_kind : (so : SrcOp) (xs : List TempId) (n : ℕ) → kind_or (map (λ (y : TempId). result_kind so.op) xs) n ≡ Pred
      → result_kind so.op ≡ Pred
  one_kind so [] n q = absurd (cc q)
  one_kind so (x ∷ xs) zero q = q
  one_kind so (x ∷ xs) (suc n) q = one_kind so xs n q

  -- a value that no copy gives
  base_truth : (taken : List ℕ) (w : World) (u : Spot) → StartTruths taken w → Member u (spots e o values) → u.definer.block ≡ k
      → spot_kind e.names u ≡ Pred → (final taken w) u.temp.0 < 2
  base_truth taken w u st m b q = by_kind (let p = u.definer in p.op.kind) refl
    where
      kind_is : (x : ExtKind) → (let p = u.definer in p.op.kind ≡ x)
          → kind_or (let p = u.definer in defined_kinds e.names p.owner x p.op) u.place ≡ Pred
      kind_is x s = ap (λ (y : ExtKind). kind_or (let p = u.definer in defined_kinds e.names p.owner y p.op) u.place) (sym s) ∙ q

      never : kind_or (map (λ (y : TempId). General) (let p = u.definer in p.op.results)) u.place ≡ Pred → (final taken w) u.temp.0 < 2
      never s = let z : General ≡ Pred = sym (general (let p = u.definer in p.op.results) u.place) ∙ s in absurd (cc z)

      by_kind : (x : ExtKind) → (let p = u.definer in p.op.kind ≡ x) → (final taken w) u.temp.0 < 2
      by_kind In s = st u m b s q
      by_kind (Body so) s =
          let d = definer_of e o values h u m in
          let p = u.definer in
          let mine = r.all_in p d.0 b in
          let eq = equation_of (final taken w) ops w p (its_equations taken w).0 mine in
          let c = eq.1 in
          let le = only_result e o values h p d.0 (λ z. let y : Body so ≡ In = sym s ∙ z in absurd (cc y)) in
          let shape = single p.op.results u.place u.temp d.1 le in
          let small = computed_truth so so.op (map (value_of (final taken w)) p.op.operands) eq.0 refl
          (one_kind so p.op.results u.place (kind_is (Body so) s)) in
          subst (λ n. n < 2) (sym (c.source so u.temp s shape)) small
        where
          single : (xs : List TempId) (n : ℕ) (x : TempId) → slice_get xs n ≡ Some x → length xs ≤ 1 → xs ≡ x ∷ []
          single [] n x s l = absurd (cc s)
          single (y ∷ []) zero x s l = let z : y ≡ x = cc s in ap (λ t. t ∷ []) z
          single (y ∷ []) (suc n) x s l = absurd (cc s)
          single (y ∷ z ∷ zs) n x s l = absurd (omega arith)
      by_kind Out s = never (kind_is Out s)
      by_kind (End term) s = never (kind_is (End term) s)
      by_kind (Copy node) s = never (kind_is (Copy node) s)
      by_kind Enter s = never (kind_is Enter s)
      by_kind Leave s = never (kind_is Leave s)

  pub truths : (taken : List ℕ) (w : World) → StartTruths taken w → AreTruths (temps_of e o values h k) (final taken w)
  truths taken w st x act kind =
      let a = active_of e o values h x k act in
      let s = its_spot e o values h x a.0 in
      let u = s.0 in
      let b : u.definer.block ≡ k = ap (λ (v : LiveRange). v.block.0) s.3 ∙ a.1 in
      let kd : kind_at e o values (numbered e o values h) (fit_kinds e o values h) u.temp.0 ≡ Pred =
      ap (kind_at e o values (numbered e o values h) (fit_kinds e o values h)) s.2 ∙ kind in
      subst (λ n. (final taken w) n < 2) s.2 (of_spot u s.1 b kd (let p = u.definer in p.op.kind) refl)
    where
      own : (u : Spot) → Member u (spots e o values) → u.definer.block ≡ k → spot_carried u ≡ u.temp
          → kind_at e o values (numbered e o values h) (fit_kinds e o values h) u.temp.0 ≡ Pred → (final taken w) u.temp.0 < 2
      own u m b c q = base_truth taken w u st m b (sym (own_kind e o values (numbered e o values h) (fit_kinds e o values h) u m c) ∙ q)

      of_spot : (u : Spot) → Member u (spots e o values) → u.definer.block ≡ k
          → kind_at e o values (numbered e o values h) (fit_kinds e o values h) u.temp.0 ≡ Pred → (x : ExtKind)
          → (let p = u.definer in p.op.kind ≡ x) → (final taken w) u.temp.0 < 2
      of_spot u m b q (Copy node) s =
          let sh = copy_shape u node m s in
          let x = sh.0 in
          let p = u.definer in
          let d = definer_of e o values h u m in
          let g = placed_good e o values h p d.0 in
          let keeps = g.keeps in
          let z = zip_get (IsGoodOperand e.names e.blocks g.before) p.op.operands (wants_of e.table e.names e.blocks p.owner p.op.kind p.op)
          0 x keeps.operands (ap (λ xs. slice_get xs 0) sh.1.0) in
          let ok = z.2 in
          let first = temp (first_of x.alts) in
          let mem = first_in x.alts ok.chooses in
          let v = g.local first (all_member (Contains g.before) x.alts first ok.known mem) in
          let one = all_member (λ (y : TempId). carried e.blocks y ≡ first) x.alts first ok.one_value mem in
          let self : spot_carried v.0 ≡ (v.0).temp = sym (carried_is e o values (numbered e o values h) (fit_kinds e o values h) v.0 v.1)
          ∙ ap (carried e.blocks) v.2 ∙ one ∙ sym v.2 in
          let cu : spot_carried u ≡ first = ap (λ (y : ExtKind). carried_at y u) s ∙ ap first_read sh.1.0 in
          let carr : carried e.blocks u.temp ≡ carried e.blocks (v.0).temp =
          carried_is e o values (numbered e o values h) (fit_kinds e o values h) u m ∙ cu ∙ sym (ap (carried e.blocks) v.2 ∙ one) in
          let kv = sym (same_kind e o values (numbered e o values h) (fit_kinds e o values h) u.temp (v.0).temp carr) ∙ q in
          let small = own v.0 v.1 (v.3 ∙ b) self kv in
          let same : (final taken w) u.temp.0 ≡ (final taken w) (v.0).temp.0 = carries taken w u m b
          ∙ ap (λ (y : TempId). (final taken w) y.0) (cu ∙ sym v.2) in
          subst (λ n. n < 2) (sym same) small
        where
          first_in : (alts : List TempId) → 0 < length alts → Member (temp (first_of alts)) alts
          first_in [] lt = absurd (omega arith)
          first_in (y ∷ ys) lt = inl refl
      of_spot u m b q In s = own u m b (ap (λ (y : ExtKind). carried_at y u) s) q
      of_spot u m b q Out s = own u m b (ap (λ (y : ExtKind). carried_at y u) s) q
      of_spot u m b q (Body so) s = own u m b (ap (λ (y : ExtKind). carried_at y u) s) q
      of_spot u m b q (End term) s = own u m b (ap (λ (y : ExtKind). carried_at y u) s) q
      of_spot u m b q Enter s = own u m b (ap (λ (y : ExtKind). carried_at y u) s) q
      of_spot u m b q Leave s = own u m b (ap (λ (y : ExtKind). carried_at y u) s) q
