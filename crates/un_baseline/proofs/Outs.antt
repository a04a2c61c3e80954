-- The end of a block reads what stands where it is kept; the copies of its operands do nothing.
use Rattle.std.proofs.Common.{◌≡◌, ℕ, zero, suc, ◌+◌, ◌<◌, ◌≤◌, ◌⊎◌, inl, inr, Bool, true, false, List, [], ◌∷◌, ◌++◌, length, Option, Some}
use Rattle.std.proofs.Common.{None, refl, sym, ap, subst, ◌∙◌, append_assoc, arith}
use Rattle.std.specs.Prelude.{◌==◌, slice_get, slice_index, IfSome, All}
use Rattle.std.specs.List.{AllZip}
use Rattle.std.proofs.lemmas.Bool.Decides.{nat_tests}
use Rattle.std.proofs.lemmas.List.Elements.{All-nil, All-cons}
use Rattle.un_base.specs.declared.ids.TempId.{TempId}
use Rattle.un_isa.specs.declared.op.Op.{Op}
use Rattle.un_isa.specs.declared.op.Op.TheVariants.{Call}
use Rattle.un_isa.specs.declared.reg.Reg.{Reg}
use Rattle.un_isa.specs.Fit.{IsFit}
use Rattle.un_ir.specs.declared.function.Kind.{Kind}
use Rattle.un_ir.specs.declared.function.Kind.TheVariants.{General, Pred}
use Rattle.un_ir.specs.declared.extended.NodeCopy.TheVariants.{U, U2}
use Rattle.un_ir.specs.declared.extended.ExtKind.TheVariants.{Out}
use Rattle.un_ir.specs.declared.extended.Operand.{Operand}
use Rattle.un_ir.specs.declared.extended.ExtOp.{ExtOp}
use Rattle.un_ir.specs.declared.extended.ExtBlock.{ExtBlock}
use Rattle.un_ir.specs.declared.extended.Ext.{Ext}
use Rattle.un_ir.specs.declared.extended.Growth.{Growth}
use Rattle.un_ir.specs.declared.extended.Value.{Value}
use Rattle.un_ir.specs.declared.extended.Sort.{Sort}
use Rattle.un_ir.specs.Extended.{temp}
use Rattle.un_ir.specs.Linear.{first_of}
use Rattle.un_ir.specs.ExtendOf.{copy_op, with_operand, new_operands, alternatives, chosen_from}
use Rattle.un_model.specs.declared.schedule.Issue.{Issue}
use Rattle.un_model.specs.declared.schedule.Read.{Read}
use Rattle.un_model.specs.declared.schedule.LiveRange.{LiveRange}
use Rattle.un_model.specs.Instructions.{space_read}
use Rattle.un_model.specs.Pairs.{places_from}
use Rattle.un_model.specs.Schedules.{chosen}
use Rattle.un_model.specs.Solutions.{InSpace}
use Rattle.un_baseline.specs.declared.plan.Purpose.{Purpose}
use Rattle.un_baseline.specs.declared.plan.Purpose.TheVariants.{Returned, Unread}
use Rattle.un_baseline.specs.declared.plan.Setting.{Setting}
use Rattle.un_baseline.specs.declared.plan.Progress.{Progress}
use Rattle.un_baseline.specs.Plans.{Step, planned_issue, planned_read}
use Rattle.un_baseline.specs.SpillEverywhere.{purpose_at, no_move, operand_copy, truth_copy, out_place}
use Rattle.un_baseline.proofs.Carried.{Carries, carries_operand, chosen_own}
use Rattle.un_baseline.proofs.Grown.{copy_ops, operand_ops_by, operand_ops, operands_ops}
use Rattle.un_baseline.proofs.Sound.{Seen, GoodRead, NewOk, Differ}
use Rattle.un_baseline.proofs.Standing.{Stands, good_read}
use Rattle.un_baseline.proofs.Timing.{pairs_nil}
use Rattle.un_baseline.proofs.Walk.{Good, Idle, idle_none, idle_then, past_copy, idle_copy}
use Rattle.un_baseline.proofs.Arrivals.{operands_purpose}

-- a read of what stands in this register
pub record ReadsFrom (seen : Seen) (q : Read) (r : ℕ) : Type 0 where
  pub temp : LiveRange
  pub there : slice_get seen.made q.temp.0 ≡ Some temp
  pub reg : temp.reg ≡ r

module _ (c : ℕ) (H : Seen → List Read → Type 0) (b end : ℕ) (e : Ext) (block : ExtBlock) (s : Setting) (fit : IsFit e.table) where
  abbrev G : ℕ → Progress → Seen → List ExtOp → Type 0
  G = Good c H b end e block s fit

  -- ---- copies that do nothing

  -- copies of no result, or behind its first copy
  abbrev pub IsPast : Progress → Purpose → Type 0
  IsPast p purpose = (purpose ≡ Unread) ⊎ ((purpose ≡ Returned) × (1 ≤ p.operands))

  past_first : (p : Progress) (alts : List TempId) (purpose : Purpose) → IsPast p purpose → operand_copy e.table s p alts purpose ≡ no_move
  past_first p alts purpose (inl h) = ap (operand_copy e.table s p alts) h
  past_first p alts purpose (inr h) =
      let le = h.1 in
      let z : (p.operands == 0) ≡ false = grind (arith, nat_tests) in
      ap (operand_copy e.table s p alts) h.0 ∙ rw z refl

  past_second : (p : Progress) (alts : List TempId) (purpose : Purpose) → IsPast p purpose → truth_copy p alts purpose ≡ no_move
  past_second p alts purpose (inl h) = ap (truth_copy p alts) h
  past_second p alts purpose (inr h) = ap (truth_copy p alts) h.0

  past_later : (p : Progress) (purpose : Purpose) → IsPast p purpose → (q : Progress) → p.operands ≤ q.operands → IsPast q purpose
  past_later p purpose (inl h) q le = inl h
  past_later p purpose (inr h) q le = let a = h.1 in inr (h.0, omega arith)

  -- behind them the cycle is the same
  abbrev Then : ℕ → Seen → List ExtOp → Type 0
  Then now seen rest = (m : ℕ) (p' : Progress) (seen' : Seen) (count : ℕ) → p'.cycle ≡ now → Idle c H b end count seen seen'
      → G m p' seen' rest

  copies_rest : (kind : Kind) (copied : Bool) (alts : List TempId) (k n : ℕ) (p : Progress) (seen : Seen) (rest : List ExtOp)
      (purpose : Purpose)
      → purpose_at s.term rest ≡ purpose → IsPast p purpose
      → ((m : ℕ) (p' : Progress) (seen' : Seen) (count : ℕ) → p'.cycle ≡ p.cycle → p.operands ≤ p'.operands
      → Idle c H b end count seen seen' → G m p' seen' rest)
      → G n p seen (copy_ops U U2 kind copied alts k ++ rest)
  copies_rest kind false alts k n p seen rest purpose for past go = go n p seen 0 refl (omega arith) (idle_none c H b end seen)
  copies_rest General true alts k n p seen rest purpose for past go =
      idle_copy c H b end e block s fit n p seen U alts k rest purpose for (past_first p alts purpose past)
      (λ seen' idle. go (n + 1) (past_copy c H b end e block s fit p U) seen' 1 refl (omega arith) idle)
  copies_rest Pred true alts k n p seen rest purpose for past go =
      let alts' = alts ++ temp k ∷ [] in
      let p' = past_copy c H b end e block s fit p U in
      idle_copy c H b end e block s fit n p seen U alts k (copy_op U2 alts' (k + 1) ∷ rest) purpose for (past_first p alts purpose past)
      (λ mid idle. idle_copy c H b end e block s fit (n + 1) p' mid U2 alts' (k + 1) rest purpose for
      (past_second p' alts' purpose (past_later p purpose past p' (omega arith)))
      (λ seen' idle'. go (n + 1 + 1) (past_copy c H b end e block s fit p' U2) seen' (1 + 1) refl (omega arith)
      (idle_then c H b end 1 1 seen mid seen' idle idle')))

  operand_rests : (v : Option Value) (k n : ℕ) (p : Progress) (seen : Seen) (rest : List ExtOp) (purpose : Purpose)
      → purpose_at s.term rest ≡ purpose → IsPast p purpose
      → ((m : ℕ) (p' : Progress) (seen' : Seen) (count : ℕ) → p'.cycle ≡ p.cycle → p.operands ≤ p'.operands
      → Idle c H b end count seen seen' → G m p' seen' rest)
      → G n p seen (operand_ops_by v k ++ rest)
  operand_rests None k n p seen rest purpose for past go = go n p seen 0 refl (omega arith) (idle_none c H b end seen)
  operand_rests (Some v) k n p seen rest purpose for past go = copies_rest v.sort.kind v.sort.copied v.own k n p seen rest purpose for
      past go

  pub operands_rest : (xs : List Operand) (n : ℕ) (p : Progress) (seen : Seen) (g : Growth) (rest : List ExtOp) (purpose : Purpose)
      → purpose_at s.term rest ≡ purpose → IsPast p purpose
      → ((m : ℕ) (p' : Progress) (seen' : Seen) (count : ℕ) → p'.cycle ≡ p.cycle → Idle c H b end count seen seen' → G m p' seen' rest)
      → G n p seen (operands_ops xs g ++ rest)
  operands_rest [] n p seen g rest purpose for past go = go n p seen 0 refl (idle_none c H b end seen)
  operands_rest (x ∷ xs) n p seen g rest purpose for past go =
      let g' = with_operand x g in
      subst (G n p seen) (sym (append_assoc (operand_ops x g) (operands_ops xs g') rest))
      (operand_rests (slice_get g.values (first_of x.alts)) g.next n p seen (operands_ops xs g' ++ rest) purpose
      (operands_purpose c H b end e block s fit xs g' rest ∙ for) past
      (λ m p' mid count same le idle.
      operands_rest xs m p' mid g' rest purpose for (past_later p purpose past p' le)
      (λ m' q seen' count' same' idle'. go m' q seen' (count + count') (same' ∙ same)
      (idle_then c H b end count count' seen mid seen' idle idle'))))

  -- ---- what the block's end reads

  -- an operand's value stands in register r at this place among its own temporaries, which the block's end chooses as its
  -- operand at place j of so many
  pub record OutKept (g : Growth) (seen : Seen) (count j : ℕ) (x : Operand) (r : ℕ) : Type 0 where
    pub own : List TempId
    pub sort : Sort
    pub carries : Carries g (first_of x.alts) own sort
    pub place : ℕ
    pub within : place < length own
    pub stands : Stands c b (chosen own place).0 r seen
    pub home : IfSome x.home (λ (h : Reg). r ≡ h.0)
    pub chooses : (y : Operand) → first_of y.alts ≡ first_of own → out_place e.names block.live_out s count s.term j y ≡ place

  abbrev pub AreOut : Growth → Seen → ℕ → ℕ → List Operand → List ℕ → Type 0
  AreOut g seen count j [] [] = Unit {0}
  AreOut g seen count j [] (r ∷ rs) = ⊥
  AreOut g seen count j (x ∷ xs) [] = ⊥
  AreOut g seen count j (x ∷ xs) (r ∷ rs) = OutKept g seen count j x r × AreOut g seen count (j + 1) xs rs

  abbrev pub AreOutReads : Seen → ℕ → ℕ → List Operand → List ℕ → Type 0
  AreOutReads seen count j [] [] = Unit {0}
  AreOutReads seen count j [] (r ∷ rs) = ⊥
  AreOutReads seen count j (y ∷ ys) [] = ⊥
  AreOutReads seen count j (y ∷ ys) (r ∷ rs) =
      (Stands c b (chosen y.alts (out_place e.names block.live_out s count s.term j y)).0 r seen × IfSome y.home (λ (h : Reg). r ≡ h.0)) ×
      AreOutReads seen count (j + 1) ys rs

  pub out_later : (g g' : Growth) (seen seen' : Seen) (count j : ℕ) (xs : List Operand) (rs : List ℕ)
      → ((x : ℕ) (own : List TempId) (sort : Sort) → Carries g x own sort → Carries g' x own sort)
      → All (λ (r : ℕ). (k : ℕ) → Stands c b k r seen → Stands c b k r seen') rs → AreOut g seen count j xs rs
      → AreOut g' seen' count j xs rs
  out_later g g' seen seen' count j [] [] f stands h = tt
  out_later g g' seen seen' count j [] (r ∷ rs) f stands h = absurd h
  out_later g g' seen seen' count j (x ∷ xs) [] f stands h = absurd h
  out_later g g' seen seen' count j (x ∷ xs) (r ∷ rs) f stands h =
      let k = h.0 in (
        record {
          own = k.own;
          sort = k.sort;
          carries = f (first_of x.alts) k.own k.sort k.carries;
          place = k.place;
          within = k.within;
          stands = stands 0 r (omega arith) (chosen k.own k.place).0 k.stands;
          home = k.home;
          chooses = k.chooses;
        },
        out_later g g' seen seen' count (j + 1) xs rs f (λ m d lt. stands (suc m) d (omega arith)) h.1,
      )

  first_own : (xs more : List TempId) (place : ℕ) → place < length xs → first_of (xs ++ more) ≡ first_of xs
  first_own [] more place lt = absurd (omega arith)
  first_own (x ∷ xs) more place lt = refl

  first_alternative : (x : Operand) (g : Growth) (own : List TempId) (sort : Sort) (place : ℕ) → place < length own
      → Carries g (first_of x.alts) own sort
      → first_of (chosen_from x (with_operand x g)).alts ≡ first_of own
  first_alternative x g own sort place lt h =
      let k = carries_operand x g (first_of x.alts) own sort h in
      ap (λ (v : Option Value). first_of (alternatives v)) k.at ∙ ap first_of k.all ∙ first_own own k.more place lt

  pub out_reads : (g : Growth) (seen : Seen) (count j : ℕ) (xs : List Operand) (rs : List ℕ) → AreOut g seen count j xs rs
      → AreOutReads seen count j (new_operands xs g) rs
  out_reads g seen count j [] [] h = tt
  out_reads g seen count j [] (r ∷ rs) h = absurd h
  out_reads g seen count j (x ∷ xs) [] h = absurd h
  out_reads g seen count j (x ∷ xs) (r ∷ rs) h =
      let k = h.0 in
      let y = chosen_from x (with_operand x g) in
      let place = k.chooses y (first_alternative x g k.own k.sort k.place k.within k.carries) in (
        (
          subst (λ (n : ℕ). Stands c b n r seen) (sym (ap (λ (i : ℕ). (chosen y.alts i).0) place
              ∙ ap (λ (z : TempId). z.0) (chosen_own x g k.own k.sort k.place k.carries k.within))) k.stands,
          k.home,
        ),
        out_reads (with_operand x g) seen count (j + 1) xs rs
            (out_later g (with_operand x g) seen seen count (j + 1) xs rs (λ v own sort q. carries_operand x g v own sort q)
            (λ m d lt n st. st) h.1),
      )

  -- ---- the block's end

  place_of : (f : ℕ → Operand → ℕ) (j m : ℕ) (ys : List Operand) (y : Operand) → slice_get ys m ≡ Some y
      → slice_index (places_from f j ys) m ≡ f (j + m) y
  place_of f j m [] y got = absurd (cc got)
  place_of f j zero (z ∷ ys) y got = let same : z ≡ y = cc got in let n : j ≡ j + 0 = omega arith in ap (f j) same ∙ ap (λ (k : ℕ). f k y) n
  place_of f j (suc m) (z ∷ ys) y got = let n : j + 1 + m ≡ j + suc m = omega arith in place_of f (j + 1) m ys y got
      ∙ ap (λ (k : ℕ). f k y) n

  module _ (seen : Seen) (i : Issue) (st : Step) (count : ℕ) (block_is : i.block.0 ≡ b) (free : i.instr ≡ None) where
    ends_good : (j : ℕ) (ys : List Operand) (rs : List ℕ) → ((m : ℕ) (y : Operand) → slice_get ys m ≡ Some y
        → slice_index st.choices (j + m) ≡ out_place e.names block.live_out s count s.term (j + m) y)
        → AreOutReads seen count j ys rs → All (GoodRead c seen) (places_from (planned_read i st) j ys) × AllZip (ReadsFrom seen)
        (places_from (planned_read i st) j ys) rs
    ends_good j [] [] places h = (All-nil (GoodRead c seen), tt)
    ends_good j [] (r ∷ rs) places h = absurd h
    ends_good j (y ∷ ys) [] places h = absurd h
    ends_good j (y ∷ ys) (r ∷ rs) places h =
        let q = planned_read i st j y in
        let at : j + 0 ≡ j = omega arith in
        let place : slice_index st.choices j ≡ out_place e.names block.live_out s count s.term j y =
        ap (slice_index st.choices) (sym at) ∙ places 0 y refl ∙ ap (λ (n : ℕ). out_place e.names block.live_out s count s.term n y) at in
        let k = (chosen y.alts (out_place e.names block.live_out s count s.term j y)).0 in
        let temp_is : q.temp.0 ≡ k = ap (λ (n : ℕ). (chosen y.alts n).0) place in
        let st' = h.0.0 in
        let good = good_read c b k r seen st' q temp_is block_is (subst (λ (x : Option Op). InSpace r (space_read x j)) (sym free) tt)
        h.0.1 in
        let rest = ends_good (j + 1) ys rs (λ m z got. (let n : j + 1 + m ≡ j + suc m = omega arith in
        ap (slice_index st.choices) n ∙ places (suc m) z got ∙ ap (λ (x : ℕ). out_place e.names block.live_out s count s.term x z)
        (sym n))) h.1 in (
          All-cons (GoodRead c seen) q (places_from (planned_read i st) (j + 1) ys) good rest.0,
          (record { temp = st'.temp; there = ap (slice_get seen.made) temp_is ∙ st'.there; reg = st'.reg }, rest.1),
        )

  pub out_good : (n : ℕ) (p : Progress) (seen : Seen) (ys : List Operand) (rs : List ℕ) → AreOutReads seen (length ys) 0 ys rs
      → ((reads : List Read) → AllZip (ReadsFrom seen) reads rs → H seen reads)
      → G n p seen (record { kind = Out; operands = ys; results = [] } ∷ [])
  out_good n p seen ys rs h wanted =
      let op : ExtOp = record { kind = Out; operands = ys; results = [] } in
      let f = out_place e.names block.live_out s (length ys) s.term in
      let st : Step = record { instr = 0; cycle = 0; choices = places_from f 0 ys; registers = [] } in
      let i = planned_issue b end n op st in
      let reads = places_from (planned_read i st) 0 ys in
      let good = ends_good seen i st (length ys) refl refl 0 ys rs (λ m y got. (let at : 0 + m
      ≡ m = omega arith in ap (slice_index (places_from f 0 ys)) at ∙ place_of f 0 m ys y got)) h in
      let no_call : i.instr ≡ Some Call → ⊥ = λ call. cc call in (
        (
          record {
            reads = good.0;
            new = All-nil (NewOk c seen i reads);
            pairs = pairs_nil Differ;
            calls_old = λ call. absurd (no_call call);
            calls_own = λ call. absurd (no_call call);
            calls_made = λ k d lt active call. absurd (no_call call);
          },
          wanted reads good.1,
        ),
        tt,
      )
