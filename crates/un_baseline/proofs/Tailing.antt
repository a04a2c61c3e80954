-- Steps at the end of a block: transfers, and reloads that issue later than what stands behind them.
use Rattle.std.proofs.Common.{◌≡◌, ◌≢◌, ℕ, suc, ◌+◌, ◌<◌, ◌≤◌, inl, inr, Bool, true, List, [], ◌∷◌, ◌++◌, length, map, get_or, Some, None}
use Rattle.std.proofs.Common.{refl, sym, ap, subst, ◌∙◌, arith}
use Rattle.std.specs.Prelude.{is_some, if◌then◌else◌, slice_get, slice_index, All}
use Rattle.std.proofs.lemmas.Option.{slice_get_within}
use Rattle.std.proofs.lemmas.List.{length-append}
use Rattle.std.proofs.lemmas.List.Elements.{All-append, All-nil, All-cons}
use Rattle.un_base.specs.declared.ids.TempId.{TempId}
use Rattle.un_isa.specs.declared.op.Op.{Op}
use Rattle.un_isa.specs.declared.op.Op.TheVariants.{Call}
use Rattle.un_isa.specs.declared.reg.TheConstants.{GENERALS, FIRST_SLOT}
use Rattle.un_isa.specs.Fit.{IsFit}
use Rattle.un_ir.specs.declared.function.Term.{Term}
use Rattle.un_ir.specs.declared.extended.NodeCopy.TheVariants.{U}
use Rattle.un_ir.specs.declared.extended.ExtKind.TheVariants.{End, Enter, Leave}
use Rattle.un_ir.specs.declared.extended.Operand.{Operand}
use Rattle.un_ir.specs.declared.extended.ExtOp.{ExtOp}
use Rattle.un_ir.specs.declared.extended.ExtBlock.{ExtBlock}
use Rattle.un_ir.specs.declared.extended.Ext.{Ext}
use Rattle.un_ir.specs.declared.extended.TheConstants.{RELOAD}
use Rattle.un_ir.specs.ExtendOf.{copy_op, frame_op}
use Rattle.un_model.specs.declared.schedule.Issue.{Issue}
use Rattle.un_model.specs.declared.schedule.Read.{Read}
use Rattle.un_model.specs.declared.schedule.LiveRange.{LiveRange}
use Rattle.un_model.specs.Instructions.{transfer_of}
use Rattle.un_model.specs.Pairs.{places_from}
use Rattle.un_model.specs.Schedules.{chosen}
use Rattle.un_baseline.specs.declared.plan.Purpose.{Purpose}
use Rattle.un_baseline.specs.declared.plan.Definer.TheVariants.{Other}
use Rattle.un_baseline.specs.declared.plan.Setting.{Setting}
use Rattle.un_baseline.specs.declared.plan.Progress.{Progress}
use Rattle.un_baseline.specs.Plans.{Step, planned_issue, planned_read, planned_reads_by}
use Rattle.un_baseline.specs.SpillEverywhere.{purpose_at, move, copy_move, next_cycle, leave_cycle, end_cycle, after_end, operand_place}
use Rattle.un_baseline.specs.SpillEverywhere.{other_progress, steps_of}
use Rattle.un_baseline.proofs.Made.{made_at}
use Rattle.un_baseline.proofs.Sound.{Seen, after, GoodRead, NewOk, StepOk, IsOver, Differ, Avoids}
use Rattle.un_baseline.proofs.Standing.{Stands, Timely, Known, IsCalled, good_read, stands_later, stands_new, timely_later, known_later}
use Rattle.un_baseline.proofs.Standing.{calls_later}
use Rattle.un_baseline.proofs.Timing.{pairs_nil}
use Rattle.un_baseline.proofs.Walk.{AreGoodSteps, Good, Idle, copy_step, good_copy}
use Rattle.un_baseline.proofs.Arrivals.{AreArrived, AreFor, reads_good, last_places, general_space, slot_space}
use Rattle.un_baseline.proofs.Items.{all_one}

module _ (c : ℕ) (H : Seen → List Read → Type 0) (b end : ℕ) (e : Ext) (block : ExtBlock) (s : Setting) (fit : IsFit e.table) where
  abbrev G : ℕ → Progress → Seen → List ExtOp → Type 0
  G = Good c H b end e block s fit

  -- ---- an instruction that makes nothing

  module _ (seen : Seen) (i : Issue) (rs : List Read) (not_call : i.instr ≡ Some Call → ⊥) (good : All (GoodRead c seen) rs) where
    no_new_ok : StepOk c seen i rs []
    no_new_ok = record {
      reads = good;
      new = All-nil (NewOk c seen i rs);
      pairs = pairs_nil Differ;
      calls_old = λ call. absurd (not_call call);
      calls_own = λ call. absurd (not_call call);
      calls_made = λ k d lt active call. absurd (not_call call);
    }

    inside : All (λ (q : Read). q.temp.0 < length seen.made) rs
    inside k d lt = let g = good k d lt in slice_get_within seen.made (get_or rs k d).temp.0 g.temp g.there

    no_new_stands : (k r : ℕ) → Stands c b k r seen → Stands c b k r (after seen i rs [])
    no_new_stands k r st = stands_later c b k r seen i rs [] st (All-nil (λ (m : LiveRange). m.active ≡ true → m.reg ≢ r))
        (λ call. absurd (not_call call))

    no_new_timely : (now r : ℕ) → Known c b seen → Timely c b now r seen
        → All (λ (q : Read). (a : LiveRange) → slice_get seen.made q.temp.0 ≡ Some a → a.block.0 ≡ b → a.reg ≡ r → q.cycle ≤ now) rs
        → Timely c b now r (after seen i rs [])
    no_new_timely now r known t own = timely_later c b now now r seen i rs [] (omega arith) known t inside own
        (All-nil (λ (d : LiveRange). d.active ≡ true → d.block.0 ≡ b → d.reg ≡ r → d.from < now))

    no_new_known : Known c b seen → Known c b (after seen i rs [])
    no_new_known known = known_later c b seen i rs [] known inside

    no_new_calls : (now : ℕ) → All (IsCalled c b now) seen.issues → All (IsCalled c b now) (seen.issues ++ i ∷ [])
    no_new_calls now h = calls_later c b now now seen.issues i (omega arith) h (λ call same. absurd (not_call call))

  -- one that reads nothing either
  module _ (seen : Seen) (i : Issue) (not_call : i.instr ≡ Some Call → ⊥) where
    pub quiet_ok : StepOk c seen i [] []
    quiet_ok = no_new_ok seen i [] not_call (All-nil (GoodRead c seen))

    quiet_timely : (now r : ℕ) → Known c b seen → Timely c b now r seen → Timely c b now r (after seen i [] [])
    quiet_timely now r known t = no_new_timely seen i [] not_call (All-nil (GoodRead c seen)) now r known t
        (All-nil (λ (q : Read). (a : LiveRange) → slice_get seen.made q.temp.0 ≡ Some a → a.block.0 ≡ b → a.reg ≡ r → q.cycle ≤ now))

    pub quiet_idle : Idle c H b end 0 seen (after seen i [] [])
    quiet_idle = record {
      longer = length-append seen.made [];
      stands = λ k r st. no_new_stands seen i [] not_call (All-nil (GoodRead c seen)) k r st;
      front = λ now f. record {
        timely = λ r. quiet_timely now r f.known (f.timely r);
        calls = no_new_calls seen i [] not_call (All-nil (GoodRead c seen)) now f.calls;
        known = no_new_known seen i [] not_call (All-nil (GoodRead c seen)) f.known;
      };
      timely = λ now r known t. quiet_timely now r known t;
      known = λ known. no_new_known seen i [] not_call (All-nil (GoodRead c seen)) known;
      calls = λ now h. no_new_calls seen i [] not_call (All-nil (GoodRead c seen)) now h;
    }

  pub enter_good : (n : ℕ) (p : Progress) (seen : Seen) (rest : List ExtOp)
      → ((seen' : Seen) → Idle c H b end 0 seen seen' → G (n + 1) (other_progress p.cycle Other) seen' rest)
      → G n p seen (frame_op Enter ∷ rest)
  enter_good n p seen rest go =
      let st : Step = record { instr = 1; cycle = 1; choices = []; registers = [] } in
      let i = planned_issue b end n (frame_op Enter) st in
      let not_call : i.instr ≡ Some Call → ⊥ = λ call. cc call in
      ((quiet_ok seen i not_call, tt), go (after seen i [] []) (quiet_idle seen i not_call))

  pub leave_good : (n : ℕ) (p : Progress) (seen : Seen) (rest : List ExtOp)
      → ((seen' : Seen) → Idle c H b end 0 seen seen' → G (n + 1) (other_progress p.cycle Other) seen' rest)
      → G n p seen (frame_op Leave ∷ rest)
  leave_good n p seen rest go =
      let st : Step = record { instr = 1; cycle = leave_cycle e.table s.term p.cycle; choices = []; registers = [] } in
      let i = planned_issue b end n (frame_op Leave) st in
      let not_call : i.instr ≡ Some Call → ⊥ = λ call. cc call in
      ((quiet_ok seen i not_call, tt), go (after seen i [] []) (quiet_idle seen i not_call))

  -- ---- a transfer

  -- what reads of these registers leave
  pub record Passed (rooms : List ℕ) (seen seen' : Seen) : Type 0 where
    pub longer : length seen'.made ≡ length seen.made
    pub stands : (k r : ℕ) → Stands c b k r seen → Stands c b k r seen'
    pub timely : (now r : ℕ) → All (λ (x : ℕ). x ≢ r) rooms → Known c b seen → Timely c b now r seen → Timely c b now r seen'
    pub known : Known c b seen → Known c b seen'
    pub calls : (now : ℕ) → All (IsCalled c b now) seen.issues → All (IsCalled c b now) seen'.issues

  -- a read of what stands in one register reads no other
  reads_others : (i : Issue) (st : Step) (seen : Seen) (now r : ℕ) (rooms : List ℕ) (ys : List Operand) (j : ℕ)
      → ((m : ℕ) (y : Operand) → slice_get ys m ≡ Some y → slice_index st.choices (j + m) ≡ operand_place y)
      → AreArrived c H b end e block s fit rooms ys seen → All (λ (x : ℕ). x ≢ r) rooms
      → All (λ (q : Read). (a : LiveRange) → slice_get seen.made q.temp.0 ≡ Some a → a.block.0 ≡ b → a.reg ≡ r → q.cycle ≤ now)
      (places_from (planned_read i st) j ys)
  reads_others i st seen now r [] [] j places arrived other = All-nil (λ (q : Read). (a : LiveRange) → slice_get seen.made q.temp.0
      ≡ Some a → a.block.0 ≡ b → a.reg ≡ r → q.cycle ≤ now)
  reads_others i st seen now r [] (y ∷ ys) j places arrived other = absurd arrived
  reads_others i st seen now r (x ∷ rooms) [] j places arrived other = absurd arrived
  reads_others i st seen now r (x ∷ rooms) (y ∷ ys) j places arrived other =
      let q = planned_read i st j y in
      let at : j ≡ j + 0 = omega arith in
      let place : slice_index st.choices j ≡ operand_place y = ap (slice_index st.choices) at ∙ places 0 y refl in
      let there : slice_get seen.made q.temp.0 ≡ Some arrived.0.temp = ap (λ (k : ℕ). slice_get seen.made (chosen y.alts k).0) place
      ∙ arrived.0.there in
      All-cons (λ (q : Read). (a : LiveRange) → slice_get seen.made q.temp.0 ≡ Some a → a.block.0 ≡ b → a.reg ≡ r → q.cycle ≤ now) q
      (places_from (planned_read i st) (j + 1) ys)
      (λ a at_a block reg. absurd (other 0 x (omega arith)
      (let same : arrived.0.temp ≡ a = (let f = sym there ∙ at_a in cc f) in sym arrived.0.reg ∙ ap (λ (z : LiveRange). z.reg) same ∙ reg)))
      (reads_others i st seen now r rooms ys (j + 1)
      (λ m z got. let n : j + 1 + m ≡ j + suc m = omega arith in ap (slice_index st.choices) n ∙ places (suc m) z got) arrived.1
      (λ k d lt. other (suc k) d (omega arith)))

  pub transfer_good : (n : ℕ) (p : Progress) (seen : Seen) (term : Term) (o : Op) (ys : List Operand) (rest : List ExtOp) (rooms : List ℕ)
      → transfer_of term ≡ Some o → o ≢ Call
      → AreArrived c H b end e block s fit rooms ys seen → AreFor c H b end e block s fit o 0 rooms ys
      → ((seen' : Seen) → Passed rooms seen seen' → G (n + 1) (other_progress (after_end e.table term p.cycle) Other) seen' rest)
      → G n p seen (record { kind = End term; operands = ys; results = [] } ∷ rest)
  transfer_good n p seen term o ys rest rooms is ne arrived for go =
      let op : ExtOp = record { kind = End term; operands = ys; results = [] } in
      let st : Step = record { instr = 0; cycle = end_cycle e.table term p.cycle; choices = map operand_place ys; registers = [] } in
      let i = planned_issue b end n op st in
      let rs = places_from (planned_read i st) 0 ys in
      let active : i.active ≡ true = ap is_some is in
      let same : planned_reads_by i op st ≡ rs = ap (λ (x : Bool). if x then rs else []) active in
      let places : (m : ℕ) (y : Operand) → slice_get ys m ≡ Some y → slice_index st.choices (0 + m) ≡ operand_place y =
      λ m y got. (let at : 0 + m ≡ m = omega arith in ap (slice_index (map operand_place ys)) at)
      ∙ last_places c H b end e block s fit ys m y got in
      let good = reads_good c H b end e block s fit i st o seen refl is rooms ys 0 places arrived for in
      let not_call : i.instr ≡ Some Call → ⊥ = λ call. ne (let f = sym is ∙ call in cc f) in
      let seen' = after seen i rs [] in
      let passed : Passed rooms seen seen' = record {
        longer = length-append seen.made [] ∙ (let z : length seen.made + 0 ≡ length seen.made = omega arith in z);
        stands = λ k r st'. no_new_stands seen i rs not_call good k r st';
        timely = λ now r other known t. no_new_timely seen i rs not_call good now r known t
            (reads_others i st seen now r rooms ys 0 places arrived other);
        known = λ known. no_new_known seen i rs not_call good known;
        calls = λ now h. no_new_calls seen i rs not_call good now h;
      } in
      subst (λ (xs : List Read). (StepOk c seen i xs [] × Unit {0}) × AreGoodSteps c H b end (n + 1) (after seen i xs []) rest
      (steps_of e block s (other_progress (after_end e.table term p.cycle) Other) rest)) (sym same)
      ((no_new_ok seen i rs not_call good, tt), go seen' passed)

  -- ---- a reload for a return

  pub record Reloaded (register room : ℕ) (seen seen' : Seen) : Type 0 where
    pub longer : length seen'.made ≡ length seen.made + 1
    pub new : Stands c b (length seen.made) register seen'
    pub stands : (k q : ℕ) → q ≢ register → Stands c b k q seen → Stands c b k q seen'
    pub timely : (now r : ℕ) → r ≢ register → r ≢ room → Timely c b now r seen → Timely c b now r seen'
    pub known : Known c b seen'
    pub calls : (now : ℕ) → All (IsCalled c b now) seen.issues → All (IsCalled c b now) seen'.issues

  pub timely_weaker : (now next r : ℕ) (seen : Seen) → now ≤ next → Timely c b now r seen → Timely c b next r seen
  timely_weaker now next r seen le t = record {
    reads = λ k d lt a there block reg. let x = t.reads k d lt a there block reg in omega arith;
    made = λ k d lt active block reg. let x = t.made k d lt active block reg in omega arith;
  }

  pub calls_weaker : (now next : ℕ) (issues : List Issue) → now ≤ next → All (IsCalled c b now) issues → All (IsCalled c b next) issues
  calls_weaker now next issues le h k d lt call same = let x = h k d lt call same in omega arith

  pub late_copy : (n : ℕ) (p : Progress) (seen : Seen) (alts : List TempId) (k : ℕ) (rest : List ExtOp) (purpose : Purpose)
      (at place register from room : ℕ)
      → purpose_at s.term rest ≡ purpose → copy_move e block.live_in s p purpose alts U ≡ move RELOAD at place register
      → next_cycle e.table p.cycle (move RELOAD at place register) purpose U ≡ p.cycle
      → (chosen alts place).0 ≡ from → Stands c b from room seen → FIRST_SLOT ≤ room → register < GENERALS
      → Timely c b at register seen → All (IsCalled c b at) seen.issues → Known c b seen
      → ((seen' : Seen) → Reloaded register room seen seen'
      → G (n + 1) (record { cycle = p.cycle; values = p.values; operands = p.operands + 1; definer = p.definer }) seen' rest)
      → G n p seen (copy_op U alts k ∷ rest)
  late_copy n p seen alts k rest purpose at place register from room for is later reads stands slot low timely calls known go =
      let op = copy_op U alts k in
      let m = move RELOAD at place register in
      let st = copy_step c H b end e block s fit m op in
      let i = planned_issue b end n op st in
      let q = planned_read i st 0 (record { alts = alts; home = None }) in
      let rs = q ∷ [] in
      let ms = made_at i register ∷ [] in
      let seen' = after seen i rs ms in
      let not_call : i.instr ≡ Some Call → ⊥ = λ call. cc call in
      let good : All (GoodRead c seen) rs = all_one (GoodRead c seen) q (good_read c b from room seen stands q reads refl
      (slot_space room slot) tt) in
      let in' : All (λ (x : Read). x.temp.0 < length seen.made) rs = inside seen i rs not_call good in
      let new : NewOk c seen i rs (made_at i register) = record {
        given = general_space register low;
        over_old = λ k' d lt a there active block reg from. timely.reads k' d lt a there block reg;
        over_own = all_one (λ (x : Read). (a : LiveRange) → slice_get seen.made x.temp.0 ≡ Some a → IsOver x a (made_at i register)) q
            (λ a there active block reg from. omega arith);
        differ = λ k' d lt one two block reg z. let x = timely.made k' d lt one block reg in omega arith;
        avoid = All-append (Avoids (made_at i register)) seen.issues (i ∷ [])
            (λ k' d lt active call block. inr (λ z. let x = calls k' d lt call block in omega arith))
            (all_one (Avoids (made_at i register)) i (λ active call block. inl refl));
      } in
      let ok : StepOk c seen i rs ms = record {
        reads = good;
        new = all_one (NewOk c seen i rs) (made_at i register) new;
        pairs = λ x y d lt within. absurd (omega arith);
        calls_old = λ call. absurd (not_call call);
        calls_own = λ call. absurd (not_call call);
        calls_made = λ k' d lt active call. absurd (not_call call);
      } in
      let reloaded : Reloaded register room seen seen' = record {
        longer = length-append seen.made ms;
        new = stands_new c b register seen i rs refl refl timely calls;
        stands = λ k' r other st'. stands_later c b k' r seen i rs ms st' (all_one (λ (x : LiveRange). x.active ≡ true → x.reg ≢ r)
            (made_at i register) (λ active z. other (sym z)))
            (λ call. absurd (not_call call));
        timely = λ now r other other' t. timely_later c b now now r seen i rs ms (omega arith) known t in'
            (all_one (λ (x : Read). (a : LiveRange) → slice_get seen.made x.temp.0 ≡ Some a → a.block.0 ≡ b → a.reg ≡ r → x.cycle ≤ now) q
            (λ a there block reg. absurd (other' (
            let same : stands.temp ≡ a = (let f = sym (ap (slice_get seen.made) reads ∙ stands.there) ∙ there in cc f) in
            sym reg ∙ ap (λ (z : LiveRange). z.reg) (sym same) ∙ stands.reg))))
            (all_one (λ (d : LiveRange). d.active ≡ true → d.block.0 ≡ b → d.reg ≡ r → d.from < now) (made_at i register)
            (λ active block reg. absurd (other (sym reg))));
        known = known_later c b seen i rs ms known in';
        calls = λ now h. calls_later c b now now seen.issues i (omega arith) h (λ call same. absurd (not_call call));
      } in
      good_copy c H b end e block s fit n p seen U alts k rest purpose m for is (
        (ok, tt),
        subst (λ (x : ℕ). AreGoodSteps c H b end (n + 1) seen' rest (steps_of e block s
            (record { cycle = x; values = p.values; operands = p.operands + 1; definer = p.definer }) rest))
            (sym later) (go seen' reloaded),
      )
