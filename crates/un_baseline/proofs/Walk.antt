-- The steps of a plan, one after another: what each asks of what was made and read before.
use Rattle.std.proofs.Common.{◌≡◌, ◌≢◌, ℕ, ◌+◌, Bool, true, List, [], ◌∷◌, ◌++◌, length, map, replicate, Option, Some, None, refl, sym, ap}
use Rattle.std.proofs.Common.{subst, ◌∙◌, append_assoc, arith}
use Rattle.std.specs.Prelude.{is_some, if◌then◌else◌, slice_index, All}
use Rattle.std.specs.List.{AllZip}
use Rattle.std.proofs.lemmas.List.{length-append}
use Rattle.std.proofs.lemmas.List.Elements.{All-nil, All-cons}
use Rattle.un_base.specs.declared.ids.TempId.{TempId}
use Rattle.un_isa.specs.declared.op.Op.{Op}
use Rattle.un_isa.specs.declared.op.Op.TheVariants.{Call}
use Rattle.un_isa.specs.declared.table.Table.{Table}
use Rattle.un_isa.specs.Fit.{IsFit}
use Rattle.un_isa.specs.Tables.{latency_of}
use Rattle.un_ir.specs.declared.extended.NodeCopy.{NodeCopy}
use Rattle.un_ir.specs.declared.extended.NodeCopy.TheVariants.{D, D2, U, U2}
use Rattle.un_ir.specs.declared.extended.ExtKind.{ExtKind}
use Rattle.un_ir.specs.declared.extended.ExtKind.TheVariants.{Out}
use Rattle.un_ir.specs.declared.extended.ExtOp.{ExtOp}
use Rattle.un_ir.specs.declared.extended.ExtBlock.{ExtBlock}
use Rattle.un_ir.specs.declared.extended.Ext.{Ext}
use Rattle.un_ir.specs.ExtendOf.{copy_op}
use Rattle.un_model.specs.declared.schedule.Issue.{Issue}
use Rattle.un_model.specs.declared.schedule.Read.{Read}
use Rattle.un_model.specs.declared.schedule.LiveRange.{LiveRange}
use Rattle.un_model.specs.Instructions.{copy_of, space_read, space_given}
use Rattle.un_model.specs.Pairs.{pairs_from, joined}
use Rattle.un_model.specs.Schedules.{chosen}
use Rattle.un_model.specs.Solutions.{InSpace}
use Rattle.un_model.specs.Variables.{chosen_operands}
use Rattle.un_baseline.specs.declared.plan.Purpose.{Purpose}
use Rattle.un_baseline.specs.declared.plan.Purpose.TheVariants.{Operands, Link, Returned, Unread}
use Rattle.un_baseline.specs.declared.plan.Setting.{Setting}
use Rattle.un_baseline.specs.declared.plan.Progress.{Progress}
use Rattle.un_baseline.specs.declared.plan.Move.{Move}
use Rattle.un_baseline.specs.Plans.{Step, Suits, planned_issue, planned_read, planned_reads_by}
use Rattle.un_baseline.specs.SpillEverywhere.{purpose_at, no_move, move, copy_move, next_cycle, next_value, next_operand, steps_of}
use Rattle.un_baseline.proofs.Made.{made_at, steps_made}
use Rattle.un_baseline.proofs.Sound.{Seen, after, GoodRead, Sound, StepOk, sound_step}
use Rattle.un_baseline.proofs.Standing.{one_item, Stands, Timely, Known, Front, IsCalled, good_read, idle_stands, idle_timely, idle_known}
use Rattle.un_baseline.proofs.Standing.{idle_calls, idle_front, idle_ok, goes_front, goes_ok, goes_stands, goes_new_stands}

module _ (c : ℕ) (H : Seen → List Read → Type 0) (b end : ℕ) where
  -- ---- steps

  -- what is asked besides: of the reads of a block's end
  abbrev pub Wanted : ExtKind → Seen → List Read → Type 0
  Wanted Out seen rs = H seen rs
  Wanted _ seen rs = Unit {0}

  abbrev pub with_step : Seen → ℕ → ExtOp → Step → Seen
  with_step seen n op s = let i = planned_issue b end n op s in after seen i (planned_reads_by i op s) (map (made_at i) s.registers)

  abbrev pub IsGoodStep : Seen → ℕ → ExtOp → Step → Type 0
  IsGoodStep seen n op s =
      let i = planned_issue b end n op s in
      StepOk c seen i (planned_reads_by i op s) (map (made_at i) s.registers) × Wanted op.kind seen (planned_reads_by i op s)

  abbrev pub AreGoodSteps : ℕ → Seen → List ExtOp → List Step → Type 0
  AreGoodSteps n seen [] steps = Unit {0}
  AreGoodSteps n seen (op ∷ ops) [] = ⊥
  AreGoodSteps n seen (op ∷ ops) (s ∷ steps) = IsGoodStep seen n op s × AreGoodSteps (n + 1) (with_step seen n op s) ops steps

  abbrev pub seen_after : ℕ → Seen → List ExtOp → List Step → Seen
  seen_after n seen [] steps = seen
  seen_after n seen (op ∷ ops) [] = seen
  seen_after n seen (op ∷ ops) (s ∷ steps) = seen_after (n + 1) (with_step seen n op s) ops steps

  pub sound_steps : (n : ℕ) (seen : Seen) (ops : List ExtOp) (steps : List Step) → Sound c seen → AreGoodSteps n seen ops steps
      → Sound c (seen_after n seen ops steps)
  sound_steps n seen [] steps sound h = sound
  sound_steps n seen (op ∷ ops) [] sound h = absurd h
  sound_steps n seen (op ∷ ops) (s ∷ steps) sound h =
      let i = planned_issue b end n op s in
      sound_steps (n + 1) (with_step seen n op s) ops steps (sound_step c seen i (planned_reads_by i op s)
      (map (made_at i) s.registers) sound h.0.0) h.1

  abbrev reads_by_steps : ℕ → List ExtOp → List Step → List Read
  reads_by_steps n ops steps = joined (pairs_from (λ (k : ℕ) (op : ExtOp) (s : Step). planned_reads_by (planned_issue b end k op s) op s)
      n ops steps)

  abbrev pub added : Seen → List Issue → List Read → List LiveRange → Seen
  added seen is rs ms = record { issues = seen.issues ++ is; reads = seen.reads ++ rs; made = seen.made ++ ms }

  nil_behind : {A : Type 0} (xs : List A) → xs ≡ xs ++ []
  nil_behind [] = refl
  nil_behind {A} (x ∷ xs) = ap (λ (ys : List A). x ∷ ys) (nil_behind xs)

  pub seen_is : (n : ℕ) (seen : Seen) (ops : List ExtOp) (steps : List Step) → AllZip Suits ops steps
      → seen_after n seen ops steps ≡ added seen (pairs_from (planned_issue b end) n ops steps) (reads_by_steps n ops steps)
      (steps_made b end n ops steps)
  seen_is n seen [] [] h =
      ap (λ (is : List Issue). record { issues = is; reads = seen.reads; made = seen.made }) (nil_behind seen.issues)
      ∙ ap (λ (rs : List Read). record { issues = seen.issues ++ []; reads = rs; made = seen.made }) (nil_behind seen.reads)
      ∙ ap (λ (ms : List LiveRange). record { issues = seen.issues ++ []; reads = seen.reads ++ []; made = ms }) (nil_behind seen.made)
  seen_is n seen [] (s ∷ steps) h = absurd h
  seen_is n seen (op ∷ ops) [] h = absurd h
  seen_is n seen (op ∷ ops) (s ∷ steps) h =
      let i = planned_issue b end n op s in
      let rs = planned_reads_by i op s in
      let ms = map (made_at i) s.registers in
      let is' = pairs_from (planned_issue b end) (n + 1) ops steps in
      let rs' = reads_by_steps (n + 1) ops steps in
      let ms' = steps_made b end (n + 1) ops steps in
      seen_is (n + 1) (after seen i rs ms) ops steps h.1
      ∙ ap (λ (is : List Issue). record { issues = is; reads = (seen.reads ++ rs) ++ rs'; made = (seen.made ++ ms) ++ ms' })
      (append_assoc seen.issues (i ∷ []) is')
      ∙ ap (λ (qs : List Read). record { issues = seen.issues ++ (i ∷ is'); reads = qs; made = (seen.made ++ ms) ++ ms' })
      (append_assoc seen.reads rs rs')
      ∙ ap (λ (xs : List LiveRange). record { issues = seen.issues ++ (i ∷ is'); reads = seen.reads ++ (rs ++ rs'); made = xs })
      (append_assoc seen.made ms ms')

  -- ---- what one operation, or several, leave

  -- so many temporaries more, and nothing that was is touched
  pub record Idle (count : ℕ) (seen seen' : Seen) : Type 0 where
    pub longer : length seen'.made ≡ length seen.made + count
    pub stands : (k r : ℕ) → Stands c b k r seen → Stands c b k r seen'
    pub front : (now : ℕ) → Front c b now seen → Front c b now seen'
    pub timely : (now r : ℕ) → Known c b seen → Timely c b now r seen → Timely c b now r seen'
    pub known : Known c b seen → Known c b seen'
    pub calls : (now : ℕ) → All (IsCalled c b now) seen.issues → All (IsCalled c b now) seen'.issues

  pub idle_none : (seen : Seen) → Idle 0 seen seen
  idle_none seen = record {
    longer = omega arith;
    stands = λ k r s. s;
    front = λ now f. f;
    timely = λ now r k t. t;
    known = λ k. k;
    calls = λ now f. f;
  }

  pub idle_then : (m n : ℕ) (seen seen' seen'' : Seen) → Idle m seen seen' → Idle n seen' seen'' → Idle (m + n) seen seen''
  idle_then m n seen seen' seen'' h k = record {
    longer = let x = h.longer in let y = k.longer in omega arith;
    stands = λ a r s. k.stands a r (h.stands a r s);
    front = λ now f. k.front now (h.front now f);
    timely = λ now r a t. k.timely now r (h.known a) (h.timely now r a t);
    known = λ a. k.known (h.known a);
    calls = λ now f. k.calls now (h.calls now f);
  }

  -- one temporary more, which stands in register r; others that stood elsewhere stand
  pub record Moved (r now : ℕ) (seen seen' : Seen) : Type 0 where
    pub longer : length seen'.made ≡ length seen.made + 1
    pub front : Front c b now seen'
    pub new : Stands c b (length seen.made) r seen'
    pub stands : (k q : ℕ) → q ≢ r → Stands c b k q seen → Stands c b k q seen'

  -- ---- the steps of the plan

  module _ (e : Ext) (block : ExtBlock) (s : Setting) (fit : IsFit e.table) where
    abbrev pub Good : ℕ → Progress → Seen → List ExtOp → Type 0
    Good n p seen ops = AreGoodSteps n seen ops (steps_of e block s p ops)

    abbrev pub copy_step : Move → ExtOp → Step
    copy_step m op = record {
      instr = m.instr;
      cycle = m.cycle;
      choices = replicate (length (chosen_operands op)) m.place;
      registers = replicate (length op.results) m.register;
    }

    abbrev pub behind_copy : Progress → Purpose → NodeCopy → Move → Progress
    behind_copy p purpose node m = record {
      cycle = next_cycle e.table p.cycle m purpose node;
      values = next_value p.values node;
      operands = next_operand p.operands node;
      definer = p.definer;
    }

    abbrev pub GoodCopy : ℕ → Progress → Seen → NodeCopy → List TempId → ℕ → List ExtOp → Purpose → Move → Type 0
    GoodCopy n p seen node alts k rest purpose m =
        let op = copy_op node alts k in
        let st = copy_step m op in
        IsGoodStep seen n op st × AreGoodSteps (n + 1) (with_step seen n op st) rest
        (steps_of e block s (behind_copy p purpose node m) rest)

    pub good_copy : (n : ℕ) (p : Progress) (seen : Seen) (node : NodeCopy) (alts : List TempId) (k : ℕ) (rest : List ExtOp)
        (purpose : Purpose) (m : Move)
        → purpose_at s.term rest ≡ purpose → copy_move e block.live_in s p purpose alts node ≡ m
        → GoodCopy n p seen node alts k rest purpose m → Good n p seen (copy_op node alts k ∷ rest)
    good_copy n p seen node alts k rest purpose m for is h =
        subst (λ (x : Purpose). GoodCopy n p seen node alts k rest x (copy_move e block.live_in s p x alts node)) (sym for)
        (subst (λ (x : Move). GoodCopy n p seen node alts k rest purpose x) (sym is) h)

    still_next : (t : Table) (now : ℕ) (purpose : Purpose) (node : NodeCopy) → next_cycle t now no_move purpose node ≡ now
    still_next t now purpose D = refl
    still_next t now purpose D2 = refl
    still_next t now Operands U = refl
    still_next t now Link U = refl
    still_next t now Returned U = refl
    still_next t now Unread U = refl
    still_next t now Operands U2 = refl
    still_next t now Link U2 = refl
    still_next t now Returned U2 = refl
    still_next t now Unread U2 = refl

    -- the progress behind a copy that does nothing
    abbrev pub past_copy : Progress → NodeCopy → Progress
    past_copy p node = record {
      cycle = p.cycle;
      values = next_value p.values node;
      operands = next_operand p.operands node;
      definer = p.definer;
    }

    pub idle_copy : (n : ℕ) (p : Progress) (seen : Seen) (node : NodeCopy) (alts : List TempId) (k : ℕ) (rest : List ExtOp)
        (purpose : Purpose)
        → purpose_at s.term rest ≡ purpose → copy_move e block.live_in s p purpose alts node ≡ no_move
        → ((seen' : Seen) → Idle 1 seen seen' → Good (n + 1) (past_copy p node) seen' rest)
        → Good n p seen (copy_op node alts k ∷ rest)
    idle_copy n p seen node alts k rest purpose for is go =
        let op = copy_op node alts k in
        let i = planned_issue b end n op (copy_step no_move op) in
        let registers = 0 ∷ [] in
        let seen' = after seen i [] (map (made_at i) registers) in
        let idle : Idle 1 seen seen' = record {
          longer = length-append seen.made (map (made_at i) registers);
          stands = λ k' r st. idle_stands c b seen i registers refl refl k' r st;
          front = λ now f. idle_front c b seen i registers refl refl now f;
          timely = λ now r kn t. idle_timely c b seen i registers refl refl now r kn t;
          known = λ kn. idle_known c b seen i registers refl refl kn;
          calls = λ now f. idle_calls c b seen i registers refl refl now f;
        } in
        good_copy n p seen node alts k rest purpose no_move for is (
          (idle_ok c b seen i registers refl refl, tt),
          subst (λ (x : ℕ). AreGoodSteps (n + 1) seen' rest (steps_of e block s (record
              { cycle = x; values = next_value p.values node; operands = next_operand p.operands node; definer = p.definer }) rest))
              (sym (still_next e.table p.cycle purpose node)) (go seen' idle),
        )

    -- a copy that issues when all before it is done
    pub moving_copy : (n : ℕ) (p : Progress) (seen : Seen) (node : NodeCopy) (alts : List TempId) (k : ℕ) (rest : List ExtOp)
        (purpose : Purpose)
        (code place register : ℕ) (o : Op) (from room : ℕ)
        → purpose_at s.term rest ≡ purpose → copy_move e block.live_in s p purpose alts node ≡ move code p.cycle place register
        → copy_of code ≡ Some o → o ≢ Call
        → next_cycle e.table p.cycle (move code p.cycle place register) purpose node ≡ p.cycle + latency_of e.table o
        → (chosen alts (slice_index (replicate (length (chosen_operands (copy_op node alts k))) place) 0)).0 ≡ from
        → Stands c b from room seen → Front c b p.cycle seen
        → InSpace room (space_read (Some o) 0) → InSpace register (space_given (Some o))
        → ((seen' : Seen) → Moved register (p.cycle + latency_of e.table o) seen seen'
        → Good (n + 1) (record {
          cycle = p.cycle + latency_of e.table o;
          values = next_value p.values node;
          operands = next_operand
              p.operands node;
          definer = p.definer;
        }) seen' rest)
        → Good n p seen (copy_op node alts k ∷ rest)
    moving_copy n p seen node alts k rest purpose code place register o from room for is code_is not_call later reads stands front in_room
        given go =
        let op = copy_op node alts k in
        let m = move code p.cycle place register in
        let st = copy_step m op in
        let i = planned_issue b end n op st in
        let q = planned_read i st 0 (record { alts = alts; home = None }) in
        let rs = q ∷ [] in
        let active : i.active ≡ true = ap is_some code_is in
        let same : planned_reads_by i op st ≡ rs = ap (λ (x : Bool). if x then rs else []) active in
        let no_call : i.instr ≡ Some Call → ⊥ = λ call. not_call (let x = sym code_is ∙ call in cc x) in
        let good : GoodRead c seen q = good_read c b from room seen stands q reads refl
        (subst (λ (x : Option Op). InSpace room (space_read x 0)) (sym code_is) in_room) tt in
        let goods : All (GoodRead c seen) rs = All-cons (GoodRead c seen) q [] good (All-nil (GoodRead c seen)) in
        let times : All (λ (x : Read). x.cycle ≡ i.cycle) rs = All-cons (λ (x : Read). x.cycle ≡ i.cycle) q [] refl
        (All-nil (λ (x : Read). x.cycle ≡ i.cycle)) in
        let positive = (fit.latencies o).0 in
        let given' : All (λ (r : ℕ). InSpace r (space_given i.instr)) (register ∷ []) =
        All-cons (λ (r : ℕ). InSpace r (space_given i.instr)) register [] (subst (λ (x : Option Op). InSpace register (space_given x))
        (sym code_is) given) (All-nil (λ (r : ℕ). InSpace r (space_given i.instr))) in
        let seen' = after seen i rs (map (made_at i) (register ∷ [])) in
        let moved : Moved register (p.cycle + latency_of e.table o) seen seen' = record {
          longer = length-append seen.made (map (made_at i) (register ∷ []));
          front = goes_front c b seen i rs (register ∷ []) p.cycle (one_item register) refl front (omega arith) times goods
              (p.cycle + latency_of e.table o) (omega arith);
          new = goes_new_stands c b seen i rs (register ∷ []) p.cycle (one_item register) refl front
              (omega arith) times goods register active;
          stands = λ k' r other st'. goes_stands c b seen i rs (register ∷ []) p.cycle (one_item register) refl front
              (omega arith) times goods k' r st'
              (All-cons (λ (x : ℕ). x ≢ r) register [] (λ y. other (sym y)) (All-nil (λ (x : ℕ). x ≢ r))) (λ call. absurd (no_call call));
        } in
        good_copy n p seen node alts k rest purpose m for is
        (subst (λ (xs : List Read). (StepOk c seen i xs (map (made_at i) (register ∷ [])) × Unit {0}) × AreGoodSteps (n + 1)
        (after seen i xs (map (made_at i) (register ∷ []))) rest
        (steps_of e block s (behind_copy p purpose node m) rest)) (sym same) (
          (goes_ok c b seen i rs (register ∷ []) p.cycle (one_item register) refl front (omega arith) times goods given', tt),
          subst (λ (x : ℕ). AreGoodSteps (n + 1) seen' rest (steps_of e block s (record
              { cycle = x; values = next_value p.values node; operands = next_operand p.operands node; definer = p.definer }) rest))
              (sym later) (go seen' moved),
        ))
