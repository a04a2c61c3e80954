-- The plan of all blocks keeps the clauses on choices, spaces, registers and homes.
use Rattle.std.proofs.Common.{◌≡◌, ◌≢◌, ℕ, zero, suc, ◌+◌, ◌<◌, ◌≤◌, ◌||◌, ◌&&◌, Bool, true, false, nat_le, List, [], ◌∷◌, ◌++◌, length}
use Rattle.std.proofs.Common.{nat_lt, map, filter, replicate, get_or, Some, None, refl, sym, ap, subst, ◌∙◌, append_assoc, arith}
use Rattle.std.specs.Prelude.{nat_eq, not, slice_get, if◌then◌else◌, All}
use Rattle.std.specs.List.{AllZip, range_with_len}
use Rattle.std.proofs.lemmas.Bool.Decides.{nat_tests}
use Rattle.std.proofs.lemmas.List.{length-append, length-map}
use Rattle.std.proofs.lemmas.List.Elements.{All-append, All-nil, All-cons, All-weaker}
use Rattle.std.proofs.lemmas.List.Kept.{AllPairs-cons, AllPairs-filter}
use Rattle.std.proofs.lemmas.Nat.Bits.{bit_at_above}
use Rattle.std.proofs.lemmas.Option.{slice_get_within}
use Rattle.un_base.specs.declared.ids.NameId.{NameId}
use Rattle.un_isa.specs.declared.reg.TheConstants.{FIRST_SLOT}
use Rattle.un_isa.specs.declared.table.Table.{Table}
use Rattle.un_isa.specs.Fit.{IsFit}
use Rattle.un_isa.specs.Starts.{is_clobbered}
use Rattle.un_isa.specs.Registers.{callee_saved, saved_registers}
use Rattle.un_isa.specs.Tables.{in_mask}
use Rattle.un_ir.specs.declared.function.Kind.{Kind}
use Rattle.un_ir.specs.declared.function.Term.{Term}
use Rattle.un_ir.specs.declared.function.Term.TheVariants.{Fall, Jump, Branch, Ret}
use Rattle.un_ir.specs.declared.function.Block.{Block}
use Rattle.un_ir.specs.declared.function.Function.{Function}
use Rattle.un_ir.specs.declared.extended.ExtKind.TheVariants.{End}
use Rattle.un_ir.specs.declared.extended.Operand.{Operand}
use Rattle.un_ir.specs.declared.extended.ExtOp.{ExtOp}
use Rattle.un_ir.specs.declared.extended.ExtBlock.{ExtBlock}
use Rattle.un_ir.specs.declared.extended.Ext.{Ext}
use Rattle.un_ir.specs.declared.extended.Growth.{Growth}
use Rattle.un_ir.specs.declared.extended.Value.{Value}
use Rattle.un_ir.specs.Extended.{returns}
use Rattle.un_ir.specs.ExtendOf.{sorts_of, extend_of, grown_block, with_ops, extended_blocks, with_extended}
use Rattle.un_ir.specs.LinearOf.{AreLive, live_at, live_after, linear_block, linear_blocks, past_block, in_op, first_temps, current_after}
use Rattle.un_ir.specs.LinearOf.{reads, name_operand, end_ops, out_op, lin_of}
use Rattle.un_model.specs.declared.schedule.Issue.{Issue}
use Rattle.un_model.specs.declared.schedule.Read.{Read}
use Rattle.un_model.specs.declared.schedule.LiveRange.{LiveRange}
use Rattle.un_model.specs.Congruences.{term_of}
use Rattle.un_baseline.specs.Plans.{Step, Suits, SuitsBlock, planned_issue, planned_issues, planned_reads, planned_reads_by, over_plans}
use Rattle.un_baseline.specs.SpillEverywhere.{setting_of, first_progress, block_plan, block_plans}
use Rattle.un_baseline.proofs.Counts.{results_count, count_all, bodies_values, others_values, start_values}
use Rattle.un_baseline.proofs.Grown.{all_add}
use Rattle.un_baseline.proofs.Made.{made_at, planned_made}
use Rattle.un_baseline.proofs.Openings.{IsKept}
use Rattle.un_baseline.proofs.Sound.{Seen, after, GoodRead, Sound}
use Rattle.un_baseline.proofs.SpillSteps.{steps_zip, suits_by}
use Rattle.un_baseline.proofs.Standing.{known_later}
use Rattle.un_baseline.proofs.Starts.{AreApart, Fresh}
use Rattle.un_baseline.proofs.Timing.{pairs_nil}
use Rattle.un_baseline.proofs.Walk.{AreGoodSteps, with_step, seen_after, sound_steps, seen_is}
use Rattle.un_baseline.proofs.Whole.{Handed, whole_good}
use Rattle.un_baseline.proofs.Items.{all_one, append_nil}

-- ---- masks

pub no_slot_clobbered : (t : Table) → IsFit t → (r : ℕ) → FIRST_SLOT ≤ r → in_mask t.clobbered r ≡ false
no_slot_clobbered t fit r le = let z = bit_at_above t.clobbered FIRST_SLOT r fit.no_others.0 le in ap (λ (n : ℕ). nat_eq n 1) z

range_below : (a n : ℕ) → All (λ (r : ℕ). r < a + n) (range_with_len a n)
range_below a zero = All-nil (λ (r : ℕ). r < a + zero)
range_below a (suc n) =
    All-cons (λ (r : ℕ). r < a + suc n) a (range_with_len (a + 1) n) (omega arith)
    (All-weaker (λ (r : ℕ). r < a + 1 + n) (λ (r : ℕ). r < a + suc n) (λ r lt. omega arith) (range_with_len (a + 1) n)
    (range_below (a + 1) n))

range_above : (a n : ℕ) → All (λ (r : ℕ). a ≤ r) (range_with_len a n)
range_above a zero = All-nil (λ (r : ℕ). a ≤ r)
range_above a (suc n) =
    All-cons (λ (r : ℕ). a ≤ r) a (range_with_len (a + 1) n) (omega arith)
    (All-weaker (λ (r : ℕ). a + 1 ≤ r) (λ (r : ℕ). a ≤ r) (λ r lt. omega arith) (range_with_len (a + 1) n) (range_above (a + 1) n))

range_apart : (a n : ℕ) → AreApart (range_with_len a n)
range_apart a zero = pairs_nil (λ (x y : ℕ). x ≢ y)
range_apart a (suc n) =
    AllPairs-cons (λ (x y : ℕ). x ≢ y) a (range_with_len (a + 1) n)
    (All-weaker (λ (r : ℕ). a + 1 ≤ r) (λ (r : ℕ). a ≢ r) (λ r le z. omega arith) (range_with_len (a + 1) n) (range_above (a + 1) n))
    (range_apart (a + 1) n)

all_filtered : (p : ℕ → Bool) (P Q : ℕ → Type 0) (xs : List ℕ) → All Q xs → ((x : ℕ) → Q x → p x ≡ true → P x) → All P (filter p xs)
all_filtered p P Q [] h f = All-nil P
all_filtered p P Q (x ∷ xs) h f = by (p x) refl (all_filtered p P Q xs (λ k d lt. h (suc k) d (omega arith)) f)
  where
    by : (t : Bool) → p x ≡ t → All P (filter p xs) → All P (if t then x ∷ filter p xs else filter p xs)
    by true is rest = All-cons P x (filter p xs) (f x (h 0 x (omega arith)) is) rest
    by false is rest = rest

pub regs_apart : (t : Table) → AreApart (callee_saved t)
unfolding callee_saved
regs_apart t = AllPairs-filter (λ (x y : ℕ). x ≢ y) (in_mask t.saved) (range_with_len 0 32) (range_apart 0 32)

both_true : (x y : Bool) → (x && y) ≡ true → (x ≡ true) × (y ≡ true)
both_true true y h = (refl, h)
both_true false y h = absurd (cc h)

pub regs_kept : (t : Table) → IsFit t → All (IsKept t.clobbered) (callee_saved t)
unfolding callee_saved
regs_kept t fit = all_filtered (in_mask t.saved) (IsKept t.clobbered) (λ (r : ℕ). r < 0 + 32) (range_with_len 0 32) (range_below 0 32) kept
  where
    clear : (x y : Bool) → y ≡ true → (x && not y) ≡ false
    clear true true h = refl
    clear true false h = absurd (cc h)
    clear false y h = refl

    kept : (r : ℕ) → r < 0 + 32 → in_mask t.saved r ≡ true → IsKept t.clobbered r
    kept r lt is =
        let may = both_true (nat_le 6 r) (nat_lt r 29) (fit.saved r (omega arith) is) in
        let low = may.0 in
        let high = may.1 in
        record {
          high = grind (arith, nat_tests);
          low = grind (arith, nat_tests);
          spared = fit.clobbered r (omega arith) ∙ clear (is_clobbered r) (in_mask t.saved r) is;
        }

-- ---- blocks before this one

pub record IsBelow (c b : ℕ) (seen : Seen) : Type 0 where
  pub made : All (λ (m : LiveRange). m.block.0 < b) seen.made
  pub issues : All (λ (i : Issue). i.block.0 < b) seen.issues
  pub known : All (λ (q : Read). q.temp.0 < length seen.made) seen.reads

module _ (c : ℕ) (H : Seen → List Read → Type 0) (b end : ℕ) where
  made_below : (i : Issue) (rs : List ℕ) → i.block.0 ≡ b → All (λ (m : LiveRange). m.block.0 < b + 1) (map (made_at i) rs)
  made_below i [] is = All-nil (λ (m : LiveRange). m.block.0 < b + 1)
  made_below i (r ∷ rs) is = All-cons (λ (m : LiveRange). m.block.0 < b + 1) (made_at i r) (map (made_at i) rs) (omega arith)
      (made_below i rs is)

  step_below : (seen : Seen) (i : Issue) (rs : List Read) (regs : List ℕ) → i.block.0 ≡ b → All (GoodRead c seen) rs
      → IsBelow c (b + 1) seen
      → IsBelow c (b + 1) (after seen i rs (map (made_at i) regs))
  step_below seen i rs regs is good h = record {
    made = All-append (λ (m : LiveRange). m.block.0 < b + 1) seen.made (map (made_at i) regs) h.made (made_below i regs is);
    issues = All-append (λ (j : Issue). j.block.0 < b + 1) seen.issues (i ∷ []) h.issues
        (all_one (λ (j : Issue). j.block.0 < b + 1) i (omega arith));
    known = (let k = known_later c b seen i rs (map (made_at i) regs) (record { reads = h.known })
        (λ k d lt. let g = good k d lt in slice_get_within seen.made (get_or rs k d).temp.0 g.temp g.there) in k.reads);
  }

  pub steps_below : (n : ℕ) (seen : Seen) (ops : List ExtOp) (steps : List Step) → AreGoodSteps c H b end n seen ops steps
      → IsBelow c (b + 1) seen
      → IsBelow c (b + 1) (seen_after c H b end n seen ops steps)
  steps_below n seen [] steps good h = h
  steps_below n seen (op ∷ ops) [] good h = absurd good
  steps_below n seen (op ∷ ops) (s ∷ steps) good h =
      let i = planned_issue b end n op s in
      steps_below (n + 1) (with_step c H b end seen n op s) ops steps good.1 (step_below seen i
      (planned_reads_by i op s) s.registers refl good.0.0.reads h)

  pub steps_size : (n : ℕ) (seen : Seen) (ops : List ExtOp) (steps : List Step) → AllZip Suits ops steps
      → length (seen_after c H b end n seen ops steps).made ≡ length seen.made + results_count ops
  steps_size n seen [] [] suits = omega arith
  steps_size n seen [] (s ∷ steps) suits = absurd suits
  steps_size n seen (op ∷ ops) [] suits = absurd suits
  steps_size n seen (op ∷ ops) (s ∷ steps) suits =
      let i = planned_issue b end n op s in
      let rest = steps_size (n + 1) (with_step c H b end seen n op s) ops steps suits.1 in
      let a = length-append seen.made (map (made_at i) s.registers) in
      let d = length-map s.registers (made_at i) in
      let r = suits.0.registers in
      omega arith

pub below_weaker : (c b : ℕ) (seen : Seen) → IsBelow c b seen → IsBelow c (b + 1) seen
below_weaker c b seen h = record {
  made = All-weaker (λ (m : LiveRange). m.block.0 < b) (λ (m : LiveRange). m.block.0 < b + 1) (λ m lt. omega arith) seen.made h.made;
  issues = All-weaker (λ (i : Issue). i.block.0 < b) (λ (i : Issue). i.block.0 < b + 1) (λ i lt. omega arith) seen.issues h.issues;
  known = h.known;
}

pub suits_of : (x : Ext) (entry : Bool) (block : ExtBlock) → SuitsBlock block (block_plan x entry block)
suits_of x entry block = steps_zip Suits x block (setting_of x entry block) (λ p purpose op. suits_by x block
    (setting_of x entry block) p purpose op op.kind refl) (first_progress x entry) block.ops

-- ---- all blocks

-- with more issues, reads and temporaries
abbrev pub more : Seen → List Issue → List Read → List LiveRange → Seen
more seen is rs ms = record { issues = seen.issues ++ is; reads = seen.reads ++ rs; made = seen.made ++ ms }

more_more : (seen : Seen) (is is' : List Issue) (rs rs' : List Read) (ms ms' : List LiveRange)
    → more (more seen is rs ms) is' rs' ms' ≡ more seen (is ++ is') (rs ++ rs') (ms ++ ms')
more_more seen is is' rs rs' ms ms' =
    ap (λ (x : List Issue). record { issues = x; reads = (seen.reads ++ rs) ++ rs'; made = (seen.made ++ ms) ++ ms' })
    (append_assoc seen.issues is is')
    ∙ ap (λ (x : List Read). record { issues = seen.issues ++ (is ++ is'); reads = x; made = (seen.made ++ ms) ++ ms' })
    (append_assoc seen.reads rs rs')
    ∙ ap (λ (x : List LiveRange). record { issues = seen.issues ++ (is ++ is'); reads = seen.reads ++ (rs ++ rs'); made = x })
    (append_assoc seen.made ms ms')

pub more_behind : (seen seen1 : Seen) (is is' : List Issue) (rs rs' : List Read) (ms ms' : List LiveRange) → seen1 ≡ more seen is rs ms
    → more seen1 is' rs' ms' ≡ more seen (is ++ is') (rs ++ rs') (ms ++ ms')
more_behind seen seen1 is is' rs rs' ms ms' same =
    ap (λ (x : Seen). more x is' rs' ms') same ∙ more_more seen is is' rs rs' ms ms'

more_none : (seen : Seen) → seen ≡ more seen [] [] []
more_none seen =
    ap (λ (x : List Issue). record { issues = x; reads = seen.reads; made = seen.made }) (sym (append_nil seen.issues))
    ∙ ap (λ (x : List Read). record { issues = seen.issues ++ []; reads = x; made = seen.made }) (sym (append_nil seen.reads))
    ∙ ap (λ (x : List LiveRange). record { issues = seen.issues ++ []; reads = seen.reads ++ []; made = x }) (sym (append_nil seen.made))

last_none : (t : Table) (after : List ℕ) (saved : ℕ) (live_out : List NameId) (term : Term) (names : List Kind) (live_in : List NameId)
    (copied : Bool) (op : ExtOp)
    → out_op t after saved live_out term ≡ op → sorts_of names live_in copied op.kind (length op.results) ≡ []
last_none t after saved live_out term names live_in copied op same = ap (λ (o : ExtOp). sorts_of names live_in copied o.kind
    (length o.results)) (sym same)

end_none : (term : Term) (xs : List Operand) (names : List Kind) (live_in : List NameId) (copied : Bool) (op : ExtOp)
    → record { kind = End term; operands = xs; results = [] } ≡ op → sorts_of names live_in copied op.kind (length op.results) ≡ []
end_none term xs names live_in copied op same = ap (λ (o : ExtOp). sorts_of names live_in copied o.kind (length o.results)) (sym same)

tail_none : (t : Table) (after : List ℕ) (link saved : ℕ) (live_out : List NameId) (term : Term) (names : List Kind)
    (live_in : List NameId) (copied : Bool) (i : ℕ) (op : ExtOp)
    → slice_get (end_ops after link term ++ out_op t after saved live_out term ∷ []) i ≡ Some op
    → sorts_of names live_in copied op.kind (length op.results) ≡ []
tail_none t after link saved live_out Fall names live_in copied zero op got = last_none t after saved live_out Fall names live_in copied
    op (let e : out_op t after saved live_out Fall ≡ op = cc got in e)
tail_none t after link saved live_out Fall names live_in copied (suc i) op got = absurd (cc got)
tail_none t after link saved live_out (Jump to) names live_in copied zero op got = end_none (Jump to) [] names live_in copied op
    (let e : record { kind = End (Jump to); operands = []; results = [] } ≡ op = cc got in e)
tail_none t after link saved live_out (Jump to) names live_in copied (suc zero) op got = last_none t after saved live_out
    (Jump to) names live_in copied op (let e : out_op t after saved live_out (Jump to) ≡ op = cc got in e)
tail_none t after link saved live_out (Jump to) names live_in copied (suc (suc i)) op got = absurd (cc got)
tail_none t after link saved live_out (Branch pred sense to) names live_in copied zero op got =
    end_none (Branch pred sense to) (name_operand after None pred ∷ []) names live_in copied op
    (let e : record { kind = End (Branch pred sense to); operands = name_operand after None pred ∷ []; results = [] } ≡ op = cc got in e)
tail_none t after link saved live_out (Branch pred sense to) names live_in copied (suc zero) op got =
    last_none t after saved live_out (Branch pred sense to) names live_in copied op
    (let e : out_op t after saved live_out (Branch pred sense to) ≡ op = cc got in e)
tail_none t after link saved live_out (Branch pred sense to) names live_in copied (suc (suc i)) op got = absurd (cc got)
tail_none t after link saved live_out (Ret value) names live_in copied zero op got =
    end_none (Ret value) (reads link None ∷ []) names live_in copied op (let e : record
    { kind = End (Ret value); operands = reads link None ∷ []; results = [] } ≡ op = cc got in e)
tail_none t after link saved live_out (Ret value) names live_in copied (suc zero) op got = last_none t after saved live_out
    (Ret value) names live_in copied op (let e : out_op t after saved live_out (Ret value) ≡ op = cc got in e)
tail_none t after link saved live_out (Ret value) names live_in copied (suc (suc i)) op got = absurd (cc got)

module _ (f : Function) (lists : List (List NameId)) (t : Table) (fit : IsFit t) (live : AreLive f.blocks lists) where
  abbrev pub E : Ext
  E = extend_of (lin_of f lists t)

  abbrev c : ℕ
  c = t.clobbered

  abbrev pub made_block : Bool → ℕ → ℕ → List Value → ℕ → Block → ExtBlock
  made_block entry b first values next source =
      let lin = linear_block t (length f.names) lists b first source in with_ops lin (grown_block E.names entry values next lin).ops

  abbrev pub ext_from : Bool → ℕ → ℕ → List Value → ℕ → List Block → List ExtBlock
  ext_from entry b first values next blocks = extended_blocks E.names entry values next
      (linear_blocks t (length f.names) lists b first blocks)

  module _ (entry : Bool) (b first : ℕ) (values : List Value) (next : ℕ) (source : Block) where
    abbrev lin : ExtBlock
    lin = linear_block t (length f.names) lists b first source

    abbrev g : Growth
    g = grown_block E.names entry values next lin

    abbrev saved : Bool
    saved = entry || returns lin

    ns_size : length (live_at lists b) ≤ length (live_at lists b) + length (saved_registers t)
    ns_size = omega arith

    pub grown_values : length values ≡ first → length g.values ≡ past_block t lists b first source
    grown_values long =
        let ns = live_at lists b in
        let count = length ns + length (saved_registers t) in
        let start = in_op first count in
        let g0 : Growth = record { ops = []; values = values; next = next } in
        let kept0 = first + length ns in
        let first' = kept0 + length (saved_registers t) in
        let current0 = first_temps (replicate (length f.names) 0) first ns in
        let after = current_after current0 first' source.ops in
        let link = kept0 + length (callee_saved t) in
        let nout = live_after lists (length f.names) b source.term in
        bodies_values E.names ns entry saved t current0 first' source.ops (end_ops after link source.term
        ++ out_op t after kept0 nout source.term ∷ [])
        (with_extended E.names ns entry saved start g0) (start_values E.names ns entry saved first count g0 (omega arith)
        ∙ (let z : length values + count ≡ first' = omega arith in z))
        (λ g'. others_values E.names ns entry saved (end_ops after link source.term ++ out_op t after kept0 nout source.term ∷ []) g'
        (λ i op got. tail_none t after link kept0 nout source.term E.names ns saved i op got))

    pub grown_next : g.next ≡ next + results_count (made_block entry b first values next source).ops
    grown_next =
        let ns = live_at lists b in
        let g0 : Growth = record { ops = []; values = values; next = next } in
        count_all E.names ns entry saved lin.ops g0 ∙ ap (λ (os : List ExtOp). next + results_count os)
        (sym (all_add E.names ns entry saved lin.ops g0))

  pub walk : (blocks : List Block) (entry : Bool) (b n first next : ℕ) (values : List Value) (seen : Seen)
      → ((i : ℕ) (x : Block) → slice_get blocks i ≡ Some x → slice_get f.blocks (b + i) ≡ Some x) → (entry ≡ true → b ≡ 0)
      → length values ≡ first → length seen.made ≡ next → IsBelow c b seen → Sound c seen
      → (let ext = ext_from entry b first values next blocks in let plans = block_plans E entry ext in
      Sound c (more seen (over_plans planned_issues b n ext plans) (over_plans planned_reads b n ext plans)
      (over_plans planned_made b n ext plans)))
  walk [] entry b n first next values seen there first_block long size below sound = subst (Sound c) (more_none seen) sound
  walk (source ∷ blocks) entry b n first next values seen there first_block long size below sound =
      let B = made_block entry b first values next source in
      let p = block_plan E entry B in
      let H = Handed E B (term_of B.ops) in
      let zero_more : b + 0 ≡ b = omega arith in
      let at : slice_get f.blocks b ≡ Some source = ap (slice_get f.blocks) (sym zero_more) ∙ there 0 source refl in
      let fresh : Fresh c H b p.end E B (setting_of E entry B) fit seen = record {
        made = All-weaker (λ (m : LiveRange). m.block.0 < b) (λ (m : LiveRange). m.block.0 ≢ b)
            (λ m lt z. omega arith) seen.made below.made;
        issues = All-weaker (λ (i : Issue). i.block.0 < b) (λ (i : Issue). i.block.0 ≢ b) (λ i lt z. omega arith) seen.issues below.issues;
        known = record { reads = below.known };
      } in
      let good = whole_good f lists t fit live (no_slot_clobbered t fit) (regs_kept t fit)
      (regs_apart t) b first source at entry values next p.end n seen first_block long size fresh in
      let suits = suits_of E entry B in
      let seen1 = seen_after c H b p.end n seen B.ops p.steps in
      let is = planned_issues b n B p in
      let rs = planned_reads b n B p in
      let ms = planned_made b n B p in
      let same : seen1 ≡ more seen is rs ms = seen_is c H b p.end n seen B.ops p.steps suits in
      let G' = grown_block E.names entry values next (linear_block t (length f.names) lists b first source) in
      let next' : length seen1.made ≡ G'.next =
      steps_size c H b p.end n seen B.ops p.steps suits ∙ ap (λ (k : ℕ). k + results_count B.ops) size
      ∙ sym (grown_next entry b first values next source) in
      let below1 = steps_below c H b p.end n seen B.ops p.steps good (below_weaker c b seen below) in
      let sound1 = sound_steps c H b p.end n seen B.ops p.steps sound good in
      let ext = ext_from false (b + 1) (past_block t lists b first source) G'.values G'.next blocks in
      let plans = block_plans E false ext in
      let n' = n + length B.ops in
      let rest = walk blocks false (b + 1) n' (past_block t lists b first source) G'.next G'.values seen1
      (λ i x got. let z : b + 1 + i ≡ b + suc i = omega arith in ap (slice_get f.blocks) z ∙ there (suc i) x got)
      (λ z. absurd (cc z)) (grown_values entry b first values next source long) next' below1 sound1 in
      let is' = over_plans planned_issues (b + 1) n' ext plans in
      let rs' = over_plans planned_reads (b + 1) n' ext plans in
      let ms' = over_plans planned_made (b + 1) n' ext plans in
      subst (Sound c) {x = more seen1 is' rs' ms'} {y = more seen (is ++ is') (rs ++ rs') (ms ++ ms')}
      (more_behind seen seen1 is is' rs rs' ms ms' same) rest
