-- What a block hands over stands in the registers in which the next block takes it.
use Rattle.std.proofs.Common.{◌≡◌, ◌≢◌, ℕ, zero, suc, ◌+◌, ◌-◌, ◌<◌, ◌≤◌, ◌⊎◌, inl, inr, ◌||◌, ◌&&◌, Bool, true, false, List, [], ◌∷◌, ◌++◌}
use Rattle.std.proofs.Common.{length, map, filter, replicate, get_or, Option, Some, None, refl, sym, ap, subst, ◌∙◌, arith}
use Rattle.std.specs.Prelude.{◌==◌, is_none, if◌then◌else◌, slice_get, All, Contains}
use Rattle.std.specs.List.{AllZip, range_with_len}
use Rattle.std.specs.Option.{option_map}
use Rattle.std.proofs.lemmas.Bool.{cases_lt}
use Rattle.std.proofs.lemmas.Bool.Decides.{nat_tests}
use Rattle.std.proofs.lemmas.List.{length-append, length-map}
use Rattle.std.proofs.lemmas.List.FromFn.{length-map-range_with_len}
use Rattle.std.proofs.lemmas.List.Elements.{All-append, All-nil, All-cons, All-weaker, Contains-get_or}
use Rattle.std.proofs.lemmas.Option.{slice_get_within, slice_get_past, slice_get-get_or}
use Rattle.un_base.specs.declared.ids.NameId.{NameId}
use Rattle.un_base.specs.declared.ids.TempId.{TempId}
use Rattle.un_isa.specs.declared.table.Table.{Table}
use Rattle.un_isa.specs.Fit.{IsFit}
use Rattle.un_isa.specs.Registers.{callee_saved, saved_registers}
use Rattle.un_isa.specs.declared.reg.TheConstants.{FIRST_SLOT}
use Rattle.un_ir.specs.declared.function.Term.{Term}
use Rattle.un_ir.specs.declared.function.Term.TheVariants.{Fall, Jump, Branch, Ret}
use Rattle.un_ir.specs.declared.function.Block.{Block}
use Rattle.un_ir.specs.declared.function.Function.{Function}
use Rattle.un_ir.specs.declared.extended.Operand.{Operand}
use Rattle.un_ir.specs.declared.extended.ExtOp.{ExtOp}
use Rattle.un_ir.specs.declared.extended.ExtBlock.{ExtBlock}
use Rattle.un_ir.specs.declared.extended.Ext.{Ext}
use Rattle.un_ir.specs.declared.extended.Growth.{Growth}
use Rattle.un_ir.specs.declared.extended.Value.{Value}
use Rattle.un_ir.specs.Extended.{temp, returns}
use Rattle.un_ir.specs.ExtendOf.{grown_block, new_temps, with_extended}
use Rattle.un_ir.specs.LinearOf.{AreLive, live_at, live_after, linear_block, past_block, in_op, first_temps, current_after, end_ops, out_op}
use Rattle.un_ir.specs.Live.{targets_of}
use Rattle.un_ir.proofs.FunctionFacts.{leads_inside}
use Rattle.un_model.specs.declared.schedule.Issue.{Issue}
use Rattle.un_model.specs.declared.schedule.Read.{Read}
use Rattle.un_model.specs.declared.schedule.LiveRange.{LiveRange}
use Rattle.un_model.specs.declared.schedule.Schedule.{Schedule}
use Rattle.un_ir.specs.Linear.{place_by, place_over}
use Rattle.un_model.specs.Congruences.{term_of, live_in_temps, is_live_out, live_out_reads, register_of}
use Rattle.un_model.specs.Congruences.{register_read, HandsOver, HandsOn, KeepsCongruences}
use Rattle.un_model.specs.Pairs.{places_from, pairs_from, joined}
use Rattle.un_baseline.specs.Plans.{Step, BlockPlan, planned_issue, planned_issues, planned_read, planned_reads, planned_reads_by}
use Rattle.un_baseline.specs.Plans.{over_plans}
use Rattle.un_baseline.specs.SpillEverywhere.{slot_of, setting_of, block_plan, block_plans}
use Rattle.un_baseline.proofs.Counts.{results_count}
use Rattle.un_baseline.proofs.Lasts.{EndsOut, ends_start, ends_bodies, ends_tail, handed_at, filter_none, filter_parts}
use Rattle.un_baseline.proofs.Lives.{place_found, out_has}
use Rattle.un_baseline.proofs.Made.{lasting_at, place_there, planned_made}
use Rattle.un_baseline.proofs.Outs.{ReadsFrom}
use Rattle.un_baseline.proofs.Sound.{Seen}
use Rattle.un_baseline.proofs.Starts.{Fresh}
use Rattle.un_baseline.proofs.Walk.{AreGoodSteps, seen_after, seen_is}
use Rattle.un_baseline.proofs.Walked.{no_slot_clobbered, regs_kept, regs_apart, IsBelow, steps_below, steps_size, below_weaker, suits_of}
use Rattle.un_baseline.proofs.Walked.{more, more_behind, E, made_block, ext_from, grown_values, grown_next}
use Rattle.un_baseline.proofs.Whole.{bound_rooms, Handed, ops_are, term_is, starts, start_size, whole_good, start_made}
use Rattle.un_baseline.proofs.Items.{get_left, get_right, get_map, append_nil}

-- ---- reads of other blocks

no_read : (b : ℕ) (qs : List Read) → All (λ (q : Read). q.block.0 ≢ b) qs → filter (is_live_out b) qs ≡ []
no_read b qs h = filter_none (is_live_out b) qs (λ k d lt. other (get_or qs k d) (h k d lt))
  where
    other : (q : Read) → q.block.0 ≢ b → is_live_out b q ≡ false
    other q ne = let z : (q.block.0 == b) ≡ false = grind (arith, nat_tests) in ap (λ (t : Bool). t && is_none q.instr) z

places_in : (b : ℕ) (i : Issue) (s : Step) (j : ℕ) (xs : List Operand) → i.block.0 ≡ b
    → All (λ (q : Read). q.block.0 ≡ b) (places_from (planned_read i s) j xs)
places_in b i s j [] is = All-nil (λ (q : Read). q.block.0 ≡ b)
places_in b i s j (x ∷ xs) is = All-cons (λ (q : Read). q.block.0 ≡ b) (planned_read i s j x)
    (places_from (planned_read i s) (j + 1) xs) is (places_in b i s (j + 1) xs is)

reads_in : (b end n : ℕ) (ops : List ExtOp) (steps : List Step)
    → All (λ (q : Read). q.block.0 ≡ b) (joined (pairs_from (λ (k : ℕ) (op : ExtOp) (s : Step). planned_reads_by
    (planned_issue b end k op s) op s) n ops steps))
reads_in b end n [] steps = All-nil (λ (q : Read). q.block.0 ≡ b)
reads_in b end n (op ∷ ops) [] = All-nil (λ (q : Read). q.block.0 ≡ b)
reads_in b end n (op ∷ ops) (s ∷ steps) =
    All-append (λ (q : Read). q.block.0 ≡ b) (planned_reads_by (planned_issue b end n op s) op s)
    (joined (pairs_from (λ (k : ℕ) (o : ExtOp) (t : Step). planned_reads_by (planned_issue b end k o t) o t) (n + 1) ops steps))
    (by (planned_issue b end n op s).active) (reads_in b end (n + 1) ops steps)
  where
    by : (t : Bool) → All (λ (q : Read). q.block.0 ≡ b) (if t then places_from (planned_read (planned_issue b end n op s) s) 0 op.operands
        else [])
    by true = places_in b (planned_issue b end n op s) s 0 op.operands refl
    by false = All-nil (λ (q : Read). q.block.0 ≡ b)

reads_past : (b n : ℕ) (blocks : List ExtBlock) (plans : List BlockPlan) → All (λ (q : Read). b ≤ q.block.0)
    (over_plans planned_reads b n blocks plans)
reads_past b n [] plans = All-nil (λ (q : Read). b ≤ q.block.0)
reads_past b n (block ∷ blocks) [] = All-nil (λ (q : Read). b ≤ q.block.0)
reads_past b n (block ∷ blocks) (p ∷ plans) =
    All-append (λ (q : Read). b ≤ q.block.0) (planned_reads b n block p) (over_plans planned_reads (b + 1)
    (n + length block.ops) blocks plans)
    (All-weaker (λ (q : Read). q.block.0 ≡ b) (λ (q : Read). b ≤ q.block.0) (λ q h. omega arith) (planned_reads b n block p)
    (reads_in b p.end n block.ops p.steps))
    (All-weaker (λ (q : Read). b + 1 ≤ q.block.0) (λ (q : Read). b ≤ q.block.0) (λ q h. omega arith)
    (over_plans planned_reads (b + 1) (n + length block.ops) blocks plans)
    (reads_past (b + 1) (n + length block.ops) blocks plans))

-- ---- what stays

abbrev Longer : Seen → Seen → Type 0
Longer mid F = (k : ℕ) (m : LiveRange) → slice_get mid.made k ≡ Some m → slice_get F.made k ≡ Some m

zip_longer : (mid F : Seen) → Longer mid F → (qs : List Read) (rs : List ℕ) → AllZip (ReadsFrom mid) qs rs → AllZip (ReadsFrom F) qs rs
zip_longer mid F f [] [] h = tt
zip_longer mid F f [] (r ∷ rs) h = absurd h
zip_longer mid F f (q ∷ qs) [] h = absurd h
zip_longer mid F f (q ∷ qs) (r ∷ rs) h = (
  record { temp = h.0.temp; there = f q.temp.0 h.0.temp h.0.there; reg = h.0.reg },
  zip_longer mid
      F f qs rs h.1,
)

handed_longer : (e : Ext) (block : ExtBlock) (term : Term) (mid F : Seen) (qs : List Read) → Longer mid F → Handed e block term mid qs
    → Handed e block term F qs
handed_longer e block Fall mid F qs f h = zip_longer mid F f qs (bound_rooms e block.live_out) h
handed_longer e block (Jump to) mid F qs f h = zip_longer mid F f qs (bound_rooms e block.live_out) h
handed_longer e block (Branch pred sense to) mid F qs f h = zip_longer mid F f qs (bound_rooms e block.live_out) h
handed_longer e block (Ret value) mid F qs f h = tt

zip_at : (F : Seen) (qs : List Read) (rs : List ℕ) (i r : ℕ) → AllZip (ReadsFrom F) qs rs → slice_get rs i ≡ Some r
    → (q : Read) × (slice_get qs i ≡ Some q) × ReadsFrom F q r
zip_at F [] [] i r h got = absurd (cc got)
zip_at F [] (x ∷ rs) i r h got = absurd h
zip_at F (q ∷ qs) [] i r h got = absurd h
zip_at F (q ∷ qs) (x ∷ rs) zero r h got = (q, refl, (let same : x ≡ r = cc got in subst (ReadsFrom F q) same h.0))
zip_at F (q ∷ qs) (x ∷ rs) (suc i) r h got = zip_at F qs rs i r h.1 got

handed_zip : (e : Ext) (block : ExtBlock) (term : Term) (F : Seen) (qs : List Read) (k l : ℕ) → Contains (targets_of k term) l
    → Handed e block term F qs
    → AllZip (ReadsFrom F) qs (bound_rooms e block.live_out)
handed_zip e block Fall F qs k l to h = h
handed_zip e block (Jump x) F qs k l to h = h
handed_zip e block (Branch pred sense x) F qs k l to h = h
handed_zip e block (Ret value) F qs k l (i, below, is) h = absurd (omega arith)

temps_at : (n k j : ℕ) (x : TempId) → slice_get (map temp (range_with_len n k)) j ≡ Some x → x.0 ≡ n + j
temps_at n zero j x got = absurd (cc got)
temps_at n (suc k) zero x got = let same : temp n ≡ x = cc got in ap (λ (y : TempId). y.0) (sym same)
    ∙ (let z : n ≡ n + 0 = omega arith in z)
temps_at n (suc k) (suc j) x got = temps_at (n + 1) k j x got ∙ (let z : n + 1 + j ≡ n + suc j = omega arith in z)

module _ (f : Function) (lists : List (List NameId)) (t : Table) (fit : IsFit t) (live : AreLive f.blocks lists) where
  abbrev x : Ext
  x = E f lists t fit live

  pub record TakenAt (F : Seen) (block : ExtBlock) (j : ℕ) (y : TempId) : Type 0 where
    pub temp : LiveRange
    pub there : slice_get F.made y.0 ≡ Some temp
    pub room : slice_get (bound_rooms x block.live_in) j ≡ Some temp.reg

  pub record BlockFacts (F : Seen) (b : ℕ) (block : ExtBlock) : Type 0 where
    pub source : Block
    pub at : slice_get f.blocks b ≡ Some source
    pub term : term_of block.ops ≡ source.term
    pub live_in : block.live_in ≡ live_at lists b
    pub live_out : block.live_out ≡ live_after lists (length f.names) b source.term
    pub outs : Handed x block (term_of block.ops) F (filter (is_live_out b) F.reads)
    pub ins : 0 < b → (j : ℕ) (y : TempId) → slice_get (live_in_temps block.ops) j ≡ Some y → TakenAt F block j y

  abbrev pub EachFacts : ℕ → List ExtBlock → Seen → Type 0
  EachFacts b [] F = Unit {0}
  EachFacts b (block ∷ blocks) F = BlockFacts F b block × EachFacts (b + 1) blocks F

  pub facts_at : (b k : ℕ) (blocks : List ExtBlock) (F : Seen) (a : ExtBlock) → EachFacts b blocks F → slice_get blocks k ≡ Some a
      → BlockFacts F (b + k) a
  facts_at b k [] F a h got = absurd (cc got)
  facts_at b zero (block ∷ blocks) F a h got =
      let same : block ≡ a = cc got in
      let z : b ≡ b + 0 = omega arith in
      subst (λ (n : ℕ). BlockFacts F n a) z (subst (BlockFacts F b) same h.0)
  facts_at b (suc k) (block ∷ blocks) F a h got = let z : b + 1 + k ≡ b + suc k = omega arith in subst (λ (n : ℕ). BlockFacts F n a) z
      (facts_at (b + 1) k blocks F a h.1 got)

  -- ---- the facts of all blocks

  module _ (entry : Bool) (b first : ℕ) (values : List Value) (next : ℕ) (source : Block) (at : slice_get f.blocks b ≡ Some source) where
    abbrev B : ExtBlock
    B = made_block f lists t fit live entry b first values next source

    ends_block : EndsOut B.ops
    ends_block =
        let ns = live_at lists b in
        let count = length ns + length (saved_registers t) in
        let start = in_op first count in
        let g0 : Growth = record { ops = []; values = values; next = next } in
        let kept0 = first + length ns in
        let first' = kept0 + length (saved_registers t) in
        let current0 = first_temps (replicate (length f.names) 0) first ns in
        let after = current_after current0 first' source.ops in
        let link = kept0 + length (callee_saved t) in
        let nout = live_after lists (length f.names) b source.term in
        let saved = entry || returns (linear_block t (length f.names) lists b first source) in
        let tail = end_ops after link source.term ++ out_op t after kept0 nout source.term ∷ [] in
        subst EndsOut (sym (ops_are f lists t fit live (no_slot_clobbered t fit) (regs_kept t fit)
        (regs_apart t) b first source at entry values next))
        (ends_start x.names ns entry saved start.results g0 _
        (ends_bodies x.names ns entry saved t current0 first' source.ops tail (with_extended x.names ns entry saved start g0)
        (λ g'. ends_tail x.names ns entry saved t after link kept0 nout source.term g')))

    module _ (n : ℕ) (seen : Seen) (first_block : entry ≡ true → b ≡ 0) (long : length values ≡ first) (size : length seen.made ≡ next)
        (below : IsBelow t.clobbered b seen) (reads_below : All (λ (q : Read). q.block.0 < b) seen.reads) where
      abbrev p : BlockPlan
      p = block_plan x entry B

      abbrev H : Seen → List Read → Type 0
      H = Handed x B (term_of B.ops)

      fresh : Fresh t.clobbered H b p.end x B (setting_of x entry B) fit seen
      fresh = record {
        made = All-weaker (λ (m : LiveRange). m.block.0 < b) (λ (m : LiveRange). m.block.0 ≢ b)
            (λ m lt z. omega arith) seen.made below.made;
        issues = All-weaker (λ (i : Issue). i.block.0 < b) (λ (i : Issue). i.block.0 ≢ b) (λ i lt z. omega arith) seen.issues below.issues;
        known = record { reads = below.known };
      }

      good : AreGoodSteps t.clobbered H b p.end n seen B.ops p.steps
      good = whole_good f lists t fit live (no_slot_clobbered t fit) (regs_kept t fit)
          (regs_apart t) b first source at entry values next p.end n seen first_block long size fresh

      abbrev seen1 : Seen
      seen1 = seen_after t.clobbered H b p.end n seen B.ops p.steps

      same : seen1 ≡ more seen (planned_issues b n B p) (planned_reads b n B p) (planned_made b n B p)
      same = seen_is t.clobbered H b p.end n seen B.ops p.steps (suits_of x entry B)

      behind : IsBelow t.clobbered (b + 1) seen1
      behind = steps_below t.clobbered H b p.end n seen B.ops p.steps good (below_weaker t.clobbered b seen below)

      reads_behind : All (λ (q : Read). q.block.0 < b + 1) seen1.reads
      reads_behind =
          subst (λ (z : Seen). All (λ (q : Read). q.block.0 < b + 1) z.reads) (sym same)
          (All-append (λ (q : Read). q.block.0 < b + 1) seen.reads (planned_reads b n B p)
          (All-weaker (λ (q : Read). q.block.0 < b) (λ (q : Read). q.block.0 < b + 1) (λ q lt. omega arith) seen.reads reads_below)
          (All-weaker (λ (q : Read). q.block.0 ≡ b) (λ (q : Read). q.block.0 < b + 1) (λ q is. omega arith) (planned_reads b n B p)
          (reads_in b p.end n B.ops p.steps)))

      module _ (F : Seen) (is' : List Issue) (rs' : List Read) (ms' : List LiveRange) (final : F ≡ more seen1 is' rs' ms')
          (past : All (λ (q : Read). b + 1 ≤ q.block.0) rs') where
        longer : Longer seen1 F
        longer k m got = subst (λ (z : Seen). slice_get z.made k ≡ Some m) (sym final) (get_left seen1.made ms' k m got)

        reads_are : filter (is_live_out b) F.reads ≡ filter (is_live_out b) (planned_reads b n B p)
        reads_are =
            ap (λ (z : Seen). filter (is_live_out b) z.reads) final
            ∙ filter_parts (is_live_out b) seen1.reads rs'
            ∙ ap (λ (qs : List Read). filter (is_live_out b) seen1.reads ++ qs) (no_read b rs'
            (All-weaker (λ (q : Read). b + 1 ≤ q.block.0) (λ (q : Read). q.block.0 ≢ b) (λ q le z. omega arith) rs' past))
            ∙ append_nil (filter (is_live_out b) seen1.reads)
            ∙ ap (λ (z : Seen). filter (is_live_out b) z.reads) same
            ∙ filter_parts (is_live_out b) seen.reads (planned_reads b n B p)
            ∙ ap (λ (qs : List Read). qs ++ filter (is_live_out b) (planned_reads b n B p))
            (no_read b seen.reads (All-weaker (λ (q : Read). q.block.0 < b) (λ (q : Read). q.block.0 ≢ b)
            (λ q lt z. omega arith) seen.reads reads_below))

        block_facts : BlockFacts F b B
        block_facts =
            let h = handed_at t.clobbered H b p.end n seen B.ops p.steps ends_block good in
            record {
              source = source;
              at = at;
              term = term_is f lists t fit live (no_slot_clobbered t fit) (regs_kept t fit)
                  (regs_apart t) b first source at entry values next;
              live_in = refl;
              live_out = refl;
              outs = handed_longer x B (term_of B.ops) h.mid F (filter (is_live_out b) F.reads) (λ k m got. longer k m (h.later k m got))
                  (subst (H h.mid) (sym reads_are) h.holds);
              ins = λ positive j y got. taken entry refl positive j y got;
            }
          where
            taken : (e : Bool) → entry ≡ e → 0 < b → (j : ℕ) (y : TempId) → slice_get (live_in_temps B.ops) j ≡ Some y → TakenAt F B j y
            taken true is positive j y got = absurd (let z = first_block is in omega arith)
            taken false is positive j y got =
                let g0 : Growth = record { ops = []; values = values; next = next } in
                let count = length (live_at lists b) + length (saved_registers t) in
                let start = in_op first count in
                let there = ap (λ (xs : List TempId). slice_get xs j) (sym (starts f lists t fit live (no_slot_clobbered t fit)
                (regs_kept t fit) (regs_apart t) b first source at entry values next)) ∙ got in
                let number : y.0 ≡ next + j = temps_at next (length start.results) j y there in
                let rooms = bound_rooms x (live_at lists b) in
                let temps_size = length-map-range_with_len temp next (length start.results) in
                let total = start_size f lists t fit live (no_slot_clobbered t fit) (regs_kept t fit)
                (regs_apart t) b first source at entry values next in
                let rooms_size = length-append (map slot_of (live_at lists b)) (callee_saved t ++ (FIRST_SLOT + length x.names) ∷ []) in
                let names_size = length-map (live_at lists b) slot_of in
                let last_size = length-append (callee_saved t) ((FIRST_SLOT + length x.names) ∷ []) in
                let within = slice_get_within (new_temps g0 (length start.results)) j y there in
                let r = get_or rooms j 0 in
                let room : slice_get rooms j ≡ Some r = slice_get-get_or rooms j 0 (omega arith) in
                let made = start_made f lists t fit live (no_slot_clobbered t fit) (regs_kept t fit)
                (regs_apart t) b first source at entry values next p.end first_block is n j r room in
                record {
                  temp = made.temp;
                  there = ap (slice_get F.made) number
                      ∙ longer (next + j) made.temp (ap (λ (z : Seen). slice_get z.made (next + j)) same
                      ∙ get_right seen.made (planned_made b n B p) (next + j) j (ap (λ (k : ℕ). k + j) (sym size)) ∙ made.there);
                  room = room ∙ ap (λ (k : ℕ). Some k) (sym made.reg);
                }

  pub facts_of : (blocks : List Block) (entry : Bool) (b n first next : ℕ) (values : List Value) (seen F : Seen)
      → ((i : ℕ) (y : Block) → slice_get blocks i ≡ Some y → slice_get f.blocks (b + i) ≡ Some y) → (entry ≡ true → b ≡ 0)
      → length values ≡ first → length seen.made ≡ next → IsBelow t.clobbered b seen → All (λ (q : Read). q.block.0 < b) seen.reads
      → (let ext = ext_from f lists t fit live entry b first values next blocks in let plans = block_plans x entry ext in
      F ≡ more seen (over_plans planned_issues b n ext plans) (over_plans planned_reads b n ext plans)
      (over_plans planned_made b n ext plans) → EachFacts b ext F)
  facts_of [] entry b n first next values seen F there first_block long size below reads_below final = tt
  facts_of (source ∷ blocks) entry b n first next values seen F there first_block long size below reads_below final =
      let B' = made_block f lists t fit live entry b first values next source in
      let zero_more : b + 0 ≡ b = omega arith in
      let at : slice_get f.blocks b ≡ Some source = ap (slice_get f.blocks) (sym zero_more) ∙ there 0 source refl in
      let p' = block_plan x entry B' in
      let s1 = seen1 entry b first values next source at n seen first_block long size below reads_below in
      let same' = same entry b first values next source at n seen first_block long size below reads_below in
      let G' = grown_block x.names entry values next (linear_block t (length f.names) lists b first source) in
      let ext = ext_from f lists t fit live false (b + 1) (past_block t lists b first source) G'.values G'.next blocks in
      let plans = block_plans x false ext in
      let n' = n + length B'.ops in
      let is' = over_plans planned_issues (b + 1) n' ext plans in
      let rs' = over_plans planned_reads (b + 1) n' ext plans in
      let ms' = over_plans planned_made (b + 1) n' ext plans in
      let final' : F ≡ more s1 is' rs' ms' =
      final ∙ sym (more_behind seen s1 (planned_issues b n B' p') is' (planned_reads b n B' p') rs' (planned_made b n B' p') ms' same') in
      let next' : length s1.made ≡ G'.next =
      steps_size t.clobbered (Handed x B' (term_of B'.ops)) b p'.end n seen B'.ops p'.steps (suits_of x entry B')
      ∙ ap (λ (k : ℕ). k + results_count B'.ops) size
      ∙ sym (grown_next f lists t fit live entry b first values next source) in (
        block_facts entry b first values next source at n seen first_block long size below reads_below F is' rs' ms' final'
            (reads_past (b + 1) n' ext plans),
        facts_of blocks false (b + 1) n' (past_block t lists b first source) G'.next G'.values s1 F
            (λ i y got. let z : b + 1 + i ≡ b + suc i = omega arith in ap (slice_get f.blocks) z ∙ there (suc i) y got)
            (λ z. absurd (cc z)) (grown_values f lists t fit live entry b first values next source long) next'
            (behind entry b first values next source at n seen first_block long size below reads_below)
            (reads_behind entry b first values next source at n seen first_block long size below reads_below) final',
      )

  -- ---- congruences

  module _ (S : Schedule) (F : Seen) (reads : S.reads ≡ F.reads) (ranges : S.ranges ≡ places_from (lasting_at F.reads) 0 F.made) where
    reg_of : (y : TempId) (m : LiveRange) → slice_get F.made y.0 ≡ Some m → register_of S.ranges y ≡ Some m.reg
    reg_of y m got =
        ap (λ (rs : List LiveRange). option_map (λ (h : LiveRange). h.reg) (slice_get rs y.0)) ranges
        ∙ ap (λ (o : Option LiveRange). option_map (λ (h : LiveRange). h.reg) o) (place_there (lasting_at F.reads) 0 y.0 F.made m got)

    -- the place of what the next block takes
    place_room : (k l : ℕ) (a b' : ExtBlock) (ha : BlockFacts F k a) (hb : BlockFacts F l b') → Contains (targets_of k ha.source.term) l
        → (j r : ℕ) → slice_get (bound_rooms x b'.live_in) j ≡ Some r → slice_get (bound_rooms x a.live_out) (place_over a b' j) ≡ Some r
    place_room k l a b' ha hb to j r got = by (cases_lt j (length b'.live_in))
      where
        by : (j < length b'.live_in) ⊎ (length b'.live_in ≤ j) → slice_get (bound_rooms x a.live_out) (place_over a b' j) ≡ Some r
        by (inl lt) =
            let name = get_or b'.live_in j (record { 0 = 0 }) in
            let there : slice_get b'.live_in j ≡ Some name = slice_get-get_or b'.live_in j (record { 0 = 0 }) lt in
            let tail = callee_saved t ++ (FIRST_SLOT + length x.names) ∷ [] in
            let room : slot_of name ≡ r = (let q = sym (get_left (map slot_of b'.live_in) tail j (slot_of name)
            (get_map slot_of b'.live_in j name there)) ∙ got in cc q) in
            let in_b : Contains (live_at lists l) name = subst (λ (ns : List NameId). Contains ns name) hb.live_in
            (Contains-get_or b'.live_in j (record { 0 = 0 }) lt) in
            let in_a : Contains a.live_out name = subst (λ (ns : List NameId). Contains ns name) (sym ha.live_out)
            (out_has f lists live k ha.source ha.at l to name in_b) in
            let found = place_found a.live_out name in_a in
            ap (λ (o : Option NameId). slice_get (bound_rooms x a.live_out) (place_by a b' j o)) there
            ∙ get_left (map slot_of a.live_out) tail (place_by a b' j (Some name)) (slot_of name)
            (get_map slot_of a.live_out (place_by a b' j (Some name)) name found)
            ∙ ap (λ (n : ℕ). Some n) room
        by (inr le) =
            let tail = callee_saved t ++ (FIRST_SLOT + length x.names) ∷ [] in
            let d = j - length b'.live_in in
            let none : slice_get b'.live_in j ≡ None = slice_get_past b'.live_in j le in
            let size_b = length-map b'.live_in slot_of in
            let size_a = length-map a.live_out slot_of in
            ap (λ (o : Option NameId). slice_get (bound_rooms x a.live_out) (place_by a b' j o)) none
            ∙ get_right (map slot_of a.live_out) tail (length a.live_out + d) d (omega arith)
            ∙ sym (get_right (map slot_of b'.live_in) tail j d (omega arith)) ∙ got

    hands_over : (k l : ℕ) (a b' : ExtBlock) (ha : BlockFacts F k a) (hb : BlockFacts F l b') → Contains (targets_of k (term_of a.ops)) l
        → HandsOver S k a b'
    unfolding HandsOver
    hands_over k l a b' ha hb to j y got =
        let to' : Contains (targets_of k ha.source.term) l = subst (λ (term : Term). Contains (targets_of k term) l) ha.term to in
        let inside = leads_inside f k ha.source l ha.at to' in
        let taken = hb.ins inside.0 j y got in
        let zip = handed_zip x a (term_of a.ops) F (filter (is_live_out k) F.reads) k l to ha.outs in
        let found = zip_at F (filter (is_live_out k) F.reads) (bound_rooms x a.live_out) (place_over a b' j) taken.temp.reg zip
        (place_room k l a b' ha hb to' j taken.temp.reg taken.room) in
        let q = found.0 in
        ap (λ (rs : List Read). register_read S.ranges (slice_get (live_out_reads k rs) (place_over a b' j))) reads
        ∙ ap (register_read S.ranges) found.1
        ∙ reg_of q.temp found.2.temp found.2.there ∙ ap (λ (n : ℕ). Some n) found.2.reg ∙ sym (reg_of y taken.temp taken.there)

    pub congruences_kept : (blocks : List ExtBlock) → EachFacts 0 blocks F → KeepsCongruences blocks S
    unfolding HandsOn
    congruences_kept blocks h k a at_k l b' to at_l =
        let zk : 0 + k ≡ k = omega arith in
        let zl : 0 + l ≡ l = omega arith in
        let ha = subst (λ (n : ℕ). BlockFacts F n a) zk (facts_at 0 k blocks F a h at_k) in
        let hb = subst (λ (n : ℕ). BlockFacts F n b') zl (facts_at 0 l blocks F b' h at_l) in
        hands_over k l a b' ha hb to
