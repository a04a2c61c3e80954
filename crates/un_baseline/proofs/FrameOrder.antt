-- In the plan that spills every name Enter issues before the frame is used, and Leave behind.
use Rattle.std.proofs.Common.{◌≡◌, ◌≢◌, ℕ, ◌+◌, ◌≤◌, Bool, true, false, List, [], ◌∷◌, ◌++◌, length, get_or, Option, Some, None, refl, sym}
use Rattle.std.proofs.Common.{ap, subst, ◌∙◌, arith}
use Rattle.std.specs.Prelude.{All, IfSome}
use Rattle.std.proofs.lemmas.List.Elements.{All-append, All-nil}
use Rattle.un_isa.specs.declared.op.Op.{Op}
use Rattle.un_isa.specs.declared.op.Op.TheVariants.{Spill, Reload, Call, Jumpr, Enter, Leave}
use Rattle.un_isa.specs.declared.table.Table.{Table}
use Rattle.un_isa.specs.Fit.{IsFit}
use Rattle.un_ir.specs.declared.extended.ExtBlock.{ExtBlock}
use Rattle.un_ir.specs.declared.extended.Ext.{Ext}
use Rattle.un_model.specs.declared.schedule.Issue.{Issue}
use Rattle.un_model.specs.Solutions.{Precedes, frame_distance, after_enter, before_leave, KeepsFrameOrder}
use Rattle.un_baseline.specs.Plans.{planned_issues, over_plans, planned_schedule}
use Rattle.un_baseline.specs.SpillEverywhere.{first_cycle, block_plan, block_plans}
use Rattle.un_baseline.proofs.Layouts.{in_block, past_block}
use Rattle.un_baseline.proofs.BlockTimes.{IsTimed, none_there, entered, early, reloads, leaves, returns, BlockTimes, AreTimed, behind_first}
use Rattle.un_baseline.proofs.BlockTimes.{no_op, differ}

-- ---- distances

kept_by : (x : Option ℕ) (c d : ℕ) → ((n : ℕ) → x ≡ Some n → c + n ≤ d) → IfSome x (λ (n : ℕ). c + n ≤ d)
kept_by None c d h = tt
kept_by (Some n) c d h = h n refl

before_is : (k : ℕ) (x : Option Op) (n : ℕ) → before_leave k x ≡ Some n → (x ≡ Some Leave) × (n ≡ k)
before_is k (Some Leave) n h = (refl, (let e : k ≡ n = cc h in sym e))
before_is k _ n h = absurd (cc h)

-- Enter waits for nothing, and what comes behind it does so by one cycle
after_is : (x : Option Op) (n : ℕ) → after_enter x ≡ Some n → (q : Op) × (x ≡ Some q) × (q ≢ Enter) × (n ≡ 1)
after_is (Some Spill) n h = (Spill, refl, (λ e. cc e), (let e : 1 ≡ n = cc h in sym e))
after_is (Some Reload) n h = (Reload, refl, (λ e. cc e), (let e : 1 ≡ n = cc h in sym e))
after_is (Some Call) n h = (Call, refl, (λ e. cc e), (let e : 1 ≡ n = cc h in sym e))
after_is (Some Leave) n h = (Leave, refl, (λ e. cc e), (let e : 1 ≡ n = cc h in sym e))
after_is _ n h = absurd (cc h)

-- of other operations only Leave waits, at most one cycle
other_is : (o : Op) (x : Option Op) (n : ℕ) → o ≢ Enter → frame_distance (Some o) x ≡ Some n → (x ≡ Some Leave) × (n ≤ 1)
other_is Enter x n other h = absurd (other refl)
other_is Spill x n other h = let b = before_is 0 x n h in let e = b.1 in (b.0, omega arith)
other_is Reload x n other h = let b = before_is 0 x n h in let e = b.1 in (b.0, omega arith)
other_is Call x n other h = let b = before_is 1 x n h in let e = b.1 in (b.0, omega arith)
other_is _ x n other h = absurd (cc h)

module _ (t : Table) (fit : IsFit t) (first now left end : ℕ) (entered_by : first ≤ now) (now_left : now ≤ left) where
  leave_behind : (j : Issue) → IsTimed t first now left end j → j.instr ≡ Some Leave → left ≤ j.cycle
  leave_behind j (none_there e) is = absurd (no_op j Leave e is)
  leave_behind j (entered e one lt) is = absurd (differ j Enter Leave e is (λ h. cc h))
  leave_behind j (early o e a b lo hi last) is = absurd (differ j o Leave e is b)
  leave_behind j (reloads e lo hi le) is = absurd (differ j Reload Leave e is (λ h. cc h))
  leave_behind j (leaves e lo hi) is = lo
  leave_behind j (returns e lo hi) is = absurd (differ j Jumpr Leave e is (λ h. cc h))

  from : (i j : Issue) (o : Op) (n : ℕ) → i.instr ≡ Some o → frame_distance i.instr j.instr ≡ Some n
      → frame_distance (Some o) j.instr ≡ Some n
  from i j o n e h = ap (λ (x : Option Op). frame_distance x j.instr) (sym e) ∙ h

  distance_kept : (i j : Issue) → IsTimed t first now left end i → IsTimed t first now left end j → (n : ℕ)
      → frame_distance i.instr j.instr ≡ Some n → i.cycle + n ≤ j.cycle
  distance_kept i j (none_there e) at n h = let z : None ≡ Some n = ap (λ (x : Option Op). frame_distance x j.instr) (sym e) ∙ h in
      absurd (cc z)
  distance_kept i j (entered e one le) at n h =
      let a = after_is j.instr n (from i j Enter n e h) in
      let b = behind_first t first now left end entered_by now_left j a.0 at a.1 a.2 in
      let k = a.3 in
      let positive = (fit.latencies Enter).0 in
      omega arith
  distance_kept i j (early o e ne stays lo hi last) at n h =
      let a = other_is o j.instr n ne (from i j o n e h) in
      let b = leave_behind j at a.0 in
      let k = a.1 in
      let positive = (fit.latencies o).0 in
      omega arith
  distance_kept i j (reloads e lo hi le) at n h =
      let a = before_is 0 j.instr n (from i j Reload n e h) in
      let b = leave_behind j at a.0 in
      let k = a.1 in
      omega arith
  distance_kept i j (leaves e lo hi) at n h = let z = from i j Leave n e h in absurd (cc z)
  distance_kept i j (returns e lo hi) at n h = let z = from i j Jumpr n e h in absurd (cc z)

  timed_precede : (i j : Issue) → IsTimed t first now left end i → IsTimed t first now left end j → Precedes frame_distance i j
  unfolding Precedes
  timed_precede i j a b block = kept_by (frame_distance i.instr j.instr) i.cycle j.cycle (distance_kept i j a b)

-- ---- blocks

abbrev Across : List Issue → List Issue → Type 0
Across xs ys = All (λ (i : Issue). All (Precedes frame_distance i) ys) xs

across_append : (xs ys : List Issue) → Across xs xs → Across xs ys → Across ys xs → Across ys ys → Across (xs ++ ys) (xs ++ ys)
across_append xs ys a b c d =
    All-append (λ (i : Issue). All (Precedes frame_distance i) (xs ++ ys)) xs ys
    (λ k z lt. All-append (Precedes frame_distance (get_or xs k z)) xs ys (a k z lt) (b k z lt))
    (λ k z lt. All-append (Precedes frame_distance (get_or ys k z)) xs ys (c k z lt) (d k z lt))

other_block : (i j : Issue) → i.block.0 ≢ j.block.0 → Precedes frame_distance i j
unfolding Precedes
other_block i j ne same = absurd (ne same)

block_ordered : (t : Table) → IsFit t → (first end : ℕ) (is : List Issue) → BlockTimes t first end is → Across is is
block_ordered t fit first end is h =
    let all = All-append (IsTimed t first h.now h.left end) h.front h.tail h.front_timed h.tail_timed in
    subst (λ (xs : List Issue). Across xs xs) (sym h.whole) (λ k z lt m y lt'. timed_precede t fit first h.now h.left end h.entered_by
    h.now_left (get_or (h.front ++ h.tail) k z) (get_or (h.front ++ h.tail) m y) (all k z lt) (all m y lt'))

frame_ordered : (e : Ext) → IsFit e.table → (entry : Bool) (b n : ℕ) (blocks : List ExtBlock) → AreTimed e entry b n blocks
    → (let is = over_plans planned_issues b n blocks (block_plans e entry blocks) in Across is is)
frame_ordered e fit entry b n [] h = All-nil (λ (i : Issue). All (Precedes frame_distance i) [])
frame_ordered e fit entry b n (block ∷ blocks) h =
    let p = block_plan e entry block in
    let here = planned_issues b n block p in
    let rest = over_plans planned_issues (b + 1) (n + length block.ops) blocks (block_plans e false blocks) in
    let of_block = in_block b p.end n block.ops p.steps in
    let past = past_block (b + 1) (n + length block.ops) blocks (block_plans e false blocks) in
    across_append here rest (block_ordered e.table fit (first_cycle e.table entry) p.end here h.0)
    (λ k d lt m c lt'. other_block (get_or here k d) (get_or rest m c) (λ same. let x = of_block k d lt in let y = past m c lt' in omega
    arith))
    (λ m c lt' k d lt. other_block (get_or rest m c) (get_or here k d) (λ same. let x = of_block k d lt in let y = past m c lt' in omega
    arith))
    (frame_ordered e fit false (b + 1) (n + length block.ops) blocks h.1)

pub keeps_frame_order : (e : Ext) → IsFit e.table → AreTimed e true 0 0 e.blocks
    → KeepsFrameOrder (planned_schedule e.blocks (block_plans e true e.blocks)).issues
keeps_frame_order e fit h = frame_ordered e fit true 0 0 e.blocks h
