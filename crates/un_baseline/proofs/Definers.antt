-- Which operation defines a temporary: the live range of the temporary is that of a result of this operation.
use Rattle.std.proofs.Common.{◌≡◌, ℕ, zero, suc, ◌+◌, ◌<◌, List, [], ◌∷◌, ◌++◌, length, map, get_or, take, Option, Some, Contains, refl}
use Rattle.std.proofs.Common.{sym, ap, subst, ◌∙◌, arith}
use Rattle.std.specs.Prelude.{slice_get, AllPairs}
use Rattle.std.specs.List.{AllZip, range_with_len}
use Rattle.std.specs.Option.{option_map}
use Rattle.std.proofs.lemmas.List.{length-append, length-map}
use Rattle.std.proofs.lemmas.Option.{slice_get_within, slice_get-get_or, slice_get-map, get_or_from_slice_get}
use Rattle.un_base.specs.declared.ids.TempId.{TempId}
use Rattle.un_ir.specs.declared.extended.ExtOp.{ExtOp}
use Rattle.un_ir.specs.declared.extended.ExtBlock.{ExtBlock}
use Rattle.un_ir.specs.Extended.{temp, results_of, all_results}
use Rattle.un_model.specs.declared.schedule.Issue.{Issue}
use Rattle.un_model.specs.declared.schedule.Read.{Read}
use Rattle.un_model.specs.declared.schedule.LiveRange.{LiveRange}
use Rattle.un_model.specs.Pairs.{places_from, pairs_from}
use Rattle.un_model.specs.Schedules.{last_read}
use Rattle.un_baseline.specs.Plans.{Step, BlockPlan, Suits, SuitsAll, planned_issue, planned_issues, planned_reads, over_plans, Place}
use Rattle.un_baseline.specs.Plans.{place_at, step_places, plan_places, planned_range, range_at, planned_schedule}
use Rattle.un_baseline.proofs.Each.{Has, has_whole, has_left, has_right, has_first, EachStep, EachPlan}

-- ---- numbers of temporaries

row_number : (n count i : ℕ) (x : TempId) → slice_get (map temp (range_with_len n count)) i ≡ Some x → x.0 ≡ n + i
row_number n zero i x h = absurd (cc h)
row_number n (suc count) zero x h = let e : temp n ≡ x = cc h in let z : n ≡ n + 0 = omega arith in ap (λ (y : TempId). y.0) (sym e) ∙ z
row_number n (suc count) (suc i) x h = let r = row_number (n + 1) count i x h in omega arith

-- temporaries are numbered in the order of their definition
pub temp_number : (blocks : List ExtBlock) → all_results blocks ≡ map temp (range_with_len 0 (length (all_results blocks))) → (i : ℕ)
    (x : TempId) → slice_get (all_results blocks) i ≡ Some x → x.0 ≡ i
temp_number blocks numbered i x at =
    let temps = all_results blocks in
    let r = row_number 0 (length temps) i x (ap (λ (xs : List TempId). slice_get xs i) (sym numbered) ∙ at) in
    omega arith

slice_get-places : {A B : Type 0} (f : ℕ → A → B) (k i : ℕ) (xs : List A) (x : A) → slice_get xs i ≡ Some x
    → slice_get (places_from f k xs) i ≡ Some (f (k + i) x)
slice_get-places f k i [] x h = absurd (cc h)
slice_get-places {B = B} f k zero (y ∷ xs) x h =
    let e : y ≡ x = cc h in let z : k ≡ k + 0 = omega arith in ap (λ (w : B). Some w) (ap (f k) e ∙ ap (λ (n : ℕ). f n x) z)
slice_get-places {B = B} f k (suc i) (y ∷ xs) x h =
    let z : k + 1 + i ≡ k + suc i = omega arith in slice_get-places f (k + 1) i xs x h ∙ ap (λ (n : ℕ). Some (f n x)) z

-- ---- definers

module _ (ranges : List LiveRange) (reads : List Read) where
  -- the result x at place m of operation n, which is in block b with this end
  pub record HasRange (b end n : ℕ) (op : ExtOp) (s : Step) (m : ℕ) (x : TempId) : Type 0 where
    pub reg : ℕ
    pub is : slice_get s.registers m ≡ Some reg
    pub there : slice_get ranges x.0 ≡ Some (planned_range (place_at n reg) (last_read reads x.0) (Some (planned_issue b end n op s)))

  pub record AreDefined (b end n : ℕ) (op : ExtOp) (s : Step) : Type 0 where
    pub at : (m : ℕ) (x : TempId) → slice_get op.results m ≡ Some x → HasRange b end n op s m x

module _ (issues : List Issue) (reads : List Read) (places : List Place) (temps : List TempId)
    (numbered : (i : ℕ) (x : TempId) → slice_get temps i ≡ Some x → x.0 ≡ i) where
  abbrev ranges : List LiveRange
  ranges = places_from (range_at issues reads) 0 places

  op_defined : (b end n i : ℕ) (op : ExtOp) (s : Step) → Suits op s → Has temps i op.results → Has places i (map (place_at n) s.registers)
      → slice_get issues n ≡ Some (planned_issue b end n op s) → AreDefined ranges reads b end n op s
  op_defined b end n i op s fit hx hp here = record {
    at = λ m x at.
        let lt = slice_get_within op.results m x at in
        let size = fit.registers in
        let within : m < length s.registers = omega arith in
        let r = get_or s.registers m 0 in
        let is = slice_get-get_or s.registers m 0 within in
        let number = numbered (i + m) x (hx.at m lt ∙ at) in
        let long = length-map s.registers (place_at n) in
        let place : slice_get places (i + m) ≡ Some (place_at n r) =
        hp.at m (omega arith) ∙ slice_get-map (place_at n) s.registers m ∙ ap (option_map (place_at n)) is in
        let placed : slice_get places x.0 ≡ Some (place_at n r) = ap (slice_get places) number ∙ place in
        let zero_more : 0 + x.0 ≡ x.0 = omega arith in
        record {
          reg = r;
          is = is;
          there = slice_get-places (range_at issues reads) 0 x.0 places (place_at n r) placed
              ∙ ap (λ (k : ℕ). Some (planned_range (place_at n r) (last_read reads k) (slice_get issues n))) zero_more
              ∙ ap (λ (o : Option Issue). Some (planned_range (place_at n r) (last_read reads x.0) o)) here;
        };
  }

  ops_defined : (b end n i : ℕ) (ops : List ExtOp) (steps : List Step) → AllZip Suits ops steps → Has temps i (results_of ops)
      → Has places i (step_places n steps) → Has issues n (pairs_from (planned_issue b end) n ops steps)
      → EachStep (AreDefined ranges reads b end) n ops steps
  ops_defined b end n i [] [] fit hx hp hi = tt
  ops_defined b end n i [] (s ∷ steps) fit hx hp hi = absurd fit
  ops_defined b end n i (op ∷ ops) [] fit hx hp hi = absurd fit
  ops_defined b end n i (op ∷ ops) (s ∷ steps) fit hx hp hi =
      let size = (fit.0).registers in
      let long = length-map s.registers (place_at n) in
      let issue = planned_issue b end n op s in
      let rest = pairs_from (planned_issue b end) (n + 1) ops steps in (
        op_defined b end n i op s fit.0 (has_left temps i op.results (results_of ops) hx)
            (has_left places i (map (place_at n) s.registers) (step_places (n + 1) steps) hp) (has_first issues n issue rest hi),
        ops_defined b end (n + 1) (i + length op.results) ops steps fit.1
            (has_right temps i (i + length op.results) op.results (results_of ops) refl hx)
            (has_right places i (i + length op.results) (map (place_at n) s.registers) (step_places (n + 1) steps) (omega arith) hp)
            (has_right issues n (n + 1) (issue ∷ []) rest refl hi),
      )

  step_count : (n : ℕ) (ops : List ExtOp) (steps : List Step) → AllZip Suits ops steps
      → length (step_places n steps) ≡ length (results_of ops)
  step_count n [] [] fit = refl
  step_count n [] (s ∷ steps) fit = absurd fit
  step_count n (op ∷ ops) [] fit = absurd fit
  step_count n (op ∷ ops) (s ∷ steps) fit =
      let a = length-append (map (place_at n) s.registers) (step_places (n + 1) steps) in
      let b = length-append op.results (results_of ops) in
      let c = length-map s.registers (place_at n) in
      let d = (fit.0).registers in
      let e = step_count (n + 1) ops steps fit.1 in
      omega arith

  issue_count : (b end n : ℕ) (ops : List ExtOp) (steps : List Step) → AllZip Suits ops steps
      → length (pairs_from (planned_issue b end) n ops steps) ≡ length ops
  issue_count b end n [] [] fit = refl
  issue_count b end n [] (s ∷ steps) fit = absurd fit
  issue_count b end n (op ∷ ops) [] fit = absurd fit
  issue_count b end n (op ∷ ops) (s ∷ steps) fit = ap suc (issue_count b end (n + 1) ops steps fit.1)

  blocks_defined : (b n i : ℕ) (blocks : List ExtBlock) (plans : List BlockPlan) → SuitsAll blocks plans → Has temps i (all_results blocks)
      → Has places i (plan_places n blocks plans) → Has issues n (over_plans planned_issues b n blocks plans)
      → EachPlan (AreDefined ranges reads) b n blocks plans
  blocks_defined b n i [] [] fit hx hp hi = tt
  blocks_defined b n i [] (p ∷ plans) fit hx hp hi = absurd fit
  blocks_defined b n i (block ∷ blocks) [] fit hx hp hi = absurd fit
  blocks_defined b n i (block ∷ blocks) (p ∷ plans) fit hx hp hi =
      let here = results_of block.ops in
      let size = step_count n block.ops p.steps fit.0 in
      let count = issue_count b p.end n block.ops p.steps fit.0 in
      let rest = over_plans planned_issues (b + 1) (n + length block.ops) blocks plans in
      let more = plan_places (n + length block.ops) blocks plans in (
        ops_defined b p.end n i block.ops p.steps fit.0 (has_left temps i here (all_results blocks) hx)
            (has_left places i (step_places n p.steps) more hp) (has_left issues n (planned_issues b n block p) rest hi),
        blocks_defined (b + 1) (n + length block.ops) (i + length here) blocks plans fit.1
            (has_right temps i (i + length here) here (all_results blocks) refl hx)
            (has_right places i (i + length here) (step_places n p.steps) more (omega arith) hp)
            (has_right issues n (n + length block.ops) (planned_issues b n block p) rest (omega arith) hi),
      )

-- where temporaries are numbered in the order of their definition, each has the live range of its definer
pub all_defined : (blocks : List ExtBlock) (plans : List BlockPlan) → SuitsAll blocks plans
    → all_results blocks ≡ map temp (range_with_len 0 (length (all_results blocks)))
    → (let t = planned_schedule blocks plans in EachPlan (AreDefined t.ranges t.reads) 0 0 blocks plans)
all_defined blocks plans fit numbered =
    let issues = over_plans planned_issues 0 0 blocks plans in
    let reads = over_plans planned_reads 0 0 blocks plans in
    let places = plan_places 0 blocks plans in
    let temps = all_results blocks in
    blocks_defined issues reads places temps
    (temp_number blocks numbered)
    0 0 0 blocks plans fit (has_whole temps) (has_whole places) (has_whole issues)

-- ---- operations of a block, by their places

-- what holds of each operation with its step holds at each place
pub record StepAt (R : ℕ → ExtOp → Step → Type 0) (n k : ℕ) (op : ExtOp) (steps : List Step) : Type 0 where
  pub step : Step
  pub at : slice_get steps k ≡ Some step
  pub holds : R (n + k) op step

pub step_at : (R : ℕ → ExtOp → Step → Type 0) (n k : ℕ) (ops : List ExtOp) (steps : List Step) (op : ExtOp) → EachStep R n ops steps
    → slice_get ops k ≡ Some op → StepAt R n k op steps
step_at R n k [] steps op h at = absurd (cc at)
step_at R n k (o ∷ ops) [] op h at = absurd h
step_at R n zero (o ∷ ops) (s ∷ steps) op h at =
    let e : o ≡ op = cc at in
    let z : n ≡ n + 0 = omega arith in
    record { step = s; at = refl; holds = subst (λ (x : ExtOp). R (n + 0) x s) e (subst (λ (m : ℕ). R m o s) z h.0) }
step_at R n (suc k) (o ∷ ops) (s ∷ steps) op h at =
    let z : n + 1 + k ≡ n + suc k = omega arith in
    let r = step_at R (n + 1) k ops steps op h.1 at in
    record { step = r.step; at = r.at; holds = subst (λ (m : ℕ). R m op r.step) z r.holds }

-- and what holds at each place holds of each
pub each_step : (R : ℕ → ExtOp → Step → Type 0) (n : ℕ) (ops : List ExtOp) (steps : List Step) → length steps ≡ length ops
    → ((k : ℕ) (op : ExtOp) (s : Step) → slice_get ops k ≡ Some op → slice_get steps k ≡ Some s → R (n + k) op s)
    → EachStep R n ops steps
each_step R n [] [] e h = tt
each_step R n [] (s ∷ steps) e h = absurd (omega arith)
each_step R n (op ∷ ops) [] e h = absurd (omega arith)
each_step R n (op ∷ ops) (s ∷ steps) e h =
    let z : n + 0 ≡ n = omega arith in (
      subst (λ (m : ℕ). R m op s) z (h 0 op s refl refl),
      each_step R (n + 1) ops steps (omega arith) (λ k o t at there.
          let q : n + suc k ≡ n + 1 + k = omega arith in subst (λ (m : ℕ). R m o t) q (h (suc k) o t at there)),
    )

-- the operation before place k that defines a temporary
pub record Definer (ops : List ExtOp) (k : ℕ) (x : TempId) : Type 0 where
  pub place : ℕ
  pub before : place < k
  pub op : ExtOp
  pub at : slice_get ops place ≡ Some op
  pub result : ℕ
  pub is : slice_get op.results result ≡ Some x

pub definer_at : (ops : List ExtOp) (k i : ℕ) (x : TempId) → slice_get (results_of (take k ops)) i ≡ Some x → Definer ops k x
definer_at [] k i x h = absurd (by k h)
  where
    by : (n : ℕ) → slice_get (results_of (take n [])) i ≡ Some x → ⊥
    by zero g = cc g
    by (suc n) g = cc g
definer_at (op ∷ ops) zero i x h = absurd (cc h)
definer_at (op ∷ ops) (suc k) i x h =
    by op.results i h (λ m at. record { place = 0; before = omega arith; op = op; at = refl; result = m; is = at })
    (λ j g. later (definer_at ops k j x g))
  where
    later : Definer ops k x → Definer (op ∷ ops) (suc k) x
    later d =
        let lt = d.before in
        record { place = suc d.place; before = omega arith; op = d.op; at = d.at; result = d.result; is = d.is }

    by : (rs : List TempId) (j : ℕ) → slice_get (rs ++ results_of (take k ops)) j ≡ Some x
        → ((m : ℕ) → slice_get rs m ≡ Some x → Definer (op ∷ ops) (suc k) x)
        → ((m : ℕ) → slice_get (results_of (take k ops)) m ≡ Some x → Definer (op ∷ ops) (suc k) x) → Definer (op ∷ ops) (suc k) x
    by [] j g f rest = rest j g
    by (r ∷ rs) zero g f rest = f 0 g
    by (r ∷ rs) (suc j) g f rest = by rs j g (λ m at. f (suc m) at) rest

pub definer_of : (ops : List ExtOp) (k : ℕ) (x : TempId) → Contains (results_of (take k ops)) x → Definer ops k x
definer_of ops k x h =
    definer_at ops k h.0 x (slice_get-get_or (results_of (take k ops)) h.0 x h.1 ∙ ap (λ (y : TempId). Some y) h.2)

-- ---- lists by their places

pub pair_at : {A : Type 0} (R : A → A → Type 0) (xs : List A) (j k : ℕ) (x y : A) → AllPairs R xs → j < k → slice_get xs j ≡ Some x
    → slice_get xs k ≡ Some y → R x y
pair_at {A} R xs j k x y h lt at there =
    let within = slice_get_within xs k y there in
    subst (λ (a : A). R a y) (get_or_from_slice_get xs j x x at)
    (subst (λ (a : A). R (get_or xs j x) a) (get_or_from_slice_get xs k y x there) (h j k x lt within))

pub slice_get-pairs : {A B C : Type 0} (f : ℕ → A → B → C) (n k : ℕ) (xs : List A) (ys : List B) (x : A) (y : B) → slice_get xs k ≡ Some x
    → slice_get ys k ≡ Some y → slice_get (pairs_from f n xs ys) k ≡ Some (f (n + k) x y)
slice_get-pairs f n k [] ys x y at there = absurd (cc at)
slice_get-pairs f n k (a ∷ xs) [] x y at there = absurd (cc there)
slice_get-pairs {C = C} f n zero (a ∷ xs) (b ∷ ys) x y at there =
    let e : a ≡ x = cc at in
    let g : b ≡ y = cc there in
    let z : n ≡ n + 0 = omega arith in
    ap (λ (w : C). Some w) (ap (λ (w : _). f n w b) e ∙ ap (f n x) g ∙ ap (λ (m : ℕ). f m x y) z)
slice_get-pairs f n (suc k) (a ∷ xs) (b ∷ ys) x y at there =
    let z : n + 1 + k ≡ n + suc k = omega arith in slice_get-pairs f (n + 1) k xs ys x y at there ∙ ap (λ (m : ℕ). Some (f m x y)) z

pub each_size : (R : ℕ → ExtOp → Step → Type 0) (n : ℕ) (ops : List ExtOp) (steps : List Step) → EachStep R n ops steps
    → length steps ≡ length ops
each_size R n [] [] h = refl
each_size R n [] (s ∷ steps) h = absurd h
each_size R n (op ∷ ops) [] h = absurd h
each_size R n (op ∷ ops) (s ∷ steps) h = ap suc (each_size R (n + 1) ops steps h.1)

pub contains_at : {A : Type 0} (xs : List A) (k : ℕ) (x : A) → slice_get xs k ≡ Some x → Contains xs x
contains_at xs k x at = (k, slice_get_within xs k x at, get_or_from_slice_get xs k x x at)
