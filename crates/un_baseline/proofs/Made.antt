-- The temporaries that a plan makes, in order: their live ranges but for the last read.
use Rattle.std.proofs.Common.{◌≡◌, ℕ, zero, suc, ◌+◌, ◌-◌, max, List, [], ◌∷◌, ◌++◌, length, map, Option, Some, refl, sym, ap, ◌∙◌, arith}
use Rattle.std.specs.Prelude.{slice_get}
use Rattle.std.specs.List.{AllZip}
use Rattle.std.proofs.lemmas.List.{length-append}
use Rattle.un_ir.specs.declared.extended.ExtOp.{ExtOp}
use Rattle.un_ir.specs.declared.extended.ExtBlock.{ExtBlock}
use Rattle.un_model.specs.declared.schedule.Issue.{Issue}
use Rattle.un_model.specs.declared.schedule.Read.{Read}
use Rattle.un_model.specs.declared.schedule.LiveRange.{LiveRange}
use Rattle.un_model.specs.Pairs.{places_from, pairs_from}
use Rattle.un_model.specs.Schedules.{last_read}
use Rattle.un_baseline.specs.Plans.{Step, BlockPlan, Suits, SuitsAll, planned_issue, planned_issues, planned_reads, over_plans, place_at}
use Rattle.un_baseline.specs.Plans.{step_places, plan_places, planned_range, range_at, planned_schedule}
use Rattle.un_baseline.proofs.Each.{Has, has_whole, has_left, has_right, has_first}

-- the temporary that an operation that issues so defines in register r
abbrev pub made_at : Issue → ℕ → LiveRange
made_at i r = record { block = i.block; op = i.op; instr = i.instr; active = i.active; reg = r; from = i.cycle; last = 0 }

-- the same where it is read last in this cycle
abbrev pub lasting : ℕ → LiveRange → LiveRange
lasting last m = record {
  block = m.block;
  op = m.op;
  instr = m.instr;
  active = m.active;
  reg = m.reg;
  from = m.from;
  last = max m.from
      (last - 1);
}

abbrev pub lasting_at : List Read → ℕ → LiveRange → LiveRange
lasting_at reads k m = lasting (last_read reads k) m

abbrev pub step_made : ℕ → ℕ → ℕ → ExtOp → Step → List LiveRange
step_made b end n op s = map (made_at (planned_issue b end n op s)) s.registers

abbrev pub steps_made : ℕ → ℕ → ℕ → List ExtOp → List Step → List LiveRange
steps_made b end n [] steps = []
steps_made b end n (op ∷ ops) [] = []
steps_made b end n (op ∷ ops) (s ∷ steps) = step_made b end n op s ++ steps_made b end (n + 1) ops steps

abbrev pub planned_made : ℕ → ℕ → ExtBlock → BlockPlan → List LiveRange
planned_made b n block p = steps_made b p.end n block.ops p.steps

-- ---- lists with places

places-append : {A B : Type 0} (f : ℕ → A → B) (k next : ℕ) (xs ys : List A) → next ≡ k + length xs
    → places_from f k (xs ++ ys) ≡ places_from f k xs ++ places_from f next ys
places-append f k next [] ys e = let same : k ≡ next = omega arith in ap (λ (n : ℕ). places_from f n ys) same
places-append {B = B} f k next (x ∷ xs) ys e = ap (λ (zs : List B). f k x ∷ zs) (places-append f (k + 1) next xs ys (omega arith))

pub place_there : {A B : Type 0} (f : ℕ → A → B) (k j : ℕ) (xs : List A) (x : A) → slice_get xs j ≡ Some x
    → slice_get (places_from f k xs) j ≡ Some (f (k + j) x)
place_there f k j [] x e = absurd (cc e)
place_there {B = B} f k zero (y ∷ xs) x e =
    let same : y ≡ x = cc e in
    let n : k ≡ k + 0 = omega arith in
    ap (λ (z : B). Some z) (ap (f k) same ∙ ap (λ (m : ℕ). f m x) n)
place_there {B = B} f k (suc j) (y ∷ xs) x e =
    let n : k + 1 + j ≡ k + suc j = omega arith in place_there f (k + 1) j xs x e ∙ ap (λ (m : ℕ). Some (f m x)) n

pub place_back : {A B : Type 0} (f : ℕ → A → B) (k j : ℕ) (xs : List A) (y : B) → slice_get (places_from f k xs) j ≡ Some y
    → (x : A) × (slice_get xs j ≡ Some x) × (y ≡ f (k + j) x)
place_back f k j [] y e = absurd (cc e)
place_back f k zero (x ∷ xs) y e = (
  x,
  refl,
  (let same : f k x ≡ y = cc e in let n : k ≡ k + 0 = omega arith in sym same
      ∙ ap (λ (m : ℕ). f m x) n),
)
place_back f k (suc j) (x ∷ xs) y e =
    let n : k + 1 + j ≡ k + suc j = omega arith in
    let there = place_back f (k + 1) j xs y e in (there.0, there.1, there.2 ∙ ap (λ (m : ℕ). f m there.0) n)

-- ---- the ranges of a plan

pub issues_count : (b end n : ℕ) (ops : List ExtOp) (steps : List Step) → AllZip Suits ops steps
    → length (pairs_from (planned_issue b end) n ops steps) ≡ length ops
issues_count b end n [] [] h = refl
issues_count b end n [] (s ∷ steps) h = absurd h
issues_count b end n (op ∷ ops) [] h = absurd h
issues_count b end n (op ∷ ops) (s ∷ steps) h = ap suc (issues_count b end (n + 1) ops steps h.1)

module _ (issues : List Issue) (reads : List Read) where
  registers_made : (i : Issue) (n : ℕ) → slice_get issues n ≡ Some i → i.op.0 ≡ n → (k : ℕ) (rs : List ℕ)
      → places_from (range_at issues reads) k (map (place_at n) rs) ≡ places_from (lasting_at reads) k (map (made_at i) rs)
  registers_made i n at op k [] = refl
  registers_made i n at op k (r ∷ rs) =
      ap (λ (x : Option Issue). planned_range (place_at n r) (last_read reads k) x ∷ places_from (range_at issues reads) (k + 1)
      (map (place_at n) rs)) at
      ∙ ap (λ (m : ℕ). planned_range (place_at m r) (last_read reads k) (Some i) ∷ places_from (range_at issues reads) (k + 1)
      (map (place_at n) rs)) (sym op)
      ∙ ap (λ (xs : List LiveRange). lasting_at reads k (made_at i r) ∷ xs) (registers_made i n at op (k + 1) rs)

  map_length : (i : Issue) (n : ℕ) (rs : List ℕ) → length (map (made_at i) rs) ≡ length (map (place_at n) rs)
  map_length i n [] = refl
  map_length i n (r ∷ rs) = ap suc (map_length i n rs)

  steps_ranges : (b end n k : ℕ) (ops : List ExtOp) (steps : List Step) → AllZip Suits ops steps
      → Has issues n (pairs_from (planned_issue b end) n ops steps)
      → (places_from (range_at issues reads) k (step_places n steps) ≡ places_from (lasting_at reads) k (steps_made b end n ops steps))
      × (length (step_places n steps) ≡ length (steps_made b end n ops steps))
  steps_ranges b end n k [] [] h has = (refl, refl)
  steps_ranges b end n k [] (s ∷ steps) h has = absurd h
  steps_ranges b end n k (op ∷ ops) [] h has = absurd h
  steps_ranges b end n k (op ∷ ops) (s ∷ steps) h has =
      let i = planned_issue b end n op s in
      let here = map (place_at n) s.registers in
      let made = map (made_at i) s.registers in
      let size = map_length i n s.registers in
      let rest = steps_ranges b end (n + 1) (k + length here) ops steps h.1 (has_right issues n (n + 1) (i ∷ [])
      (pairs_from (planned_issue b end) (n + 1) ops steps) refl has) in (
        places-append (range_at issues reads) k (k + length here) here (step_places (n + 1) steps) refl
            ∙ ap (λ (xs : List LiveRange). xs ++ places_from (range_at issues reads) (k + length here) (step_places (n + 1) steps))
            (registers_made i n (has_first issues n i (pairs_from (planned_issue b end) (n + 1) ops steps) has) refl k s.registers)
            ∙ ap (λ (xs : List LiveRange). places_from (lasting_at reads) k made ++ xs) rest.0
            ∙ sym (places-append (lasting_at reads) k (k + length here) made (steps_made b end (n + 1) ops steps) (omega arith)),
        (let a = length-append here (step_places (n + 1) steps) in let b' = length-append made (steps_made b end (n + 1) ops steps) in
            let c = rest.1 in omega arith),
      )

  blocks_ranges : (b n k : ℕ) (blocks : List ExtBlock) (plans : List BlockPlan) → SuitsAll blocks plans
      → Has issues n (over_plans planned_issues b n blocks plans)
      → places_from (range_at issues reads) k (plan_places n blocks plans) ≡ places_from (lasting_at reads) k
      (over_plans planned_made b n blocks plans)
  blocks_ranges b n k [] plans h has = refl
  blocks_ranges b n k (block ∷ blocks) [] h has = absurd h
  blocks_ranges b n k (block ∷ blocks) (p ∷ plans) h has =
      let here = planned_issues b n block p in
      let rest = over_plans planned_issues (b + 1) (n + length block.ops) blocks plans in
      let size = issues_count b p.end n block.ops p.steps h.0 in
      let places = step_places n p.steps in
      let made = planned_made b n block p in
      let first = steps_ranges b p.end n k block.ops p.steps h.0 (has_left issues n here rest has) in
      let same = first.1 in
      places-append (range_at issues reads) k (k + length places) places (plan_places (n + length block.ops) blocks plans) refl
      ∙ ap (λ (xs : List LiveRange). xs ++ places_from (range_at issues reads) (k + length places)
      (plan_places (n + length block.ops) blocks plans)) first.0
      ∙ ap (λ (xs : List LiveRange). places_from (lasting_at reads) k made ++ xs)
      (blocks_ranges (b + 1) (n + length block.ops) (k + length places) blocks plans h.1
      (has_right issues n (n + length block.ops) here rest (omega arith) has))
      ∙ sym (places-append (lasting_at reads) k (k + length places) made (over_plans planned_made (b + 1)
      (n + length block.ops) blocks plans) (omega arith))

-- the live ranges of a plan's schedule are those of the temporaries that it makes
pub ranges_made : (blocks : List ExtBlock) (plans : List BlockPlan) → SuitsAll blocks plans
    → (planned_schedule blocks plans).ranges ≡ places_from (lasting_at (over_plans planned_reads 0 0 blocks plans)) 0
    (over_plans planned_made 0 0 blocks plans)
ranges_made blocks plans h =
    let issues = over_plans planned_issues 0 0 blocks plans in
    blocks_ranges issues (over_plans planned_reads 0 0 blocks plans) 0 0 0 blocks plans h (has_whole issues)
