-- What holds of each operation with its step, and what follows for the schedule of a plan.
use Rattle.std.proofs.Common.{◌≡◌, ℕ, zero, suc, ◌+◌, ◌<◌, Bool, true, false, List, [], ◌∷◌, ◌++◌, length, map, Option, Some, refl, sym, ap}
use Rattle.std.proofs.Common.{subst, ◌∙◌, arith}
use Rattle.std.specs.Prelude.{slice_get, if◌then◌else◌, All, Contains}
use Rattle.std.proofs.lemmas.List.{length-append}
use Rattle.std.proofs.lemmas.List.Elements.{All-append, All-nil, All-cons}
use Rattle.un_ir.specs.declared.extended.Operand.{Operand}
use Rattle.un_ir.specs.declared.extended.ExtOp.{ExtOp}
use Rattle.un_ir.specs.declared.extended.ExtBlock.{ExtBlock}
use Rattle.un_model.specs.declared.schedule.Issue.{Issue}
use Rattle.un_model.specs.declared.schedule.Read.{Read}
use Rattle.un_model.specs.declared.schedule.LiveRange.{LiveRange}
use Rattle.un_model.specs.Pairs.{places_from, pairs_from, joined}
use Rattle.un_model.specs.Schedules.{last_read}
use Rattle.un_baseline.specs.Plans.{Step, BlockPlan, planned_issue, planned_issues, planned_read, planned_reads_by, planned_reads}
use Rattle.un_baseline.specs.Plans.{over_plans, Place, place_at, step_places, plan_places, planned_range, range_at, planned_schedule}

-- ---- parts of lists

-- the items from place `first` on begin with these
pub record Has {A : Type 0} (xs : List A) (first : ℕ) (part : List A) : Type 0 where
  pub at : (i : ℕ) → i < length part → slice_get xs (first + i) ≡ slice_get part i

slice_get-left : {A : Type 0} (xs ys : List A) (i : ℕ) → i < length xs → slice_get (xs ++ ys) i ≡ slice_get xs i
slice_get-left [] ys i lt = absurd (omega arith)
slice_get-left (x ∷ xs) ys zero lt = refl
slice_get-left (x ∷ xs) ys (suc i) lt = slice_get-left xs ys i (omega arith)

slice_get-right : {A : Type 0} (xs ys : List A) (i j : ℕ) → j ≡ length xs + i → slice_get (xs ++ ys) j ≡ slice_get ys i
slice_get-right [] ys i j e = let k : j ≡ i = omega arith in ap (slice_get ys) k
slice_get-right (x ∷ xs) ys i zero e = absurd (omega arith)
slice_get-right (x ∷ xs) ys i (suc j) e = slice_get-right xs ys i j (omega arith)

pub has_whole : {A : Type 0} (xs : List A) → Has xs 0 xs
has_whole xs = record { at = λ i lt. let e : 0 + i ≡ i = omega arith in ap (slice_get xs) e }

pub has_left : {A : Type 0} (all : List A) (first : ℕ) (xs ys : List A) → Has all first (xs ++ ys) → Has all first xs
has_left all first xs ys h = record { at = λ i lt. h.at i (let e = length-append xs ys in omega arith) ∙ slice_get-left xs ys i lt }

pub has_right : {A : Type 0} (all : List A) (first next : ℕ) (xs ys : List A) → next ≡ first + length xs → Has all first (xs ++ ys)
    → Has all next ys
has_right all first next xs ys e h = record {
  at = λ i lt.
      let place : next + i ≡ first + (length xs + i) = omega arith in
      ap (slice_get all) place ∙ h.at (length xs + i) (let l = length-append xs ys in omega arith)
      ∙ slice_get-right xs ys i (length xs + i) refl;
}

pub has_first : {A : Type 0} (all : List A) (first : ℕ) (x : A) (xs : List A) → Has all first (x ∷ xs) → slice_get all first ≡ Some x
has_first all first x xs h = let e : first + 0 ≡ first = omega arith in ap (slice_get all) (sym e) ∙ h.at 0 (omega arith)

-- ---- each operation with its step

abbrev pub EachStep : (ℕ → ExtOp → Step → Type 0) → ℕ → List ExtOp → List Step → Type 0
EachStep R n [] [] = Unit {0}
EachStep R n [] (s ∷ steps) = ⊥
EachStep R n (op ∷ ops) [] = ⊥
EachStep R n (op ∷ ops) (s ∷ steps) = R n op s × EachStep R (n + 1) ops steps

-- R is given a block's number and end, the number of an operation, the operation and its step
abbrev pub EachPlan : (ℕ → ℕ → ℕ → ExtOp → Step → Type 0) → ℕ → ℕ → List ExtBlock → List BlockPlan → Type 0
EachPlan R b n [] [] = Unit {0}
EachPlan R b n [] (p ∷ plans) = ⊥
EachPlan R b n (block ∷ blocks) [] = ⊥
EachPlan R b n (block ∷ blocks) (p ∷ plans) = EachStep (R b p.end) n block.ops p.steps × EachPlan R (b + 1)
    (n + length block.ops) blocks plans

-- ---- issues

each_issue : (P : Issue → Type 0) (R : ℕ → ℕ → ℕ → ExtOp → Step → Type 0)
    → ((b end n : ℕ) (op : ExtOp) (s : Step) → R b end n op s → P (planned_issue b end n op s))
    → (b end n : ℕ) (ops : List ExtOp) (steps : List Step) → EachStep (R b end) n ops steps
    → All P (pairs_from (planned_issue b end) n ops steps)
each_issue P R f b end n [] [] h = All-nil P
each_issue P R f b end n [] (s ∷ steps) h = absurd h
each_issue P R f b end n (op ∷ ops) [] h = absurd h
each_issue P R f b end n (op ∷ ops) (s ∷ steps) h =
    All-cons P (planned_issue b end n op s) (pairs_from (planned_issue b end) (n + 1) ops steps) (f b end n op s h.0)
    (each_issue P R f b end (n + 1) ops steps h.1)

pub issues_each : (P : Issue → Type 0) (R : ℕ → ℕ → ℕ → ExtOp → Step → Type 0)
    → ((b end n : ℕ) (op : ExtOp) (s : Step) → R b end n op s → P (planned_issue b end n op s))
    → (b n : ℕ) (blocks : List ExtBlock) (plans : List BlockPlan) → EachPlan R b n blocks plans
    → All P (over_plans planned_issues b n blocks plans)
issues_each P R f b n [] [] h = All-nil P
issues_each P R f b n [] (p ∷ plans) h = absurd h
issues_each P R f b n (block ∷ blocks) [] h = absurd h
issues_each P R f b n (block ∷ blocks) (p ∷ plans) h =
    All-append P (planned_issues b n block p) (over_plans planned_issues (b + 1) (n + length block.ops) blocks plans)
    (each_issue P R f b p.end n block.ops p.steps h.0) (issues_each P R f (b + 1) (n + length block.ops) blocks plans h.1)

-- ---- reads

each_operand : (P : Read → Type 0) (i : Issue) (s : Step) (all : List Operand) → ((j : ℕ) (x : Operand) → slice_get all j ≡ Some x
    → P (planned_read i s j x))
    → (j : ℕ) (xs : List Operand) → Has all j xs → All P (places_from (planned_read i s) j xs)
each_operand P i s all f j [] h = All-nil P
each_operand P i s all f j (x ∷ xs) h =
    All-cons P (planned_read i s j x) (places_from (planned_read i s) (j + 1) xs) (f j x (has_first all j x xs h))
    (each_operand P i s all f (j + 1) xs (has_right all j (j + 1) (x ∷ []) xs refl h))

op_read : (P : Read → Type 0) (i : Issue) (op : ExtOp) (s : Step) (active : Bool) → (active ≡ true → (j : ℕ) (x : Operand)
    → slice_get op.operands j ≡ Some x → P (planned_read i s j x))
    → All P (if active then places_from (planned_read i s) 0 op.operands else [])
op_read P i op s true f = each_operand P i s op.operands (f refl) 0 op.operands (has_whole op.operands)
op_read P i op s false f = All-nil P

each_read : (P : Read → Type 0) (R : ℕ → ℕ → ℕ → ExtOp → Step → Type 0)
    → ((b end n : ℕ) (op : ExtOp) (s : Step) → R b end n op s → (planned_issue b end n op s).active ≡ true → (j : ℕ) (x : Operand)
    → slice_get op.operands j ≡ Some x → P (planned_read (planned_issue b end n op s) s j x))
    → (b end n : ℕ) (ops : List ExtOp) (steps : List Step) → EachStep (R b end) n ops steps
    → All P (joined (pairs_from (λ (k : ℕ) (op : ExtOp) (s : Step). planned_reads_by (planned_issue b end k op s) op s) n ops steps))
each_read P R f b end n [] [] h = All-nil P
each_read P R f b end n [] (s ∷ steps) h = absurd h
each_read P R f b end n (op ∷ ops) [] h = absurd h
each_read P R f b end n (op ∷ ops) (s ∷ steps) h =
    All-append P (planned_reads_by (planned_issue b end n op s) op s) (joined (pairs_from (λ (k : ℕ) (o : ExtOp)
    (t : Step). planned_reads_by (planned_issue b end k o t) o t) (n + 1) ops steps))
    (op_read P (planned_issue b end n op s) op s (planned_issue b end n op s).active (f b end n op s h.0))
    (each_read P R f b end (n + 1) ops steps h.1)

pub reads_each : (P : Read → Type 0) (R : ℕ → ℕ → ℕ → ExtOp → Step → Type 0)
    → ((b end n : ℕ) (op : ExtOp) (s : Step) → R b end n op s → (planned_issue b end n op s).active ≡ true → (j : ℕ) (x : Operand)
    → slice_get op.operands j ≡ Some x → P (planned_read (planned_issue b end n op s) s j x))
    → (b n : ℕ) (blocks : List ExtBlock) (plans : List BlockPlan) → EachPlan R b n blocks plans
    → All P (over_plans planned_reads b n blocks plans)
reads_each P R f b n [] [] h = All-nil P
reads_each P R f b n [] (p ∷ plans) h = absurd h
reads_each P R f b n (block ∷ blocks) [] h = absurd h
reads_each P R f b n (block ∷ blocks) (p ∷ plans) h =
    All-append P (planned_reads b n block p) (over_plans planned_reads (b + 1) (n + length block.ops) blocks plans)
    (each_read P R f b p.end n block.ops p.steps h.0) (reads_each P R f (b + 1) (n + length block.ops) blocks plans h.1)

-- ---- live ranges

module _ (issues : List Issue) (reads : List Read) (P : LiveRange → Type 0) (R : ℕ → ℕ → ℕ → ExtOp → Step → Type 0)
    (f : (b end n : ℕ) (op : ExtOp) (s : Step) (r last : ℕ) → R b end n op s → Contains s.registers r
    → P (planned_range (place_at n r) last (Some (planned_issue b end n op s)))) where
  each_register : (b end n : ℕ) (op : ExtOp) (s : Step) → R b end n op s → slice_get issues n ≡ Some (planned_issue b end n op s)
      → (k : ℕ) (rs : List ℕ) → ((r : ℕ) → Contains rs r → Contains s.registers r)
      → All P (places_from (range_at issues reads) k (map (place_at n) rs))
  each_register b end n op s h at k [] sub = All-nil P
  each_register b end n op s h at k (r ∷ rs) sub =
      All-cons P (range_at issues reads k (place_at n r)) (places_from (range_at issues reads) (k + 1) (map (place_at n) rs))
      (subst (λ (i : Option Issue). P (planned_range (place_at n r) (last_read reads k) i)) (sym at) (f b end n op s r
      (last_read reads k) h (sub r (0, omega arith, refl))))
      (each_register b end n op s h at (k + 1) rs (λ q c. sub q (suc c.0, (let lt = c.1 in omega arith), c.2)))

  places-append : (k next : ℕ) (xs ys : List Place) → next ≡ k + length xs → All P (places_from (range_at issues reads) k xs)
      → All P (places_from (range_at issues reads) next ys)
      → All P (places_from (range_at issues reads) k (xs ++ ys))
  places-append k next [] ys e h g = let same : k ≡ next = omega arith in subst (λ (n : ℕ). All P (places_from
      (range_at issues reads) n ys)) (sym same) g
  places-append k next (x ∷ xs) ys e h g =
      All-cons P (range_at issues reads k x) (places_from (range_at issues reads) (k + 1) (xs ++ ys)) (head h)
      (places-append (k + 1) next xs ys (omega arith) (tail h) g)
    where
      head : All P (range_at issues reads k x ∷ places_from (range_at issues reads) (k + 1) xs) → P (range_at issues reads k x)
      head a = a 0 (range_at issues reads k x) (omega arith)

      tail : All P (range_at issues reads k x ∷ places_from (range_at issues reads) (k + 1) xs)
          → All P (places_from (range_at issues reads) (k + 1) xs)
      tail a j d lt = a (suc j) d (omega arith)

  each_range : (b end n k : ℕ) (ops : List ExtOp) (steps : List Step) → EachStep (R b end) n ops steps
      → Has issues n (pairs_from (planned_issue b end) n ops steps)
      → All P (places_from (range_at issues reads) k (step_places n steps))
  each_range b end n k [] [] h has = All-nil P
  each_range b end n k [] (s ∷ steps) h has = absurd h
  each_range b end n k (op ∷ ops) [] h has = absurd h
  each_range b end n k (op ∷ ops) (s ∷ steps) h has =
      places-append k (k + length (map (place_at n) s.registers)) (map (place_at n) s.registers) (step_places (n + 1) steps) refl
      (each_register b end n op s h.0 (has_first issues n (planned_issue b end n op s) (pairs_from (planned_issue b end)
      (n + 1) ops steps) has) k s.registers (λ r c. c))
      (each_range b end (n + 1) (k + length (map (place_at n) s.registers)) ops steps h.1 (has_right issues n (n + 1)
      (planned_issue b end n op s ∷ []) (pairs_from (planned_issue b end) (n + 1) ops steps) refl has))

  issues_size : (R' : ℕ → ExtOp → Step → Type 0) (b end n : ℕ) (ops : List ExtOp) (steps : List Step) → EachStep R' n ops steps
      → length (pairs_from (planned_issue b end) n ops steps) ≡ length ops
  issues_size R' b end n [] [] h = refl
  issues_size R' b end n [] (s ∷ steps) h = absurd h
  issues_size R' b end n (op ∷ ops) [] h = absurd h
  issues_size R' b end n (op ∷ ops) (s ∷ steps) h = ap suc (issues_size R' b end (n + 1) ops steps h.1)

  pub each_block_range : (b n k : ℕ) (blocks : List ExtBlock) (plans : List BlockPlan) → EachPlan R b n blocks plans
      → Has issues n (over_plans planned_issues b n blocks plans)
      → All P (places_from (range_at issues reads) k (plan_places n blocks plans))
  each_block_range b n k [] [] h has = All-nil P
  each_block_range b n k [] (p ∷ plans) h has = absurd h
  each_block_range b n k (block ∷ blocks) [] h has = absurd h
  each_block_range b n k (block ∷ blocks) (p ∷ plans) h has =
      let here = planned_issues b n block p in
      let rest = over_plans planned_issues (b + 1) (n + length block.ops) blocks plans in
      let size = issues_size (R b p.end) b p.end n block.ops p.steps h.0 in
      places-append k (k + length (step_places n p.steps)) (step_places n p.steps) (plan_places (n + length block.ops) blocks plans) refl
      (each_range b p.end n k block.ops p.steps h.0 (has_left issues n here rest has))
      (each_block_range (b + 1) (n + length block.ops) (k + length (step_places n p.steps)) blocks plans h.1 (has_right issues n
      (n + length block.ops) here rest (omega arith) has))

pub ranges_each : (P : LiveRange → Type 0) (R : ℕ → ℕ → ℕ → ExtOp → Step → Type 0)
    → ((b end n : ℕ) (op : ExtOp) (s : Step) (r last : ℕ) → R b end n op s → Contains s.registers r
    → P (planned_range (place_at n r) last (Some (planned_issue b end n op s))))
    → (blocks : List ExtBlock) (plans : List BlockPlan) → EachPlan R 0 0 blocks plans → All P (planned_schedule blocks plans).ranges
ranges_each P R f blocks plans h =
    each_block_range (over_plans planned_issues 0 0 blocks plans)
    (over_plans planned_reads 0 0 blocks plans) P R f 0 0 0 blocks plans h (has_whole (over_plans planned_issues 0 0 blocks plans))
