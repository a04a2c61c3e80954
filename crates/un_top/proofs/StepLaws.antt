-- The log of a report's tree, and the check of a log: two texts have one accepted report, with one model, and so one answer.
use Rattle.std.proofs.Common.{ℕ, zero, suc, ◌≡◌, ◌<◌, ◌≤◌, ◌⊎◌, inl, inr, All, Bool, List, [], ◌∷◌, Some, IfOk, codes, length, take, refl, sym, ap, subst, ◌∙◌, arith}
use Rattle.std.specs.Prelude.{slice_get}
use Rattle.std.specs.List.{AllByRecursion}
use Rattle.std.proofs.lemmas.Bool.{cases_lt}
use Rattle.std.proofs.lemmas.List.Elements.{recursion_from_All}
use Rattle.std.specs.declared.option.Option.{Option}
use Rattle.std.specs.declared.result.Result.{Result}
use Rattle.std.specs.declared.result.Result.TheVariants.{Ok, Err}
use Rattle.std.specs.Result.{IfErr}
use Rattle.un_base.specs.Lines.{pieces_of}
use Rattle.un_check.proofs.CauseLemmas.{answer_told}
use Rattle.un_check.proofs.OneModel.{model_one}
use Rattle.un_check.specs.Causes.{Claim, IsRight, IsTold, claim_of, limit_of}
use Rattle.un_ir.specs.declared.function.Function.{Function}
use Rattle.un_isa.specs.Versions.{table_of}
use Rattle.un_judge.proofs.Comings.{comes_once}
use Rattle.un_judge.specs.Judged.{IsJudged, OnYes, closed_boxes}
use Rattle.un_judge.specs.declared.verdict.StepVerdict.{StepVerdict}
use Rattle.un_judge.specs.declared.verdict.StepVerdict.TheVariants.{Yes, BadStep, Short}
use Rattle.un_logs.proofs.Walking.{stuck_once as one_stuck}
use Rattle.un_logs.specs.Stuck.{IsFirstStuck}
use Rattle.un_model.specs.Boxes.{IsBelow, root_of}
use Rattle.un_model.specs.declared.model.Model.{Model}
use Rattle.un_model.specs.declared.model.Options.{Options}
use Rattle.un_outside.specs.declared.status.NoCause.{NoCause}
use Rattle.un_outside.specs.declared.status.Status.{Status}
use Rattle.un_outside.specs.declared.status.Status.TheVariants.{Done, Infeasible, Spent, TextFault, Usage, ReadFault, WriteFault, NoMemory, No}
use Rattle.un_outside.specs.declared.status.Status.TheVariants.{BadReport, BadTable, Found, Cut, NoLog, BadSteps}
use Rattle.un_problem.specs.Problems.{IsModelOf}
use Rattle.un_reader.proofs.PartLaws.{one_function}
use Rattle.un_reader.specs.Lines.{shapes_in}
use Rattle.un_reader.specs.Read.{IsRead}
use Rattle.un_report.specs.declared.report.Answered.{Answered}
use Rattle.un_report.specs.declared.report.Report.{Report}
use Rattle.un_report_reader.specs.Readings.{AreSame}
use Rattle.un_runs.specs.Inputs.{first_part, second_part, middle_part, last_part}
use Rattle.un_runs.specs.declared.refused.Refused.{Refused}
use Rattle.un_runs.specs.declared.refused.Refused.TheVariants as RefusedBy
use Rattle.un_top.proofs.Accepted.{one_report, same_claim}
use Rattle.un_top.proofs.ReportLines.{one_report_line, report_not_bad}
use Rattle.un_top.specs.Behaviours.{EndsCheck, IsLogEnd, IsJudgeEnd, of_steps, of_steps_check}
use Rattle.un_top.specs.Checks.{RefusesReport, no_line}
use Rattle.un_top.specs.Runs.{IsLate, RefusesText, status_by}
use Rattle.un_top.specs.Steps.{AreRead, IsAccepted, IsRefused, HasAccepted, IsRejected, IsLogged, IsLogOf, IsLogAccepted, IsLogTold, IsBadBehind}
use Rattle.un_top.specs.Steps.{ComesTo, IsStuckAt, IsLog, IsBadAt, HasNoLog, HasBadLog, IsLateBy, IsLateLog, IsLateTold, rules_by}
use Rattle.un_top.specs.Steps.{HasNoSplit, HasSplit, IsBadLog, IsGoodLog, IsLogless, IsWithoutLog, IsNotGood, RefusesBy}
use Rattle.un_top.specs.declared.limits.TheConstants.{INPUT}
use Rattle.un_top.specs.declared.output.Output.{Output}
use Rattle.un_certificate.specs.Joints.{blocks_of, visits_in}
use Rattle.un_post.specs.PartPosts.{IsPartBelow}
use Rattle.un_tree.proofs.PlainLaws.{plain_stands}
use Rattle.un_tree.specs.Covered.{OuterStands}
use Rattle.un_tree.specs.Splits.{IsFirstSplit}
use Rattle.un_tree.specs.Waits.{IsPlain}
use Rattle.un_tree.specs.declared.node.Node.{Node}
use Rattle.un_tree.specs.declared.node.Node.TheVariants.{Split}

-- ---- an answer to one report is that to the same report

told_same : (f : Function) (r s : Report) (told : Result (Unit {0}) NoCause) → AreSame r s
    → IsTold (table_of s.version) f s.options (claim_of s) told → IsTold (table_of r.version) f r.options (claim_of r) told
told_same f r s told same h =
    subst (λ (c : Claim). IsTold (table_of r.version) f r.options c told) (same_claim r s same)
    (subst (λ (p : Options). IsTold (table_of r.version) f p (claim_of s) told) same.options
    (subst (λ (v : ℕ). IsTold (table_of v) f s.options (claim_of s) told) same.version h))

model_same : (f : Function) (r s : Report) (m : Model) → AreSame r s → IsModelOf (table_of s.version) f s.options m
    → IsModelOf (table_of r.version) f r.options m
model_same f r s m same h =
    subst (λ (p : Options). IsModelOf (table_of r.version) f p m) same.options
    (subst (λ (v : ℕ). IsModelOf (table_of v) f s.options m) same.version h)

-- a report that is accepted was told so
told_right : (f : Function) (r : Report) (m : Model) → IsAccepted f r m → IsTold (table_of r.version) f r.options (claim_of r) (Ok tt)
told_right f r m h = record { model = m; is_model = h.is_model; by_model = h.right }

-- and one that was told so is, by its model
pub accepted_by : (f : Function) (r : Report) (m : Model) → IsTold (table_of r.version) f r.options (claim_of r) (Ok tt)
    → IsModelOf (table_of r.version) f r.options m → IsAccepted f r m
accepted_by f r m told is = record {
  is_model = is;
  right = subst (λ (n : Model). IsRight f.name n (claim_of r)) (model_one (table_of r.version) f r.options told.model m told.is_model is)
      told.by_model;
}

-- a log is bad at one line
line_once : (log : List ℕ) (v : StepVerdict) (m n : ℕ) → IsBadAt log v m → IsBadAt log v n → m ≡ n
line_once log Yes m n a b = absurd a
line_once log (BadStep k) m n a b = a ∙ sym b
line_once log Short m n a b = a ∙ sym b

-- ---- a tree gives no log at one node at most

-- a Split is no node of a tree that has none
pub split_there : (nodes : List Node) (i : ℕ) → HasNoSplit nodes → IsFirstSplit nodes i → ⊥
split_there nodes i none h = by nodes i (recursion_from_All (λ (n : Node). n ≡ Split → ⊥) nodes none) h.here
  where
    by : (ns : List Node) (k : ℕ) → AllByRecursion (λ (n : Node). n ≡ Split → ⊥) ns → slice_get ns k ≡ Some Split → ⊥
    by [] k none e = cc e
    by (n ∷ ns) zero none e = none.0 (cc e)
    by (n ∷ ns) (suc k) none e = by ns k none.1 e

-- a node before the first Split is none
before_split : (nodes : List Node) (i j : ℕ) → i < j → AllByRecursion (λ (n : Node). n ≡ Split → ⊥) (take j nodes)
    → slice_get nodes i ≡ Some Split → ⊥
before_split [] i j lt none e = cc e
before_split (n ∷ ns) i zero lt none e = omega (arith, lt)
before_split (n ∷ ns) zero (suc j) lt none e = none.0 (cc e)
before_split (n ∷ ns) (suc i) (suc j) lt none e = before_split ns i j (omega (arith, lt)) none.1 e

pub split_once : (nodes : List Node) (i j : ℕ) → IsFirstSplit nodes i → IsFirstSplit nodes j → i ≡ j
split_once nodes i j h k = elim (cases_lt i j) [
  | inl less ↦ absurd (before_split nodes i j less (recursion_from_All (λ (n : Node). n ≡ Split → ⊥) (take j nodes) k.none) h.here)
  | inr ge ↦ elim (cases_lt j i) [
    | inl less ↦ absurd (before_split nodes j i less (recursion_from_All (λ (n : Node). n ≡ Split → ⊥) (take i nodes) h.none) k.here)
    | inr le ↦ omega (arith, ge, le)
  ]
]

logless_once : (rules : ℕ) (m : Model) (limit : Option ℕ) (nodes : List Node) (i j : ℕ) → IsLogless rules m limit nodes i
    → IsLogless rules m limit nodes j → i ≡ j
logless_once rules m limit nodes i j (inl a) (inl b) = split_once nodes i j a b
logless_once rules m limit nodes i j (inl a) (inr b) = absurd (split_there nodes i b.whole a)
logless_once rules m limit nodes i j (inr a) (inl b) = absurd (split_there nodes j a.whole b)
logless_once rules m limit nodes i j (inr a) (inr b) = one_stuck rules m limit nodes i j a.stuck b.stuck

-- ---- two texts are those of one function and one report

function_one : (text : List ℕ) (f g : Function) → IsRead text f → IsRead text g → g ≡ f
function_one text f g a b = one_function (shapes_in text) g f b.is a.is

module _ (first second : List ℕ) where
  -- a report that is accepted is not refused
  not_both : (a : HasAccepted first second) (f : Function) (r : Report) (cause : NoCause) → AreRead first second f r → IsRefused f r cause → ⊥
  not_both a f r cause read refused =
      let same = one_report second a.report r a.read.report read.report in
      let by_function : IsRefused a.function r cause =
      subst (λ (g : Function). IsRefused g r cause) (function_one first a.function f a.read.function read.function) refused in
      cc (answer_told (table_of a.report.version) a.function a.report.options (claim_of a.report) (Ok tt) (Err cause)
      (told_right a.function a.report a.model a.accepted) (told_same a.function a.report r (Err cause) same by_function))

  pub rejected_not : (a : HasAccepted first second) (status : Status) (out : List ℕ) → IsRejected first second status out → ⊥
  rejected_not a status out h = not_both a h.function h.report h.cause h.read h.refused

  -- it has one model
  one_model : (a b : HasAccepted first second) → b.model ≡ a.model
  one_model a b =
      let same = one_report second a.report b.report a.read.report b.read.report in
      let by_function : IsModelOf (table_of b.report.version) a.function b.report.options b.model =
      subst (λ (g : Function). IsModelOf (table_of b.report.version) g b.report.options b.model)
      (function_one first a.function b.function a.read.function b.read.function) b.accepted.is_model in
      model_one (table_of a.report.version) a.function a.report.options b.model a.model
      (model_same a.function a.report b.report b.model same by_function) a.accepted.is_model

  -- what is so by the model, the limit and the tree of the one is so by those of the other
  by_other : (P : Model → Option ℕ → List Node → Type 0) (a b : HasAccepted first second)
      → P b.model (limit_of b.report.answer) b.report.tree.nodes.items → P a.model (limit_of a.report.answer) a.report.tree.nodes.items
  by_other P a b h =
      let same = one_report second a.report b.report a.read.report b.read.report in
      subst (λ (t : List Node). P a.model (limit_of a.report.answer) t) same.tree
      (subst (λ (x : Answered). P a.model (limit_of x) b.report.tree.nodes.items) same.answer
      (subst (λ (m : Model). P m (limit_of b.report.answer) b.report.tree.nodes.items) (one_model a b) h))

  -- so its tree is stuck at one node at most
  stuck_once : (counts : Bool) (m n : ℕ) → HasNoLog counts first second m → HasNoLog counts first second n → m ≡ n
  stuck_once counts m n h k =
      logless_once (rules_by counts) h.has.model (limit_of h.has.report.answer) h.has.report.tree.nodes.items m n h.stuck
      (by_other (λ (w : Model) (limit : Option ℕ) (t : List Node). IsLogless (rules_by counts) w limit t n) h.has k.has k.stuck)

  pub log_not_stuck : (counts : Bool) (node : ℕ) (status : Status) (out : List ℕ) → IsLogOf counts first second status out
      → HasNoLog counts first second node → ⊥
  log_not_stuck counts node status out (inl rejected) h = rejected_not h.has status out rejected
  log_not_stuck counts node status out (inr logged) h =
      logged.log.free node
      (by_other (λ (w : Model) (limit : Option ℕ) (t : List Node). IsLogless (rules_by counts) w limit t node) logged.has h.has h.stuck)

  -- it has one first Split, and where it has one a log is not bad
  one_split : (m n : ℕ) → HasSplit first second m → HasSplit first second n → m ≡ n
  one_split m n h k =
      split_once h.has.report.tree.nodes.items m n h.split
      (by_other (λ (w : Model) (limit : Option ℕ) (t : List Node). IsFirstSplit t n) h.has k.has k.split)

  split_not_bad : (counts : Bool) (log : List ℕ) (i line : ℕ) → HasSplit first second i → HasBadLog counts first second log line → ⊥
  split_not_bad counts log i line h k =
      split_there h.has.report.tree.nodes.items i
      (by_other (λ (w : Model) (limit : Option ℕ) (t : List Node). HasNoSplit t) h.has k.has k.bad.whole) h.split

  pub told_not_split : (counts : Bool) (log : List ℕ) (i : ℕ) (status : Status) (out : List ℕ)
      → IsLogTold counts first second log status out → HasSplit first second i → ⊥
  told_not_split counts log i status out (inl rejected) h = rejected_not h.has status out rejected
  told_not_split counts log i status out (inr told) h =
      split_there h.has.report.tree.nodes.items i
      (by_other (λ (w : Model) (limit : Option ℕ) (t : List Node). HasNoSplit t) h.has told.has told.good.whole) h.split

  -- and a log comes to one verdict
  bad_once : (counts : Bool) (log : List ℕ) (m n : ℕ) → HasBadLog counts first second log m → HasBadLog counts first second log n → m ≡ n
  bad_once counts log m n h k =
      let other = by_other (λ (w : Model) (limit : Option ℕ) (t : List Node). IsJudged (rules_by counts) w limit t log k.bad.verdict) h.has k.has k.bad.comes in
      let same = comes_once (rules_by counts) h.has.model (limit_of h.has.report.answer) 1
      (closed_boxes (blocks_of h.has.model) (root_of h.has.model) h.has.report.tree.nodes.items) (pieces_of log) k.bad.verdict h.bad.verdict other h.bad.comes in
      line_once log h.bad.verdict m n h.bad.at (subst (λ (v : StepVerdict). IsBadAt log v n) same k.bad.at)

  pub log_not_bad : (counts : Bool) (log : List ℕ) (line : ℕ) (status : Status) (out : List ℕ) → IsLogTold counts first second log status out
      → HasBadLog counts first second log line → ⊥
  log_not_bad counts log line status out (inl rejected) h = rejected_not h.has status out rejected
  log_not_bad counts log line status out (inr told) h =
      let other = by_other (λ (w : Model) (limit : Option ℕ) (t : List Node). IsJudged (rules_by counts) w limit t log Yes) h.has told.has told.good.yes in
      let same = comes_once (rules_by counts) h.has.model (limit_of h.has.report.answer) 1
      (closed_boxes (blocks_of h.has.model) (root_of h.has.model) h.has.report.tree.nodes.items) (pieces_of log) h.bad.verdict Yes h.bad.comes other in
      subst (λ (v : StepVerdict). IsBadAt log v line) same h.bad.at

  -- ---- late answers

  good_behind : (f : Function) (r : Report) (line : ℕ) → AreRead first second f r → IsBadBehind first second line → ⊥
  good_behind f r line read bad = report_not_bad second r line read.report bad.bad

  behind_once : (m n : ℕ) → IsBadBehind first second m → IsBadBehind first second n → m ≡ n
  behind_once m n a b = one_report_line second m n a.bad b.bad

-- the late answers of a log: which one it is
abbrev Cases : (ℕ → Type 0) → (ℕ → Type 0) → (ℕ → Type 0) → Status → Type 0
Cases line node step status =
    ((n : ℕ) × (status ≡ BadReport n) × line n) ⊎ (((i : ℕ) × (status ≡ NoLog i) × node i) ⊎ ((n : ℕ) × (status ≡ BadSteps n) × step n))

module _ (line node step : ℕ → Type 0) where
  cases : (status : Status) → IsLateBy line node step status → Cases line node step status
  cases (BadReport n) h = inl (n, refl, h)
  cases (NoLog i) h = inr (inl (i, refl, h))
  cases (BadSteps n) h = inr (inr (n, refl, h))
  cases Done h = absurd h
  cases Infeasible h = absurd h
  cases Spent h = absurd h
  cases (TextFault l c) h = absurd h
  cases (Usage place) h = absurd h
  cases ReadFault h = absurd h
  cases WriteFault h = absurd h
  cases NoMemory h = absurd h
  cases (No cause) h = absurd h
  cases (Found cost) h = absurd h
  cases Cut h = absurd h
  cases (BadTable code) h = absurd h

  -- what holds of each holds of it
  late_any : (P : Status → Type 0) (status : Status) → ((n : ℕ) → line n → P (BadReport n)) → ((i : ℕ) → node i → P (NoLog i))
      → ((n : ℕ) → step n → P (BadSteps n)) → IsLateBy line node step status → P status
  late_any P status a b c h = by (cases status h)
    where
      by : Cases line node step status → P status
      by (inl at) = subst P (sym at.1) (a at.0 at.2)
      by (inr (inl at)) = subst P (sym at.1) (b at.0 at.2)
      by (inr (inr at)) = subst P (sym at.1) (c at.0 at.2)

  -- it is one, where each is one, a bad line of a report is alone, and not both of the others are
  late_once : (s t : Status) → ((m n : ℕ) → line m → line n → m ≡ n) → ((m n : ℕ) → node m → node n → m ≡ n)
      → ((m n : ℕ) → step m → step n → m ≡ n) → ((n i : ℕ) → line n → node i → ⊥) → ((n k : ℕ) → line n → step k → ⊥)
      → ((i k : ℕ) → node i → step k → ⊥) → IsLateBy line node step s → IsLateBy line node step t → s ≡ t
  late_once s t lines nodes steps first second third h k = by (cases s h) (cases t k)
    where
      by : Cases line node step s → Cases line node step t → s ≡ t
      by (inl a) (inl b) = a.1 ∙ (ap BadReport (lines a.0 b.0 a.2 b.2) ∙ sym b.1)
      by (inl a) (inr (inl b)) = absurd (first a.0 b.0 a.2 b.2)
      by (inl a) (inr (inr b)) = absurd (second a.0 b.0 a.2 b.2)
      by (inr (inl a)) (inl b) = absurd (first b.0 a.0 b.2 a.2)
      by (inr (inl a)) (inr (inl b)) = a.1 ∙ (ap NoLog (nodes a.0 b.0 a.2 b.2) ∙ sym b.1)
      by (inr (inl a)) (inr (inr b)) = absurd (third a.0 b.0 a.2 b.2)
      by (inr (inr a)) (inl b) = absurd (second b.0 a.0 b.2 a.2)
      by (inr (inr a)) (inr (inl b)) = absurd (third b.0 a.0 b.2 a.2)
      by (inr (inr a)) (inr (inr b)) = a.1 ∙ (ap BadSteps (steps a.0 b.0 a.2 b.2) ∙ sym b.1)

-- ---- what is so of the two commands

abbrev HasRead : List ℕ → Type 0
HasRead first = (f : Function) × IsRead first f

module _ (counts : Bool) (first second : List ℕ) where
  pub log_read : (status : Status) (out : List ℕ) → IsLogOf counts first second status out → HasRead first
  log_read status out (inl h) = (h.function, h.read.function)
  log_read status out (inr h) = (h.has.function, h.has.read.function)

  pub log_late_read : (status : Status) → IsLateLog counts first second status → HasRead first
  log_late_read status h = late_any _ _ _ (λ s. HasRead first) status (λ n k. (k.function, k.read)) (λ i k. (k.has.function, k.has.read.function))
      (λ n k. absurd k) h

  pub log_is_late : (status : Status) → IsLateLog counts first second status → IsLate status
  log_is_late status h = late_any _ _ _ IsLate status (λ n k. tt) (λ i k. tt) (λ n k. tt) h

  pub log_late_once : (s t : Status) → IsLateLog counts first second s → IsLateLog counts first second t → s ≡ t
  log_late_once s t h k =
      late_once _ _ _ s t (behind_once first second) (stuck_once first second counts) (λ m n a b. absurd a)
      (λ n i a b. good_behind first second b.has.function b.has.report n b.has.read a) (λ n k a b. b) (λ i k a b. b) h k

  pub log_not_late : (status : Status) (out : List ℕ) (late : Status) → IsLogOf counts first second status out
      → IsLateLog counts first second late → ⊥
  log_not_late status out late h k = late_any _ _ _ (λ s. ⊥) late (no_line h) (λ i b. log_not_stuck first second counts i status out h b) (λ n b. b) k
    where
      no_line : IsLogOf counts first second status out → (n : ℕ) → IsBadBehind first second n → ⊥
      no_line (inl a) n b = good_behind first second a.function a.report n a.read b
      no_line (inr a) n b = good_behind first second a.has.function a.has.report n a.has.read b

  pub log_good_late : (f : Function) (r : Report) (late : Status) → AreRead first second f r → IsLateLog counts first second late
      → IsLogEnd late
  log_good_late f r late read k = late_any _ _ _ IsLogEnd late (λ n b. absurd (good_behind first second f r n read b)) (λ i b. tt)
      (λ n b. absurd b) k

  pub log_ends : (status : Status) (out : List ℕ) → IsLogOf counts first second status out → EndsCheck status
  log_ends status out (inl h) = inr (h.cause, h.ends)
  log_ends status out (inr h) = inl h.ends

  module _ (log : List ℕ) where
    pub told_read : (status : Status) (out : List ℕ) → IsLogTold counts first second log status out → HasRead first
    told_read status out (inl h) = (h.function, h.read.function)
    told_read status out (inr h) = (h.has.function, h.has.read.function)

    pub told_late_read : (status : Status) → IsLateTold counts first second log status → HasRead first
    told_late_read status h = late_any _ _ _ (λ s. HasRead first) status (λ n k. (k.function, k.read))
        (λ i k. (k.has.function, k.has.read.function)) (λ n k. (k.has.function, k.has.read.function)) h

    pub told_is_late : (status : Status) → IsLateTold counts first second log status → IsLate status
    told_is_late status h = late_any _ _ _ IsLate status (λ n k. tt) (λ i k. tt) (λ n k. tt) h

    pub told_late_once : (s t : Status) → IsLateTold counts first second log s → IsLateTold counts first second log t → s ≡ t
    told_late_once s t h k =
        late_once _ _ _ s t (behind_once first second) (one_split first second) (bad_once first second counts log)
        (λ n i a b. good_behind first second b.has.function b.has.report n b.has.read a)
        (λ n k a b. good_behind first second b.has.function b.has.report n b.has.read a)
        (λ i k a b. split_not_bad first second counts log i k a b) h k

    pub told_not_late : (status : Status) (out : List ℕ) (late : Status) → IsLogTold counts first second log status out
        → IsLateTold counts first second log late → ⊥
    told_not_late status out late h k = late_any _ _ _ (λ s. ⊥) late (no_line h)
        (λ i b. told_not_split first second counts log i status out h b)
        (λ n b. log_not_bad first second counts log n status out h b) k
      where
        no_line : IsLogTold counts first second log status out → (n : ℕ) → IsBadBehind first second n → ⊥
        no_line (inl a) n b = good_behind first second a.function a.report n a.read b
        no_line (inr a) n b = good_behind first second a.has.function a.has.report n a.has.read b

    pub told_good_late : (f : Function) (r : Report) (late : Status) → AreRead first second f r → IsLateTold counts first second log late
        → IsJudgeEnd late
    told_good_late f r late read k = late_any _ _ _ IsJudgeEnd late (λ n b. absurd (good_behind first second f r n read b)) (λ i b. tt)
        (λ n b. tt) k

    pub told_ends : (status : Status) (out : List ℕ) → IsLogTold counts first second log status out → EndsCheck status
    told_ends status out (inl h) = inr (h.cause, h.ends)
    told_ends status out (inr h) = inl h.ends

pub ends_log : (status : Status) → EndsCheck status → IsLogEnd status
ends_log status (inl e) = subst IsLogEnd (sym e) tt
ends_log status (inr refused) = subst IsLogEnd (sym refused.1) tt

pub ends_judge : (status : Status) → EndsCheck status → IsJudgeEnd status
ends_judge status (inl e) = subst IsJudgeEnd (sym e) tt
ends_judge status (inr refused) = subst IsJudgeEnd (sym refused.1) tt

-- ---- by what was found

module _ (counts : Bool) (m : Model) (r : Report) (limit : Option ℕ) (rules : ℕ) (same_limit : limit ≡ limit_of r.answer)
    (same_rules : rules ≡ rules_by counts) where
  -- a verdict on a log, by the limit and the rules
  comes : (log : List ℕ) (v : StepVerdict) → IsJudged rules m limit r.tree.nodes.items log v → ComesTo counts m r log v
  comes log v h =
      subst (λ (l : Option ℕ). IsJudged (rules_by counts) m l r.tree.nodes.items log v) same_limit
      (subst (λ (k : ℕ). IsJudged k m limit r.tree.nodes.items log v) same_rules h)

  by_stuck : (i : ℕ) → IsFirstStuck (rules_by counts) m (limit_of r.answer) r.tree.nodes.items i
      → IsFirstStuck rules m limit r.tree.nodes.items i
  by_stuck i h =
      subst (λ (k : ℕ). IsFirstStuck k m limit r.tree.nodes.items i) (sym same_rules)
      (subst (λ (l : Option ℕ). IsFirstStuck (rules_by counts) m l r.tree.nodes.items i) (sym same_limit) h)

  -- a log
  pub log_made : {A : Type 0} (items : A → List ℕ) (told : Result A ℕ) (a : A) (out : List ℕ) → told ≡ Ok a
      → IfOk told (λ x. IsJudged rules m limit r.tree.nodes.items (items x) Yes)
      → ((i : ℕ) → IsFirstStuck rules m limit r.tree.nodes.items i → told ≡ Err i) → out ≡ items a → HasNoSplit r.tree.nodes.items
      → IsLog counts m r out
  log_made {A} items told a out is log exactly same whole = record {
    yes = subst (λ (x : List ℕ). ComesTo counts m r x Yes) (sym same) (comes (items a) Yes
        (subst (λ (t : Result A ℕ). IfOk t (λ x. IsJudged rules m limit r.tree.nodes.items (items x) Yes)) is log));
    free = free;
  }
    where
      free : (node : ℕ) → IsStuckAt counts m r node → ⊥
      free node (inl split) = split_there r.tree.nodes.items node whole split
      free node (inr h) = cc (sym is ∙ exactly node (by_stuck node h.stuck))

  -- a leaf that gives none
  pub log_stuck : (i : ℕ) → HasNoSplit r.tree.nodes.items → IsFirstStuck rules m limit r.tree.nodes.items i → IsStuckAt counts m r i
  log_stuck i whole h = inr (record {
    whole = whole;
    stuck = subst (λ (l : Option ℕ). IsFirstStuck (rules_by counts) m l r.tree.nodes.items i) same_limit
        (subst (λ (k : ℕ). IsFirstStuck k m limit r.tree.nodes.items i) same_rules h);
  })

  -- a good log
  pub good_made : (log : List ℕ) (v : StepVerdict) → v ≡ Yes → HasNoSplit r.tree.nodes.items → All IsPlain r.tree.nodes.items
      → IsJudged rules m limit r.tree.nodes.items log v → OnYes (All (OuterStands (IsBelow m limit)) (visits_in m r.tree.nodes.items)) v
      → IsGoodLog counts m r log
  good_made log v is whole plain judged stands = record {
    whole = whole;
    yes = subst (ComesTo counts m r log) is (comes log v judged);
    stands = plain_stands (blocks_of m) (root_of m) r.tree.nodes.items plain (IsBelow m (limit_of r.answer)) (IsPartBelow m)
        (subst (λ (l : Option ℕ). All (OuterStands (IsBelow m l)) (visits_in m r.tree.nodes.items)) same_limit
        (subst (OnYes (All (OuterStands (IsBelow m limit)) (visits_in m r.tree.nodes.items))) is stands));
  }

  -- a bad one
  pub bad_made : (log : List ℕ) (v : StepVerdict) (line : ℕ) → HasNoSplit r.tree.nodes.items
      → IsJudged rules m limit r.tree.nodes.items log v → IsBadAt log v line → IsBadLog counts m r log line
  bad_made log v line whole judged at = record { whole = whole; verdict = v; comes = comes log v judged; at = at }

-- what is so is so of what there is
pub if_made : {A : Type 0} (P : Type 0) (result : Result A Status) → P → IfOk result (λ out. P)
if_made P (Ok out) h = h
if_made P (Err s) h = tt

-- a Split, which has no log
pub split_refused : (counts : Bool) (m : Model) (r : Report) (nodes : List Node) (place : ℕ) (s : Status) → nodes ≡ r.tree.nodes.items
    → IsFirstSplit nodes place → (s ≡ NoMemory) ⊎ (s ≡ NoLog place) → IsWithoutLog counts m r s
split_refused counts m r nodes place s same split (inl e) = subst (IsWithoutLog counts m r) (sym e) tt
split_refused counts m r nodes place s same split (inr e) =
    subst (IsWithoutLog counts m r) (sym e) (inl (subst (λ (t : List Node). IsFirstSplit t place) same split))

pub split_not_good : (counts : Bool) (m : Model) (r : Report) (log : List ℕ) (nodes : List Node) (place : ℕ) (s : Status)
    → nodes ≡ r.tree.nodes.items → IsFirstSplit nodes place → (s ≡ NoMemory) ⊎ (s ≡ NoLog place) → IsNotGood counts m r log s
split_not_good counts m r log nodes place s same split (inl e) = subst (IsNotGood counts m r log) (sym e) tt
split_not_good counts m r log nodes place s same split (inr e) =
    subst (IsNotGood counts m r log) (sym e) (subst (λ (t : List Node). IsFirstSplit t place) same split)

-- ---- parts of an input

log_parts : (counts : Bool) (input : List ℕ) (s : Status) → length input ≤ INPUT
    → RefusesBy (IsLateLog counts (first_part input) (second_part input)) (first_part input) s → RefusesText (of_steps counts) input s
log_parts counts input NoMemory few h = tt
log_parts counts input (TextFault line code) few h = inr (few, h)
log_parts counts input (BadReport line) few h = (few, h)
log_parts counts input (NoLog node) few h = (few, h)
log_parts counts input (BadSteps line) few h = absurd h
log_parts counts input Done few h = absurd h
log_parts counts input Infeasible few h = absurd h
log_parts counts input Spent few h = absurd h
log_parts counts input (Usage place) few h = absurd h
log_parts counts input ReadFault few h = absurd h
log_parts counts input WriteFault few h = absurd h
log_parts counts input (No cause) few h = absurd h
log_parts counts input (Found cost) few h = absurd h
log_parts counts input Cut few h = absurd h
log_parts counts input (BadTable code) few h = absurd h

told_parts : (counts : Bool) (input : List ℕ) (s : Status) → length input ≤ INPUT
    → RefusesBy (IsLateTold counts (first_part input) (middle_part input) (last_part input)) (first_part input) s
    → RefusesText (of_steps_check counts) input s
told_parts counts input NoMemory few h = tt
told_parts counts input (TextFault line code) few h = inr (few, h)
told_parts counts input (BadReport line) few h = (few, h)
told_parts counts input (NoLog node) few h = (few, h)
told_parts counts input (BadSteps line) few h = (few, h)
told_parts counts input Done few h = absurd h
told_parts counts input Infeasible few h = absurd h
told_parts counts input Spent few h = absurd h
told_parts counts input (Usage place) few h = absurd h
told_parts counts input ReadFault few h = absurd h
told_parts counts input WriteFault few h = absurd h
told_parts counts input (No cause) few h = absurd h
told_parts counts input (Found cost) few h = absurd h
told_parts counts input Cut few h = absurd h
told_parts counts input (BadTable code) few h = absurd h

pub log_refused : (counts : Bool) (input first second : List ℕ) (result : Result Output Status) → first ≡ first_part input
    → second ≡ second_part input → length input ≤ INPUT → IfErr result (RefusesBy (IsLateLog counts first second) first)
    → IfErr result (RefusesText (of_steps counts) input)
log_refused counts input first second (Ok out) a b few h = tt
log_refused counts input first second (Err s) a b few h =
    log_parts counts input s few
    (subst (λ (x : List ℕ). RefusesBy (IsLateLog counts (first_part input) x) (first_part input) s) b
    (subst (λ (x : List ℕ). RefusesBy (IsLateLog counts x second) x s) a h))

pub log_is : (counts : Bool) (input first second : List ℕ) (result : Result Output Status) → first ≡ first_part input
    → second ≡ second_part input → length input ≤ INPUT
    → IfOk result (λ out. IsLogOf counts first second out.status out.text.items)
    → IfOk result (λ out. (of_steps counts).Output input out.status out.text.items)
log_is counts input first second (Err s) a b few h = tt
log_is counts input first second (Ok out) a b few h = (
  few,
  subst (λ (x : List ℕ). IsLogOf counts (first_part input) x out.status out.text.items) b
      (subst (λ (x : List ℕ). IsLogOf counts x second out.status out.text.items) a h),
)

pub told_refused : (counts : Bool) (input first second log : List ℕ) (result : Result Output Status) → first ≡ first_part input
    → second ≡ middle_part input → log ≡ last_part input → length input ≤ INPUT
    → IfErr result (RefusesBy (IsLateTold counts first second log) first) → IfErr result (RefusesText (of_steps_check counts) input)
told_refused counts input first second log (Ok out) a b c few h = tt
told_refused counts input first second log (Err s) a b c few h =
    told_parts counts input s few
    (subst (λ (x : List ℕ). RefusesBy (IsLateTold counts (first_part input) (middle_part input) x) (first_part input) s) c
    (subst (λ (x : List ℕ). RefusesBy (IsLateTold counts (first_part input) x log) (first_part input) s) b
    (subst (λ (x : List ℕ). RefusesBy (IsLateTold counts x second log) x s) a h)))

pub told_is : (counts : Bool) (input first second log : List ℕ) (result : Result Output Status) → first ≡ first_part input
    → second ≡ middle_part input → log ≡ last_part input → length input ≤ INPUT
    → IfOk result (λ out. IsLogTold counts first second log out.status out.text.items)
    → IfOk result (λ out. (of_steps_check counts).Output input out.status out.text.items)
told_is counts input first second log (Err s) a b c few h = tt
told_is counts input first second log (Ok out) a b c few h = (
  few,
  subst (λ (x : List ℕ). IsLogTold counts (first_part input) (middle_part input) x out.status out.text.items) c
      (subst (λ (x : List ℕ). IsLogTold counts (first_part input) x log out.status out.text.items) b
      (subst (λ (x : List ℕ). IsLogTold counts x second log out.status out.text.items) a h)),
)

-- ---- why there is nothing over the texts

module _ (counts : Bool) (first second : List ℕ) where
  pub report_unread : (f : Function) (e : Refused) → IsRead first f → RefusesReport second e
      → RefusesBy (IsLateLog counts first second) first (status_by e)
  report_unread f RefusedBy.NoMemory read h = tt
  report_unread f (RefusedBy.TextFault line code) read h = absurd h
  report_unread f (RefusedBy.BadSecond line) read h = record { function = f; read = read; bad = h }

  pub report_untold : (log : List ℕ) (f : Function) (e : Refused) → IsRead first f → RefusesReport second e
      → RefusesBy (IsLateTold counts first second log) first (status_by e)
  report_untold log f RefusedBy.NoMemory read h = tt
  report_untold log f (RefusedBy.TextFault line code) read h = absurd h
  report_untold log f (RefusedBy.BadSecond line) read h = record { function = f; read = read; bad = h }

  module _ (f : Function) (r : Report) (read : AreRead first second f r) where
    pub not_accepted : (cause : NoCause) (result : Result Output Status) → IsRefused f r cause → IfOk result (λ out. out.status ≡ No cause)
        → IfOk result (λ out. out.text.items ≡ no_line cause) → IfOk result (λ out. IsRejected first second out.status out.text.items)
    not_accepted cause (Err s) h ends printed = tt
    not_accepted cause (Ok out) h ends printed =
        record { function = f; report = r; read = read; cause = cause; refused = h; ends = ends; printed = printed }

    pub without_log : (m : Model) (result : Result Output Status) → IsAccepted f r m → IfErr result (IsWithoutLog counts m r)
        → IfErr result (RefusesBy (IsLateLog counts first second) first)
    without_log m (Ok out) h w = tt
    without_log m (Err NoMemory) h w = tt
    without_log m (Err (NoLog node)) h w =
        record { has = record { function = f; report = r; read = read; model = m; accepted = h }; stuck = w }
    without_log m (Err (TextFault line code)) h w = absurd w
    without_log m (Err (BadReport line)) h w = absurd w
    without_log m (Err (BadSteps line)) h w = absurd w
    without_log m (Err Done) h w = absurd w
    without_log m (Err Infeasible) h w = absurd w
    without_log m (Err Spent) h w = absurd w
    without_log m (Err (Usage place)) h w = absurd w
    without_log m (Err ReadFault) h w = absurd w
    without_log m (Err WriteFault) h w = absurd w
    without_log m (Err (No cause)) h w = absurd w
    without_log m (Err (Found cost)) h w = absurd w
    without_log m (Err Cut) h w = absurd w
    without_log m (Err (BadTable code)) h w = absurd w

    pub with_log : (m : Model) (result : Result Output Status) → IsAccepted f r m → IfOk result (λ out. out.status ≡ Done)
        → IfOk result (λ out. IsLog counts m r out.text.items) → IfOk result (λ out. IsLogged counts first second out.status out.text.items)
    with_log m (Err s) h ends log = tt
    with_log m (Ok out) h ends log =
        record { has = record { function = f; report = r; read = read; model = m; accepted = h }; log = log; ends = ends }

    module _ (log : List ℕ) where
      pub not_good : (m : Model) (result : Result Output Status) → IsAccepted f r m → IfErr result (IsNotGood counts m r log)
          → IfErr result (RefusesBy (IsLateTold counts first second log) first)
      not_good m (Ok out) h w = tt
      not_good m (Err NoMemory) h w = tt
      not_good m (Err (BadSteps line)) h w =
          record { has = record { function = f; report = r; read = read; model = m; accepted = h }; bad = w }
      not_good m (Err (TextFault line code)) h w = absurd w
      not_good m (Err (BadReport line)) h w = absurd w
      not_good m (Err (NoLog node)) h w =
          record { has = record { function = f; report = r; read = read; model = m; accepted = h }; split = w }
      not_good m (Err Done) h w = absurd w
      not_good m (Err Infeasible) h w = absurd w
      not_good m (Err Spent) h w = absurd w
      not_good m (Err (Usage place)) h w = absurd w
      not_good m (Err ReadFault) h w = absurd w
      not_good m (Err WriteFault) h w = absurd w
      not_good m (Err (No cause)) h w = absurd w
      not_good m (Err (Found cost)) h w = absurd w
      not_good m (Err Cut) h w = absurd w
      not_good m (Err (BadTable code)) h w = absurd w

      pub log_good : (m : Model) (result : Result Output Status) → IsAccepted f r m → IfOk result (λ out. out.status ≡ Done)
          → IfOk result (λ out. out.text.items ≡ codes "yes steps\n") → IfOk result (λ out. IsGoodLog counts m r log)
          → IfOk result (λ out. IsLogAccepted counts first second log out.status out.text.items)
      log_good m (Err s) h ends printed good = tt
      log_good m (Ok out) h ends printed good =
          record { has = record { function = f; report = r; read = read; model = m; accepted = h }; good = good; ends = ends; printed = printed }

pub one_of : (P Q : Status → List ℕ → Type 0) (result : Result Output Status) → IfOk result (λ out. P out.status out.text.items)
    → IfOk result (λ out. P out.status out.text.items ⊎ Q out.status out.text.items)
one_of P Q (Err s) h = tt
one_of P Q (Ok out) h = inl h

pub other_of : (P Q : Status → List ℕ → Type 0) (result : Result Output Status) → IfOk result (λ out. Q out.status out.text.items)
    → IfOk result (λ out. P out.status out.text.items ⊎ Q out.status out.text.items)
other_of P Q (Err s) h = tt
other_of P Q (Ok out) h = inr h
