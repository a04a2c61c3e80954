-- The log of a report's tree, and the check of a log: their inputs, what is put out, and the late answers.
use Rattle.std.specs.Prelude.{ℕ, ◌≡◌, ◌≢◌, ◌+◌, ◌≤◌, ◌⊎◌, Bool, true, false, ⊤, List, Option, Err, All, codes, length}
use Rattle.un_base.specs.Lines.{pieces_of}
use Rattle.un_check.specs.Causes.{IsRight, IsTold, claim_of, limit_of}
use Rattle.un_ir.specs.declared.function.Function.{Function}
use Rattle.un_isa.specs.Versions.{table_of}
use Rattle.un_judge.specs.Judged.{IsJudged}
use Rattle.un_judge.specs.declared.verdict.StepVerdict.{StepVerdict}
use Rattle.un_judge.specs.declared.verdict.StepVerdict.TheVariants.{Yes, BadStep, Short}
use Rattle.un_logs.specs.Stuck.{IsFirstStuck}
use Rattle.un_certificate.specs.Joints.{visits_in}
use Rattle.un_model.specs.Boxes.{IsBelow}
use Rattle.un_model.specs.declared.model.Model.{Model}
use Rattle.un_outside.specs.declared.status.NoCause.{NoCause}
use Rattle.un_outside.specs.declared.status.Status.{Status}
use Rattle.un_outside.specs.declared.status.Status.TheVariants.{Done, TextFault, NoMemory, No, BadReport, NoLog, BadSteps}
use Rattle.un_post.specs.PartPosts.{IsPartBelow}
use Rattle.un_problem.specs.Problems.{IsModelOf}
use Rattle.un_reader.specs.Read.{IsRead}
use Rattle.un_report.specs.declared.report.Report.{Report}
use Rattle.un_report_reader.specs.FirstBad.{IsFirstBad}
use Rattle.un_report_reader.specs.Readings.{IsReportRead}
use Rattle.un_runs.specs.Inputs.{first_part, second_part, middle_part, last_part}
use Rattle.un_runs.specs.Refusals.{IsFaultOf}
use Rattle.un_steps.specs.declared.step.TheConstants.{PLAIN_RULES, ALL_RULES}
use Rattle.un_top.specs.Checks.{no_line}
use Rattle.un_top.specs.declared.limits.TheConstants.{INPUT}
use Rattle.un_tree.specs.Covered.{Stands}
use Rattle.un_tree.specs.Splits.{IsFirstSplit}
use Rattle.un_tree.specs.declared.node.Node.{Node}
use Rattle.un_tree.specs.declared.node.Node.TheVariants.{Split}

-- how many rules hold: all, or those that need no counting
abbrev pub rules_by : Bool → ℕ
rules_by true = ALL_RULES
rules_by false = PLAIN_RULES

-- where a log is bad that comes to a verdict: at a line that is no step or one that its rule does not allow, or at the line past the last,
-- where lines lack or are left over
abbrev pub IsBadAt : List ℕ → StepVerdict → ℕ → Type 0
IsBadAt log Yes line = ⊥
IsBadAt log (BadStep n) line = line ≡ n
IsBadAt log Short line = line ≡ length (pieces_of log) + 1

-- ---- by the model of a report: its tree, under the limit of its answer

-- a tree has no Split
abbrev pub HasNoSplit : List Node → Type 0
HasNoSplit nodes = All (λ n. n ≢ Split) nodes

-- a tree has no Split, and this is its first closed leaf whose box the rules do not empty
pub record IsStuck (rules : ℕ) (m : Model) (limit : Option ℕ) (nodes : List Node) (node : ℕ) : Type 0 where
  pub whole : HasNoSplit nodes
  pub stuck : IsFirstStuck rules m limit nodes node

-- a tree gives no log: at its first Split, or, where it has none, at its first closed leaf whose box the rules do not empty
abbrev pub IsLogless : ℕ → Model → Option ℕ → List Node → ℕ → Type 0
IsLogless rules m limit nodes node = IsFirstSplit nodes node ⊎ IsStuck rules m limit nodes node

module _ (counts : Bool) (m : Model) (r : Report) where
  -- a text is a log of the tree that comes to this verdict
  abbrev pub ComesTo : List ℕ → StepVerdict → Type 0
  ComesTo log verdict = IsJudged (rules_by counts) m (limit_of r.answer) r.tree.nodes.items log verdict

  -- it gives no log at this node
  abbrev pub IsStuckAt : ℕ → Type 0
  IsStuckAt node = IsLogless (rules_by counts) m (limit_of r.answer) r.tree.nodes.items node

  -- it has no Split, and a text is a log that closes each closed leaf; each gives one
  pub record IsLog (log : List ℕ) : Type 0 where
    pub yes : ComesTo log Yes
    pub free : (node : ℕ) → IsStuckAt node → ⊥

  -- it has no Split, and a text is such a log, so that no closed leaf holds a solution that costs less than the limit
  pub record IsGoodLog (log : List ℕ) : Type 0 where
    pub whole : HasNoSplit r.tree.nodes.items
    pub yes : ComesTo log Yes
    pub stands : All (Stands (IsBelow m (limit_of r.answer)) (IsPartBelow m)) (visits_in m r.tree.nodes.items)

  -- it has no Split, and a text is none: at this line
  pub record IsBadLog (log : List ℕ) (line : ℕ) : Type 0 where
    pub whole : HasNoSplit r.tree.nodes.items
    pub verdict : StepVerdict
    pub comes : ComesTo log verdict
    pub at : IsBadAt log verdict line

  -- why there is no log: want of memory, or a node that gives none
  abbrev pub IsWithoutLog : Status → Type 0
  IsWithoutLog NoMemory = ⊤
  IsWithoutLog (NoLog node) = IsStuckAt node
  IsWithoutLog _ = ⊥

  -- why a log is not accepted: want of memory, a Split, or a line that is bad
  abbrev pub IsNotGood : List ℕ → Status → Type 0
  IsNotGood log NoMemory = ⊤
  IsNotGood log (NoLog node) = IsFirstSplit r.tree.nodes.items node
  IsNotGood log (BadSteps line) = IsBadLog log line
  IsNotGood log _ = ⊥

-- ---- by a function and its report

-- the report is accepted, by this model of the function for the table of its version and under its options
pub record IsAccepted (f : Function) (r : Report) (m : Model) : Type 0 where
  pub is_model : IsModelOf (table_of r.version) f r.options m
  pub right : IsRight f.name m (claim_of r)

-- it is not, by this cause
abbrev pub IsRefused : Function → Report → NoCause → Type 0
IsRefused f r cause = IsTold (table_of r.version) f r.options (claim_of r) (Err cause)

-- ---- by their texts

-- a function and a report
pub record AreRead (first second : List ℕ) (f : Function) (r : Report) : Type 0 where
  pub function : IsRead first f
  pub report : IsReportRead second r

-- the report is accepted
pub record HasAccepted (first second : List ℕ) : Type 0 where
  pub function : Function
  pub report : Report
  pub read : AreRead first second function report
  pub model : Model
  pub accepted : IsAccepted function report model

-- it is not, and the cause is put out
pub record IsRejected (first second : List ℕ) (status : Status) (out : List ℕ) : Type 0 where
  pub function : Function
  pub report : Report
  pub read : AreRead first second function report
  pub cause : NoCause
  pub refused : IsRefused function report cause
  pub ends : status ≡ No cause
  pub printed : out ≡ no_line cause

-- a log is put out
pub record IsLogged (counts : Bool) (first second : List ℕ) (status : Status) (out : List ℕ) : Type 0 where
  pub has : HasAccepted first second
  pub log : IsLog counts has.model has.report out
  pub ends : status ≡ Done

abbrev pub IsLogOf : Bool → List ℕ → List ℕ → Status → List ℕ → Type 0
IsLogOf counts first second status out = IsRejected first second status out ⊎ IsLogged counts first second status out

-- a log is accepted
pub record IsLogAccepted (counts : Bool) (first second log : List ℕ) (status : Status) (out : List ℕ) : Type 0 where
  pub has : HasAccepted first second
  pub good : IsGoodLog counts has.model has.report log
  pub ends : status ≡ Done
  pub printed : out ≡ codes "yes steps\n"

abbrev pub IsLogTold : Bool → List ℕ → List ℕ → List ℕ → Status → List ℕ → Type 0
IsLogTold counts first second log status out = IsRejected first second status out ⊎ IsLogAccepted counts first second log status out

-- ---- late answers, behind a function

-- this line of the report is bad
pub record IsBadBehind (first second : List ℕ) (line : ℕ) : Type 0 where
  pub function : Function
  pub read : IsRead first function
  pub bad : IsFirstBad second line

-- at this node an accepted report's tree gives no log
pub record HasNoLog (counts : Bool) (first second : List ℕ) (node : ℕ) : Type 0 where
  pub has : HasAccepted first second
  pub stuck : IsStuckAt counts has.model has.report node

-- this node of an accepted report's tree is its first Split
pub record HasSplit (first second : List ℕ) (node : ℕ) : Type 0 where
  pub has : HasAccepted first second
  pub split : IsFirstSplit has.report.tree.nodes.items node

-- this line of a log for an accepted report's tree is bad
pub record HasBadLog (counts : Bool) (first second log : List ℕ) (line : ℕ) : Type 0 where
  pub has : HasAccepted first second
  pub bad : IsBadLog counts has.model has.report log line

-- a line of the report is bad, a node gives no log, or a line of the log is bad
abbrev pub IsLateBy : (ℕ → Type 0) → (ℕ → Type 0) → (ℕ → Type 0) → Status → Type 0
IsLateBy line node step (BadReport n) = line n
IsLateBy line node step (NoLog i) = node i
IsLateBy line node step (BadSteps n) = step n
IsLateBy line node step _ = ⊥

abbrev pub IsLateLog : Bool → List ℕ → List ℕ → Status → Type 0
IsLateLog counts first second status = IsLateBy (IsBadBehind first second) (HasNoLog counts first second) (λ line. ⊥) status

abbrev pub IsLateTold : Bool → List ℕ → List ℕ → List ℕ → Status → Type 0
IsLateTold counts first second log status =
    IsLateBy (IsBadBehind first second) (HasSplit first second) (HasBadLog counts first second log) status

-- why nothing is put out: want of memory, a fault of the function, or a late answer
abbrev pub RefusesBy : (Status → Type 0) → List ℕ → Status → Type 0
RefusesBy late first NoMemory = ⊤
RefusesBy late first (TextFault line code) = IsFaultOf first line code
RefusesBy late first status = late status

-- ---- inputs

-- a function and a report, and in the second case a log behind them
abbrev pub IsSteps : Bool → List ℕ → Status → List ℕ → Type 0
IsSteps counts input status out = IsLogOf counts (first_part input) (second_part input) status out

abbrev pub IsStepsCheck : Bool → List ℕ → Status → List ℕ → Type 0
IsStepsCheck counts input status out = IsLogTold counts (first_part input) (middle_part input) (last_part input) status out

abbrev pub IsLateSteps : Bool → List ℕ → Status → Type 0
IsLateSteps counts input status = (length input ≤ INPUT) × IsLateLog counts (first_part input) (second_part input) status

abbrev pub IsLateStepsCheck : Bool → List ℕ → Status → Type 0
IsLateStepsCheck counts input status =
    (length input ≤ INPUT) × IsLateTold counts (first_part input) (middle_part input) (last_part input) status

pub record IsLogInput (input : List ℕ) : Type 0 where
  pub function : Function
  pub report : Report
  pub read : AreRead (first_part input) (middle_part input) function report
