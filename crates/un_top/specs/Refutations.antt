-- Whether a function has code below a limit: what is put out; and the check of a refutation: its input, and what is put out.
use Rattle.std.specs.Prelude.{ℕ, ◌≡◌, ◌≢◌, ◌<◌, ◌≤◌, ◌⊎◌, ⊤, List, Some, All, codes, length}
use Rattle.un_ir.specs.declared.function.Function.{Function}
use Rattle.un_isa.specs.declared.table.Table.{Table}
use Rattle.un_model.specs.Cost.{cost_of}
use Rattle.un_model.specs.Solutions.{IsSolution}
use Rattle.un_model.specs.declared.model.Model.{Model}
use Rattle.un_model.specs.declared.model.Options.{Options}
use Rattle.un_model.specs.declared.model.Solution.{Solution}
use Rattle.un_outside.specs.declared.status.NoCause.TheVariants.{Name, Strict, Closed, Mirror, Short}
use Rattle.un_outside.specs.declared.status.Status.{Status}
use Rattle.un_outside.specs.declared.status.Status.TheVariants.{Done, Found, Cut, No}
use Rattle.un_problem.specs.Problems.{IsModelOf}
use Rattle.un_reader.specs.Read.{IsRead}
use Rattle.un_mirrors.specs.Shortened.{IsNoMore, sym_routes}
use Rattle.un_refutation.specs.FirstBad.{IsFirstBad}
use Rattle.un_refutation.specs.Readings.{IsRefutation, IsRefutationRead}
use Rattle.un_refutation.specs.Refutations.{text_of, cut_text}
use Rattle.un_refutation.specs.declared.refutation.Refutation.{Refutation}
use Rattle.un_refutes.specs.SymVerdicts.{IsSymVerdict, OnYes}
use Rattle.un_refutes.specs.declared.verdict.SymVerdict.{SymVerdict}
use Rattle.un_refutes.specs.declared.verdict.SymVerdict.TheVariants as SymVerdicts
use Rattle.un_runs.specs.Inputs.{first_part, second_part}
use Rattle.un_runs.specs.Refusals.{IsFaultOf}
use Rattle.un_runs.specs.declared.refused.Refused.{Refused}
use Rattle.un_runs.specs.declared.refused.Refused.TheVariants.{NoMemory, TextFault, BadSecond}
use Rattle.un_search.specs.Answers.{IsCutOff}
use Rattle.un_symtree.specs.declared.node.SymNode.{SymNode}
use Rattle.un_tree.specs.declared.node.Node.{Node}
use Rattle.un_walk.specs.Routes.{Route}
use Rattle.un_top.specs.Checks.{counted_line, no_line}

-- no solution costs less than a limit
abbrev pub NoneBelow : Model → ℕ → Type 0
NoneBelow m limit = (x : Solution) → IsSolution m x → limit ≤ cost_of m x

-- ---- what is put out of a question

-- the text of a refutation that is read and accepted, of no more nodes than were given, in which no more subtrees can be put as mirrors
pub record IsRefuted (f : Function) (m : Model) (nodes limit : ℕ) (out : List ℕ) : Type 0 where
  pub refutation : Refutation
  pub is_refutation : IsRefutation refutation
  pub limited : refutation.limit ≡ limit
  pub named : refutation.name ≡ f.name
  pub chosen : refutation.options ≡ m.options
  pub few : length refutation.tree.nodes.items ≤ nodes
  pub accepted : IsSymVerdict m limit refutation.tree.nodes.items SymVerdicts.Yes
  pub none : NoneBelow m limit
  pub short : All (λ (r : Route SymNode). IsNoMore m r.node r.path) (sym_routes refutation.tree.nodes.items)
  pub printed : out ≡ text_of refutation

-- the cost of a solution that costs less than the limit
pub record IsFoundBelow (m : Model) (limit cost : ℕ) (out : List ℕ) : Type 0 where
  pub solution : Solution
  pub is_solution : IsSolution m solution
  pub costs : cost ≡ cost_of m solution
  pub below : cost < limit
  pub printed : out ≡ counted_line (codes "cost ") cost

-- the tree of a search that was cut off
pub record IsCutShort (f : Function) (m : Model) (nodes limit : ℕ) (out : List ℕ) : Type 0 where
  pub tree : List Node
  pub least : ℕ
  pub cut : IsCutOff m (Some limit) nodes tree least
  pub printed : out ≡ cut_text limit f.name m.options tree

abbrev pub IsAnswerBelow : Function → Model → ℕ → ℕ → Status → List ℕ → Type 0
IsAnswerBelow f m nodes limit Done out = IsRefuted f m nodes limit out
IsAnswerBelow f m nodes limit (Found cost) out = IsFoundBelow m limit cost out
IsAnswerBelow f m nodes limit Cut out = IsCutShort f m nodes limit out
IsAnswerBelow f m nodes limit _ out = ⊥

-- the answer for the function that a text is, for a table and under options
pub record IsRefuting (t : Table) (o : Options) (nodes limit : ℕ) (text : List ℕ) (status : Status) (out : List ℕ) : Type 0 where
  pub function : Function
  pub read : IsRead text function
  pub model : Model
  pub is_model : IsModelOf t function o model
  pub answer : IsAnswerBelow function model nodes limit status out

-- ---- the check of a refutation

-- the line for a verdict on a tree with mirrors
abbrev pub verdict_line : ℕ → SymVerdict → List ℕ
verdict_line limit SymVerdicts.Yes = counted_line (codes "yes refuted ") limit
verdict_line limit (SymVerdicts.NotStrict i) = no_line (Strict i)
verdict_line limit (SymVerdicts.NotClosed i) = no_line (Closed i)
verdict_line limit (SymVerdicts.NotMirror i) = no_line (Mirror i)
verdict_line limit SymVerdicts.Short = no_line Short

-- how a run ends that writes it whole
abbrev pub verdict_status : SymVerdict → Status
verdict_status SymVerdicts.Yes = Done
verdict_status (SymVerdicts.NotStrict i) = No (Strict i)
verdict_status (SymVerdicts.NotClosed i) = No (Closed i)
verdict_status (SymVerdicts.NotMirror i) = No (Mirror i)
verdict_status SymVerdicts.Short = No Short

-- a refutation is of a function of another name
pub record IsOfAnother (f : Function) (r : Refutation) (status : Status) (out : List ℕ) : Type 0 where
  pub other : r.name ≢ f.name
  pub ends : status ≡ No Name
  pub printed : out ≡ no_line Name

-- it is of this one, and its tree was checked by the function's model under the refutation's options: where it is accepted, no solution
-- costs less than its limit
pub record IsJudgedSo (t : Table) (f : Function) (r : Refutation) (status : Status) (out : List ℕ) : Type 0 where
  pub same : r.name ≡ f.name
  pub model : Model
  pub is_model : IsModelOf t f r.options model
  pub verdict : SymVerdict
  pub judged : IsSymVerdict model r.limit r.tree.nodes.items verdict
  pub sound : OnYes (NoneBelow model r.limit) verdict
  pub ends : status ≡ verdict_status verdict
  pub printed : out ≡ verdict_line r.limit verdict

-- the answer to the refutation that a text is, on a function
pub record IsRefutationTold (t : Table) (f : Function) (text : List ℕ) (status : Status) (out : List ℕ) : Type 0 where
  pub refutation : Refutation
  pub read : IsRefutationRead text refutation
  pub told : IsOfAnother f refutation status out ⊎ IsJudgedSo t f refutation status out

-- the same of the function in the first part of an input and the refutation in the second one
pub record IsRefutationCheck (t : Table) (input : List ℕ) (status : Status) (out : List ℕ) : Type 0 where
  pub function : Function
  pub read : IsRead (first_part input) function
  pub told : IsRefutationTold t function (second_part input) status out

-- a function, and a refutation
pub record IsRefutationInput (input : List ℕ) : Type 0 where
  pub function : Function
  pub read : IsRead (first_part input) function
  pub refutation : Refutation
  pub refuted : IsRefutationRead (second_part input) refutation

-- ---- refusals

-- of the text of a refutation
abbrev pub RefusesRefutation : List ℕ → Refused → Type 0
RefusesRefutation text NoMemory = ⊤
RefusesRefutation text (TextFault line code) = ⊥
RefusesRefutation text (BadSecond line) = IsFirstBad text line

-- the first part is a function, and this line of the second one is bad
pub record IsBadRefutation (input : List ℕ) (line : ℕ) : Type 0 where
  pub function : Function
  pub read : IsRead (first_part input) function
  pub bad : IsFirstBad (second_part input) line

-- of an input
abbrev pub RefusesRefutationCheck : List ℕ → Refused → Type 0
RefusesRefutationCheck input NoMemory = ⊤
RefusesRefutationCheck input (TextFault line code) = IsFaultOf (first_part input) line code
RefusesRefutationCheck input (BadSecond line) = IsBadRefutation input line
