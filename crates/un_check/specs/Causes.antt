-- Why a report is not accepted: the first of a list of causes that stands, in this order: its name; the first rule of solutions that the
-- numbers break; the cost; the listing; the first node that breaks a point; the list of nodes; the leaves that are open; the bound.
use Rattle.std.specs.Prelude.{ℕ, ◌≡◌, ◌≢◌, ⊤, List, ◌∷◌, None, Some, All, Contains, MatchResult, length}
use Rattle.std.specs.declared.option.Option.{Option}
use Rattle.std.specs.declared.result.Result.{Result}
use Rattle.un_isa.specs.declared.table.Table.{Table}
use Rattle.un_ir.specs.declared.function.Function.{Function}
use Rattle.un_outside.specs.declared.status.NoCause.{NoCause}
use Rattle.un_outside.specs.declared.status.NoCause.TheVariants.{Name, Solution as Numbers, Cost, Listing, Strict, Split as Parted, Alive, Closed as Refuted}
use Rattle.un_outside.specs.declared.status.NoCause.TheVariants.{Mirror, Short as Torn, Spent as Leaves, Bound}
use Rattle.un_packet.specs.declared.code.Code.{Code as CodeValue}
use Rattle.un_model.specs.Cost.{cost_of}
use Rattle.un_model.specs.Solutions.{IsSolution, ListsBroken, latency_gap}
use Rattle.un_model.specs.declared.model.Model.{Model}
use Rattle.un_model.specs.declared.model.Options.{Options}
use Rattle.un_model.specs.declared.model.Solution.{Solution}
use Rattle.un_problem.specs.Problems.{IsModelOf}
use Rattle.un_emit.specs.Emitted.{IsEmitted}
use Rattle.un_tree.specs.Texts.{Fits, tree_text}
use Rattle.un_tree.specs.Waits.{IsOdd, outer_count}
use Rattle.un_tree.specs.declared.node.Node.{Node}
use Rattle.un_tree.specs.declared.node.Node.TheVariants.{Open}
use Rattle.un_certificate.specs.Bounds.{IsBound}
use Rattle.un_certificate.specs.Joints.{visits_in}
use Rattle.un_report.specs.declared.report.Answered.{Answered}
use Rattle.un_report.specs.declared.report.Answered.TheVariants.{Code, Infeasible, Spent}
use Rattle.un_report.specs.declared.report.Report.{Report}
use Rattle.un_report.specs.declared.view.ReportView.{ReportView}
use Rattle.un_check.specs.Verdicts.{IsVerdict, IsYes}
use Rattle.un_check.specs.declared.verdict.TreeVerdict.TheVariants.{NotStrict, NotSplit, NotAlive, NotClosed, Short}

-- what a report claims of a function: its name, how many nodes the search was given, its answer and its tree
pub record Claim : Type 0 where
  pub name : List ℕ
  pub nodes : ℕ
  pub answer : Answered
  pub tree : List Node

abbrev pub claim_of : Report → Claim
claim_of r = record { name = r.name; nodes = r.nodes; answer = r.answer; tree = r.tree.nodes.items }

-- what a view claims whose lines are those of these nodes
abbrev pub claim_with : ReportView → List Node → Claim
claim_with v tree = record { name = v.name.now; nodes = v.nodes; answer = v.answer; tree = tree }

-- so many lines, each of which is a node
pub record AreLines (count : ℕ) (text : List ℕ) : Type 0 where
  pub nodes : List Node
  pub fit : All Fits nodes
  pub spelled : text ≡ tree_text nodes
  pub counted : count ≡ length nodes

-- the limit of an answer's tree: for code its cost
abbrev pub limit_of : Answered → Option ℕ
limit_of (Code cost bound code s) = Some cost
limit_of Infeasible = None
limit_of Spent = None

-- the first rule of solutions that values break has this number
pub record IsFirstBroken (m : Model) (s : Solution) (k : ℕ) : Type 0 where
  pub others : List ℕ
  pub lists : ListsBroken (latency_gap m.ext.table) m.domains m s.values (k ∷ others)

-- the numbers are a solution, with its cost and its code
pub record IsRightCode (m : Model) (cost : ℕ) (code : CodeValue) (s : Solution) : Type 0 where
  pub solution : IsSolution m s
  pub costs : cost ≡ cost_of m s
  pub emitted : IsEmitted m s.values code

abbrev pub IsRightAnswer : Model → Answered → Type 0
IsRightAnswer m (Code cost bound code s) = IsRightCode m cost code s
IsRightAnswer m Infeasible = ⊤
IsRightAnswer m Spent = ⊤

-- why the numbers, the cost or the listing of code are not accepted
abbrev pub IsCodeCause : Model → ℕ → CodeValue → Solution → NoCause → Type 0
IsCodeCause m cost code s (Numbers k) = IsFirstBroken m s k
IsCodeCause m cost code s Cost = IsSolution m s × (cost ≢ cost_of m s)
IsCodeCause m cost code s Listing = IsSolution m s × (cost ≡ cost_of m s) × (IsEmitted m s.values code → ⊥)
IsCodeCause m cost code s _ = ⊥

abbrev pub IsAnswerCause : Model → Answered → NoCause → Type 0
IsAnswerCause m (Code cost bound code s) c = IsCodeCause m cost code s c
IsAnswerCause m Infeasible c = ⊥
IsAnswerCause m Spent c = ⊥

-- the tree is one whole tree that keeps all points
pub record IsRightTree (m : Model) (limit : Option ℕ) (t : List Node) : Type 0 where
  pub least : Option ℕ
  pub count : ℕ
  pub yes : IsYes m limit t least count

-- why a tree is not accepted
abbrev pub IsTreeCause : Model → Option ℕ → List Node → NoCause → Type 0
IsTreeCause m limit t (Strict i) = IsVerdict m limit t (NotStrict i)
IsTreeCause m limit t (Parted i) = IsVerdict m limit t (NotSplit i)
IsTreeCause m limit t (Alive i) = IsVerdict m limit t (NotAlive i)
IsTreeCause m limit t (Refuted i) = IsVerdict m limit t (NotClosed i)
IsTreeCause m limit t Torn = IsVerdict m limit t Short
IsTreeCause m limit t _ = ⊥

-- no leaf is open where there is no solution, and one is where the nodes were spent
abbrev pub FitsAnswer : Answered → List Node → Type 0
FitsAnswer (Code cost bound code s) t = ⊤
FitsAnswer Infeasible t = All (λ n. n ≢ Open) t
FitsAnswer Spent t = Contains t Open

-- where a leaf is open, the tree has as many of so many nodes as a tree can have; those in parts do not count
pub record HasRightLeaves (m : Model) (nodes : ℕ) (a : Answered) (t : List Node) : Type 0 where
  pub used : Contains t Open → IsOdd (outer_count (visits_in m t)) nodes
  pub fits : FitsAnswer a t

-- the bound of code is the tree's
abbrev pub HasRightBound : Model → Answered → List Node → Type 0
HasRightBound m (Code cost bound code s) t = IsBound m cost (visits_in m t) bound
HasRightBound m Infeasible t = ⊤
HasRightBound m Spent t = ⊤

module _ (name : List ℕ) (m : Model) (r : Claim) where
  -- all is right up to the numbers, the cost and the listing
  pub record IsRightHead : Type 0 where
    pub named : r.name ≡ name
    pub answer : IsRightAnswer m r.answer

  -- up to the tree
  pub record IsRightBody : Type 0 where
    pub head : IsRightHead
    pub tree : IsRightTree m (limit_of r.answer) r.tree

  -- and up to the leaves and the bound
  pub record IsRight : Type 0 where
    pub body : IsRightBody
    pub leaves : HasRightLeaves m r.nodes r.answer r.tree
    pub bound : HasRightBound m r.answer r.tree

  -- the first cause that stands, for a function of this name with this model; no report has mirror leaves
  abbrev pub IsCause : NoCause → Type 0
  IsCause Name = r.name ≢ name
  IsCause (Numbers k) = (r.name ≡ name) × IsAnswerCause m r.answer (Numbers k)
  IsCause Cost = (r.name ≡ name) × IsAnswerCause m r.answer Cost
  IsCause Listing = (r.name ≡ name) × IsAnswerCause m r.answer Listing
  IsCause (Strict i) = IsRightHead × IsTreeCause m (limit_of r.answer) r.tree (Strict i)
  IsCause (Parted i) = IsRightHead × IsTreeCause m (limit_of r.answer) r.tree (Parted i)
  IsCause (Alive i) = IsRightHead × IsTreeCause m (limit_of r.answer) r.tree (Alive i)
  IsCause (Refuted i) = IsRightHead × IsTreeCause m (limit_of r.answer) r.tree (Refuted i)
  IsCause (Mirror i) = ⊥
  IsCause Torn = IsRightHead × IsTreeCause m (limit_of r.answer) r.tree Torn
  IsCause Leaves = IsRightBody × (HasRightLeaves m r.nodes r.answer r.tree → ⊥)
  IsCause Bound = IsRightBody × HasRightLeaves m r.nodes r.answer r.tree × (HasRightBound m r.answer r.tree → ⊥)

  -- an answer to the report: all is right, or the first cause that stands
  abbrev pub IsToldBy : Result (Unit {0}) NoCause → Type 0
  IsToldBy told = MatchResult told (λ _. IsRight) IsCause

-- an answer to a report on a function, by the model of the function for a table and under the report's own options
pub record IsTold (t : Table) (f : Function) (o : Options) (r : Claim) (told : Result (Unit {0}) NoCause) : Type 0 where
  pub model : Model
  pub is_model : IsModelOf t f o model
  pub by_model : IsToldBy f.name model r told

-- this cause is the first that stands for a report on a function, by that model
pub record HasCause (t : Table) (f : Function) (o : Options) (r : Claim) (c : NoCause) : Type 0 where
  pub model : Model
  pub is_model : IsModelOf t f o model
  pub cause : IsCause f.name model r c
