-- The answer to the numbers of a schedule.
use Rattle.std.proofs.Common.{ℕ, ◌≡◌, ◌↔◌, inl, inr, List, [], ◌∷◌, map, subst}
use Rattle.std.specs.Prelude.{MatchOption, IfOk}
use Rattle.std.specs.declared.option.Option.{Option}
use Rattle.std.specs.declared.option.Option.TheVariants.{Some, None}
use Rattle.std.specs.declared.result.Result.{Result}
use Rattle.std.specs.declared.result.Result.TheVariants.{Ok, Err}
use Rattle.un_base.specs.declared.memory_error.NoMemory.{NoMemory}
use Rattle.un_ir.specs.declared.function.Function.{Function}
use Rattle.un_isa.specs.declared.table.Table.{Table}
use Rattle.un_model.specs.Cost.{cost_of}
use Rattle.un_model.specs.Solutions.{ListsBroken, latency_gap}
use Rattle.un_model.specs.declared.model.Model.{Model}
use Rattle.un_model.specs.declared.model.Options.{Options}
use Rattle.un_model.specs.declared.model.Solution.{Solution}
use Rattle.un_model.specs.declared.verdict.Broken.{Broken}
use Rattle.un_outside.specs.declared.status.NoCause.TheVariants.{Solution as Numbers}
use Rattle.un_outside.specs.declared.status.Status.{Status}
use Rattle.un_outside.specs.declared.status.Status.TheVariants.{No}
use Rattle.un_reader.specs.Read.{IsRead}
use Rattle.un_report_reader.specs.FirstBad.{IsFirstBadAlone}
use Rattle.un_runs.specs.Inputs.{first_part, second_part}
use Rattle.un_runs.specs.Refusals.{RefusesFunction, IsFaultOf}
use Rattle.un_runs.specs.declared.refused.Refused.{Refused}
use Rattle.un_runs.specs.declared.refused.Refused.TheVariants.{NoMemory as NoRoom, TextFault, BadSecond}
use Rattle.un_violations.specs.Loose.{IsLoose, loose_domains}
use Rattle.un_top.specs.Checks.{no_line}
use Rattle.un_top.specs.Improvements.{IsFirstLoose, IsAnswerTo, IsImprovementOf, IsImprovement, RefusesNumbers, RefusesImprovement}
use Rattle.un_top.specs.Reports.{IsCodeWithin, IsSearchText}
use Rattle.un_top.specs.declared.output.Output.{Output}

-- ---- the clauses that numbers break

pub loose_told : (m : Model) (s : Solution) (bs : List Broken) (o : Option ℕ)
    → ListsBroken (latency_gap m.ext.table) (loose_domains m) m s.values (map (λ (b : Broken). b.clause) bs) → (bs ≡ []) ↔ IsLoose m s
    → MatchOption o (bs ≡ []) (λ k. (others : List ℕ) × (map (λ (b : Broken). b.clause) bs ≡ k ∷ others))
    → MatchOption o (IsLoose m s) (IsFirstLoose m s)
loose_told m s bs None lists solves h = solves.0 h
loose_told m s bs (Some k) lists solves h = record {
  others = h.0;
  lists = subst (ListsBroken (latency_gap m.ext.table) (loose_domains m) m s.values) h.1 lists;
}

-- ---- by the model

pub told_broken : (f : Function) (m : Model) (nodes : ℕ) (s : Solution) (k : ℕ) (result : Result Output NoMemory) → IsFirstLoose m s k
    → IfOk result (λ out. out.status ≡ No (Numbers k)) → IfOk result (λ out. out.text.items ≡ no_line (Numbers k))
    → IfOk result (λ out. IsAnswerTo f m nodes s out.status out.text.items)
told_broken f m nodes s k (Err e) first ends printed = tt
told_broken f m nodes s k (Ok out) first ends printed =
    inl (record { clause = k; first = first; ends = ends; printed = printed })

pub told_improved : (f : Function) (m : Model) (nodes : ℕ) (s : Solution) (result : Result Output NoMemory) → IsLoose m s
    → IfOk result (λ out. IsSearchText f m nodes (IsCodeWithin (cost_of m s)) out.status out.text.items)
    → IfOk result (λ out. IsAnswerTo f m nodes s out.status out.text.items)
told_improved f m nodes s (Err e) loose found = tt
told_improved f m nodes s (Ok out) loose found = inr (record { loose = loose; found = found })

-- for a table and options that are others
pub improvement_for : (t u : Table) (o p : Options) (nodes : ℕ) (f : Function) (text : List ℕ) (status : Status) (out : List ℕ) → t ≡ u → o ≡ p
    → IsImprovementOf t o nodes f text status out → IsImprovementOf u p nodes f text status out
improvement_for t u o p nodes f text status out e k h =
    subst (λ (w : Table). IsImprovementOf w p nodes f text status out) e
    (subst (λ (q : Options). IsImprovementOf t q nodes f text status out) k h)

-- ---- parts of an input

pub improve_first : (input part : List ℕ) (e : Refused) → part ≡ first_part input → RefusesFunction part e → RefusesImprovement input e
improve_first input part NoRoom is h = tt
improve_first input part (TextFault line code) is h = subst (λ (t : List ℕ). IsFaultOf t line code) is h
improve_first input part (BadSecond line) is h = absurd h

pub improve_second : (input first second : List ℕ) (f : Function) (e : Refused) → first ≡ first_part input → second ≡ second_part input
    → IsRead first f → RefusesNumbers second e → RefusesImprovement input e
improve_second input first second f NoRoom a b read h = tt
improve_second input first second f (TextFault line code) a b read h = absurd h
improve_second input first second f (BadSecond line) a b read h = record {
  function = f;
  read = subst (λ (t : List ℕ). IsRead t f) a read;
  bad = subst (λ (t : List ℕ). IsFirstBadAlone t line) b h;
}

pub improve_is : (t : Table) (o : Options) (nodes : ℕ) (input first second : List ℕ) (f : Function) (status : Status) (out : List ℕ)
    → first ≡ first_part input → second ≡ second_part input → IsRead first f → IsImprovementOf t o nodes f second status out
    → IsImprovement t o nodes input status out
improve_is t o nodes input first second f status out a b read told = record {
  function = f;
  read = subst (λ (x : List ℕ). IsRead x f) a read;
  told = subst (λ (x : List ℕ). IsImprovementOf t o nodes f x status out) b told;
}
