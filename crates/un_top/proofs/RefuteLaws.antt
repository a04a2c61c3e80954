-- The answers to whether a function has code below a limit.
use Rattle.std.proofs.Common.{ℕ, ◌≡◌, ◌↔◌, ◌<◌, ◌≤◌, ◌-◌, ◌^◌, ◌∙◌, inl, inr, Bool, false, IsTrue, List, All, IfOk, length, Some, codes, refl, sym, subst, arith}
use Rattle.std.proofs.Math.Logic.{∥∥₁_elim}
use Rattle.std.proofs.Props.{props}
use Rattle.std.proofs.lemmas.Bool.{cases_lt, true≢false}
use Rattle.std.specs.declared.result.Result.{Result}
use Rattle.std.specs.declared.result.Result.TheVariants.{Ok, Err}
use Rattle.un_base.specs.declared.memory_error.NoMemory.{NoMemory}
use Rattle.un_certificate.proofs.Lows.{refuted, standing}
use Rattle.un_commands.specs.Settings.{IsCountOfNodes}
use Rattle.un_ir.specs.declared.function.Function.{Function}
use Rattle.un_isa.specs.declared.table.Table.{Table}
use Rattle.un_mirrors.specs.Shortened.{IsNoMore, sym_routes}
use Rattle.un_model.specs.Boxes.{IsCheaper}
use Rattle.un_model.specs.Cost.{cost_of}
use Rattle.un_model.specs.declared.model.Model.{Model}
use Rattle.un_model.specs.declared.model.Options.{Options}
use Rattle.un_model.specs.declared.model.Solution.{Solution}
use Rattle.un_outside.specs.declared.status.Status.{Status}
use Rattle.un_outside.specs.declared.status.NoCause.TheVariants.{Name}
use Rattle.un_outside.specs.declared.status.Status.TheVariants.{Done, Found, Cut, No}
use Rattle.un_problem.specs.Problems.{IsProblemOf}
use Rattle.un_reader.specs.Read.{IsRead}
use Rattle.un_refutation.specs.FirstBad.{IsFirstBad}
use Rattle.un_refutation.specs.Readings.{IsRefutationRead}
use Rattle.un_refutation.specs.Refutations.{refutation_text, cut_text}
use Rattle.un_refutation.specs.declared.refutation.Refutation.{Refutation}
use Rattle.un_runs.specs.Inputs.{first_part, second_part}
use Rattle.un_runs.specs.Refusals.{RefusesFunction, IsFaultOf}
use Rattle.un_runs.specs.declared.refused.Refused.{Refused}
use Rattle.un_runs.specs.declared.refused.Refused.TheVariants.{NoMemory as NoRoom, TextFault, BadSecond}
use Rattle.un_refutes.specs.SymVerdicts.{IsSymVerdict}
use Rattle.un_refutes.specs.declared.verdict.SymVerdict.TheVariants.{Yes}
use Rattle.un_report_reader.specs.Lines.{IsName}
use Rattle.un_search.specs.Answers.{IsRefuted as IsTreeRefuted, IsCutOff}
use Rattle.un_symtree.specs.SymTexts.{SymFits}
use Rattle.un_symtree.specs.declared.node.SymNode.{SymNode}
use Rattle.un_symtree.specs.declared.node.SymTree.{SymTree}
use Rattle.un_tree.specs.declared.node.Node.{Node}
use Rattle.un_walk.specs.Routes.{Route}
use Rattle.un_top.specs.Checks.{counted_line, no_line}
use Rattle.un_top.specs.Refutations.{IsAnswerBelow, IsJudgedSo, IsRefuted, IsRefuting, IsRefutationTold, IsRefutationCheck, NoneBelow}
use Rattle.un_top.specs.Refutations.{RefusesRefutation, RefusesRefutationCheck}
use Rattle.un_top.specs.Runs.{IsWritten}
use Rattle.un_top.specs.declared.output.Output.{Output}

-- ---- by what was found

pub told_found : (f : Function) (m : Model) (nodes limit : ℕ) (s : Solution) (result : Result Output NoMemory) → IsCheaper m (Some limit) s
    → IfOk result (λ out. out.status ≡ Found (cost_of m s)) → IfOk result (λ out. out.text.items ≡ counted_line (codes "cost ") (cost_of m s))
    → IfOk result (λ out. IsAnswerBelow f m nodes limit out.status out.text.items)
told_found f m nodes limit s (Err e) cheaper ends printed = tt
told_found f m nodes limit s (Ok out) cheaper ends printed =
    subst (λ (status : Status). IsAnswerBelow f m nodes limit status out.text.items) (sym ends)
    (record { solution = s; is_solution = cheaper.0; costs = refl; below = cheaper.1; printed = printed })

pub told_refuted : (f : Function) (m : Model) (nodes limit : ℕ) (result : Result Output NoMemory) → IfOk result (λ out. out.status ≡ Done)
    → IfOk result (λ out. IsRefuted f m nodes limit out.text.items)
    → IfOk result (λ out. IsAnswerBelow f m nodes limit out.status out.text.items)
told_refuted f m nodes limit (Err e) ends answer = tt
told_refuted f m nodes limit (Ok out) ends answer =
    subst (λ (status : Status). IsAnswerBelow f m nodes limit status out.text.items) (sym ends) answer

pub told_cut : (f : Function) (m : Model) (nodes limit : ℕ) (t : List Node) (least : ℕ) (result : Result Output NoMemory)
    → IsCutOff m (Some limit) nodes t least
    → IfOk result (λ out. out.status ≡ Cut) → IfOk result (λ out. out.text.items ≡ cut_text limit f.name m.options t)
    → IfOk result (λ out. IsAnswerBelow f m nodes limit out.status out.text.items)
told_cut f m nodes limit t least (Err e) cut ends printed = tt
told_cut f m nodes limit t least (Ok out) cut ends printed =
    subst (λ (status : Status). IsAnswerBelow f m nodes limit status out.text.items) (sym ends)
    (record { tree = t; least = least; cut = cut; printed = printed })

-- each of them is written whole
pub written_so : (status so : Status) → IsWritten so → status ≡ so → IsWritten status
written_so status so written e = subst IsWritten (sym e) written

-- ---- a refutation

named : (f : Function) → IsName f.name
named f = ∥∥₁_elim f.well_formed (hlevel props) (λ w. w.named)

pub refutation_is : (f : Function) (m : Model) (nodes limit : ℕ) (t : List Node) (u : SymTree) (text : List ℕ) → IsProblemOf f m
    → IsCountOfNodes nodes → limit < 2 ^ 64 → IsTreeRefuted m (Some limit) nodes t
    → IsSymVerdict m limit u.nodes.items Yes → length u.nodes.items ≤ length t → 1 ≤ length u.nodes.items → All SymFits u.nodes.items
    → All (λ (r : Route SymNode). IsNoMore m r.node r.path) (sym_routes u.nodes.items)
    → text ≡ refutation_text limit f.name m.options u.nodes.items → IsRefuted f m nodes limit text
refutation_is f m nodes limit t u text p count small h kept few some fit short printed = record {
  refutation = record { limit = limit; name = f.name; options = m.options; tree = u };
  is_refutation = record {
    limit = (omega arith, omega arith);
    name = named f;
    options = p.options;
    count = (some, (let most = count.1 in let within = h.few in omega (arith, few, within, most)));
    fit = fit;
  };
  limited = refl;
  named = refl;
  chosen = refl;
  few = (let within = h.few in omega (arith, few, within));
  accepted = kept;
  none = none_below;
  short = short;
  printed = printed;
}
  where
    none_below : NoneBelow m limit
    none_below x is = elim (cases_lt (cost_of m x) limit) [
      | inr ge ↦ ge
      | inl less ↦ absurd (refuted m (Some limit) t p.own p.extended p.fit p.options (standing m (Some limit) t h.certificate) h.closed x.values (is, less))
    ]

-- ---- by a table and options that are others

pub refuting_for : (t u : Table) (o p : Options) (nodes limit : ℕ) (text : List ℕ) (status : Status) (out : List ℕ) → t ≡ u → o ≡ p
    → IsRefuting t o nodes limit text status out → IsRefuting u p nodes limit text status out
refuting_for t u o p nodes limit text status out e k h =
    subst (λ (w : Table). IsRefuting w p nodes limit text status out) e
    (subst (λ (q : Options). IsRefuting t q nodes limit text status out) k h)

pub judged_for : (t u : Table) (f : Function) (r : Refutation) (status : Status) (out : List ℕ) → t ≡ u → IsJudgedSo t f r status out
    → IsJudgedSo u f r status out
judged_for t u f r status out e h = subst (λ (w : Table). IsJudgedSo w f r status out) e h

-- ---- a refutation of this function, or of another

pub told_same : (t : Table) (f : Function) (text : List ℕ) (r : Refutation) (result : Result Output NoMemory) → IsRefutationRead text r
    → IfOk result (λ out. IsJudgedSo t f r out.status out.text.items)
    → IfOk result (λ out. IsRefutationTold t f text out.status out.text.items)
told_same t f text r (Err e) read judged = tt
told_same t f text r (Ok out) read judged = record { refutation = r; read = read; told = inr judged }

pub told_other : (t : Table) (f : Function) (text : List ℕ) (r : Refutation) (is : Bool) (result : Result Output NoMemory)
    → IsRefutationRead text r → IsTrue is ↔ (r.name ≡ f.name) → is ≡ false
    → IfOk result (λ out. out.status ≡ No Name) → IfOk result (λ out. out.text.items ≡ no_line Name)
    → IfOk result (λ out. IsRefutationTold t f text out.status out.text.items)
told_other t f text r is (Err e) read same not ends printed = tt
told_other t f text r is (Ok out) read same not ends printed = record {
  refutation = r;
  read = read;
  told = inl (record { other = λ e. true≢false (sym (same.1 e) ∙ not); ends = ends; printed = printed });
}

-- ---- parts of an input

pub refutation_first : (input part : List ℕ) (e : Refused) → part ≡ first_part input → RefusesFunction part e → RefusesRefutationCheck input e
refutation_first input part NoRoom is h = tt
refutation_first input part (TextFault line code) is h = subst (λ (t : List ℕ). IsFaultOf t line code) is h
refutation_first input part (BadSecond line) is h = absurd h

pub refutation_second : (input first second : List ℕ) (f : Function) (e : Refused) → first ≡ first_part input → second ≡ second_part input
    → IsRead first f → RefusesRefutation second e → RefusesRefutationCheck input e
refutation_second input first second f NoRoom a b read h = tt
refutation_second input first second f (TextFault line code) a b read h = absurd h
refutation_second input first second f (BadSecond line) a b read h = record {
  function = f;
  read = subst (λ (t : List ℕ). IsRead t f) a read;
  bad = subst (λ (t : List ℕ). IsFirstBad t line) b h;
}

pub check_is : (t : Table) (input first second : List ℕ) (f : Function) (status : Status) (out : List ℕ) → first ≡ first_part input
    → second ≡ second_part input → IsRead first f → IsRefutationTold t f second status out → IsRefutationCheck t input status out
check_is t input first second f status out a b read told = record {
  function = f;
  read = subst (λ (x : List ℕ). IsRead x f) a read;
  told = subst (λ (x : List ℕ). IsRefutationTold t f x status out) b told;
}
