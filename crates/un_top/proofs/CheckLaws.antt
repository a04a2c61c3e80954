-- The answer to a view of a report is that to the report.
use Rattle.std.proofs.Common.{◌≡◌, ℕ, List, OnOk, IfOk, All, length, refl, sym, subst, arith}
use denote.RawPtr.{null_ptr}
use Rattle.std.specs.declared.alloc.Global.{Global}
use Rattle.std.specs.declared.result.Result.{Result}
use Rattle.std.specs.declared.result.Result.TheVariants.{Ok, Err}
use Rattle.un_base.specs.declared.memory_error.NoMemory.{NoMemory}
use Rattle.un_isa.specs.Fit.{IsFit}
use Rattle.un_isa.specs.declared.table.Table.{Table}
use Rattle.un_ir.specs.declared.function.Function.{Function}
use Rattle.un_model.specs.Options.{AreOptions}
use Rattle.un_model.specs.declared.model.Model.{Model}
use Rattle.un_problem.specs.Problems.{IsModelOf}
use Rattle.un_problem.proofs.ProblemLaws.{problem}
use Rattle.un_outside.specs.declared.status.NoCause.{NoCause}
use Rattle.un_report.specs.Views.{IsViewOf}
use Rattle.un_report.specs.declared.report.Report.{Report}
use Rattle.un_report.specs.declared.view.ReportView.{ReportView}
use Rattle.un_report_reader.specs.Readings.{IsView, IsViewRead}
use Rattle.un_report_reader.proofs.LimitLaws.{limits_small, options_of}
use Rattle.un_report_reader.proofs.ViewLaws.{report_made, report_read}
use Rattle.un_runs.specs.Inputs.{first_part, second_part}
use Rattle.un_runs.specs.Refusals.{RefusesFunction, IsFaultOf}
use Rattle.un_runs.specs.declared.refused.Refused.{Refused}
use Rattle.un_runs.specs.declared.refused.Refused.TheVariants.{NoMemory as NoRoom, TextFault, BadSecond}
use Rattle.un_reader.specs.Read.{IsRead}
use Rattle.un_report_reader.specs.FirstBad.{IsFirstBad}
use Rattle.un_outside.specs.declared.status.Status.{Status}
use Rattle.un_tree.specs.Texts.{Fits, tree_text}
use Rattle.un_tree.specs.declared.node.Node.{Node}
use Rattle.un_check.specs.Causes.{IsTold, AreLines, claim_with}
use Rattle.un_check.specs.Laws.{BoundsAll, HasCodeFor}
use Rattle.un_check.specs.Sound.{IsSound, IsSoundAnswer}
use Rattle.un_check.proofs.OneModel.{model_one}
use Rattle.un_check.proofs.SoundBounds.{sound_bounds}
use Rattle.un_check.proofs.SoundCodes.{sound_codes}
use Rattle.un_top.specs.Checks.{IsAnswered, IsCheckOf, IsCheck, RefusesReport, RefusesCheck}

-- the report that a view is of
abbrev report_of : (g : Global) (v : ReportView) → IsView v → Report
report_of g v h = record {
  version = v.version;
  name = v.name.now;
  options = v.options;
  nodes = v.nodes;
  answer = v.answer;
  tree = record {
    nodes = record {
      ptr = null_ptr;
      len = length h.tree.nodes;
      cap = length h.tree.nodes;
      alloc = g;
      items = h.tree.nodes;
      ok = (refl, omega arith);
      small =
          (let few = h.count.1 in let most = (limits_small v.version).lines in let long = h.tree.are.0 in omega (arith, few, most, long));
    };
  };
}

-- a view's lines are nodes
pub view_lines : (text : List ℕ) (v : ReportView) → IsViewRead text v → AreLines v.count v.tree.now
view_lines text v h = let lines = h.is_view.tree in
    record { nodes = lines.nodes; fit = lines.are.1; spelled = lines.spelled; counted = sym lines.are.0 }

-- a sound answer is one for each model of the function, which are one
sound_by : (t : Table) (f : Function) (r : Report) (m : Model) → IsSound t f r → IsModelOf t f r.options m
    → IsSoundAnswer m r.tree.nodes.items r.answer
sound_by t f r m h is =
    subst (λ (n : Model). IsSoundAnswer n r.tree.nodes.items r.answer) (model_one t f r.options h.model m h.is_model is) h.sound.answer

-- so its code does what the function does, for its cost
code_by : (t : Table) (f : Function) (r : Report) (told : Result (Unit {0}) NoCause) → IsFit t → AreOptions r.options
    → OnOk told (IsSound t f r) → OnOk told ((m : Model) → IsModelOf t f r.options m → HasCodeFor f m r.answer)
code_by t f r (Err cause) fit options sound = tt
code_by t f r (Ok all) fit options sound = λ m is.
    sound_codes f m r.tree.nodes.items r.answer (problem t f r.options m fit options is) (sound_by t f r m sound is)

-- and no solution costs less than its bound
bounds_by : (t : Table) (f : Function) (r : Report) (told : Result (Unit {0}) NoCause) → IsFit t → AreOptions r.options
    → OnOk told (IsSound t f r) → OnOk told ((m : Model) → IsModelOf t f r.options m → BoundsAll m r.answer)
bounds_by t f r (Err cause) fit options sound = tt
bounds_by t f r (Ok all) fit options sound = λ m is.
    sound_bounds f m r.tree.nodes.items r.answer (problem t f r.options m fit options is) (sound_by t f r m sound is)

pub answered : (by : ℕ → Table) (g : Global) (f : Function) (text : List ℕ) (v : ReportView) (result : Result (Result (Unit {0}) NoCause) NoMemory)
    → IsFit (by v.version) → IsViewRead text v
    → ((nodes : List Node) → All Fits nodes → v.tree.now ≡ tree_text nodes
    → IfOk result (IsTold (by v.version) f v.options (claim_with v nodes)))
    → ((r : Report) → IsViewOf r v → All Fits r.tree.nodes.items → IfOk result (λ told. OnOk told (IsSound (by v.version) f r)))
    → IfOk result (IsAnswered by f text v.answer)
answered by g f text v (Err e) fit h told sound = tt
answered by g f text v (Ok answer) fit h told sound =
    let r : Report = report_of g v h.is_view in
    let made = report_made v r h.is_view refl refl refl refl refl refl in
    let lines = h.is_view.tree in
    let is_sound = sound r made.1 lines.are.1 in
    let options = options_of v.version v.options h.is_view.options in
    record {
      report = r;
      reported = report_read text v r h made.0 made.1;
      answer = refl;
      told = told lines.nodes lines.are.1 lines.spelled;
      sound = is_sound;
      code = code_by (by v.version) f r answer fit options is_sound;
      bounds = bounds_by (by v.version) f r answer fit options is_sound;
    }

-- ---- parts of an input

pub check_first : (input part : List ℕ) (e : Refused) → part ≡ first_part input → RefusesFunction part e → RefusesCheck input e
check_first input part NoRoom is h = tt
check_first input part (TextFault line code) is h = subst (λ (t : List ℕ). IsFaultOf t line code) is h
check_first input part (BadSecond line) is h = absurd h

pub check_second : (input first second : List ℕ) (f : Function) (e : Refused) → first ≡ first_part input → second ≡ second_part input
    → IsRead first f → RefusesReport second e → RefusesCheck input e
check_second input first second f NoRoom a b read h = tt
check_second input first second f (TextFault line code) a b read h = absurd h
check_second input first second f (BadSecond line) a b read h = record {
  function = f;
  read = subst (λ (t : List ℕ). IsRead t f) a read;
  bad = subst (λ (t : List ℕ). IsFirstBad t line) b h;
}

pub check_is : (input first second : List ℕ) (f : Function) (status : Status) (out : List ℕ) → first ≡ first_part input
    → second ≡ second_part input → IsRead first f → IsCheckOf f second status out → IsCheck input status out
check_is input first second f status out a b read check = record {
  function = f;
  read = subst (λ (t : List ℕ). IsRead t f) a read;
  check = subst (λ (t : List ℕ). IsCheckOf f t status out) b check;
}
