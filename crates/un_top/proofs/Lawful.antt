-- What is so of every command's behaviour: a text has one fault at most, and with it nothing else; one late answer at most, and with it no
-- output; a good text has neither; and an output ends a run as it should.
use Rattle.std.proofs.Common.{ℕ, ◌≡◌, ◌<◌, ◌≤◌, ◌⊎◌, inl, inr, Bool, List, length, refl, subst, sym, ap, ◌∙◌, arith}
use Rattle.std.specs.declared.result.Result.{Result}
use Rattle.std.specs.declared.result.Result.TheVariants.{Ok, Err}
use Rattle.un_baseline.specs.RoomyOptions.{AreRoomyFor}
use Rattle.un_baseline.specs.SpilledCost.{spill_cost}
use Rattle.un_commands.specs.Alloc.{model_options}
use Rattle.un_commands.specs.declared.command.ReadingCommand.{ReadingCommand}
use Rattle.un_commands.specs.declared.command.ReadingCommand.TheVariants.{Alloc, Run, RunCode, Check, Improve, AllocTable, CheckTable, RunCodeTable, Refute, RefuteCheck}
use Rattle.un_commands.specs.declared.command.ReadingCommand.TheVariants.{Steps, StepsCheck}
use Rattle.un_commands.specs.declared.command.SearchOptions.{SearchOptions}
use Rattle.un_faults.specs.declared.fault.Fault.TheVariants.{TooMany}
use Rattle.un_ir.specs.declared.function.Function.{Function}
use Rattle.un_isa.specs.Hexagon.{HEXAGON}
use Rattle.un_isa.specs.Versions.{table_of}
use Rattle.un_isa.specs.declared.table.Table.{Table}
use Rattle.un_isa.specs.declared.table.TheConstants.{LAST}
use Rattle.un_model.specs.Cost.{cost_of}
use Rattle.un_model.specs.declared.model.Model.{Model}
use Rattle.un_model.specs.declared.model.Options.{Options}
use Rattle.un_model.specs.declared.model.Solution.{Solution}
use Rattle.un_outside.specs.declared.status.NoCause.{NoCause}
use Rattle.un_outside.specs.declared.status.NoCause.TheVariants.{Name, Strict, Closed, Mirror, Short as Torn}
use Rattle.un_outside.specs.declared.status.Status.{Status}
use Rattle.un_outside.specs.declared.status.Status.TheVariants.{Done, Infeasible, Spent, TextFault, Usage, ReadFault, WriteFault, NoMemory, No}
use Rattle.un_outside.specs.declared.status.Status.TheVariants.{BadReport, BadTable, Found, Cut, NoLog, BadSteps}
use Rattle.un_reader.specs.Read.{IsRead, too_long}
use Rattle.un_top.proofs.RefutationLines.{one_refutation_line, refutation_not_bad}
use Rattle.un_refutation.specs.declared.refutation.Refutation.{Refutation}
use Rattle.un_refutes.specs.declared.verdict.SymVerdict.{SymVerdict}
use Rattle.un_refutes.specs.declared.verdict.SymVerdict.TheVariants.{Yes, NotStrict, NotClosed, NotMirror, Short}
use Rattle.un_report.specs.declared.report.Answered.{Answered}
use Rattle.un_report.specs.declared.report.Answered.TheVariants.{Code, Infeasible as NoSolution, Spent as Stopped}
use Rattle.un_report_reader.proofs.Alone.{numbers_not_bad}
use Rattle.un_runs.proofs.OneAnswer.{one_source_line, one_run_line, one_code_line, good_source, good_texts, good_code, source_run_good, run_good, code_run_good}
use Rattle.un_runs.specs.Inputs.{first_part, second_part, middle_part, last_part}
use Rattle.un_runs.specs.Refusals.{IsBadSourceRun, IsBadCodeRun}
use Rattle.un_target.proofs.TableLaws.{one_cause, not_both}
use Rattle.un_target.specs.Causes.{code_of}
use Rattle.un_top.specs.Behaviours.{Behaviour, behaviour_of, of_alloc, of_run, of_run_code, of_check, of_improve, of_alloc_table, of_check_table, of_run_code_table, IsBadPart, IsPartFault, IsDone, IsSearched}
use Rattle.un_top.specs.Behaviours.{IsChecked, IsRefuteEnd, EndsSearch, EndsCheck, EndsImprove, EndsRefute, of_refute, of_refutation, of_steps, of_steps_check}
use Rattle.un_top.specs.Checks.{IsBadCheck, told_status}
use Rattle.un_top.specs.Improvements.{IsAnswerTo, IsBadNumbers}
use Rattle.un_top.specs.Refutations.{IsAnswerBelow, IsOfAnother, IsJudgedSo, IsBadRefutation, verdict_status}
use Rattle.un_top.specs.Reports.{IsReportOf, status_of}
use Rattle.un_top.specs.Runs.{IsLate}
use Rattle.un_top.specs.Tables.{IsGoodTable, IsCodeOf, IsLateBy}
use Rattle.un_top.specs.declared.limits.TheConstants.{INPUT}
use Rattle.un_top.proofs.FaultLaws.{fault_unique, read_has_no_fault}
use Rattle.un_top.proofs.GeneratedLaws.{code_done}
use Rattle.un_top.proofs.ReportLines.{one_report_line, report_not_bad, one_numbers_line}
use Rattle.un_top.proofs.StepLaws.{log_read, log_late_read, log_is_late, log_late_once, log_not_late, log_good_late, log_ends, ends_log}
use Rattle.un_top.proofs.StepLaws.{told_read, told_late_read, told_is_late, told_late_once, told_not_late, told_good_late, told_ends, ends_judge}

pub record IsLawful (b : Behaviour) : Type 0 where
  pub too_long : (text : List ℕ) → b.most < length text → b.Fault text 0 13
  pub one_fault : (text : List ℕ) (l c line code : ℕ) → b.Fault text l c → b.Fault text line code → (l ≡ line) × (c ≡ code)
  pub output_fault : (text : List ℕ) (status : Status) (out : List ℕ) (line code : ℕ) → b.Output text status out → b.Fault text line code → ⊥
  pub late_fault : (text : List ℕ) (status : Status) (line code : ℕ) → b.Late text status → b.Fault text line code → ⊥
  pub no_fault : (text : List ℕ) (line code : ℕ) → b.Faultless text → b.Fault text line code → ⊥
  pub good_fault : (text : List ℕ) (line code : ℕ) → b.Good text → b.Fault text line code → ⊥
  pub is_late : (text : List ℕ) (status : Status) → b.Late text status → IsLate status
  pub one_late : (text : List ℕ) (s t : Status) → b.Late text s → b.Late text t → s ≡ t
  pub output_late : (text : List ℕ) (status : Status) (out : List ℕ) (late : Status) → b.Output text status out → b.Late text late → ⊥
  pub good_late : (text : List ℕ) (late : Status) → b.Good text → b.Late text late → b.EndsWell text late
  pub ends : (text : List ℕ) (status : Status) (out : List ℕ) → b.Output text status out → b.Ending status
  pub well : (text : List ℕ) (status : Status) (out : List ℕ) → b.Output text status out → b.EndsWell text status
  pub short : (text : List ℕ) → b.EndsWell text NoMemory

-- ---- parts of inputs

part_fault : (text : List ℕ) (l c line code : ℕ) → IsPartFault text l c → IsPartFault text line code → (l ≡ line) × (c ≡ code)
part_fault text l c line code (inl a) (inl b) = (a.no_line ∙ sym b.no_line, a.too_many ∙ sym b.too_many)
part_fault text l c line code (inl a) (inr b) = absurd (let long = a.long in let short = b.0 in omega (arith, long, short))
part_fault text l c line code (inr a) (inl b) = absurd (let long = b.long in let short = a.0 in omega (arith, long, short))
part_fault text l c line code (inr a) (inr b) = fault_unique (first_part text) l c line code a.1 b.1

-- a function in the first part of a short input has no fault
read_part : (text : List ℕ) (f : Function) (line code : ℕ) → length text ≤ INPUT → IsRead (first_part text) f → IsPartFault text line code → ⊥
read_part text f line code few read (inl long) = let is_long = long.long in omega (arith, is_long, few)
read_part text f line code few read (inr fault) = read_has_no_fault (first_part text) f line code read fault.1

-- what is refused is a line of the second part
bad_line : (bad : List ℕ → ℕ → Type 0) (text : List ℕ) (status : Status) → IsBadPart bad text status
    → (line : ℕ) × (status ≡ BadReport line) × (length text ≤ INPUT) × bad text line
bad_line bad text (BadReport line) h = (line, refl, h.0, h.1)
bad_line bad text Done h = absurd h
bad_line bad text Infeasible h = absurd h
bad_line bad text Spent h = absurd h
bad_line bad text (TextFault line code) h = absurd h
bad_line bad text (Usage place) h = absurd h
bad_line bad text ReadFault h = absurd h
bad_line bad text WriteFault h = absurd h
bad_line bad text NoMemory h = absurd h
bad_line bad text (No cause) h = absurd h
bad_line bad text (Found cost) h = absurd h
bad_line bad text Cut h = absurd h
bad_line bad text (BadTable code) h = absurd h
bad_line bad text (NoLog i) h = absurd h
bad_line bad text (BadSteps n) h = absurd h

part_late : (bad : List ℕ → ℕ → Type 0) (text : List ℕ) (status : Status) → IsBadPart bad text status → IsLate status
part_late bad text status h = let at = bad_line bad text status h in subst IsLate (sym at.1) tt

one_part : (bad : List ℕ → ℕ → Type 0) → ((text : List ℕ) (m n : ℕ) → bad text m → bad text n → m ≡ n) → (text : List ℕ) (s t : Status)
    → IsBadPart bad text s → IsBadPart bad text t → s ≡ t
one_part bad one text s t h k =
    let a = bad_line bad text s h in
    let b = bad_line bad text t k in
    a.1 ∙ (ap BadReport (one text a.0 b.0 a.3 b.3) ∙ sym b.1)

-- ---- the report of a function

search_ends : (status : Status) (a : Answered) → status ≡ status_of a → EndsSearch status
search_ends status (Code cost bound code s) e = inl e
search_ends status NoSolution e = inr (inl e)
search_ends status Stopped e = inr (inr e)

ends_searched : (status : Status) → EndsSearch status → IsSearched status
ends_searched status (inl e) = subst IsSearched (sym e) tt
ends_searched status (inr (inl e)) = subst IsSearched (sym e) tt
ends_searched status (inr (inr e)) = subst IsSearched (sym e) tt

-- where each name can be kept in a frame slot of its own there is code
roomy_done : (t : Table) (o : Options) (nodes : ℕ) (text : List ℕ) (status : Status) (out : List ℕ)
    → IsReportOf t o nodes text status out
    → ((f : Function) → IsRead text f → AreRoomyFor f o) → IsDone status
roomy_done t o nodes text status out h roomy =
    let f = h.function in
    let m = h.model in
    let options : m.options ≡ o = ap (λ (x : Model). x.options) h.is_model.is_model in
    let room : AreRoomyFor f m.options = subst (λ (p : Options). AreRoomyFor f p) (sym options) (roomy f h.read) in
    subst IsDone (sym (h.found.ends ∙ code_done (spill_cost m.ext.table f h.is_model.ext.live) h.found.report.answer (h.found.is_so room))) tt

alloc_lawful : (o : SearchOptions) → IsLawful (of_alloc o)
alloc_lawful o = record {
  too_long = λ text long. record { fault = TooMany; is = too_long long; coded = refl };
  one_fault = fault_unique;
  output_fault = λ text status out line code h f. read_has_no_fault text h.function line code h.read f;
  late_fault = λ text status line code late f. late;
  no_fault = λ text line code good f. read_has_no_fault text good.0 line code good.1 f;
  good_fault = λ text line code good f. read_has_no_fault text good.0 line code good.1 f;
  is_late = λ text status late. absurd late;
  one_late = λ text s t a b. absurd a;
  output_late = λ text status out late h l. l;
  good_late = λ text late good l. absurd l;
  ends = λ text status out h. search_ends status h.found.report.answer h.found.ends;
  well = λ text status out h. (
    ends_searched status (search_ends status h.found.report.answer h.found.ends),
    roomy_done (table_of LAST) (model_options o) o.nodes text status out h,
  );
  short = λ text. (tt, λ roomy. tt);
}

-- ---- what a function does from a start

done_well : (status : Status) → status ≡ Done → IsDone status
done_well status e = subst IsDone (sym e) tt

run_lawful : IsLawful of_run
run_lawful = record {
  too_long = λ text long. inl (record { long = long; no_line = refl; too_many = refl });
  one_fault = part_fault;
  output_fault = λ text status out line code h. read_part text h.2.function line code h.1 h.2.read;
  late_fault = λ text status line code late. (let at = bad_line IsBadSourceRun text status late in
      read_part text at.3.function line code at.2 at.3.read);
  no_fault = λ text line code good. read_part text good.1.0 line code good.0 good.1.1;
  good_fault = λ text line code good. read_part text good.1.function line code good.0 good.1.read;
  is_late = part_late IsBadSourceRun;
  one_late = one_part IsBadSourceRun one_source_line;
  output_late = λ text status out late h l. (let at = bad_line IsBadSourceRun text late l in
      good_source text at.0 (source_run_good text out h.2) at.3);
  good_late = λ text late good l. (let at = bad_line IsBadSourceRun text late l in absurd (good_source text at.0 good.1 at.3));
  ends = λ text status out h. h.0;
  well = λ text status out h. done_well status h.0;
  short = λ text. tt;
}

-- ---- what code does from a start

run_code_lawful : IsLawful of_run_code
run_code_lawful = record {
  too_long = λ text long. record { long = long; no_line = refl; too_many = refl };
  one_fault = λ text l c line code a b. (a.no_line ∙ sym b.no_line, a.too_many ∙ sym b.too_many);
  output_fault = λ text status out line code h f. (let long = f.long in let short = h.1 in omega (arith, long, short));
  late_fault = λ text status line code late f. (let at = bad_line IsBadCodeRun text status late in
      let long = f.long in let short = at.2 in omega (arith, long, short));
  no_fault = λ text line code good f. (let long = f.long in omega (arith, long, good));
  good_fault = λ text line code good f. (let long = f.long in let short = good.0 in omega (arith, long, short));
  is_late = part_late IsBadCodeRun;
  one_late = one_part IsBadCodeRun one_code_line;
  output_late = λ text status out late h l. (let at = bad_line IsBadCodeRun text late l in
      good_code text at.0 (code_run_good HEXAGON text out h.2) at.3);
  good_late = λ text late good l. (let at = bad_line IsBadCodeRun text late l in absurd (good_code text at.0 good.1 at.3));
  ends = λ text status out h. h.0;
  well = λ text status out h. done_well status h.0;
  short = λ text. tt;
}

-- ---- the answer to a report

check_ends : (status : Status) (told : Result (Unit {0}) NoCause) → status ≡ told_status told → EndsCheck status
check_ends status (Ok all) e = inl e
check_ends status (Err cause) e = inr (cause, e)

ends_checked : (status : Status) → EndsCheck status → IsChecked status
ends_checked status (inl e) = subst IsChecked (sym e) tt
ends_checked status (inr refused) = subst IsChecked (sym refused.1) tt

check_lawful : IsLawful of_check
check_lawful = record {
  too_long = λ text long. inl (record { long = long; no_line = refl; too_many = refl });
  one_fault = part_fault;
  output_fault = λ text status out line code h. read_part text h.1.function line code h.0 h.1.read;
  late_fault = λ text status line code late. (let at = bad_line IsBadCheck text status late in
      read_part text at.3.function line code at.2 at.3.read);
  no_fault = λ text line code good. read_part text good.1.0 line code good.0 good.1.1;
  good_fault = λ text line code good. read_part text good.1.function line code good.0 good.1.read;
  is_late = part_late IsBadCheck;
  one_late = one_part IsBadCheck (λ text m n a b. one_report_line (second_part text) m n a.bad b.bad);
  output_late = λ text status out late h l. (let at = bad_line IsBadCheck text late l in
      let own = h.1.check.answered in report_not_bad (second_part text) own.report at.0 own.reported at.3.bad);
  good_late = λ text late good l. (let at = bad_line IsBadCheck text late l in
      absurd (report_not_bad (second_part text) good.1.report at.0 good.1.reported at.3.bad));
  ends = λ text status out h. check_ends status h.1.check.told h.1.check.ends;
  well = λ text status out h. ends_checked status (check_ends status h.1.check.told h.1.check.ends);
  short = λ text. tt;
}

-- ---- the report of a function, from numbers on

improve_ends : (f : Function) (m : Model) (nodes : ℕ) (s : Solution) (status : Status) (out : List ℕ) → IsAnswerTo f m nodes s status out
    → EndsImprove status
improve_ends f m nodes s status out (inl told) = inr (told.clause, told.ends)
improve_ends f m nodes s status out (inr h) = inl (h.found.ends ∙ code_done (cost_of m s) h.found.report.answer h.found.is_so)

ends_improved : (status : Status) → EndsImprove status → IsChecked status
ends_improved status (inl e) = subst IsChecked (sym e) tt
ends_improved status (inr refused) = subst IsChecked (sym refused.1) tt

improve_lawful : (o : SearchOptions) → IsLawful (of_improve o)
improve_lawful o = record {
  too_long = λ text long. inl (record { long = long; no_line = refl; too_many = refl });
  one_fault = part_fault;
  output_fault = λ text status out line code h. read_part text h.1.function line code h.0 h.1.read;
  late_fault = λ text status line code late. (let at = bad_line IsBadNumbers text status late in
      read_part text at.3.function line code at.2 at.3.read);
  no_fault = λ text line code good. read_part text good.1.0 line code good.0 good.1.1;
  good_fault = λ text line code good. read_part text good.1.function line code good.0 good.1.read;
  is_late = part_late IsBadNumbers;
  one_late = one_part IsBadNumbers (λ text m n a b. one_numbers_line (second_part text) m n a.bad b.bad);
  output_late = λ text status out late h l. (let at = bad_line IsBadNumbers text late l in
      let own = h.1.told in numbers_not_bad (second_part text) own.numbers.values at.0 own.read at.3.bad);
  good_late = λ text late good l. (let at = bad_line IsBadNumbers text late l in
      absurd (numbers_not_bad (second_part text) good.1.values at.0 good.1.numbers at.3.bad));
  ends = λ text status out h. (let own = h.1.told in improve_ends h.1.function own.model o.nodes own.numbers status out own.answer);
  well = λ text status out h. (let own = h.1.told in
      ends_improved status (improve_ends h.1.function own.model o.nodes own.numbers status out own.answer));
  short = λ text. tt;
}

-- ---- the same by a table that is a part of the input

-- a text is that of no table by one cause at most, and by none where it is that of one
one_code : (text : List ℕ) (c d : ℕ) → IsCodeOf text c → IsCodeOf text d → c ≡ d
one_code text c d h k = h.coded ∙ (ap code_of (one_cause text h.cause k.cause h.bad k.bad) ∙ sym k.coded)

good_table : (text : List ℕ) (code : ℕ) → IsGoodTable text → IsCodeOf text code → ⊥
good_table text code g h = not_both text g.table h.cause g.is_table h.bad

-- what is refused is a table, or a line
abbrev Cases : (ℕ → Type 0) → (ℕ → Type 0) → Status → Type 0
Cases table line status = ((code : ℕ) × (status ≡ BadTable code) × table code) ⊎ ((n : ℕ) × (status ≡ BadReport n) × line n)

late_cases : (table line : ℕ → Type 0) (status : Status) → IsLateBy table line status → Cases table line status
late_cases table line (BadTable code) h = inl (code, refl, h)
late_cases table line (BadReport n) h = inr (n, refl, h)
late_cases table line Done h = absurd h
late_cases table line Infeasible h = absurd h
late_cases table line Spent h = absurd h
late_cases table line (TextFault l c) h = absurd h
late_cases table line (Usage place) h = absurd h
late_cases table line ReadFault h = absurd h
late_cases table line WriteFault h = absurd h
late_cases table line NoMemory h = absurd h
late_cases table line (No cause) h = absurd h
late_cases table line (Found cost) h = absurd h
late_cases table line Cut h = absurd h
late_cases table line (NoLog i) h = absurd h
late_cases table line (BadSteps n) h = absurd h

-- so neither may be where both are impossible
no_late : (table line : ℕ → Type 0) (status : Status) → ((code : ℕ) → table code → ⊥) → ((n : ℕ) → line n → ⊥) → IsLateBy table line status → ⊥
no_late table line status a b h = by (late_cases table line status h)
  where
    by : Cases table line status → ⊥
    by (inl at) = a at.0 at.2
    by (inr at) = b at.0 at.2

late_by : (table line : ℕ → Type 0) (status : Status) → IsLateBy table line status → IsLate status
late_by table line status h = by (late_cases table line status h)
  where
    by : Cases table line status → IsLate status
    by (inl at) = subst IsLate (sym at.1) tt
    by (inr at) = subst IsLate (sym at.1) tt

-- and it is one of them, where each is one and not both are
one_late_by : (table line : ℕ → Type 0) (s t : Status) → ((c d : ℕ) → table c → table d → c ≡ d) → ((m n : ℕ) → line m → line n → m ≡ n)
    → ((c n : ℕ) → table c → line n → ⊥) → IsLateBy table line s → IsLateBy table line t → s ≡ t
one_late_by table line s t one_table one_line apart h k = by (late_cases table line s h) (late_cases table line t k)
  where
    by : Cases table line s → Cases table line t → s ≡ t
    by (inl a) (inl b) = a.1 ∙ (ap BadTable (one_table a.0 b.0 a.2 b.2) ∙ sym b.1)
    by (inl a) (inr b) = absurd (apart a.0 b.0 a.2 b.2)
    by (inr a) (inl b) = absurd (apart b.0 a.0 b.2 a.2)
    by (inr a) (inr b) = a.1 ∙ (ap BadReport (one_line a.0 b.0 a.2 b.2) ∙ sym b.1)

alloc_table_lawful : (o : SearchOptions) → IsLawful (of_alloc_table o)
alloc_table_lawful o = record {
  too_long = λ text long. inl (record { long = long; no_line = refl; too_many = refl });
  one_fault = part_fault;
  output_fault = λ text status out line code h. read_part text h.1.report.function line code h.0 h.1.report.read;
  late_fault = λ text status line code late f.
      no_late _ _ status (λ c h. read_part text h.read.0 line code h.few h.read.1 f) (λ n h. h) late;
  no_fault = λ text line code good. read_part text good.1.0 line code good.0 good.1.1;
  good_fault = λ text line code good. read_part text good.1.function line code good.0 good.1.read;
  is_late = λ text. late_by _ _;
  one_late = λ text s t. one_late_by _ _ s t (λ c d h k. one_code (second_part text) c d h.refused k.refused) (λ m n h k. absurd h) (λ c n h k. k);
  output_late = λ text status out late h l.
      no_late _ _ late (λ c k. good_table (second_part text) c (record { table = h.1.table; is_table = h.1.is_table }) k.refused) (λ n k. k) l;
  good_late = λ text late good l. absurd (no_late _ _ late (λ c k. good_table (second_part text) c good.1.table k.refused) (λ n k. k) l);
  ends = λ text status out h. search_ends status h.1.report.found.report.answer h.1.report.found.ends;
  well = λ text status out h. (
    ends_searched status (search_ends status h.1.report.found.report.answer h.1.report.found.ends),
    roomy_done h.1.table (model_options o) o.nodes (first_part text) status out h.1.report,
  );
  short = λ text. (tt, λ roomy. tt);
}

check_table_lawful : IsLawful of_check_table
check_table_lawful = record {
  too_long = λ text long. inl (record { long = long; no_line = refl; too_many = refl });
  one_fault = part_fault;
  output_fault = λ text status out line code h. read_part text h.1.function line code h.0 h.1.read;
  late_fault = λ text status line code late f.
      no_late _ _ status (λ c h. read_part text h.read.0 line code h.few h.read.1 f) (λ n h. read_part text h.read.0 line code h.few h.read.1 f) late;
  no_fault = λ text line code good. read_part text good.1.0 line code good.0 good.1.1;
  good_fault = λ text line code good. read_part text good.1.function line code good.0 good.1.read;
  is_late = λ text. late_by _ _;
  one_late = λ text s t. one_late_by _ _ s t (λ c d h k. one_code (middle_part text) c d h.refused k.refused)
      (λ m n h k. one_report_line (last_part text) m n h.refused k.refused) (λ c n h k. good_table (middle_part text) c k.table h.refused);
  output_late = λ text status out late h l. (let own = h.1.check.answered in
      no_late _ _ late (λ c k. good_table (middle_part text) c (record { table = h.1.table; is_table = h.1.is_table }) k.refused)
      (λ n k. report_not_bad (last_part text) own.report n own.reported k.refused) l);
  good_late = λ text late good l.
      absurd (no_late _ _ late (λ c k. good_table (middle_part text) c good.1.table k.refused)
      (λ n k. report_not_bad (last_part text) good.1.report n good.1.reported k.refused) l);
  ends = λ text status out h. check_ends status h.1.check.told h.1.check.ends;
  well = λ text status out h. ends_checked status (check_ends status h.1.check.told h.1.check.ends);
  short = λ text. tt;
}

run_code_table_lawful : IsLawful of_run_code_table
run_code_table_lawful = record {
  too_long = λ text long. record { long = long; no_line = refl; too_many = refl };
  one_fault = λ text l c line code a b. (a.no_line ∙ sym b.no_line, a.too_many ∙ sym b.too_many);
  output_fault = λ text status out line code h f. (let long = f.long in let short = h.1 in omega (arith, long, short));
  late_fault = λ text status line code late f.
      no_late _ _ status (λ c h. (let long = f.long in let short = h.few in omega (arith, long, short)))
      (λ n h. (let long = f.long in let short = h.few in omega (arith, long, short))) late;
  no_fault = λ text line code good f. (let long = f.long in omega (arith, long, good));
  good_fault = λ text line code good f. (let long = f.long in let short = good.0 in omega (arith, long, short));
  is_late = λ text. late_by _ _;
  one_late = λ text s t. one_late_by _ _ s t (λ c d h k. one_code (middle_part text) c d h.refused k.refused)
      (λ m n h k. one_run_line (first_part text) (last_part text) m n h.refused k.refused)
      (λ c n h k. good_table (middle_part text) c k.table h.refused);
  output_late = λ text status out late h l.
      no_late _ _ late (λ c k. good_table (middle_part text) c (record { table = h.2.table; is_table = h.2.is_table }) k.refused)
      (λ n k. good_texts (first_part text) (last_part text) n (run_good h.2.table (first_part text) (last_part text) out h.2.run) k.refused) l;
  good_late = λ text late good l.
      absurd (no_late _ _ late (λ c k. good_table (middle_part text) c good.1.0 k.refused)
      (λ n k. good_texts (first_part text) (last_part text) n good.1.1 k.refused) l);
  ends = λ text status out h. h.0;
  well = λ text status out h. done_well status h.0;
  short = λ text. tt;
}

-- ---- whether a function has code below a limit

below_ends : (f : Function) (m : Model) (nodes limit : ℕ) (status : Status) (out : List ℕ) → IsAnswerBelow f m nodes limit status out
    → EndsRefute status
below_ends f m nodes limit Done out h = inl refl
below_ends f m nodes limit Infeasible out h = absurd h
below_ends f m nodes limit Spent out h = absurd h
below_ends f m nodes limit (TextFault line code) out h = absurd h
below_ends f m nodes limit (Usage place) out h = absurd h
below_ends f m nodes limit ReadFault out h = absurd h
below_ends f m nodes limit WriteFault out h = absurd h
below_ends f m nodes limit NoMemory out h = absurd h
below_ends f m nodes limit (No cause) out h = absurd h
below_ends f m nodes limit (Found cost) out h = inr (inl (cost, refl))
below_ends f m nodes limit Cut out h = inr (inr refl)
below_ends f m nodes limit (BadReport line) out h = absurd h
below_ends f m nodes limit (BadTable code) out h = absurd h
below_ends f m nodes limit (NoLog i) out h = absurd h
below_ends f m nodes limit (BadSteps n) out h = absurd h

ends_below : (status : Status) → EndsRefute status → IsRefuteEnd status
ends_below status (inl e) = subst IsRefuteEnd (sym e) tt
ends_below status (inr (inl found)) = subst IsRefuteEnd (sym found.1) tt
ends_below status (inr (inr e)) = subst IsRefuteEnd (sym e) tt

refute_lawful : (limit : ℕ) (o : SearchOptions) → IsLawful (of_refute limit o)
refute_lawful limit o = record {
  too_long = λ text long. record { fault = TooMany; is = too_long long; coded = refl };
  one_fault = fault_unique;
  output_fault = λ text status out line code h f. read_has_no_fault text h.function line code h.read f;
  late_fault = λ text status line code late f. late;
  no_fault = λ text line code good f. read_has_no_fault text good.0 line code good.1 f;
  good_fault = λ text line code good f. read_has_no_fault text good.0 line code good.1 f;
  is_late = λ text status late. absurd late;
  one_late = λ text s t a b. absurd a;
  output_late = λ text status out late h l. l;
  good_late = λ text late good l. absurd l;
  ends = λ text status out h. below_ends h.function h.model o.nodes limit status out h.answer;
  well = λ text status out h. ends_below status (below_ends h.function h.model o.nodes limit status out h.answer);
  short = λ text. tt;
}

-- ---- the answer to a refutation

verdict_ends : (status : Status) (v : SymVerdict) → status ≡ verdict_status v → EndsCheck status
verdict_ends status Yes e = inl e
verdict_ends status (NotStrict i) e = inr (Strict i, e)
verdict_ends status (NotClosed i) e = inr (Closed i, e)
verdict_ends status (NotMirror i) e = inr (Mirror i, e)
verdict_ends status Short e = inr (Torn, e)

refutation_ends : (t : Table) (f : Function) (r : Refutation) (status : Status) (out : List ℕ)
    → IsOfAnother f r status out ⊎ IsJudgedSo t f r status out → EndsCheck status
refutation_ends t f r status out (inl other) = inr (Name, other.ends)
refutation_ends t f r status out (inr judged) = verdict_ends status judged.verdict judged.ends

refutation_lawful : IsLawful of_refutation
refutation_lawful = record {
  too_long = λ text long. inl (record { long = long; no_line = refl; too_many = refl });
  one_fault = part_fault;
  output_fault = λ text status out line code h. read_part text h.1.function line code h.0 h.1.read;
  late_fault = λ text status line code late. (let at = bad_line IsBadRefutation text status late in
      read_part text at.3.function line code at.2 at.3.read);
  no_fault = λ text line code good. read_part text good.1.0 line code good.0 good.1.1;
  good_fault = λ text line code good. read_part text good.1.function line code good.0 good.1.read;
  is_late = part_late IsBadRefutation;
  one_late = one_part IsBadRefutation (λ text m n a b. one_refutation_line (second_part text) m n a.bad b.bad);
  output_late = λ text status out late h l. (let at = bad_line IsBadRefutation text late l in
      let own = h.1.told in refutation_not_bad (second_part text) own.refutation at.0 own.read at.3.bad);
  good_late = λ text late good l. (let at = bad_line IsBadRefutation text late l in
      absurd (refutation_not_bad (second_part text) good.1.refutation at.0 good.1.refuted at.3.bad));
  ends = λ text status out h. (let own = h.1.told in refutation_ends (table_of LAST) h.1.function own.refutation status out own.told);
  well = λ text status out h. (let own = h.1.told in
      ends_checked status (refutation_ends (table_of LAST) h.1.function own.refutation status out own.told));
  short = λ text. tt;
}

-- ---- the log of a report's tree

steps_lawful : (counts : Bool) → IsLawful (of_steps counts)
steps_lawful counts = record {
  too_long = λ text long. inl (record { long = long; no_line = refl; too_many = refl });
  one_fault = part_fault;
  output_fault = λ text status out line code h. (let f = log_read counts (first_part text) (second_part text) status out h.1 in
      read_part text f.0 line code h.0 f.1);
  late_fault = λ text status line code late. (let f = log_late_read counts (first_part text) (second_part text) status late.1 in
      read_part text f.0 line code late.0 f.1);
  no_fault = λ text line code good. read_part text good.1.0 line code good.0 good.1.1;
  good_fault = λ text line code good. read_part text good.1.function line code good.0 good.1.read;
  is_late = λ text status late. log_is_late counts (first_part text) (second_part text) status late.1;
  one_late = λ text s t a b. log_late_once counts (first_part text) (second_part text) s t a.1 b.1;
  output_late = λ text status out late h l. log_not_late counts (first_part text) (second_part text) status out late h.1 l.1;
  good_late = λ text late good l. log_good_late counts (first_part text) (second_part text) good.1.function good.1.report late
      (record { function = good.1.read; report = good.1.reported }) l.1;
  ends = λ text status out h. log_ends counts (first_part text) (second_part text) status out h.1;
  well = λ text status out h. ends_log status (log_ends counts (first_part text) (second_part text) status out h.1);
  short = λ text. tt;
}

-- ---- the answer to a log

steps_check_lawful : (counts : Bool) → IsLawful (of_steps_check counts)
steps_check_lawful counts = record {
  too_long = λ text long. inl (record { long = long; no_line = refl; too_many = refl });
  one_fault = part_fault;
  output_fault = λ text status out line code h.
      (let f = told_read counts (first_part text) (middle_part text) (last_part text) status out h.1 in read_part text f.0 line code h.0 f.1);
  late_fault = λ text status line code late.
      (let f = told_late_read counts (first_part text) (middle_part text) (last_part text) status late.1 in
      read_part text f.0 line code late.0 f.1);
  no_fault = λ text line code good. read_part text good.1.0 line code good.0 good.1.1;
  good_fault = λ text line code good. read_part text good.1.function line code good.0 good.1.read.function;
  is_late = λ text status late. told_is_late counts (first_part text) (middle_part text) (last_part text) status late.1;
  one_late = λ text s t a b. told_late_once counts (first_part text) (middle_part text) (last_part text) s t a.1 b.1;
  output_late = λ text status out late h l.
      told_not_late counts (first_part text) (middle_part text) (last_part text) status out late h.1 l.1;
  good_late = λ text late good l. told_good_late counts (first_part text) (middle_part text) (last_part text) good.1.function good.1.report late
      good.1.read l.1;
  ends = λ text status out h. told_ends counts (first_part text) (middle_part text) (last_part text) status out h.1;
  well = λ text status out h.
      ends_judge status (told_ends counts (first_part text) (middle_part text) (last_part text) status out h.1);
  short = λ text. tt;
}

-- ---- all commands over an input

pub lawful : (command : ReadingCommand) → IsLawful (behaviour_of command)
lawful (Alloc o) = alloc_lawful o
lawful Run = run_lawful
lawful RunCode = run_code_lawful
lawful Check = check_lawful
lawful (Improve o) = improve_lawful o
lawful (AllocTable o) = alloc_table_lawful o
lawful CheckTable = check_table_lawful
lawful RunCodeTable = run_code_table_lawful
lawful (Refute limit o) = refute_lawful limit o
lawful RefuteCheck = refutation_lawful
lawful (Steps counts) = steps_lawful counts
lawful (StepsCheck counts) = steps_check_lawful counts
