-- Why there is no outcome: of a text, and as the answer of a command.
use Rattle.std.proofs.Common.{ℕ, ◌≤◌, inr, List, length}
use Rattle.un_runs.specs.declared.refused.Refused.{Refused}
use Rattle.un_runs.specs.declared.refused.Refused.TheVariants.{NoMemory, TextFault, BadSecond}
use Rattle.un_runs.specs.Refusals.{RefusesFunction, RefusesSource, RefusesCode}
use Rattle.un_commands.specs.declared.command.SearchOptions.{SearchOptions}
use Rattle.un_report_reader.specs.Readings.{IsErrorOf, IsNumbersError}
use Rattle.un_refutation.specs.Readings.{IsErrorOf as IsRefutationError}
use Rattle.un_report_reader.specs.declared.error.ReportError.{ReportError}
use Rattle.un_report_reader.specs.declared.error.ReportError.TheVariants as ReportErrors
use Rattle.un_top.specs.Behaviours.{of_alloc, of_run, of_run_code, of_check, of_improve, of_refute, of_refutation}
use Rattle.un_top.specs.Checks.{RefusesReport, RefusesCheck, unviewed_by}
use Rattle.un_top.specs.Improvements.{RefusesNumbers, RefusesImprovement}
use Rattle.un_top.specs.Refutations.{RefusesRefutation, RefusesRefutationCheck}
use Rattle.un_top.specs.Runs.{RefusesText, status_by}
use Rattle.un_top.specs.declared.limits.TheConstants.{INPUT}

pub unviewed : (text : List ℕ) (error : ReportError) → IsErrorOf text error → RefusesReport text (unviewed_by error)
unviewed text ReportErrors.NoMemory told = tt
unviewed text (ReportErrors.BadReport line) told = told

pub unnumbered : (text : List ℕ) (error : ReportError) → IsNumbersError text error → RefusesNumbers text (unviewed_by error)
unnumbered text ReportErrors.NoMemory told = tt
unnumbered text (ReportErrors.BadReport line) told = told

pub unrefuted : (text : List ℕ) (error : ReportError) → IsRefutationError text error → RefusesRefutation text (unviewed_by error)
unrefuted text ReportErrors.NoMemory told = tt
unrefuted text (ReportErrors.BadReport line) told = told

pub function_refused : (o : SearchOptions) (text : List ℕ) (refused : Refused) → RefusesFunction text refused
    → RefusesText (of_alloc o) text (status_by refused)
function_refused o text NoMemory told = tt
function_refused o text (TextFault line code) told = told
function_refused o text (BadSecond line) told = absurd told

pub source_refused : (text : List ℕ) (refused : Refused) → length text ≤ INPUT → RefusesSource text refused
    → RefusesText of_run text (status_by refused)
source_refused text NoMemory few told = tt
source_refused text (TextFault line code) few told = inr (few, told)
source_refused text (BadSecond line) few told = (few, told)

pub code_refused : (text : List ℕ) (refused : Refused) → length text ≤ INPUT → RefusesCode text refused
    → RefusesText of_run_code text (status_by refused)
code_refused text NoMemory few told = tt
code_refused text (TextFault line code) few told = absurd told
code_refused text (BadSecond line) few told = (few, told)

pub check_refused : (text : List ℕ) (refused : Refused) → length text ≤ INPUT → RefusesCheck text refused
    → RefusesText of_check text (status_by refused)
check_refused text NoMemory few told = tt
check_refused text (TextFault line code) few told = inr (few, told)
check_refused text (BadSecond line) few told = (few, told)

pub improve_refused : (o : SearchOptions) (text : List ℕ) (refused : Refused) → length text ≤ INPUT → RefusesImprovement text refused
    → RefusesText (of_improve o) text (status_by refused)
improve_refused o text NoMemory few told = tt
improve_refused o text (TextFault line code) few told = inr (few, told)
improve_refused o text (BadSecond line) few told = (few, told)

pub refute_refused : (limit : ℕ) (o : SearchOptions) (text : List ℕ) (refused : Refused) → RefusesFunction text refused
    → RefusesText (of_refute limit o) text (status_by refused)
refute_refused limit o text NoMemory told = tt
refute_refused limit o text (TextFault line code) told = told
refute_refused limit o text (BadSecond line) told = absurd told

pub refutation_refused : (text : List ℕ) (refused : Refused) → length text ≤ INPUT → RefusesRefutationCheck text refused
    → RefusesText of_refutation text (status_by refused)
refutation_refused text NoMemory few told = tt
refutation_refused text (TextFault line code) few told = inr (few, told)
refutation_refused text (BadSecond line) few told = (few, told)
