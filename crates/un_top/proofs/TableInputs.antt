-- The parts of an input with a table: what is put out over them, and why nothing is.
use Rattle.std.proofs.Common.{ℕ, ◌≡◌, ◌≤◌, List, length, subst}
use Rattle.un_commands.specs.declared.command.SearchOptions.{SearchOptions}
use Rattle.un_ir.specs.declared.function.Function.{Function}
use Rattle.un_isa.specs.Fit.{IsFit}
use Rattle.un_isa.specs.declared.table.Table.{Table}
use Rattle.un_outside.specs.declared.status.Status.{Status}
use Rattle.un_outside.specs.declared.status.Status.TheVariants.{Done, Infeasible, Spent, TextFault, Usage, ReadFault, WriteFault, NoMemory, No}
use Rattle.un_outside.specs.declared.status.Status.TheVariants.{BadReport, BadTable, Found, Cut, NoLog, BadSteps}
use Rattle.un_reader.specs.Read.{IsRead}
use Rattle.un_report_reader.specs.FirstBad.{IsFirstBad}
use Rattle.un_runs.specs.Inputs.{first_part, second_part, middle_part, last_part}
use Rattle.un_runs.specs.declared.refused.Refused.{Refused}
use Rattle.un_runs.specs.declared.refused.Refused.TheVariants as RefusedBy
use Rattle.un_target.specs.Tables.{IsTableText}
use Rattle.un_top.specs.Behaviours.{Behaviour, of_alloc_table, of_check_table}
use Rattle.un_top.specs.Checks.{IsCheckBy, RefusesReport}
use Rattle.un_top.specs.Runs.{RefusesText, status_by}
use Rattle.un_top.specs.Tables.{IsGoodTable, IsCodeOf, RefusesTable, IsTableCheck}
use Rattle.un_top.specs.declared.limits.TheConstants.{INPUT}

-- ---- the table

-- a table that is refused is an answer of a command, where it is one of the part
table_by : (b : Behaviour) (input text : List ℕ) (s : Status) → ((code : ℕ) → IsCodeOf text code → b.Late input (BadTable code))
    → RefusesTable text s → RefusesText b input s
table_by b input text NoMemory late h = tt
table_by b input text (BadTable code) late h = late code h
table_by b input text Done late h = absurd h
table_by b input text Infeasible late h = absurd h
table_by b input text Spent late h = absurd h
table_by b input text (TextFault line code) late h = absurd h
table_by b input text (Usage place) late h = absurd h
table_by b input text ReadFault late h = absurd h
table_by b input text WriteFault late h = absurd h
table_by b input text (No cause) late h = absurd h
table_by b input text (Found cost) late h = absurd h
table_by b input text Cut late h = absurd h
table_by b input text (BadReport line) late h = absurd h
table_by b input text (NoLog node) late h = absurd h
table_by b input text (BadSteps line) late h = absurd h

-- the function of the first part
function_in : (input first : List ℕ) (f : Function) → first ≡ first_part input → IsRead first f → (g : Function) × IsRead (first_part input) g
function_in input first f is read = (f, subst (λ (t : List ℕ). IsRead t f) is read)

pub alloc_table : (o : SearchOptions) (input first second : List ℕ) (f : Function) (s : Status) → first ≡ first_part input
    → second ≡ second_part input → length input ≤ INPUT → IsRead first f → RefusesTable second s → RefusesText (of_alloc_table o) input s
alloc_table o input first second f s a b few read h = table_by (of_alloc_table o) input second s (λ code is. record {
  few = few;
  read = function_in input first f a read;
  refused = subst (λ (t : List ℕ). IsCodeOf t code) b is;
}) h

pub check_table : (input first middle : List ℕ) (f : Function) (s : Status) → first ≡ first_part input → middle ≡ middle_part input
    → length input ≤ INPUT → IsRead first f → RefusesTable middle s → RefusesText of_check_table input s
check_table input first middle f s a b few read h = table_by of_check_table input middle s (λ code is. record {
  few = few;
  read = function_in input first f a read;
  refused = subst (λ (t : List ℕ). IsCodeOf t code) b is;
}) h

-- ---- the last part

good_in : (input middle : List ℕ) (t : Table) → middle ≡ middle_part input → IsTableText middle t → IsGoodTable (middle_part input)
good_in input middle t is h = record { table = t; is_table = subst (λ (s : List ℕ). IsTableText s t) is h }

pub check_last : (input first middle last : List ℕ) (f : Function) (t : Table) (e : Refused) → first ≡ first_part input
    → middle ≡ middle_part input → last ≡ last_part input → length input ≤ INPUT → IsRead first f → IsTableText middle t
    → RefusesReport last e → RefusesText of_check_table input (status_by e)
check_last input first middle last f t RefusedBy.NoMemory a b c few read is h = tt
check_last input first middle last f t (RefusedBy.TextFault line code) a b c few read is h = absurd h
check_last input first middle last f t (RefusedBy.BadSecond line) a b c few read is h = record {
  few = few;
  read = function_in input first f a read;
  table = good_in input middle t b is;
  refused = subst (λ (s : List ℕ). IsFirstBad s line) c h;
}

-- ---- what is put out

pub check_is : (input first middle last : List ℕ) (f : Function) (t : Table) (status : Status) (out : List ℕ) → first ≡ first_part input
    → middle ≡ middle_part input → last ≡ last_part input → IsRead first f → IsTableText middle t → IsFit t
    → IsCheckBy (λ version. t) f last status out → IsTableCheck input status out
check_is input first middle last f t status out a b c read is fit h = record {
  function = f;
  read = subst (λ (s : List ℕ). IsRead s f) a read;
  table = t;
  is_table = subst (λ (s : List ℕ). IsTableText s t) b is;
  fits = fit;
  check = subst (λ (s : List ℕ). IsCheckBy (λ version. t) f s status out) c h;
}
