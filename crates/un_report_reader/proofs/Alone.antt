-- The numbers of a solution alone: they are told by their text, and no line of it is bad.
use Rattle.std.proofs.Common.{◌≡◌, ℕ, ◌+◌, inl, inr, List, [], ◌++◌, Result, Ok, Err, IfOk, IfErr, codes, length, refl, sym, ap, ◌∙◌, subst, arith}
use Rattle.std.proofs.lemmas.List.{append-nil}
use Rattle.un_model.specs.declared.model.Solution.{Solution}
use Rattle.un_report.specs.Reports.{numbers_text, solution_text}
use Rattle.un_report_reader.specs.Answers.{AreValues, solution_lines}
use Rattle.un_report_reader.specs.Errors.{IsErrorAt, IsRead}
use Rattle.un_report_reader.specs.FirstBad.{IsBadSolution, InLastNumbers, InNothing, IsFirstBadAlone, numbers_lines}
use Rattle.un_report_reader.specs.Lines.{IsShort, solution_head, line_count, AreNumbers}
use Rattle.un_report_reader.specs.Readings.{IsNumbers, IsNumbersError, AreNumbersBack}
use Rattle.un_report_reader.specs.declared.error.ReportError.{ReportError}
use Rattle.un_report_reader.specs.declared.error.ReportError.TheVariants.{NoMemory, BadReport}
use Rattle.un_report_reader.specs.declared.place.Place.{Place}
use Rattle.un_report_reader.proofs.Behind.{solution_seam}
use Rattle.un_report_reader.proofs.NumberLaws.{no_bad_number}
use Rattle.un_report_reader.proofs.Once.{good_behind, good_line}
use Rattle.un_report_reader.proofs.Through.{behind_line, through, weaker}
use Rattle.un_report_reader.proofs.WholeTexts.{short_once, solution_once, values_once}

-- ---- reading

-- the numbers are the whole text
pub numbers_read : (text : List ℕ) (at : Place) (values : List ℕ) (next : Place) → at.rest.now ≡ text
    → IsRead AreValues solution_text solution_lines at values next → next.rest.now ≡ [] → IsNumbers text values
numbers_read text at values next same r none = record {
  are_values = r.is_good;
  spelled = sym same ∙ (r.whole ∙ (ap (λ (t : List ℕ). solution_text values ++ t) none ∙ append-nil (solution_text values)));
}

-- ---- errors

alone_at_start : (text : List ℕ) (at : Place) (e : ReportError) → at.rest.now ≡ text → at.lines ≡ 0 → IsErrorAt IsFirstBadAlone at e
    → IsNumbersError text e
alone_at_start text at NoMemory same none h = tt
alone_at_start text at (BadReport line) same none h =
    let numbered = h.numbered in
    let here : h.line ≡ line = omega (arith, numbered, none) in
    subst (λ (t : List ℕ). IsFirstBadAlone t line) same (subst (λ (n : ℕ). IsFirstBadAlone at.rest.now n) here h.is_bad)

-- a line of the numbers themselves
pub in_numbers : (text : List ℕ) (at : Place) (e : ReportError) → at.rest.now ≡ text → at.lines ≡ 0 → IsErrorAt IsBadSolution at e
    → IsNumbersError text e
in_numbers text at e same none h = alone_at_start text at e same none (weaker IsBadSolution IsFirstBadAlone at e (λ line b. by line b) h)
  where
    by : (line : ℕ) → IsBadSolution at.rest.now line → IsFirstBadAlone at.rest.now line
    by line (inl b) = inl b
    by line (inr b) = inr (record {
      value = b.value;
      rest = b.rest;
      behind = b.behind;
      is_good = b.is_good;
      whole = b.whole;
      is_bad = inl b.is_bad;
      numbered = b.numbered;
    })

-- a line behind them
behind_alone : (xs text rest : List ℕ) (line : ℕ) → AreValues xs → text ≡ solution_text xs ++ rest → InNothing rest line
    → IsFirstBadAlone text (solution_lines xs + line)
behind_alone xs text rest line good whole bad =
    let count = length xs in
    let in_last : InLastNumbers count (numbers_text xs ++ rest) (line_count count + line) =
    inr (record { value = xs; rest = rest; behind = line; is_good = (refl, good.1); whole = refl; is_bad = bad; numbered = refl }) in
    let in_alone : IsFirstBadAlone text (1 + (line_count count + line)) =
    behind_line IsShort solution_head InLastNumbers count text (numbers_text xs ++ rest) (line_count count + line) good.0
    (whole ∙ solution_seam xs rest) in_last in
    let all : 1 + (line_count count + line) ≡ 1 + line_count count + line = omega arith in
    subst (λ (n : ℕ). IsFirstBadAlone text n) all in_alone

pub behind_numbers : (text : List ℕ) (at : Place) (values : List ℕ) (next : Place) (e : ReportError) → at.rest.now ≡ text → at.lines ≡ 0
    → IsRead AreValues solution_text solution_lines at values next → IsErrorAt InNothing next e → IsNumbersError text e
behind_numbers text at values next e same none r bad =
    alone_at_start text at e same none (through AreValues solution_text solution_lines InNothing IsFirstBadAlone at values next r
    (λ t rest line g w b. behind_alone values t rest line g w b) e bad)

-- ---- texts

-- the text of numbers has no bad line
pub numbers_not_bad : (text values : List ℕ) (line : ℕ) → IsNumbers text values → IsFirstBadAlone text line → ⊥
numbers_not_bad text values line h bad =
    good_line IsShort solution_head InLastNumbers (short_once (codes "solution ")) (length values) text (numbers_text values ++ []) line
    h.are_values.0 (h.spelled ∙ (sym (append-nil (solution_text values)) ∙ solution_seam values [])) (λ k b. by k b) bad
  where
    by : (k : ℕ) → InLastNumbers (length values) (numbers_text values ++ []) k → ⊥
    by k (inl own) = no_bad_number (length values) values [] (numbers_text values ++ []) k (refl, h.are_values.1) refl own
    by k (inr behind) =
        good_behind (AreNumbers (length values)) numbers_text numbers_lines (λ ys. InNothing) (solution_once (length values)) values
        (numbers_text values ++ []) [] k (refl, h.are_values.1) refl (λ j nothing. nothing.0 refl) behind

-- and is of no other numbers
pub one_numbers : (text xs ys : List ℕ) → IsNumbers text xs → IsNumbers text ys → xs ≡ ys
one_numbers text xs ys a b =
    (values_once xs ys [] [] a.are_values b.are_values (ap (λ (t : List ℕ). t ++ []) (sym a.spelled ∙ b.spelled))).0

pub numbers_back : (text : List ℕ) (result : Result Solution ReportError) → IfOk result (λ s. IsNumbers text s.values)
    → IfErr result (IsNumbersError text) → (values : List ℕ) → IsNumbers text values → AreNumbersBack values result
numbers_back text (Ok s) ok bad values h = one_numbers text s.values values ok h
numbers_back text (Err NoMemory) ok bad values h = refl
numbers_back text (Err (BadReport line)) ok bad values h = absurd (numbers_not_bad text values line h bad)
