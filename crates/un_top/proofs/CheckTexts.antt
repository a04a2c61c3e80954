-- A function's text, a line `---` and a text behind it.
use Rattle.std.proofs.Common.{ℕ, zero, suc, ◌≡◌, Bool, true, false, ◌||◌, List, [], ◌∷◌, ◌++◌, codes, refl, sym, ap, ◌∙◌}
use Rattle.std.specs.Prelude.{Some, slice_get}
use Rattle.std.specs.List.{concat}
use Rattle.std.specs.Option.{option_map}
use Rattle.std.specs.Str.{bytes_eq}
use Rattle.std.proofs.lemmas.Option.{slice_get-map, slice_get_within}
use Rattle.std.proofs.lemmas.Slice.Eq.{bytes_eq-Decides}
use Rattle.un_base.specs.Lines.{pieces_of}
use Rattle.un_base.proofs.LineLaws.{concat-pieces_of}
use Rattle.un_faults.specs.LineFaults.{fault_at}
use Rattle.un_faults.specs.declared.fault.Fault.TheVariants.{BadLine}
use Rattle.un_ir.specs.declared.function.Function.{Function}
use Rattle.un_reader.specs.Read.{IsRead}
use Rattle.un_report_reader.proofs.Listings.{pieces_append}
use Rattle.un_runs.specs.Inputs.{is_rule, before_rule, behind_rule, first_part, second_part}
use Rattle.un_top.specs.Checks.{check_text, IsOfLines}
use Rattle.un_words.specs.Pieces.{lines_in, without_comment, without_end}

abbrev line_in : List ℕ → List ℕ
line_in piece = without_comment (without_end piece)

is_one : (a b c : Bool) → (a || b || c) ≡ true → (a ≡ false) → (b ≡ false) → c ≡ true
is_one true b c h none_a none_b = absurd (cc none_a)
is_one false true c h none_a none_b = absurd (cc none_b)
is_one false false c h none_a none_b = h

-- the line that parts an input is `---` without its end
rule_line : (p : List ℕ) → is_rule p ≡ true → line_in p ≡ codes "---"
rule_line p h = by (bytes_eq p (codes "---" ++ 10 ∷ [])) refl
  where
    third : bytes_eq p (codes "---" ++ 10 ∷ []) ≡ false → bytes_eq p (codes "---" ++ 13 ∷ 10 ∷ []) ≡ false → line_in p ≡ codes "---"
    third a b = ap line_in ((bytes_eq-Decides p (codes "---")).0 (is_one _ _ _ h a b))

    second : bytes_eq p (codes "---" ++ 10 ∷ []) ≡ false → (v : Bool) → bytes_eq p (codes "---" ++ 13 ∷ 10 ∷ []) ≡ v → line_in p ≡ codes "---"
    second a true e = ap line_in ((bytes_eq-Decides p (codes "---" ++ 13 ∷ 10 ∷ [])).0 e)
    second a false e = third a e

    by : (v : Bool) → bytes_eq p (codes "---" ++ 10 ∷ []) ≡ v → line_in p ≡ codes "---"
    by true e = ap line_in ((bytes_eq-Decides p (codes "---" ++ 10 ∷ [])).0 e)
    by false e = second e (bytes_eq p (codes "---" ++ 13 ∷ 10 ∷ [])) refl

-- and no line of the language
rule_fault : (lines : List (List ℕ)) (k : ℕ) → slice_get lines k ≡ Some (codes "---") → fault_at lines k ≡ Some BadLine
rule_fault lines k e = rw e refl

-- so no line of a function's text parts it
no_rule : (text : List ℕ) (f : Function) → IsRead text f → (k : ℕ) (p : List ℕ) → slice_get (pieces_of text) k ≡ Some p → is_rule p ≡ false
no_rule text f read k p e = by (is_rule p) refl
  where
    by : (v : Bool) → is_rule p ≡ v → v ≡ false
    by false is = refl
    by true is =
        let here : slice_get (lines_in text) k ≡ Some (codes "---") =
        slice_get-map line_in (pieces_of text) k ∙ (ap (option_map line_in) e ∙ ap Some (rule_line p is)) in
        let fault = rule_fault (lines_in text) k here in
        let none = read.lines k (slice_get_within (lines_in text) k (codes "---") here) in
        absurd (cc (sym fault ∙ none))

-- ---- the parts

before_all : (ps qs : List (List ℕ)) (r : List ℕ) → is_rule r ≡ true → ((k : ℕ) (p : List ℕ) → slice_get ps k ≡ Some p → is_rule p ≡ false)
    → before_rule (ps ++ r ∷ qs) ≡ concat ps
before_all [] qs r rule none = rw rule refl
before_all (p ∷ ps) qs r rule none =
    let own : is_rule p ≡ false = none zero p refl in
    rw own (ap (λ (xs : List ℕ). p ++ xs) (before_all ps qs r rule (λ k q e. none (suc k) q e)))

behind_all : (ps qs : List (List ℕ)) (r : List ℕ) → is_rule r ≡ true → ((k : ℕ) (p : List ℕ) → slice_get ps k ≡ Some p → is_rule p ≡ false)
    → behind_rule (ps ++ r ∷ qs) ≡ concat qs
behind_all [] qs r rule none = rw rule refl
behind_all (p ∷ ps) qs r rule none =
    let own : is_rule p ≡ false = none zero p refl in rw own (behind_all ps qs r rule (λ k q e. none (suc k) q e))

check_pieces : (text report : List ℕ) → IsOfLines text
    → pieces_of (check_text text report) ≡ pieces_of text ++ (codes "---\n") ∷ pieces_of report
check_pieces text report lines =
    ap (λ (t : List ℕ). pieces_of (t ++ (codes "---\n" ++ report))) lines.1
    ∙ (pieces_append lines.0 (codes "---\n" ++ report)
    ∙ ap (λ (t : List ℕ). pieces_of t ++ (codes "---\n") ∷ pieces_of report) (sym lines.1))

pub check_first : (text report : List ℕ) (f : Function) → IsOfLines text → IsRead text f → first_part (check_text text report) ≡ text
check_first text report f lines read =
    ap before_rule (check_pieces text report lines)
    ∙ (before_all (pieces_of text) (pieces_of report) (codes "---\n") refl (no_rule text f read) ∙ concat-pieces_of text)

pub check_second : (text report : List ℕ) (f : Function) → IsOfLines text → IsRead text f → second_part (check_text text report) ≡ report
check_second text report f lines read =
    ap behind_rule (check_pieces text report lines)
    ∙ (behind_all (pieces_of text) (pieces_of report) (codes "---\n") refl (no_rule text f read) ∙ concat-pieces_of report)
