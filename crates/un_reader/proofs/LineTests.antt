-- Texts without a fault on a line: their lines have shapes and keep the rules, and texts whose lines do have none.
use Rattle.std.proofs.Common.{◌≡◌, ℕ, zero, suc, ◌+◌, ◌<◌, ◌++◌, Bool, true, false, List, [], ◌∷◌, Option, Some, None, map, length}
use Rattle.std.proofs.Common.{unwrap_or}
use Rattle.std.proofs.Common.{if◌then◌else◌, refl, sym, ap, ◌∙◌, arith, subst, append_assoc}
use Rattle.std.specs.List.{AllByRecursion as Each, list_all}
use Rattle.std.proofs.lemmas.List.{map_push, length-append}
use Rattle.un_faults.specs.declared.fault.Fault.TheVariants.{BadByte}
use Rattle.un_faults.specs.Vocabulary.{Line, Blank}
use Rattle.un_faults.specs.declared.before.Before.{Before}
use Rattle.un_words.specs.Tokens.{tokens_of}
use Rattle.un_words.specs.Shapes.{shape_of, line_of}
use Rattle.un_faults.specs.Before.{before_of}
use Rattle.un_faults.specs.Noted.{noted}
use Rattle.un_faults.specs.LineFaults.{is_plain_byte, faults_on, first_of, shaped_fault, line_fault, fault_at}
use Rattle.un_reader.specs.Lines.{HasNoLineFault}
use Rattle.un_faults.proofs.BeforeLaws.{before_of_push}
use Rattle.un_reader.proofs.CheckLaws.{next_fault}
use Rattle.un_faults.proofs.Rules.{AreFaultless, IsGoodBefore, KeepRules, lines_keep, behind_all, good_start}
use Rattle.un_words.proofs.LineShapes.{IsShaped, line_shaped}

line_clean : (before : Before) (bytes : List ℕ) → line_fault before bytes ≡ None
    → (first_of (faults_on before (line_of bytes)) ≡ None) × IsShaped (line_of bytes)
line_clean before bytes h = by (list_all is_plain_byte bytes) (shape_of (tokens_of bytes)) refl h
  where
    by : (plain : Bool) (shape : Option Line) → shape_of (tokens_of bytes) ≡ shape
        → (if plain then shaped_fault before shape else Some BadByte) ≡ None
        → (first_of (faults_on before (line_of bytes)) ≡ None) × IsShaped (line_of bytes)
    by false shape e hyp = absurd (cc hyp)
    by true None e hyp = absurd (cc hyp)
    by true (Some line) e hyp = (rw e hyp, line_shaped bytes)

after : (front : List (List ℕ)) (bytes : List ℕ)
    → before_of (map line_of (front ++ bytes ∷ [])) ≡ noted (before_of (map line_of front)) (line_of bytes)
after front bytes = ap before_of (map_push line_of front bytes) ∙ before_of_push (map line_of front) (line_of bytes)

-- the lines behind a front
clean_from : (front rest : List (List ℕ)) → HasNoLineFault (front ++ rest)
    → AreFaultless (before_of (map line_of front)) (map line_of rest) × Each IsShaped (map line_of rest)
clean_from front [] good = (tt, tt)
clean_from front (bytes ∷ rest) good =
    let none : line_fault (before_of (map line_of front)) bytes ≡ None =
    sym (next_fault front bytes rest) ∙ good (length front) (let count = length-append front (bytes ∷ rest) in omega (arith, count)) in
    let here = line_clean (before_of (map line_of front)) bytes none in
    let later = clean_from (front ++ bytes ∷ []) rest (subst HasNoLineFault (sym (append_assoc front (bytes ∷ []) rest)) good) in
    ((here.0, subst (λ (b : Before). AreFaultless b (map line_of rest)) (after front bytes) later.0), (here.1, later.1))

pub all_shaped : (all : List (List ℕ)) → HasNoLineFault all → Each IsShaped (map line_of all)
all_shaped all good = (clean_from [] all good).1

pub all_keep : (all : List (List ℕ)) → HasNoLineFault all → KeepRules (before_of []) (map line_of all)
all_keep all good = lines_keep (before_of []) (map line_of all) good_start (clean_from [] all good).0

-- what stands behind the last line is good
pub all_good : (all : List (List ℕ)) → HasNoLineFault all → IsGoodBefore (before_of (map line_of all))
all_good all good = subst IsGoodBefore (behind_all (map line_of all)) (all_keep all good).last

-- ---- texts of lines

-- the text has no bad byte and the shape of the line
pub record IsReadAs (text : List ℕ) (line : Line) : Type 0 where
  pub plain : list_all is_plain_byte text ≡ true
  pub shape : shape_of (tokens_of text) ≡ Some line

-- each text that of its line
abbrev pub AreReadAs : List (List ℕ) → List Line → Type 0
AreReadAs [] [] = Unit {0}
AreReadAs (text ∷ texts) (line ∷ lines) = IsReadAs text line × AreReadAs texts lines
AreReadAs _ _ = ⊥

line_is : (text : List ℕ) (line : Line) → IsReadAs text line → line_of text ≡ line
line_is text line r = ap (λ (o : Option Line). unwrap_or o Blank) r.shape

pub lines_are : (texts : List (List ℕ)) (lines : List Line) → AreReadAs texts lines → map line_of texts ≡ lines
lines_are [] [] r = refl
lines_are [] (line ∷ lines) r = absurd r
lines_are (text ∷ texts) [] r = absurd r
lines_are (text ∷ texts) (line ∷ lines) r =
    let here = line_is text line r.0 in let later = lines_are texts lines r.1 in cc

none_from : (front texts : List (List ℕ)) (lines : List Line) → AreReadAs texts lines
    → AreFaultless (before_of (map line_of front)) lines
    → (k : ℕ) → k < length texts → fault_at (front ++ texts) (length front + k) ≡ None
none_from front [] lines r none k h = absurd (omega arith)
none_from front (text ∷ texts) [] r none k h = absurd r
none_from front (text ∷ texts) (line ∷ lines) r none zero h =
    let place : length front + 0 ≡ length front = omega arith in
    let plain = r.0.plain in
    let shape = r.0.shape in
    let first = none.0 in
    ap (fault_at (front ++ text ∷ texts)) place ∙ next_fault front text texts ∙ rw (plain, shape) first
none_from front (text ∷ texts) (line ∷ lines) r none (suc k) h =
    let count = length-append front (text ∷ []) in
    let place : length front + suc k ≡ length (front ++ text ∷ []) + k = omega (arith, count) in
    let step : noted (before_of (map line_of front)) line ≡ before_of (map line_of (front ++ text ∷ [])) =
    ap (noted (before_of (map line_of front))) (sym (line_is text line r.0)) ∙ sym (after front text) in
    ap (fault_at (front ++ text ∷ texts)) place
    ∙ ap (λ (all : List (List ℕ)). fault_at all (length (front ++ text ∷ []) + k)) (sym (append_assoc front (text ∷ []) texts))
    ∙ none_from (front ++ text ∷ []) texts lines r.1 (subst (λ (b : Before). AreFaultless b lines) step none.1) k (omega arith)

pub no_line_fault : (texts : List (List ℕ)) (lines : List Line) → AreReadAs texts lines → AreFaultless (before_of []) lines
    → HasNoLineFault texts
no_line_fault texts lines r none k h = ap (fault_at texts) (omega arith) ∙ none_from [] texts lines r none k h
