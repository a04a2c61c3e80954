-- The first lines of a text, taken one after another, and those of a start before the first bad one.
use Rattle.std.proofs.Common.{◌≡◌, ℕ, zero, suc, ◌-◌, ◌<◌, ◌≢◌, List, [], ◌∷◌, ◌++◌, length, take, drop, refl, sym, ap, ◌∙◌, arith}
use Rattle.std.proofs.Common.{append_assoc, append-nil}
use Rattle.std.specs.List.{concat}
use Rattle.std.proofs.lemmas.List.{take-append-drop}
use Rattle.std.proofs.lemmas.List.Elements.{All-from_recursion}
use Rattle.un_base.specs.Lines.{pieces_of}
use Rattle.un_base.proofs.LineLaws.{pieces_of-line}
use Rattle.un_start.specs.declared.line.Line.{Line}
use Rattle.un_start.specs.Lines.{line_text, lines_text}
use Rattle.un_start.specs.StartTexts.{StandBehind, IsFirstBad}
use Rattle.un_start.proofs.LineLaws.{line_free}
use Rattle.un_start.proofs.TextLaws.{lines_cons}
use Rattle.un_runs.proofs.InputLaws.{front_of}

-- of the lines of a text so many are left to be taken of its rest
pub record IsLeft (text rest : List ℕ) (count left : ℕ) : Type 0 where
  pub front : List ℕ
  pub whole : text ≡ front ++ rest
  pub first : concat (take count (pieces_of text)) ≡ front ++ concat (take left (pieces_of rest))

pub left_all : (text : List ℕ) (count : ℕ) → IsLeft text text count count
left_all text count = record { front = []; whole = refl; first = refl }

pub left_fewer : (text rest behind : List ℕ) (n count left : ℕ) → IsLeft text rest count left → 0 < left
    → pieces_of rest ≡ take n rest ∷ pieces_of (drop n rest) → behind ≡ drop n rest → IsLeft text behind count (left - 1)
left_fewer text rest behind n count left s some cut is =
    let both : rest ≡ take n rest ++ behind =
    sym (take-append-drop n rest) ∙ ap (λ (xs : List ℕ). take n rest ++ xs) (sym is) in
    let pieces : pieces_of rest ≡ take n rest ∷ pieces_of behind = cut ∙ ap (λ (xs : List ℕ). take n rest ∷ pieces_of xs) (sym is) in
    record {
      front = s.front ++ take n rest;
      whole = s.whole ∙ (ap (λ (xs : List ℕ). s.front ++ xs) both ∙ sym (append_assoc s.front (take n rest) behind));
      first = s.first ∙ (ap (λ (ps : List (List ℕ)). s.front ++ concat (take left ps)) pieces
          ∙ (ap (λ (xs : List ℕ). s.front ++ xs) (one left (take n rest) (pieces_of behind) some)
          ∙ sym (append_assoc s.front (take n rest) (concat (take (left - 1) (pieces_of behind))))));
    }
  where
    one : (m : ℕ) (p : List ℕ) (ps : List (List ℕ)) → 0 < m → concat (take m (p ∷ ps)) ≡ p ++ concat (take (m - 1) ps)
    one zero p ps lt = absurd (omega arith)
    one (suc m) p ps lt = let e : suc m - 1 ≡ m = omega arith in rw e refl

-- none is left
pub left_none : (text rest : List ℕ) (count left : ℕ) → IsLeft text rest count left → left ≡ 0
    → take (length text - length rest) text ≡ concat (take count (pieces_of text))
left_none text rest count left s none =
    front_of text s.front rest s.whole
    ∙ sym (s.first ∙ (ap (λ (n : ℕ). s.front ++ concat (take n (pieces_of rest))) none ∙ append-nil s.front))

-- or no text is
pub text_ends : (text rest : List ℕ) (count left : ℕ) → IsLeft text rest count left → rest ≡ []
    → text ≡ concat (take count (pieces_of text))
text_ends text rest count left s none =
    s.whole ∙ (ap (λ (xs : List ℕ). s.front ++ xs) none
    ∙ sym (s.first ∙ (ap (λ (xs : List ℕ). s.front ++ concat (take left (pieces_of xs))) none
    ∙ ap (λ (xs : List ℕ). s.front ++ xs) (nothing left))))
  where
    nothing : (m : ℕ) → concat (take m (pieces_of [])) ≡ []
    nothing zero = refl
    nothing (suc m) = refl

-- ---- of a start

lines_first : (before ls : List Line) (rest : List ℕ) → StandBehind before ls
    → concat (take (length ls) (pieces_of (lines_text ls ++ rest))) ≡ lines_text ls
lines_first before [] rest f = refl
lines_first before (l ∷ ls) rest f =
    let free = All-from_recursion (λ (b : ℕ). b ≢ 10) (line_text l) (line_free l f.0.fits) in
    let cut : pieces_of (lines_text (l ∷ ls) ++ rest) ≡ (line_text l ++ 10 ∷ []) ∷ pieces_of (lines_text ls ++ rest) =
    ap pieces_of (lines_cons l ls rest) ∙ pieces_of-line (line_text l) (lines_text ls ++ rest) free in
    ap (λ (ps : List (List ℕ)). concat (take (suc (length ls)) ps)) cut
    ∙ ap (λ (xs : List ℕ). (line_text l ++ 10 ∷ []) ++ xs) (lines_first (before ++ l ∷ []) ls rest f.1)

-- the lines before the first bad one
pub front_before : (text front : List ℕ) (line : ℕ) (b : IsFirstBad text line) → front ≡ concat (take (line - 1) (pieces_of text))
    → front ≡ lines_text b.before
front_before text front line b is =
    let many : line - 1 ≡ length b.before = omega (arith, b.numbered) in
    is ∙ (ap (λ (n : ℕ). concat (take n (pieces_of text))) many
    ∙ (ap (λ (t : List ℕ). concat (take (length b.before) (pieces_of t))) b.whole ∙ lines_first [] b.before b.rest b.stand))

-- and what stands behind them
pub front_whole : (text front : List ℕ) (line : ℕ) (b : IsFirstBad text line) → front ≡ concat (take (line - 1) (pieces_of text))
    → text ≡ front ++ b.rest
front_whole text front line b is = b.whole ∙ ap (λ (xs : List ℕ). xs ++ b.rest) (sym (front_before text front line b is))
