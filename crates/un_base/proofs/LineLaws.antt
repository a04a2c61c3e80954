-- The laws of the lines of a text and of its pieces.
use Rattle.std.proofs.Common.{◌≡◌, ◌≢◌, ℕ, Bool, true, false, not, suc, ◌==◌, ◌+◌, ◌<◌, ◌≤◌, List, [], ◌∷◌, ◌++◌, if◌then◌else◌, Some, None}
use Rattle.std.proofs.Common.{refl, sym, ap, ◌∙◌, length, take, drop, arith, subst, add-one, cond, nat_lt}
use Rattle.std.proofs.lemmas.Bool.{eqb-true, eqb-false, ne_eqb}
use Rattle.std.proofs.lemmas.Bool.Decides.{nat_tests}
use Rattle.std.proofs.lemmas.List.Elements.{All-cons, All-nil}
use Rattle.std.proofs.lemmas.List.Sums.{prefix_len-le-length}
use Rattle.std.specs.List.{All, onto_first, concat, position, position_or_len}
use Rattle.un_base.specs.Lines.{is_line_feed, lines_of, pieces_of, joined_lines, with_last_feed, HasNoFeed}

-- ---- the first line feed

pub first_feed-Some : (text : List ℕ) (i : ℕ) → position is_line_feed text ≡ Some i → i ≡ position_or_len is_line_feed text
first_feed-Some text i found = by (nat_lt (position_or_len is_line_feed text) (length text)) found
  where
    by : (v : Bool) → cond v (Some (position_or_len is_line_feed text)) None ≡ Some i → i ≡ position_or_len is_line_feed text
    by true e = cc
    by false e = absurd (cc e)

pub first_feed-None : (text : List ℕ) → position is_line_feed text ≡ None → length text ≡ position_or_len is_line_feed text
first_feed-None text none = by (nat_lt (position_or_len is_line_feed text) (length text)) refl none
  where
    by : (v : Bool) → nat_lt (position_or_len is_line_feed text) (length text) ≡ v
        → cond v (Some (position_or_len is_line_feed text)) None ≡ None → length text ≡ position_or_len is_line_feed text
    by true e f = absurd (cc f)
    by false e f = let bound : position_or_len is_line_feed text ≤ length text = prefix_len-le-length (λ b. not (is_line_feed b)) text in
        grind (arith, nat_tests)

-- ---- lines

-- the first line ends at the first line feed, or at the end of the text
pub lines_of-first : (text : List ℕ) → (length text == 0) ≡ false
    → lines_of text ≡ take (position_or_len is_line_feed text) text ∷ lines_of (drop (position_or_len is_line_feed text + 1) text)
lines_of-first [] some = absurd (cc some)
lines_of-first (b ∷ []) some = by (b == 10)
  where
    by : (v : Bool) → (if v then [] ∷ [] else onto_first b []) ≡ take (cond (not v) (1 + 0) 0) (b ∷ []) ∷
        lines_of (drop (cond (not v) (1 + 0) 0 + 1) (b ∷ []))
    by true = refl
    by false = refl
lines_of-first (b ∷ c ∷ more) some = by (lines_of-first (c ∷ more) (ne_eqb (length (c ∷ more)) 0 (λ e. omega arith))) (b == 10)
  where
    i : ℕ
    i = position_or_len is_line_feed (c ∷ more)

    by : lines_of (c ∷ more) ≡ take i (c ∷ more) ∷ lines_of (drop (i + 1) (c ∷ more))
        → (v : Bool) → (if v then [] ∷ lines_of (c ∷ more) else onto_first b (lines_of (c ∷ more))) ≡ take (cond (not v) (1 + i) 0)
        (b ∷ c ∷ more) ∷ lines_of (drop (cond (not v) (1 + i) 0 + 1) (b ∷ c ∷ more))
    by rest true = refl
    by rest false =
        let one : 1 + i ≡ suc i = omega arith in
        let two : i + 1 ≡ suc i = omega arith in
        let rest' = rw two at rest in
        subst (λ (n : ℕ). onto_first b (lines_of (c ∷ more)) ≡ take n (b ∷ c ∷ more) ∷ lines_of (drop (n + 1) (b ∷ c ∷ more))) (sym one)
        (rw (rest', add-one) refl)

pub lines_of-some : (b : ℕ) (bs : List ℕ) → 0 < length (lines_of (b ∷ bs))
lines_of-some b bs = omega (arith, ap length (lines_of-first (b ∷ bs) (ne_eqb (length (b ∷ bs)) 0 (λ e. omega arith))))

onto_first-joined : (b : ℕ) (lines : List (List ℕ)) → 0 < length lines → joined_lines (onto_first b lines) ≡ b ∷ joined_lines lines
onto_first-joined b [] some = absurd (omega arith)
onto_first-joined b (line ∷ lines) some = refl

-- the lines joined with their line feeds are the text
pub joined_lines-lines_of : (text : List ℕ) → joined_lines (lines_of text) ≡ with_last_feed text
joined_lines-lines_of [] = refl
joined_lines-lines_of (b ∷ []) = by (b == 10) refl
  where
    by : (v : Bool) → (b == 10) ≡ v → joined_lines (if v then [] ∷ [] else onto_first b []) ≡ (if v then b ∷ [] else b ∷ 10 ∷ [])
    by true e = ap (λ n. n ∷ []) (sym (eqb-true b 10 e))
    by false e = refl
joined_lines-lines_of (b ∷ c ∷ more) = by (joined_lines-lines_of (c ∷ more)) (b == 10) refl
  where
    by : joined_lines (lines_of (c ∷ more)) ≡ with_last_feed (c ∷ more) → (v : Bool) → (b == 10) ≡ v
        → joined_lines (if v then [] ∷ lines_of (c ∷ more) else onto_first b (lines_of (c ∷ more))) ≡ b ∷ with_last_feed (c ∷ more)
    by rest true e = rw (eqb-true b 10 e) (ap (λ (bs : List ℕ). 10 ∷ bs) rest)
    by rest false e = onto_first-joined b (lines_of (c ∷ more)) (lines_of-some c more) ∙ ap (λ (bs : List ℕ). b ∷ bs) rest

onto_first-no_feed : (b : ℕ) → b ≢ 10 → (lines : List (List ℕ)) → All HasNoFeed lines → All HasNoFeed (onto_first b lines)
onto_first-no_feed b other [] all = All-cons HasNoFeed (b ∷ []) [] (All-cons (λ n. n ≢ 10) b [] other (All-nil (λ n. n ≢ 10))) all
onto_first-no_feed b other (line ∷ lines) all = All-cons HasNoFeed (b ∷ line) lines
    (All-cons (λ n. n ≢ 10) b line other (all 0 [] (omega arith))) (λ k d below. all (suc k) d (omega arith))

-- no line has a line feed
pub lines_of-no_feed : (text : List ℕ) → All HasNoFeed (lines_of text)
lines_of-no_feed [] = All-nil HasNoFeed
lines_of-no_feed (b ∷ bs) = by (lines_of-no_feed bs) (b == 10) refl
  where
    by : All HasNoFeed (lines_of bs) → (v : Bool) → (b == 10) ≡ v
        → All HasNoFeed (if v then [] ∷ lines_of bs else onto_first b (lines_of bs))
    by rest true e = All-cons HasNoFeed [] (lines_of bs) (All-nil (λ n. n ≢ 10)) rest
    by rest false e = onto_first-no_feed b (eqb-false b 10 e) (lines_of bs) rest

-- a line feed ends the first line
pub lines_of-line : (line rest : List ℕ) → HasNoFeed line → lines_of (line ++ 10 ∷ rest) ≡ line ∷ lines_of rest
lines_of-line [] rest none = refl
lines_of-line (b ∷ bs) rest none =
    let more = lines_of-line bs rest (λ k d below. none (suc k) d (omega arith)) in
    let other : (b == 10) ≡ false = ne_eqb b 10 (none 0 0 (omega arith)) in
    rw (other, more) refl

-- a last line without a line feed
pub lines_of-last : (line : List ℕ) → 0 < length line → HasNoFeed line → lines_of line ≡ line ∷ []
lines_of-last [] some none = absurd (omega arith)
lines_of-last (b ∷ []) some none = let other : (b == 10) ≡ false = ne_eqb b 10 (none 0 0 (omega arith)) in rw other refl
lines_of-last (b ∷ c ∷ more) some none =
    let rest = lines_of-last (c ∷ more) (omega arith) (λ k d below. none (suc k) d (omega arith)) in
    let other : (b == 10) ≡ false = ne_eqb b 10 (none 0 0 (omega arith)) in
    rw (other, rest) refl

-- ---- pieces

onto_first-concat : (b : ℕ) (pieces : List (List ℕ)) → concat (onto_first b pieces) ≡ b ∷ concat pieces
onto_first-concat b [] = refl
onto_first-concat b (piece ∷ pieces) = refl

-- the pieces joined are the text
pub concat-pieces_of : (text : List ℕ) → concat (pieces_of text) ≡ text
concat-pieces_of [] = refl
concat-pieces_of (b ∷ bs) = by (concat-pieces_of bs) (b == 10)
  where
    by : concat (pieces_of bs) ≡ bs → (v : Bool) → concat (if v then (b ∷ []) ∷ pieces_of bs else onto_first b (pieces_of bs)) ≡ b ∷ bs
    by rest true = ap (λ (xs : List ℕ). b ∷ xs) rest
    by rest false = onto_first-concat b (pieces_of bs) ∙ ap (λ (xs : List ℕ). b ∷ xs) rest

-- a line feed ends the first piece
pub pieces_of-line : (line rest : List ℕ) → HasNoFeed line → pieces_of (line ++ 10 ∷ rest) ≡ (line ++ 10 ∷ []) ∷ pieces_of rest
pieces_of-line [] rest none = refl
pieces_of-line (b ∷ bs) rest none =
    let more = pieces_of-line bs rest (λ k d below. none (suc k) d (omega arith)) in
    let other : (b == 10) ≡ false = ne_eqb b 10 (none 0 0 (omega arith)) in
    rw (other, more) refl

-- a last piece without a line feed
pub pieces_of-last : (line : List ℕ) → 0 < length line → HasNoFeed line → pieces_of line ≡ line ∷ []
pieces_of-last [] some none = absurd (omega arith)
pieces_of-last (b ∷ []) some none = let other : (b == 10) ≡ false = ne_eqb b 10 (none 0 0 (omega arith)) in rw other refl
pieces_of-last (b ∷ c ∷ more) some none =
    let rest = pieces_of-last (c ∷ more) (omega arith) (λ k d below. none (suc k) d (omega arith)) in
    let other : (b == 10) ≡ false = ne_eqb b 10 (none 0 0 (omega arith)) in
    rw (other, rest) refl

onto_first-length : (b : ℕ) (xs ys : List (List ℕ)) → length xs ≡ length ys → length (onto_first b xs) ≡ length (onto_first b ys)
onto_first-length b [] [] e = refl
onto_first-length b [] (y ∷ ys) e = absurd (omega arith)
onto_first-length b (x ∷ xs) [] e = absurd (omega arith)
onto_first-length b (x ∷ xs) (y ∷ ys) e = e

-- there are as many pieces as lines
pub length-pieces_of : (text : List ℕ) → length (pieces_of text) ≡ length (lines_of text)
length-pieces_of [] = refl
length-pieces_of (b ∷ bs) = by (length-pieces_of bs) (b == 10)
  where
    by : length (pieces_of bs) ≡ length (lines_of bs) → (v : Bool)
        → length (if v then (b ∷ []) ∷ pieces_of bs else onto_first b (pieces_of bs)) ≡ length
        (if v then [] ∷ lines_of bs else onto_first b (lines_of bs))
    by rest true = omega arith
    by rest false = onto_first-length b (pieces_of bs) (lines_of bs) rest
