-- Texts of starts, read from the front.
use Rattle.std.proofs.Common.{◌≡◌, ◌≢◌, ℕ, false, List, [], ◌∷◌, ◌++◌, refl, sym, ap, ◌∙◌, subst, append_assoc, append-nil}
use Rattle.un_start.specs.declared.line.Line.{Line}
use Rattle.un_start.specs.Lines.{line_text, lines_text, BeginsWith, BeginsNoLine}
use Rattle.un_start.specs.Places.{is_next}
use Rattle.un_start.specs.StartTexts.{MayStand, StandBehind, AllStand, BeginsNoNext}
use Rattle.un_start.proofs.LineLaws.{first_once}

pub lines_cons : (l : Line) (ls : List Line) (rest : List ℕ) → lines_text (l ∷ ls) ++ rest ≡ line_text l ++ 10 ∷ (lines_text ls ++ rest)
lines_cons l ls rest = append_assoc (line_text l ++ 10 ∷ []) (lines_text ls) rest
    ∙ append_assoc (line_text l) (10 ∷ []) (lines_text ls ++ rest)

some_line : (l : Line) (rest : List ℕ) → line_text l ++ 10 ∷ rest ≢ []
some_line l rest e = by (line_text l) e
  where
    by : (line : List ℕ) → line ++ 10 ∷ rest ≢ []
    by [] e = cc e
    by (x ∷ xs) e = cc e

-- one line more
pub lines_push : (ls : List Line) (l : Line) (rest : List ℕ) → lines_text ls ++ (line_text l ++ 10 ∷ rest) ≡ lines_text (ls ++ l ∷ []) ++ rest
lines_push [] l rest = sym (lines_cons l [] rest)
lines_push (m ∷ ms) l rest = lines_cons m ms (line_text l ++ 10 ∷ rest)
    ∙ (ap (λ (t : List ℕ). line_text m ++ 10 ∷ t) (lines_push ms l rest) ∙ sym (lines_cons m (ms ++ l ∷ []) rest))

pub stand_push : (before ls : List Line) (l : Line) → StandBehind before ls → MayStand (before ++ ls) l → StandBehind before (ls ++ l ∷ [])
stand_push before [] l h m = (subst (λ (bs : List Line). MayStand bs l) (append-nil before) m, tt)
stand_push before (k ∷ ls) l h m = (
  h.0,
  stand_push (before ++ k ∷ []) ls l h.1 (subst (λ (bs : List Line). MayStand bs l) (sym (append_assoc before (k ∷ []) ls)) m),
)

-- a text that begins with no line begins with none that may stand there
pub none_next : (before : List Line) (text : List ℕ) → BeginsNoLine text → BeginsNoNext before text
none_next before text none l rest m e = none l rest m.fits e

-- nor does one whose first line may not stand there
pub not_next : (before : List Line) (text rest : List ℕ) (l : Line) → BeginsWith text l rest → is_next before l ≡ false
    → BeginsNoNext before text
not_next before text rest l b not m behind may e =
    let same = (first_once l m rest behind b.fits may.fits (sym b.whole ∙ e)).0 in
    cc (sym not ∙ (ap (is_next before) same ∙ may.next))

-- where no line more may stand, the lines so far are those of the text
both_ways : (before done ls : List Line) (rest : List ℕ) → StandBehind before done → StandBehind before ls
    → lines_text done ++ rest ≡ lines_text ls → BeginsNoNext (before ++ done) rest → (rest ≡ []) × (done ≡ ls)
both_ways before [] [] rest f g e bad = (e, refl)
both_ways before [] (l ∷ ls) rest f g e bad =
    let starts : rest ≡ line_text l ++ 10 ∷ lines_text ls = e ∙ append_assoc (line_text l) (10 ∷ []) (lines_text ls) in
    absurd (subst (λ (bs : List Line). BeginsNoNext bs rest) (append-nil before) bad l (lines_text ls) g.0 starts)
both_ways before (k ∷ done) [] rest f g e bad = absurd (some_line k (lines_text done ++ rest) (sym (lines_cons k done rest) ∙ e))
both_ways before (k ∷ done) (l ∷ ls) rest f g e bad =
    let starts : line_text k ++ 10 ∷ (lines_text done ++ rest) ≡ line_text l ++ 10 ∷ lines_text ls =
    sym (lines_cons k done rest) ∙ (e ∙ append_assoc (line_text l) (10 ∷ []) (lines_text ls)) in
    let first = first_once k l (lines_text done ++ rest) (lines_text ls) f.0.fits g.0.fits starts in
    let same : l ≡ k = sym first.0 in
    let next = both_ways (before ++ k ∷ []) done ls rest f.1 (subst (λ (m : Line). StandBehind (before ++ m ∷ []) ls) same g.1) first.1
    (subst (λ (bs : List Line). BeginsNoNext bs rest) (sym (append_assoc before (k ∷ []) done)) bad) in
    (next.0, ap (λ (m : Line). m ∷ done) first.0 ∙ ap (λ (ms : List Line). l ∷ ms) next.1)

-- the lines up to which a text is read are all of a start, where it is one's
pub all_read : (text rest : List ℕ) (done ls : List Line) → AllStand done → text ≡ lines_text done ++ rest → BeginsNoNext done rest
    → AllStand ls → text ≡ lines_text ls → (rest ≡ []) × (done ≡ ls)
all_read text rest done ls f whole bad g is = both_ways [] done ls rest f g (sym whole ∙ is) bad

pub whole_text : (text rest : List ℕ) (ls : List Line) → text ≡ lines_text ls ++ rest → rest ≡ [] → text ≡ lines_text ls
whole_text text rest ls whole none = whole ∙ (ap (λ (t : List ℕ). lines_text ls ++ t) none ∙ append-nil (lines_text ls))
