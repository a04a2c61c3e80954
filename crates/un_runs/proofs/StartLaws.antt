-- Starts at the front of texts: behind one no line goes on, so there is one at most, and the line behind it is the first bad one.
use Rattle.std.proofs.Common.{◌≡◌, ℕ, ◌+◌, ◌&&◌, length, Option, true, false, List, [], ◌∷◌, ◌++◌, Some, refl, sym, ap, ◌∙◌, subst, append_assoc, append-nil}
use Rattle.std.proofs.lemmas.Bool.{true≢false, and_parts}
use Rattle.un_isa.specs.declared.start.Start.{Start}
use Rattle.un_start.specs.declared.line.Line.{Line}
use Rattle.un_start.specs.declared.line.Line.TheVariants.{Reg, Mem, Reply, Set, Junk, Blocks}
use Rattle.un_start.specs.Lines.{line_text, lines_text}
use Rattle.un_start.specs.Places.{last_of, registers_in, is_good, follows, has_room as has_place, fits_in, words_in, replies_in}
use Rattle.un_start.specs.StartTexts.{StandBehind, BeginsNoNext, EndsWith, IsStartText, IsFirstBad}
use Rattle.un_start.proofs.LineLaws.{first_once}
use Rattle.un_start.proofs.TextLaws.{lines_cons, all_read}
use Rattle.un_runs.specs.Refusals.{IsRoomy}
use Rattle.un_runs.specs.Shown.{has_room}

-- a text is cut in one way into lines that may stand and what goes on with none that may
both_ways : (before ks ls : List Line) (rest left : List ℕ) → StandBehind before ks → StandBehind before ls
    → lines_text ks ++ rest ≡ lines_text ls ++ left → BeginsNoNext (before ++ ks) rest → BeginsNoNext (before ++ ls) left → ks ≡ ls
both_ways before [] [] rest left f g e b c = refl
both_ways before [] (l ∷ ls) rest left f g e b c =
    absurd (subst (λ (bs : List Line). BeginsNoNext bs rest) (append-nil before) b l (lines_text ls ++ left) g.0 (e ∙ lines_cons l ls left))
both_ways before (k ∷ ks) [] rest left f g e b c =
    absurd (subst (λ (bs : List Line). BeginsNoNext bs left) (append-nil before) c k (lines_text ks ++ rest) f.0
    (sym e ∙ lines_cons k ks rest))
both_ways before (k ∷ ks) (l ∷ ls) rest left f g e b c =
    let starts : line_text k ++ 10 ∷ (lines_text ks ++ rest) ≡ line_text l ++ 10 ∷ (lines_text ls ++ left) =
    sym (lines_cons k ks rest) ∙ (e ∙ lines_cons l ls left) in
    let first = first_once k l (lines_text ks ++ rest) (lines_text ls ++ left) f.0.fits g.0.fits starts in
    let same : l ≡ k = sym first.0 in
    let next = both_ways (before ++ k ∷ []) ks ls rest left f.1 (subst (λ (m : Line). StandBehind (before ++ m ∷ []) ls) same g.1) first.1
    (subst (λ (bs : List Line). BeginsNoNext bs rest) (sym (append_assoc before (k ∷ []) ks)) b)
    (subst (λ (bs : List Line). BeginsNoNext bs left)
    (ap (λ (m : Line). before ++ m ∷ ls) same ∙ sym (append_assoc before (k ∷ []) ls)) c) in
    ap (λ (m : Line). m ∷ ks) first.0 ∙ ap (λ (ms : List Line). l ∷ ms) next

-- ---- behind a start

none_follows : (l : Line) (n : ℕ) → follows l (Some (Blocks n)) ≡ false
none_follows (Reg r m) n = refl
none_follows (Mem a w) n = refl
none_follows (Reply m) n = refl
none_follows (Set a w) n = refl
none_follows (Junk r m) n = refl
none_follows (Blocks m) n = refl

none_fits : (l : Line) (n : ℕ) (words : List (ℕ × ℕ)) (replies : ℕ) → fits_in l (Some (Blocks n)) words replies ≡ true → ⊥
none_fits l n words replies h =
    let parts = and_parts (is_good l && follows l (Some (Blocks n))) (has_place l words replies) h in
    true≢false (sym (and_parts (is_good l) (follows l (Some (Blocks n))) parts.0).1 ∙ none_follows l n)

-- behind the number of blocks no line may stand
no_more : (ls : List Line) (n : ℕ) (rest : List ℕ) → EndsWith ls n → BeginsNoNext ls rest
no_more ls n rest ends l behind may e =
    none_fits l n (words_in ls) (length (replies_in ls))
    (subst (λ (last : Option Line). fits_in l last (words_in ls) (length (replies_in ls)) ≡ true) ends may.next)

-- starts at the front of one text have the same lines
same_lines : (f g rest left : List ℕ) (s t : Start) (m n : ℕ) (h : IsStartText f s m) (k : IsStartText g t n) → f ++ rest ≡ g ++ left
    → h.lines ≡ k.lines
same_lines f g rest left s t m n h k e =
    both_ways [] h.lines k.lines rest left h.are.stand k.are.stand
    (ap (λ (xs : List ℕ). xs ++ rest) (sym h.spelled) ∙ (e ∙ ap (λ (xs : List ℕ). xs ++ left) k.spelled))
    (no_more h.lines m rest h.are.ends) (no_more k.lines n left k.are.ends)

-- so they are one text
pub one_front : (f g rest left : List ℕ) (s t : Start) (m n : ℕ) → IsStartText f s m → IsStartText g t n → f ++ rest ≡ g ++ left → f ≡ g
one_front f g rest left s t m n h k e = h.spelled ∙ (ap lines_text (same_lines f g rest left s t m n h k e) ∙ sym k.spelled)

-- and have the same registers
pub one_start : (f g rest left : List ℕ) (s t : Start) (m n : ℕ) → IsStartText f s m → IsStartText g t n → f ++ rest ≡ g ++ left
    → s.regs ≡ t.regs
one_start f g rest left s t m n h k e = h.given.regs ∙ (ap registers_in (same_lines f g rest left s t m n h k e) ∙ sym k.given.regs)

-- ---- bad lines

-- the line behind a start is the first bad one
before_bad : (text front rest : List ℕ) (s : Start) (n line : ℕ) (h : IsStartText front s n) (b : IsFirstBad text line)
    → text ≡ front ++ rest → b.before ≡ h.lines
before_bad text front rest s n line h b e =
    both_ways [] b.before h.lines b.rest rest b.stand h.are.stand (sym b.whole ∙ (e ∙ ap (λ (xs : List ℕ). xs ++ rest) h.spelled)) b.bad
    (no_more h.lines n rest h.are.ends)

-- a start has no bad line
pub start_not_bad : (text : List ℕ) (s : Start) (n line : ℕ) → IsStartText text s n → IsFirstBad text line → ⊥
start_not_bad text s n line h b =
    let both = all_read text b.rest b.before h.lines b.stand b.whole b.bad h.are.stand h.spelled in
    b.unended both.0 n (ap last_of both.1 ∙ h.are.ends)

-- and another text one
pub one_bad_line : (text : List ℕ) (m n : ℕ) → IsFirstBad text m → IsFirstBad text n → m ≡ n
one_bad_line text m n b c =
    let same : b.before ≡ c.before =
    both_ways [] b.before c.before b.rest c.rest b.stand c.stand (sym b.whole ∙ c.whole) b.bad c.bad in
    b.numbered ∙ (ap (λ (ls : List Line). length ls + 1) same ∙ sym c.numbered)

-- ---- rooms

-- no start without room stands at the front of a text where the lines before its first bad one are no start
pub roomy_none : (frame : ℕ) (text front : List ℕ) (line bad : ℕ) (b : IsFirstBad text line) → front ≡ lines_text b.before
    → IsFirstBad front bad → IsRoomy frame text
roomy_none frame text front line bad b is none n k =
    let lines = before_bad text k.front k.rest k.start k.count line k.started b k.whole in
    let same : k.front ≡ front = k.started.spelled ∙ (ap lines_text (sym lines) ∙ sym is) in
    start_not_bad front k.start k.count bad (subst (λ (t : List ℕ). IsStartText t k.start k.count) same k.started) none

-- or a start with room
pub roomy_start : (frame : ℕ) (text front rest : List ℕ) (s : Start) (n : ℕ) → text ≡ front ++ rest → IsStartText front s n
    → has_room frame s.regs ≡ true → IsRoomy frame text
roomy_start frame text front rest s n whole h room line k =
    let same : s.regs ≡ k.start.regs = one_start front k.front rest k.rest s k.start n k.count h k.started (sym whole ∙ k.whole) in
    true≢false (sym room ∙ (ap (has_room frame) same ∙ k.tight))
