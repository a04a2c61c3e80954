-- A draft of lines, and of one line more.
use Rattle.std.proofs.Common.{◌≡◌, ℕ, ◌+◌, ◌<◌, true, List, [], ◌∷◌, ◌++◌, Option, Some, None, Bor, MatchOption, length, refl, sym, ap, subst, ◌∙◌}
use Rattle.std.proofs.Common.{arith}
use Rattle.std.specs.Option.{option_to_list}
use Rattle.std.proofs.lemmas.List.{length-append}
use Rattle.un_start.specs.declared.line.Line.{Line}
use Rattle.un_start.specs.declared.line.Line.TheVariants.{Blocks}
use Rattle.un_start.specs.declared.draft.Draft.{Draft}
use Rattle.un_start.specs.Lines.{line_text, lines_text, BeginsWith}
use Rattle.un_start.specs.Places.{last_of, with_register, registers_in, word_on, words_in, fits_in, is_next}
use Rattle.un_start.specs.StartTexts.{AllStand, AreStart, IsGivenBy, IsStartText, BeginsNoNext, IsFirstBad}
use Rattle.un_start.specs.Drafts.{IsDraftOf, with_line, IsTaken, IsReadTo, ending}
use Rattle.un_start.proofs.ReplyLaws.{last_push, replies_push, registers_push, words_push}
use Rattle.un_isa.specs.Starts.{is_start}
use Rattle.un_isa.specs.declared.start.Start.{Start}
use Rattle.un_start.proofs.SoundStarts.{sound_start}
use Rattle.un_start.proofs.TextLaws.{lines_push, stand_push, whole_text, all_read}

pub draft_push : (old new : Draft) (ls : List Line) (l : Line) → IsDraftOf old ls → new.last ≡ Some l → new.count ≡ old.count + 1
    → new.regs ≡ with_register old.regs l → new.words.items ≡ old.words.items ++ option_to_list (word_on l)
    → new.replies.items ≡ with_line old.replies.items l → IsDraftOf new (ls ++ l ∷ [])
draft_push old new ls l d last count regs words replies =
    let more = length-append ls (l ∷ []) in
    let so_far = d.count in
    record {
      last = last ∙ sym (last_push ls l);
      count = omega (arith, count, so_far, more);
      regs = regs ∙ (ap (λ (rs : List ℕ). with_register rs l) d.regs ∙ sym (registers_push ls l));
      words = words ∙ (ap (λ (ws : List (ℕ × ℕ)). ws ++ option_to_list (word_on l)) d.words ∙ sym (words_push ls l));
      replies = replies ∙ (ap (λ rs. with_line rs l) d.replies ∙ sym (replies_push ls l));
    }

-- what the draft says of a line is what its lines say
pub told : (d : Draft) (ls : List Line) (l : Line) → IsDraftOf d ls → fits_in l d.last d.words.items (length d.replies.items) ≡ is_next ls l
told d ls l is =
    ap (λ (o : Option Line). fits_in l o d.words.items (length d.replies.items)) is.last
    ∙ (ap (λ (ws : List (ℕ × ℕ)). fits_in l (last_of ls) ws (length d.replies.items)) is.words
    ∙ ap (λ rs. fits_in l (last_of ls) (words_in ls) (length rs)) is.replies)

pub taken : (old new : Draft) (ls : List Line) (l : Line) (text rest : List ℕ) → IsDraftOf old ls → BeginsWith text l rest
    → fits_in l old.last old.words.items (length old.replies.items) ≡ true → IsDraftOf new (ls ++ l ∷ []) → IsTaken ls text rest new
taken old new ls l text rest d b fits more = record {
  line = l;
  stands = record { fits = b.fits; next = sym (told old ls l d) ∙ fits };
  whole = b.whole;
  draft = more;
}

-- the lines so far of a text, and what is left of it
pub record SoFar (text left : List ℕ) (d : Draft) : Type 0 where
  pub lines : List Line
  pub stand : AllStand lines
  pub whole : text ≡ lines_text lines ++ left
  pub draft : IsDraftOf d lines

pub so_far_none : (text : List ℕ) (d : Draft) → IsDraftOf d [] → SoFar text text d
so_far_none text d is = record { lines = []; stand = tt; whole = refl; draft = is }

pub so_far_more : (text left rest : List ℕ) (old new : Draft) (s : SoFar text left old) → IsTaken s.lines left rest new → SoFar text rest new
so_far_more text left rest old new s t = record {
  lines = s.lines ++ t.line ∷ [];
  stand = stand_push [] s.lines t.line s.stand t.stands;
  whole = s.whole ∙ (ap (λ (r : List ℕ). lines_text s.lines ++ r) t.whole ∙ lines_push s.lines t.line rest);
  draft = t.draft;
}

-- the same of an answer that is some text
pub so_far_taken : (text left : List ℕ) (old new : Draft) (s : SoFar text left old) (o : Option (Bor (List ℕ))) (r : Bor (List ℕ))
    → o ≡ Some r → MatchOption o (BeginsNoNext s.lines left × IsDraftOf new s.lines) (λ x. IsTaken s.lines left x.now new)
    → SoFar text r.now new
so_far_taken text left old new s (Some x) r is taken =
    let same : x ≡ r = cc is in
    so_far_more text left r.now old new s (subst (λ (y : Bor (List ℕ)). IsTaken s.lines left y.now new) same taken)
so_far_taken text left old new s None r is taken = absurd (cc is)

pub shorter : (ls : List Line) (text rest : List ℕ) (d : Draft) → IsTaken ls text rest d → length rest < length text
shorter ls text rest d t =
    let all = ap (λ (bs : List ℕ). length bs) t.whole in
    let parts = length-append (line_text t.line) (10 ∷ rest) in
    omega (arith, all, parts)

pub read_to : (text left : List ℕ) (old new : Draft) (s : SoFar text left old) → BeginsNoNext s.lines left × IsDraftOf new s.lines
    → IsReadTo text left new
read_to text left old new s end = record { lines = s.lines; stand = s.stand; whole = s.whole; draft = end.1; bad = end.0 }

-- what is read gives a start
pub draft_start : (text rest : List ℕ) (d : Draft) → IsReadTo text rest d → is_start d.regs d.words.items d.replies.items ≡ true
draft_start text rest d r =
    ap (λ (regs : List ℕ). is_start regs d.words.items d.replies.items) r.draft.regs
    ∙ (ap (λ (ws : List (ℕ × ℕ)). is_start (registers_in r.lines) ws d.replies.items) r.draft.words
    ∙ (ap (λ rs. is_start (registers_in r.lines) (words_in r.lines) rs) r.draft.replies ∙ sound_start r.lines r.stand))

-- ---- the end of a text

ended : (last : Option Line) (rest : List ℕ) (n : ℕ) → ending last rest ≡ Some n → (rest ≡ []) × (last ≡ Some (Blocks n))
ended (Some (Blocks m)) [] n e = (refl, cc e)
ended o [] n e = absurd (cc e)
ended o (b ∷ bs) n e = absurd (cc e)

unended : (last : Option Line) (rest : List ℕ) → ending last rest ≡ None → rest ≡ [] → (n : ℕ) → last ≡ Some (Blocks n) → ⊥
unended last rest e none n is = cc (sym e ∙ (ap (ending last) none ∙ ap (λ (o : Option Line). ending o []) is))

-- the start that is read
pub start_read : (text rest : List ℕ) (d : Draft) (s : Start) (n : ℕ) → IsReadTo text rest d → ending d.last rest ≡ Some n
    → s.regs ≡ d.regs → s.memory ≡ d.words.items → s.replies ≡ d.replies.items → IsStartText text s n
start_read text rest d s n r end regs memory replies =
    let e = ended d.last rest n end in
    record {
      lines = r.lines;
      are = record { stand = r.stand; ends = sym r.draft.last ∙ e.1 };
      spelled = whole_text text rest r.lines r.whole e.0;
      given = record { regs = regs ∙ r.draft.regs; memory = memory ∙ r.draft.words; replies = replies ∙ r.draft.replies };
    }

-- is that of the text's lines
pub start_back : (text rest : List ℕ) (d : Draft) (s : Start) (n : ℕ) → IsReadTo text rest d → ending d.last rest ≡ Some n
    → s.regs ≡ d.regs → s.memory ≡ d.words.items → s.replies ≡ d.replies.items → (ls : List Line) (m : ℕ) → AreStart ls m
    → text ≡ lines_text ls → IsGivenBy ls s × (n ≡ m)
start_back text rest d s n r end regs memory replies ls m are is =
    let e = ended d.last rest n end in
    let same = (all_read text rest r.lines ls r.stand r.whole r.bad are.stand is).1 in
    let given : IsGivenBy r.lines s =
    record { regs = regs ∙ r.draft.regs; memory = memory ∙ r.draft.words; replies = replies ∙ r.draft.replies } in
    let last : Some (Blocks n) ≡ Some (Blocks m) = sym e.1 ∙ (r.draft.last ∙ (ap last_of same ∙ are.ends)) in
    (subst (λ (ks : List Line). IsGivenBy ks s) same given, cc last)

-- and the line behind what is read is the first bad one, where that is no start
pub first_bad : (text rest : List ℕ) (d : Draft) → IsReadTo text rest d → ending d.last rest ≡ None → IsFirstBad text (d.count + 1)
first_bad text rest d r end = record {
  before = r.lines;
  rest = rest;
  stand = r.stand;
  whole = r.whole;
  bad = r.bad;
  unended = λ none n ends. unended d.last rest end none n (r.draft.last ∙ ends);
  numbered = ap (λ (k : ℕ). k + 1) r.draft.count;
}

-- and no start's text has one
pub none_bad : (text rest : List ℕ) (d : Draft) → IsReadTo text rest d → ending d.last rest ≡ None → (ls : List Line) (m : ℕ)
    → AreStart ls m → text ≡ lines_text ls → ⊥
none_bad text rest d r end ls m are is =
    let both = all_read text rest r.lines ls r.stand r.whole r.bad are.stand is in
    unended d.last rest end both.0 m (r.draft.last ∙ (ap last_of both.1 ∙ are.ends))
