-- A text is a function or has one fault.
use Rattle.std.proofs.Common.{ℕ, ◌≡◌, ◌+◌, ◌<◌, ◌≤◌, ◌⊎◌, inl, inr, List, Some, Option, unwrap_or}
use Rattle.std.proofs.Common.{refl, sym, ap, ◌∙◌, subst, arith}
use Rattle.std.proofs.lemmas.Bool.{cases_lt}
use Rattle.un_ir.specs.declared.function.Function.{Function}
use Rattle.un_faults.specs.Codes.{code_of}
use Rattle.un_faults.specs.LineFaults.{fault_at}
use Rattle.un_reader.specs.Lines.{IsFirstLineFault}
use Rattle.un_words.specs.Pieces.{lines_in}
use Rattle.un_reader.specs.Read.{IsRead, IsTextFault, too_long, on_line, in_whole, at_entry}
use Rattle.un_faults.specs.declared.fault.Fault.{Fault}
use Rattle.un_faults.specs.declared.fault.Fault.TheVariants.{TooMany}
use Rattle.un_reader.proofs.OneAnswer.{no_line_fault, language_or_fault}
use Rattle.un_runs.specs.Refusals.{IsFaultOf as IsFault}

first_line_unique : (lines : List (List ℕ)) (l line : ℕ) (f fault : Fault) → IsFirstLineFault lines l f → IsFirstLineFault lines line fault
    → (l ≡ line) × (f ≡ fault)
first_line_unique lines l line f fault a b = by (cases_lt a.place b.place)
  where
    same : a.place ≡ b.place → (l ≡ line) × (f ≡ fault)
    same e =
        let here_a : fault_at lines b.place ≡ Some f = subst (λ (k : ℕ). fault_at lines k ≡ Some f) e a.here in
        let here_b = b.here in
        (a.number ∙ (ap (λ (k : ℕ). k + 1) e ∙ sym b.number), cc)

    by : (a.place < b.place) ⊎ (b.place ≤ a.place) → (l ≡ line) × (f ≡ fault)
    by (inl h) = absurd (let none = b.before a.place h in let here = a.here in cc)
    by (inr h) = by_other (cases_lt b.place a.place)
      where
        by_other : (b.place < a.place) ⊎ (a.place ≤ b.place) → (l ≡ line) × (f ≡ fault)
        by_other (inl k) = absurd (let none = a.before b.place k in let here = b.here in cc)
        by_other (inr k) = same (omega arith)

same_pair : (l line : ℕ) (f fault : Fault) → ◌≡◌ {A = Option (ℕ × Fault)} (Some (l, f)) (Some (line, fault)) → (l ≡ line) × (f ≡ fault)
same_pair l line f fault e =
    (ap (λ (o : Option (ℕ × Fault)). (unwrap_or o (0, TooMany)).0) e, ap (λ (o : Option (ℕ × Fault)). (unwrap_or o (0, TooMany)).1) e)

-- the first fault of the language is one
language_unique : (text : List ℕ) (l line : ℕ) (f fault : Fault) → IsTextFault text l f → IsTextFault text line fault → (l ≡ line)
    × (f ≡ fault)
language_unique text _ _ _ _ (too_long a) (too_long b) = (refl, refl)
language_unique text _ _ _ _ (too_long a) (on_line line fault within first) = absurd (omega arith)
language_unique text _ _ _ _ (too_long a) (in_whole line fault within none whole) = absurd (omega arith)
language_unique text _ _ _ _ (too_long a) (at_entry name within none whole live) = absurd (omega arith)
language_unique text _ _ _ _ (on_line l f within a) (too_long b) = absurd (omega arith)
language_unique text _ _ _ _ (on_line l f within a) (on_line line fault within' b) = first_line_unique (lines_in text) l line f fault a b
language_unique text _ _ _ _ (on_line l f within a) (in_whole line fault within' none whole) =
    absurd (no_line_fault (lines_in text) l f none a)
language_unique text _ _ _ _ (on_line l f within a) (at_entry name within' none whole live) =
    absurd (no_line_fault (lines_in text) l f none a)
language_unique text _ _ _ _ (in_whole l f within none a) (too_long b) = absurd (omega arith)
language_unique text _ _ _ _ (in_whole l f within none a) (on_line line fault within' b) =
    absurd (no_line_fault (lines_in text) line fault none b)
language_unique text _ _ _ _ (in_whole l f within none a) (in_whole line fault within' none' b) = same_pair l line f fault (sym a ∙ b)
language_unique text _ _ _ _ (in_whole l f within none a) (at_entry name within' none' whole live) = absurd (cc)
language_unique text _ _ _ _ (at_entry name within none whole live) (too_long b) = absurd (omega arith)
language_unique text _ _ _ _ (at_entry name within none whole live) (on_line line fault within' b) =
    absurd (no_line_fault (lines_in text) line fault none b)
language_unique text _ _ _ _ (at_entry name within none whole live) (in_whole line fault within' none' b) = absurd (cc)
language_unique text _ _ _ _ (at_entry name within none whole live) (at_entry name' within' none' whole' live') = (refl, refl)

-- a text has one fault
pub fault_unique : (text : List ℕ) (l c line code : ℕ) → IsFault text l c → IsFault text line code → (l ≡ line) × (c ≡ code)
fault_unique text l c line code a b =
    let same = language_unique text l line a.fault b.fault a.is b.is in (same.0, a.coded ∙ (ap code_of same.1 ∙ sym b.coded))

-- the text of a function has no fault
pub read_has_no_fault : (text : List ℕ) (f : Function) (line code : ℕ) → IsRead text f → IsFault text line code → ⊥
read_has_no_fault text f line code read h = language_or_fault text f line h.fault read h.is
