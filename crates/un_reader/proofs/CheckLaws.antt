-- The lines that were read, one more, and all.
use Rattle.std.proofs.Common.{◌≡◌, ℕ, ◌+◌, ◌<◌, ◌++◌, List, [], ◌∷◌, Some, None, map, length, slice_get, refl, sym, ap, ◌∙◌, append_assoc}
use Rattle.std.proofs.Common.{below_more, arith, subst, true, false}
use Rattle.std.proofs.lemmas.List.{map_push, take_at, length_push, length-map}
use Rattle.std.specs.List.{list_all}
use Rattle.un_base.specs.Lines.{pieces_of}
use Rattle.un_faults.specs.declared.fault.Fault.{Fault}
use Rattle.un_faults.specs.declared.fault.Fault.TheVariants.{BadByte, BadLine}
use Rattle.un_faults.specs.declared.before.Before.{Before}
use Rattle.un_words.specs.declared.line.Line.{Line}
use Rattle.un_reader.specs.declared.error.ReadError.{ReadError}
use Rattle.un_reader.specs.declared.error.ReadError.TheVariants.{NoMemory, TextFault}
use Rattle.un_faults.specs.Before.{before_of}
use Rattle.un_faults.specs.Codes.{code_of}
use Rattle.un_reader.specs.Errors.{Tells}
use Rattle.un_words.specs.Pieces.{without_end, without_comment, lines_in}
use Rattle.un_words.specs.Tokens.{tokens_of}
use Rattle.un_words.specs.Shapes.{shape_of, line_of}
use Rattle.un_faults.specs.LineFaults.{is_plain_byte, line_fault, fault_at}
use Rattle.un_reader.specs.Lines.{IsFirstLineFault}

-- these lines were read without a fault, and these bytes are left
pub record Seen (all : List (List ℕ)) (lines : List Line) (rest : List (List ℕ)) : Type 0 where
  pub front : List (List ℕ)
  pub split : all ≡ front ++ rest
  pub read : lines ≡ map line_of front
  pub good : (k : ℕ) → k < length front → fault_at all k ≡ None

slice_get_at : {X : Type 0} (xs : List X) (y : X) (ys : List X) → slice_get (xs ++ y ∷ ys) (length xs) ≡ Some y
slice_get_at [] y ys = refl
slice_get_at (x ∷ xs) y ys = slice_get_at xs y ys

-- the fault of the line that comes next
pub next_fault : (front : List (List ℕ)) (bytes : List ℕ) (rest : List (List ℕ))
    → fault_at (front ++ bytes ∷ rest) (length front) ≡ line_fault (before_of (map line_of front)) bytes
next_fault front bytes rest = rw (slice_get_at front bytes rest, take_at front (bytes ∷ rest) (length front) refl) refl

pub seen_none : (all : List (List ℕ)) → Seen all [] all
seen_none all = record { front = []; split = refl; read = refl; good = λ k h. absurd (omega arith) }

module _ (all : List (List ℕ)) (lines : List Line) where
  -- the fault of the next line, by the lines that were read
  pub fault_next : (bytes : List ℕ) (rest : List (List ℕ)) (s : Seen all lines (bytes ∷ rest))
      → fault_at all (length s.front) ≡ line_fault (before_of lines) bytes
  fault_next bytes rest s = rw (s.split, s.read) (next_fault s.front bytes rest)

  pub seen_more : (bytes : List ℕ) (rest : List (List ℕ)) (line : Line) → Seen all lines (bytes ∷ rest)
      → line_fault (before_of lines) bytes ≡ None → line ≡ line_of bytes → Seen all (lines ++ line ∷ []) rest
  seen_more bytes rest line s none is = record {
    front = s.front ++ bytes ∷ [];
    split = s.split ∙ sym (append_assoc s.front (bytes ∷ []) rest);
    read = rw (s.read, is) (sym (map_push line_of s.front bytes));
    good = λ k h. below_more_lem k h;
  }
    where
      count : length (s.front ++ bytes ∷ []) ≡ length s.front + 1
      count = length_push s.front bytes

      below_more_lem : (k : ℕ) → k < length (s.front ++ bytes ∷ []) → fault_at all k ≡ None
      below_more_lem k h =
          below_more (λ (j : ℕ). fault_at all j ≡ None) (length s.front) s.good (fault_next bytes rest s ∙ none) k (omega (arith, count))

  -- the next line has the first fault
  pub seen_fault : (bytes : List ℕ) (rest : List (List ℕ)) (e : ReadError) → Seen all lines (bytes ∷ rest)
      → Tells (λ l fault. (l ≡ length lines + 1) × (line_fault (before_of lines) bytes ≡ Some fault)) e → Tells (IsFirstLineFault all) e
  seen_fault bytes rest NoMemory s t = tt
  seen_fault bytes rest (TextFault line code) s (fault, is, (number, here)) = (
    fault,
    is,
    record {
      place = length s.front;
      number = number ∙ ap (λ n. n + 1) (ap length s.read ∙ length-map s.front line_of);
      here = fault_next bytes rest s ∙ here;
      before = s.good;
    },
  )

-- the first line of a text
first_line : (piece old new bytes : List ℕ) → pieces_of old ≡ piece ∷ pieces_of new → bytes ≡ without_comment (without_end piece)
    → lines_in old ≡ bytes ∷ lines_in new
first_line piece old new bytes cut is = rw (cut, is) refl

-- one line further on, by what is left of the text
pub seen_step : (all : List (List ℕ)) (lines : List Line) (line : Line) (before : Before) (piece old new bytes : List ℕ)
    → Seen all lines (lines_in old) → pieces_of old ≡ piece ∷ pieces_of new → bytes ≡ without_comment (without_end piece)
    → before ≡ before_of lines → line_fault before bytes ≡ None → line ≡ line_of bytes
    → Seen all (lines ++ line ∷ []) (lines_in new)
seen_step all lines line before piece old new bytes s cut is same none read =
    seen_more all lines bytes (lines_in new) line (subst (Seen all lines) (first_line piece old new bytes cut is) s) (rw (← same) none) read

pub fault_step : (all : List (List ℕ)) (lines : List Line) (before : Before) (piece old new bytes : List ℕ) (e : ReadError)
    → Seen all lines (lines_in old) → pieces_of old ≡ piece ∷ pieces_of new → bytes ≡ without_comment (without_end piece)
    → before ≡ before_of lines → Tells (λ l fault. (l ≡ length lines + 1) × (line_fault before bytes ≡ Some fault)) e
    → Tells (IsFirstLineFault all) e
fault_step all lines before piece old new bytes e s cut is same tells =
    seen_fault all lines bytes (lines_in new) e (subst (Seen all lines) (first_line piece old new bytes cut is) s)
    (subst (λ (b : Before). Tells (λ l fault. (l ≡ length lines + 1) × (line_fault b bytes ≡ Some fault)) e) same tells)

-- ---- the faults that come before a shape

pub told : (P : ℕ → Fault → Type 0) (line : ℕ) (fault : Fault) (e : ReadError) → e ≡ TextFault line (code_of fault) → P line fault
    → Tells P e
told P line fault e is p = subst (Tells P) (sym is) (fault, refl, p)

pub bad_byte : (before : Before) (bytes : List ℕ) → list_all is_plain_byte bytes ≡ false → line_fault before bytes ≡ Some BadByte
bad_byte before bytes h = rw h refl

pub bad_line : (before : Before) (bytes : List ℕ) → list_all is_plain_byte bytes ≡ true → shape_of (tokens_of bytes) ≡ None
    → line_fault before bytes ≡ Some BadLine
bad_line before bytes h none = rw (h, none) refl
