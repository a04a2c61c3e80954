-- Errors at a place, and at an earlier one.
use Rattle.std.proofs.Common.{◌≡◌, ℕ, ◌+◌, inl, inr, List, ◌++◌, refl, sym, subst, arith}
use Rattle.un_report_reader.specs.declared.error.ReportError.{ReportError}
use Rattle.un_report_reader.specs.declared.error.ReportError.TheVariants.{NoMemory, BadReport}
use Rattle.un_report_reader.specs.declared.place.Place.{Place}
use Rattle.un_report_reader.specs.Errors.{Names, IsErrorAt, IsRead}
use Rattle.un_report_reader.specs.FirstBad.{IsBadLine, InLine}
use Rattle.un_report_reader.specs.Lines.{one}

-- an error that names a line is that of a relation that has it
pub named : (bad : List ℕ → ℕ → Type 0) (at : Place) (line : ℕ) (e : ReportError) → Names (at.lines + line) e → bad at.rest.now line
    → IsErrorAt bad at e
named bad at line NoMemory names h = tt
named bad at line (BadReport n) names h = record { line = line; is_bad = h; numbered = names }

pub no_memory : (bad : List ℕ → ℕ → Type 0) (at : Place) (e : ReportError) → e ≡ NoMemory → IsErrorAt bad at e
no_memory bad at e is = subst (IsErrorAt bad at) (sym is) tt

-- a bad line of one relation is one of another
pub weaker : (bad worse : List ℕ → ℕ → Type 0) (at : Place) (e : ReportError) → ((line : ℕ) → bad at.rest.now line → worse at.rest.now line)
    → IsErrorAt bad at e → IsErrorAt worse at e
weaker bad worse at NoMemory f h = tt
weaker bad worse at (BadReport n) f h = record { line = h.line; is_bad = f h.line h.is_bad; numbered = h.numbered }

-- an error behind a part is one of what begins with the part
pub through : {V : Type 0} (good : V → Type 0) (text_of : V → List ℕ) (lines_of : V → ℕ) (inner outer : List ℕ → ℕ → Type 0)
    → (at : Place) (v : V) (next : Place) → IsRead good text_of lines_of at v next
    → ((text rest : List ℕ) (line : ℕ) → good v → text ≡ text_of v ++ rest → inner rest line → outer text (lines_of v + line))
    → (e : ReportError) → IsErrorAt inner next e → IsErrorAt outer at e
through good text_of lines_of inner outer at v next r f NoMemory h = tt
through good text_of lines_of inner outer at v next r f (BadReport n) h =
    let counted : n ≡ next.lines + h.line = h.numbered in
    let so_far : next.lines ≡ at.lines + lines_of v = r.numbered in
    record {
      line = lines_of v + h.line;
      is_bad = f at.rest.now next.rest.now h.line r.is_good r.whole h.is_bad;
      numbered = omega (arith, counted, so_far);
    }

-- the same behind one line
pub behind_line : {V : Type 0} (good : V → Type 0) (text_of : V → List ℕ) (later : V → List ℕ → ℕ → Type 0) (v : V)
    (text rest : List ℕ) (line : ℕ) → good v → text ≡ text_of v ++ rest → later v rest line → InLine good text_of later text (1 + line)
behind_line good text_of later v text rest line g whole h =
    inr (record { value = v; rest = rest; behind = line; is_good = g; whole = whole; is_bad = h; numbered = refl })

pub in_line : {V : Type 0} (good : V → Type 0) (text_of : V → List ℕ) (later : V → List ℕ → ℕ → Type 0) (at : Place) (e : ReportError)
    → IsErrorAt (IsBadLine good text_of) at e → IsErrorAt (InLine good text_of later) at e
in_line good text_of later at e h = weaker (IsBadLine good text_of) (InLine good text_of later) at e (λ line b. inl b) h

pub past_line : {V : Type 0} (good : V → Type 0) (text_of : V → List ℕ) (later : V → List ℕ → ℕ → Type 0) (at : Place) (v : V) (next : Place)
    → IsRead good text_of one at v next → (e : ReportError) → IsErrorAt (later v) next e → IsErrorAt (InLine good text_of later) at e
past_line good text_of later at v next r e h =
    through good text_of one (later v) (InLine good text_of later) at v next r
    (λ text rest line g whole b. behind_line good text_of later v text rest line g whole b) e h
