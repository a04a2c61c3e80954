-- A text that is a function has no fault.
use Rattle.std.proofs.Common.{ℕ, List, map, take, slice_get, arith}
use Rattle.std.proofs.lemmas.Option.{option_and_then_some, slice_get_within}
use Rattle.un_ir.specs.declared.function.Function.{Function}
use Rattle.un_faults.specs.Before.{before_of}
use Rattle.un_faults.specs.LineFaults.{line_fault}
use Rattle.un_words.specs.Shapes.{line_of}
use Rattle.un_reader.specs.Lines.{HasNoLineFault, IsFirstLineFault, shapes_in}
use Rattle.un_words.specs.Pieces.{lines_in}
use Rattle.un_reader.specs.Read.{IsRead, IsTextFault, too_long, on_line, in_whole, at_entry}
use Rattle.un_faults.specs.declared.fault.Fault.{Fault}
use Rattle.un_reader.proofs.PartLaws.{live_in_parts}

-- no line has a fault, and one has
pub no_line_fault : (lines : List (List ℕ)) (line : ℕ) (fault : Fault) → HasNoLineFault lines → IsFirstLineFault lines line fault → ⊥
no_line_fault lines line fault none first =
    let k = first.place in
    option_and_then_some (line_fault (before_of (map line_of (take k lines)))) (slice_get lines k) fault first.here
    (λ bytes got is. let other = none k (slice_get_within lines k bytes got) in let here = first.here in cc)

pub language_or_fault : (text : List ℕ) (f : Function) (line : ℕ) (fault : Fault) → IsRead text f → IsTextFault text line fault → ⊥
language_or_fault text f _ _ h (too_long long) = let within = h.within in omega arith
language_or_fault text f _ _ h (on_line line fault within first) = no_line_fault (lines_in text) line fault h.lines first
language_or_fault text f _ _ h (in_whole line fault within none whole) = let other = h.whole in cc
language_or_fault text f _ _ h (at_entry name within none whole live) =
    h.entry name (live_in_parts (shapes_in text) f.name f.params f.names f.blocks name h.is live)
