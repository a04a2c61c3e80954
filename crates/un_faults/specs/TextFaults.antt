-- The faults of a whole text, none of whose lines has one.
use Rattle.std.specs.Prelude.{ℕ, ◌+◌, ◌==◌, Bool, true, false, not, List, [], ◌∷◌, length, drop, Option, Some, None, if◌then◌else◌}
use Rattle.std.specs.List.{list_any, position, fold, enumerate_from}
use Rattle.std.specs.Option.{option_map, option_map_or, option_and_then, option_or}
use Rattle.std.specs.Str.{bytes_eq}
use Rattle.un_faults.specs.Vocabulary.{TermLine, Jump, Branch, Ret, Line, Block, Terminator}
use Rattle.un_faults.specs.declared.fault.Fault.{Fault}
use Rattle.un_faults.specs.declared.fault.Fault.TheVariants.{NoBlock, FallsOff, UnknownLabel, JumpToEntry, MixedResult}
use Rattle.un_faults.specs.declared.text_fault.Wrong.{Wrong}
use Rattle.un_faults.specs.declared.text_fault.Wrong.TheVariants.{Outside, ToEntry, OtherReturn}
use Rattle.un_faults.specs.Before.{labels_of}
use Rattle.un_faults.specs.Groups.{term_of}

-- ---- blocks

abbrev pub is_block : Line → Bool
is_block (Block label freq) = true
is_block _ = false

abbrev pub later_block : Option ℕ → ℕ × Line → Option ℕ
later_block last p = if is_block p.1 then Some p.0 else last

-- the place of the last block line
abbrev pub last_block : List Line → Option ℕ
last_block lines = fold later_block None (enumerate_from 0 lines)

-- by a jump or a return
abbrev pub ends_well : Option TermLine → Bool
ends_well None = false
ends_well (Some (Jump to)) = true
ends_well (Some (Branch pred sense to)) = false
ends_well (Some (Ret value)) = true

-- the last block, where it does not end so
abbrev pub falls_off : List Line → Option ℕ
falls_off lines = option_and_then (λ k. if ends_well (term_of (drop (k + 1) lines)) then None else Some k) (last_block lines)

-- ---- jumps

abbrev pub target_of : TermLine → Option (List ℕ)
target_of (Jump to) = Some to
target_of (Branch pred sense to) = Some to
target_of (Ret value) = None

abbrev pub target_on : Line → Option (List ℕ)
target_on (Terminator term) = target_of term
target_on _ = None

-- a jump to no block
abbrev pub jumps_outside : List (List ℕ) → Line → Bool
jumps_outside labels line = option_map_or (λ to. not (list_any (bytes_eq to) labels)) (target_on line) false

abbrev pub is_entry : List (List ℕ) → List ℕ → Bool
is_entry [] to = false
is_entry (entry ∷ labels) to = bytes_eq to entry

-- a jump to the first block
abbrev pub jumps_to_entry : List (List ℕ) → Line → Bool
jumps_to_entry labels line = option_map_or (is_entry labels) (target_on line) false

-- ---- returns

-- whether a return has a value
abbrev pub value_on_term : TermLine → Option Bool
value_on_term (Ret None) = Some false
value_on_term (Ret (Some name)) = Some true
value_on_term _ = None

abbrev pub value_on : Line → Option Bool
value_on (Terminator term) = value_on_term term
value_on _ = None

-- whether the first return has one
abbrev pub first_value : List Line → Option Bool
first_value [] = None
first_value (line ∷ lines) = option_or (value_on line) (first_value lines)

abbrev pub differs : Bool → Bool → Bool
differs true b = not b
differs false b = b

-- a return of another form
abbrev pub returns_else : Bool → Line → Bool
returns_else valued line = option_map_or (differs valued) (value_on line) false

abbrev pub mixed_return : List Line → Option ℕ
mixed_return lines = option_and_then (λ valued. position (returns_else valued) lines) (first_value lines)

-- ---- lines that only the whole text refuses

abbrev pub does : Wrong → List (List ℕ) → Line → Bool
does Outside labels = jumps_outside labels
does ToEntry labels = jumps_to_entry labels
does (OtherReturn valued) labels = returns_else valued

-- ---- the first fault

-- the fault at a place, with its line, which is counted from 1
abbrev pub placed : Fault → Option ℕ → Option (ℕ × Fault)
placed fault place = option_map (λ k. (k + 1, fault)) place

abbrev pub no_block : List Line → Option (ℕ × Fault)
no_block lines = if length (labels_of lines) == 0 then Some (length lines + 1, NoBlock) else None

-- the faults of a text in the order in which they count, liveness left out
abbrev pub shape_faults : List Line → List (Option (ℕ × Fault))
shape_faults lines =
    no_block lines
    ∷ placed FallsOff (falls_off lines)
    ∷ placed UnknownLabel (position (jumps_outside (labels_of lines)) lines)
    ∷ placed JumpToEntry (position (jumps_to_entry (labels_of lines)) lines)
    ∷ placed MixedResult (mixed_return lines)
    ∷ []

abbrev pub first_there : List (Option (ℕ × Fault)) → Option (ℕ × Fault)
first_there [] = None
first_there (f ∷ fs) = option_or f (first_there fs)

-- the first of them
abbrev pub shape_fault : List Line → Option (ℕ × Fault)
shape_fault lines = first_there (shape_faults lines)
