-- The text of an outcome: a line for how the run ended, with a line for each value where a further block would be entered; a line for
-- each call and each word of memory; and for packets a line with the cycles.
use Rattle.std.specs.Prelude.{ℕ, List, [], ◌∷◌, ◌++◌, Option, Some, None, map, codes, decimal}
use Rattle.std.specs.List.{flat_map}
use Rattle.un_base.specs.Lines.{joined_lines}
use Rattle.un_base.specs.declared.ids.NameId.{NameId}
use Rattle.un_isa.specs.declared.outcome.CallRecord.{CallRecord}
use Rattle.un_isa.specs.declared.outcome.End.{End}
use Rattle.un_isa.specs.declared.outcome.End.TheVariants.{Returned, Trapped, Waiting, Running}
use Rattle.un_isa.specs.declared.outcome.Outcome.{Outcome}
use Rattle.un_ir.specs.Text.{Names, name_text}

-- numbers, each behind a space
abbrev pub spaced_numbers : List ℕ → List ℕ
spaced_numbers ns = flat_map (λ (n : ℕ). codes " " ++ decimal n) ns

-- the number behind a text, where there is one
abbrev pub number_behind : List ℕ → Option ℕ → List ℕ
number_behind text None = []
number_behind text (Some n) = text ++ decimal n

-- the name of what is called, and the arguments
abbrev pub call_text : CallRecord → List ℕ
call_text call = call.name ++ spaced_numbers call.args

-- the result, where there is one, and for packets the address to which they return
abbrev pub returned_line : Option ℕ → Option ℕ → List ℕ
returned_line result target = codes "returned" ++ (number_behind (codes " ") result ++ number_behind (codes " target ") target)

-- a name with its value; a predicate's is 1 for true and 0 for false
abbrev pub value_line : Names → NameId × ℕ → List ℕ
value_line names v = codes "value " ++ (name_text names v.0 ++ (codes " " ++ decimal v.1))

abbrev pub end_lines : Names → End → List (List ℕ)
end_lines names (Returned result target) = returned_line result target ∷ []
end_lines names Trapped = codes "trapped" ∷ []
end_lines names (Waiting call) = (codes "waiting " ++ call_text call) ∷ []
end_lines names (Running label values) = (codes "running " ++ label) ∷ map (value_line names) values

abbrev pub call_line : CallRecord → List ℕ
call_line call = codes "call " ++ call_text call

-- an address and the word there
abbrev pub word_line : ℕ × ℕ → List ℕ
word_line w = codes "mem " ++ (decimal w.0 ++ (codes " " ++ decimal w.1))

abbrev pub cycle_lines : Option ℕ → List (List ℕ)
cycle_lines None = []
cycle_lines (Some n) = (codes "cycles " ++ decimal n) ∷ []

-- the lines of an outcome of a function with these names; code has none
abbrev pub outcome_lines : Names → Outcome → List (List ℕ)
outcome_lines names o = end_lines names o.end ++ (map call_line o.calls ++ (map word_line o.memory ++ cycle_lines o.cycles))

abbrev pub outcome_text : Names → Outcome → List ℕ
outcome_text names o = joined_lines (outcome_lines names o)
