-- the text so far with what is left is the whole
use Rattle.std.proofs.Common.{◌≡◌, ◌++◌, drop, map}
use Rattle.un_base.specs.Lines.{joined_lines}
use Rattle.un_outcome.specs.Outcomes.{value_line}
use Rattle.un_outcome.proofs.print.put_values.Given as goal

abbrev pub invariant-loop-value : goal.invariant-loop-value
invariant-loop-value l =
    l.out.items ++ joined_lines (map (value_line l.names) (drop l.value-index l.values)) ≡ l.initial.out.items ++ joined_lines (map (value_line l.names) l.values)
