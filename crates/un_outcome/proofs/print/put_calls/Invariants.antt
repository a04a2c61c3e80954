-- the text so far with what is left is the whole
use Rattle.std.proofs.Common.{◌≡◌, ◌++◌, drop, map}
use Rattle.un_base.specs.Lines.{joined_lines}
use Rattle.un_outcome.specs.Outcomes.{call_line}
use Rattle.un_outcome.proofs.print.put_calls.Given as goal

abbrev pub invariant-loop-call : goal.invariant-loop-call
invariant-loop-call l =
    l.out.items ++ joined_lines (map call_line (drop l.call-index l.calls)) ≡ l.initial.out.items ++ joined_lines (map call_line l.calls)
