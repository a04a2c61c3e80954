-- no line so far does it
use Rattle.std.proofs.Common.{◌≡◌, ◌+◌, drop}
use Rattle.std.specs.List.{position_or_len}
use Rattle.un_faults.specs.TextFaults.{does}
use Rattle.un_faults.proofs.text_fault.first_wrong.Given as goal

abbrev pub invariant-loop-i : goal.invariant-loop-i
invariant-loop-i l =
    position_or_len (does l.wrong l.labels) l.lines ≡ l.i + position_or_len (does l.wrong l.labels) (drop l.i l.lines)
