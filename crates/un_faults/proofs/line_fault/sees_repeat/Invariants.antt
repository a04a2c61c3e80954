-- a name stands twice in the list where one that is left has been seen, or stands twice in what is left
use Rattle.std.proofs.Common.{◌≡◌, drop}
use Rattle.un_faults.specs.LineFaults.{has_repeat}
use Rattle.un_faults.proofs.RepeatLaws.{repeats_after}
use Rattle.un_faults.proofs.line_fault.sees_repeat.Given as goal

abbrev pub invariant-loop-name : goal.invariant-loop-name
invariant-loop-name l = has_repeat l.names ≡ repeats_after l.seen (drop l.name-index l.names)
