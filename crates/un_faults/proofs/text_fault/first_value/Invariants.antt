-- the lines that are left decide
use Rattle.std.proofs.Common.{◌≡◌, drop}
use Rattle.un_faults.specs.TextFaults.{first_value}
use Rattle.un_faults.proofs.text_fault.first_value.Given as goal

abbrev pub invariant-loop-line : goal.invariant-loop-line
invariant-loop-line l = first_value l.lines ≡ first_value (drop l.line-index l.lines)
