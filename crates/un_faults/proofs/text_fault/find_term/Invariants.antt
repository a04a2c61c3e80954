-- the lines that are left decide
use Rattle.std.proofs.Common.{◌≡◌, drop}
use Rattle.un_faults.specs.Groups.{term_of}
use Rattle.un_faults.proofs.text_fault.find_term.Given as goal

abbrev pub invariant-loop-line : goal.invariant-loop-line
invariant-loop-line l = term_of l.lines ≡ term_of (drop l.line-index l.lines)
