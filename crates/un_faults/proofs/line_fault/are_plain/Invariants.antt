-- the bytes that are left decide
use Rattle.std.proofs.Common.{◌≡◌, drop}
use Rattle.std.specs.List.{list_all}
use Rattle.un_faults.specs.LineFaults.{is_plain_byte}
use Rattle.un_faults.proofs.line_fault.are_plain.Given as goal

abbrev pub invariant-loop-b : goal.invariant-loop-b
invariant-loop-b l = list_all is_plain_byte l.bytes ≡ list_all is_plain_byte (drop l.b-index l.bytes)
