-- the operations so far and those of the lines that are left are all
use Rattle.std.proofs.Common.{◌≡◌, ◌++◌, drop, map}
use Rattle.un_reader.specs.Functions.{op_of}
use Rattle.un_faults.specs.Groups.{ops_of}
use Rattle.un_reader.proofs.build.source_ops.Given as goal

abbrev pub invariant-loop-line : goal.invariant-loop-line
invariant-loop-line l = l.ops ++ map (op_of l.names) (ops_of (drop l.line-index l.lines)) ≡ map (op_of l.names) (ops_of l.lines)
