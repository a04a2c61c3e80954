-- the lines that are left decide
use Rattle.std.proofs.Common.{◌≡◌, drop}
use Rattle.un_reader.specs.Functions.{params_of}
use Rattle.un_reader.proofs.build.find_params.Given as goal

abbrev pub invariant-loop-line : goal.invariant-loop-line
invariant-loop-line l = params_of l.lines ≡ params_of (drop l.line-index l.lines)
