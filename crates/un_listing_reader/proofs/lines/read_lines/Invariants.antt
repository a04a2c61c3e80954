-- what reads the rest goes on to read the whole
use Rattle.std.proofs.Common.{List, Option, ◌++◌, length}
use Rattle.std.specs.List.{AllZip}
use Rattle.un_base.specs.Lines.{pieces_of}
use Rattle.un_listing_reader.specs.declared.line.Line.{Line}
use Rattle.un_listing_reader.specs.Reading.{IsReadAs}
use Rattle.un_listing_reader.proofs.lines.read_lines.Given as goal

abbrev pub invariant-loop-rest : goal.invariant-loop-rest
invariant-loop-rest l = (more : List (Option Line)) → AllZip (IsReadAs l.frame) (pieces_of l.rest) more
    → AllZip (IsReadAs l.frame) (pieces_of l.text) (l.lines ++ more)

abbrev pub decreases-loop-rest : goal.decreases-loop-rest
decreases-loop-rest l = length l.rest
