-- the lines of the blocks so far, and those that are left
use Rattle.std.proofs.Common.{◌≡◌, ◌++◌}
use Rattle.un_listing_reader.specs.Reading.{AllStand, lines_in}
use Rattle.un_listing_reader.proofs.read.assemble.Given as goal

abbrev pub invariant-loop-line : goal.invariant-loop-line
invariant-loop-line l = AllStand l.fn.lines → lines_in l.blocks.items ++ l.line-iterator.rest.items ≡ l.fn.lines
