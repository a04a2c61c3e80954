-- the lines so far have no fault
use Rattle.std.proofs.Common.{◌≡◌, ◌+◌, ◌≤◌, length}
use Rattle.un_faults.specs.Before.{before_of}
use Rattle.un_words.specs.Pieces.{lines_in}
use Rattle.un_reader.proofs.CheckLaws.{Seen}
use Rattle.un_reader.proofs.check.add_lines.Given as goal

abbrev pub invariant-loop-rest : goal.invariant-loop-rest
invariant-loop-rest l = record {
  seen : Seen (lines_in l.text) l.checked.lines (lines_in l.rest);
  before : l.checked.before ≡ before_of l.checked.lines;
  count : length l.checked.lines + length l.rest ≤ length l.text;
}

abbrev pub decreases-loop-rest : goal.decreases-loop-rest
decreases-loop-rest l = length l.rest
