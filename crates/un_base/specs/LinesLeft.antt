-- What an iterator of lines still lends.
use Rattle.std.specs.Prelude.{ℕ, List}
use Rattle.un_base.specs.Lines.{lines_of}
use Rattle.un_base.specs.declared.lines.LineIter.{LineIter}

abbrev pub lines_left : LineIter → List (List ℕ)
lines_left iter = lines_of iter.rest.now
