-- no line feed so far
use Rattle.std.proofs.Common.{◌≡◌, ◌+◌, drop}
use Rattle.std.specs.List.{position_or_len}
use Rattle.un_base.specs.Lines.{is_line_feed}
use Rattle.un_words.proofs.pieces.first_len.Given as goal

abbrev pub invariant-loop-i : goal.invariant-loop-i
invariant-loop-i l = position_or_len is_line_feed l.text ≡ l.i + position_or_len is_line_feed (drop l.i l.text)
