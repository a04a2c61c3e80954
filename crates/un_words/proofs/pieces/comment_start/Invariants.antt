-- no semicolon so far
use Rattle.std.proofs.Common.{◌≡◌, ◌+◌, ◌==◌, drop}
use Rattle.std.specs.List.{position_or_len}
use Rattle.un_words.proofs.pieces.comment_start.Given as goal

abbrev pub invariant-loop-i : goal.invariant-loop-i
invariant-loop-i l = position_or_len (λ b. b == 59) l.line ≡ l.i + position_or_len (λ b. b == 59) (drop l.i l.line)
