-- only bytes of the word so far
use Rattle.std.proofs.Common.{◌≡◌, ◌+◌, drop}
use Rattle.std.specs.List.{prefix_len}
use Rattle.un_words.specs.Words.{is_inner}
use Rattle.un_words.proofs.words.inner_len.Given as goal

abbrev pub invariant-loop-i : goal.invariant-loop-i
invariant-loop-i l = prefix_len is_inner l.line ≡ l.i + prefix_len is_inner (drop l.i l.line)
