-- the text so far with what is left is the whole
use Rattle.std.proofs.Common.{◌≡◌, ◌++◌, drop, map}
use Rattle.un_base.specs.Lines.{joined_lines}
use Rattle.un_outcome.specs.Outcomes.{word_line}
use Rattle.un_outcome.proofs.print.put_memory.Given as goal

abbrev pub invariant-loop-word : goal.invariant-loop-word
invariant-loop-word l =
    l.out.items ++ joined_lines (map word_line (drop l.word-index l.words)) ≡ l.initial.out.items ++ joined_lines (map word_line l.words)
