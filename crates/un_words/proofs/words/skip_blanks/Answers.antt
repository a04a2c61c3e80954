use Rattle.std.proofs.lemmas.List.{take_rest}
use Rattle.un_words.proofs.WordLaws.{words_of-drop, is_blank-drop}
use Rattle.un_words.proofs.words.skip_blanks.Goals as goal

pub returns-clause-words : goal.returns-clause-words
returns-clause-words c = rw (take_rest c.args.line.now c.blanks_len.result, c.blanks_len.ensures.count) (words_of-drop c.args.line.now)

pub returns-clause-first : goal.returns-clause-first
returns-clause-first c = rw (take_rest c.args.line.now c.blanks_len.result, c.blanks_len.ensures.count) (is_blank-drop c.args.line.now)
