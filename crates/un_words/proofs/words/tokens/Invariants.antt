-- the words so far and those of what is left are all; what is left begins with a word
use Rattle.std.proofs.Common.{◌≡◌, ◌<◌, ◌++◌, false, length, get_or}
use Rattle.un_words.specs.Words.{is_blank}
use Rattle.un_words.specs.Tokens.{tokens_of}
use Rattle.un_words.proofs.words.tokens.Given as goal

abbrev pub invariant-loop-rest : goal.invariant-loop-rest
invariant-loop-rest l = record {
  words : l.found ++ tokens_of l.rest ≡ tokens_of l.line;
  first : 0 < length l.rest → is_blank (get_or l.rest 0 0) ≡ false;
}

abbrev pub decreases-loop-rest : goal.decreases-loop-rest
decreases-loop-rest l = length l.rest
