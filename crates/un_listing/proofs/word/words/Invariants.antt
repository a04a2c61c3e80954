-- the words so far, and those of the rest
use Rattle.std.proofs.Common.{◌≡◌, ◌++◌, length}
use Rattle.un_listing.specs.ListingWords.{words_of}
use Rattle.un_listing.proofs.word.words.Given as goal

abbrev pub invariant-loop-rest : goal.invariant-loop-rest
invariant-loop-rest l = l.found ++ words_of l.rest ≡ words_of l.text

abbrev pub decreases-loop-rest : goal.decreases-loop-rest
decreases-loop-rest l = length l.rest
