-- no literal so far
use Rattle.std.proofs.Common.{◌≡◌, drop}
use Rattle.un_listing.specs.Recognized.{literal_of_words}
use Rattle.un_listing.proofs.recognize.literal_of.Given as goal

abbrev pub invariant-loop-word : goal.invariant-loop-word
invariant-loop-word l = literal_of_words l.words ≡ literal_of_words (drop l.word-index l.words)
