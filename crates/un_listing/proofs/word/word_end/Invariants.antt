-- only bytes of the word so far
use Rattle.std.proofs.Common.{◌≡◌, ◌+◌, drop}
use Rattle.std.specs.List.{position_or_len}
use Rattle.un_listing.specs.ListingWords.{is_between}
use Rattle.un_listing.proofs.word.word_end.Given as goal

abbrev pub invariant-loop-i : goal.invariant-loop-i
invariant-loop-i l = position_or_len is_between l.text ≡ l.i + position_or_len is_between (drop l.i l.text)
