-- the size so far goes on to the size of the whole
use Rattle.std.proofs.Common.{◌≡◌, ◌-◌, ◌^◌, ◌<◌, min, drop}
use Rattle.un_base.specs.Decimals.{value_of, value_after}
use Rattle.un_words.proofs.number.size_of.Given as goal

abbrev pub invariant-loop-digit : goal.invariant-loop-digit
invariant-loop-digit l = record {
  whole : min (value_of l.digits) (2 ^ 32 - 1) ≡ min (value_after l.size (drop l.digit-index l.digits)) (2 ^ 32 - 1);
  fits : l.size < 2 ^ 32;
}
