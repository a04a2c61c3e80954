-- what is left decides the whole
use Rattle.std.proofs.Common.{◌≡◌, ◌<◌, ◌^◌, drop}
use Rattle.std.specs.Str.{all_ascii_digits}
use Rattle.un_base.specs.Decimals.{value_after, value_of}
use Rattle.un_base.proofs.decimal.read_digits.Given as goal

abbrev pub invariant-loop-byte : goal.invariant-loop-byte
invariant-loop-byte l = record {
  digits : all_ascii_digits l.text ≡ all_ascii_digits (drop l.byte-index l.text);
  value : value_of l.text ≡ value_after l.value (drop l.byte-index l.text);
  fits : l.value < 2 ^ 64;
}
