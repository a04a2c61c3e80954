-- not the label so far
use Rattle.std.proofs.Common.{◌≡◌, ◌+◌, drop}
use Rattle.std.specs.List.{position_or_len}
use Rattle.std.specs.Str.{bytes_eq}
use Rattle.un_reader.proofs.build.label_place.Given as goal

abbrev pub invariant-loop-i : goal.invariant-loop-i
invariant-loop-i l = position_or_len (bytes_eq l.label) l.labels ≡ l.i + position_or_len (bytes_eq l.label) (drop l.i l.labels)
