-- the registers so far
use Rattle.std.proofs.Common.{◌≡◌, take}
use Rattle.std.specs.List.{filter_map}
use Rattle.un_listing.specs.Recognized.{operand_in}
use Rattle.un_listing.proofs.recognize.registers.Given as goal

abbrev pub invariant-loop-word : goal.invariant-loop-word
invariant-loop-word l = l.regs ≡ filter_map (operand_in l.form) (take l.word-index l.words)
