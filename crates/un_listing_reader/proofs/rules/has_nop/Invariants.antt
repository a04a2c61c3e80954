-- the instructions that are left decide
use Rattle.std.proofs.Common.{◌≡◌, drop}
use Rattle.std.specs.List.{list_any}
use Rattle.un_isa.specs.Does.{is_nop}
use Rattle.un_listing_reader.proofs.rules.has_nop.Given as goal

abbrev pub invariant-loop-i : goal.invariant-loop-i
invariant-loop-i l = list_any (λ i. is_nop i.op) l.instrs ≡ list_any (λ i. is_nop i.op) (drop l.i-index l.instrs)
