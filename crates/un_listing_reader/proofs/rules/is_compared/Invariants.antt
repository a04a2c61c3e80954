-- the instructions that are left decide
use Rattle.std.proofs.Common.{◌≡◌, drop}
use Rattle.std.specs.List.{list_any}
use Rattle.un_packet.specs.CodeRules.{gives_predicate}
use Rattle.un_listing_reader.proofs.rules.is_compared.Given as goal

abbrev pub invariant-loop-i : goal.invariant-loop-i
invariant-loop-i l = list_any (gives_predicate l.n) l.instrs ≡ list_any (gives_predicate l.n) (drop l.i-index l.instrs)
