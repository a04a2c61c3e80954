use Rattle.std.proofs.Common.{◌≡◌, take}
use Rattle.un_symm.specs.Exchanges.{exchanged_values}
use Rattle.un_symm.proofs.exchange.exchanged_values.Given as goal

abbrev pub invariant-loop-t : goal.invariant-loop-t
invariant-loop-t l = l.new ≡ exchanged_values (take l.t-index l.temps) l.a.0 l.b.0 l.old
