use Rattle.std.proofs.Common.{◌≡◌, drop}
use Rattle.un_model.specs.Congruences.{term_of}
use Rattle.un_model.proofs.ends.term.Given as goal

abbrev pub invariant-loop-k : goal.invariant-loop-k
invariant-loop-k l = term_of (drop l.k l.ops) ≡ term_of l.ops
