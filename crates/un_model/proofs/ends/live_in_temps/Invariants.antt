use Rattle.std.proofs.Common.{◌≡◌, drop}
use Rattle.un_model.specs.Congruences.{live_in_temps}
use Rattle.un_model.proofs.ends.live_in_temps.Given as goal

abbrev pub invariant-loop-k : goal.invariant-loop-k
invariant-loop-k l = live_in_temps (drop l.k l.ops) ≡ live_in_temps l.ops
