use Rattle.std.proofs.Common.{◌≡◌, ◌++◌, length, drop}
use Rattle.un_model.specs.Pairs.{places_from}
use Rattle.un_baseline.specs.SpillEverywhere.{out_place}
use Rattle.un_baseline.proofs.spill.push_outs.Given as goal

abbrev pub invariant-loop-j : goal.invariant-loop-j
invariant-loop-j l =
    l.values ++ places_from (out_place l.names l.live_out l.s (length l.operands) l.s.term) l.j (drop l.j l.operands)
    ≡ l.initial.values ++ places_from (out_place l.names l.live_out l.s (length l.operands) l.s.term) 0 l.operands
