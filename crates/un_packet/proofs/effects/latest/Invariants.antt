-- what is left comes to the whole
use Rattle.std.proofs.Common.{◌≡◌, max, map, drop, slice_index}
use Rattle.std.specs.List.{fold}
use Rattle.un_packet.proofs.effects.latest.Given as goal

abbrev pub invariant-loop-r : goal.invariant-loop-r
invariant-loop-r l = fold max l.latest (map (slice_index l.ready) (map (λ r. r.0) (drop l.r-index l.regs))) ≡ fold max l.cycle
    (map (slice_index l.ready) (map (λ r. r.0) l.regs))
