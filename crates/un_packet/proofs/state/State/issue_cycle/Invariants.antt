-- what is left comes to the whole
use Rattle.std.proofs.Common.{◌≡◌, ◌+◌, max, map, drop, slice_index}
use Rattle.std.specs.List.{fold, flat_map}
use Rattle.un_packet.specs.Step.{reads_of}
use Rattle.un_packet.proofs.state.State.issue_cycle.Given as goal

abbrev pub invariant-loop-i : goal.invariant-loop-i
invariant-loop-i l = fold max l.cycle (map (slice_index l.self.ready) (flat_map reads_of (drop l.i-index l.packet))) ≡ fold max
    (l.self.cycle + 1) (map (slice_index l.self.ready) (flat_map reads_of l.packet))
