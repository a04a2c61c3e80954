-- the place among those left comes to the place among all
use Rattle.std.proofs.Common.{◌≡◌, ◌+◌, drop}
use Rattle.un_packet.specs.Run.{label_place}
use Rattle.un_packet.proofs.machine.label_place.Given as goal

abbrev pub invariant-loop-block : goal.invariant-loop-block
invariant-loop-block l = record {
  counted : l.place ≡ l.block-index;
  rest : l.place + label_place (drop l.block-index l.blocks) l.label ≡ label_place l.blocks l.label;
}
