-- the sum so far, which is small
use Rattle.std.proofs.Common.{◌≡◌, ◌≤◌, take, sum_by}
use Rattle.un_packet.specs.CodeRules.{needs_of}
use Rattle.un_isa.specs.PacketCounts.{share_of}
use Rattle.un_listing_reader.proofs.needs.total.Given as goal

abbrev pub invariant-loop-instr : goal.invariant-loop-instr
invariant-loop-instr l = (l.total ≡ sum_by (λ i. share_of l.resource (needs_of i)) (take l.instr-index l.instrs))
    × (l.total ≤ l.instr-index)
