-- The bound that knows no domain: for each block the least length that precedences and counts of operations allow.
use Rattle.std.specs.Prelude.{ℕ, ◌≡◌, ◌+◌, ◌-◌, ◌*◌, ◌/◌, List, [], ◌∷◌, Option, Some, None, max, length, sum_by}
use Rattle.un_isa.specs.declared.facts.Class.{Class}
use Rattle.un_isa.specs.declared.op.Op.{Op}
use Rattle.un_isa.specs.declared.packet_counts.Resource.{Resource}
use Rattle.un_isa.specs.declared.packet_counts.Resource.TheVariants.{Instructions, Memory, Stores, MultiplyOrControl}
use Rattle.un_isa.specs.Facts.{class_of}
use Rattle.un_isa.specs.Hexagon.{needs_by}
use Rattle.un_isa.specs.PacketCounts.{places_of, share_of}
use Rattle.un_ir.specs.declared.extended.ExtOp.{ExtOp}
use Rattle.un_ir.specs.declared.extended.ExtBlock.{ExtBlock}
use Rattle.un_model.specs.declared.model.Arc.{Arc}
use Rattle.un_model.specs.declared.model.Model.{Model}
use Rattle.un_model.specs.Instructions.{instruction_of}
use Rattle.un_bound.specs.Timings.{IsLeastLength}

-- how much of a resource an instruction takes by its class, whatever a table says
abbrev pub share_by_class : Resource → Class → ℕ
share_by_class resource class = share_of resource (needs_by class)

abbrev pub plain_share : Resource → Option Op → ℕ
plain_share resource None = 0
plain_share resource (Some op) = share_by_class resource (class_of op)

-- how much of it the operations that every solution issues take: as many as they are, as they are loads and stores, as they are
-- stores, as they are multiplications, shifts, predicate moves and control transfers
abbrev pub needed : Resource → List ExtOp → ℕ
needed resource ops = sum_by (λ (op : ExtOp). plain_share resource (instruction_of op.kind 0)) ops

-- the least number of packets that have it
abbrev pub packets_for : Resource → List ExtOp → ℕ
packets_for resource ops = (needed resource ops + (places_of resource - 1)) / places_of resource

-- the largest of the length that precedences allow and of what four resources ask for
abbrev pub packets_of : ℕ → List ExtOp → ℕ
packets_of len ops =
    max len (max (max (packets_for Instructions ops) (packets_for Memory ops))
    (max (packets_for Stores ops) (packets_for MultiplyOrControl ops)))

-- the least number of packets of a block, of which the first operation has the number n
abbrev pub IsPacketBound : ℕ → ExtBlock → List Arc → ℕ → Type 0
IsPacketBound n block arcs packets = (len : ℕ) × IsLeastLength n block.ops arcs len × (packets ≡ packets_of len block.ops)

-- the sum over the blocks of frequency times that
abbrev pub IsPlainSum : ℕ → List ExtBlock → List (List Arc) → ℕ → Type 0
IsPlainSum n [] arcs sum = sum ≡ 0
IsPlainSum n (block ∷ blocks) [] sum = sum ≡ 0
IsPlainSum n (block ∷ blocks) (here ∷ arcs) sum =
    (packets : ℕ) × (rest : ℕ) × IsPacketBound n block here packets × IsPlainSum (n + length block.ops) blocks arcs rest
    × (sum ≡ block.freq * packets + rest)

abbrev pub IsPlainBound : Model → ℕ → Type 0
IsPlainBound m sum = IsPlainSum 0 m.ext.blocks m.arcs sum
