-- the sum so far and the sum over the blocks that are left come to the whole
use Rattle.std.proofs.Common.{◌≡◌, ◌+◌, ◌*◌, drop}
use Rattle.std.specs.List.{sum_by}
use Rattle.un_ir.specs.declared.function.Block.{Block}
use Rattle.un_simulation.specs.Count.{packets_under, count_of}
use Rattle.un_simulation.proofs.count.count.Given as goal

abbrev pub invariant-loop-block : goal.invariant-loop-block
invariant-loop-block l = l.total + sum_by (λ (b : Block). b.freq * packets_under l.code.blocks b.label) (drop l.block-index l.f.blocks) ≡
    count_of l.f l.code
