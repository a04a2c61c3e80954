-- The frequency-weighted number of packets of code.
use Rattle.std.specs.Prelude.{ℕ, ◌*◌, nat_eq, List, Option, Some, None, length, sum_by}
use Rattle.std.specs.List.{find}
use Rattle.std.specs.Cmp.Lexicographic.{pointwise}
use Rattle.un_ir.specs.declared.function.Block.{Block}
use Rattle.un_ir.specs.declared.function.Function.{Function}
use Rattle.un_packet.specs.declared.code.CodeBlock.{CodeBlock}
use Rattle.un_packet.specs.declared.code.Code.{Code}

abbrev pub packets_in : Option CodeBlock → ℕ
packets_in None = 0
packets_in (Some block) = length block.packets

-- the number of packets under a label
abbrev pub packets_under : List CodeBlock → List ℕ → ℕ
packets_under blocks label = packets_in (find (λ (b : CodeBlock). pointwise nat_eq b.label label) blocks)

-- the sum over the blocks of frequency times the packets under the block's label
abbrev pub count_of : Function → Code → ℕ
count_of f code = sum_by (λ (b : Block). b.freq * packets_under code.blocks b.label) f.blocks
