use Rattle.std.proofs.Common.{ℕ, List}
use Rattle.std.specs.List.{flat_map}
use Rattle.std.proofs.lemmas.List.Concat.{flat_map-append}
use Rattle.un_ir.specs.declared.function.Block.{Block}
use Rattle.un_ir.specs.Text.{block_lines, ended}
use Rattle.un_ir.proofs.TextLoops.{text_step}
use Rattle.un_ir.proofs.print.put_blocks.Goals as goal

pub loop-block-preserved : goal.loop-block-preserved
loop-block-preserved c =
    let blocks = c.args.blocks.now in
    let lines : Block → List (List ℕ) = block_lines blocks c.args.names.now in
    text_step (λ bs. flat_map ended (flat_map lines bs)) (λ b. flat_map ended (lines b))
    (λ b bs. flat_map-append ended (lines b) (flat_map lines bs)) _ _ _ blocks c.loop-block.block-index
    c.block-item.result c.block-item.result c.loop-block-test.true c.block-item.is c.in_ok-put_block.ensures c.loop-block.invariant
