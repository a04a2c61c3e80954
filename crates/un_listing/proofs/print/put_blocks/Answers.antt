use Rattle.std.proofs.Common.{◌++◌, ◌∷◌, []}
use Rattle.std.specs.List.{flat_map}
use Rattle.std.proofs.lemmas.List.Concat.{flat_map-append}
use Rattle.un_base.specs.Lines.{joined_lines}
use Rattle.un_ir.proofs.TextLoops.{text_step}
use Rattle.un_listing.specs.Listing.{block_lines}
use Rattle.un_listing.proofs.print.put_blocks.Goals as goal

pub loop-block-preserved : goal.loop-block-preserved
loop-block-preserved c =
    text_step (λ bs. joined_lines (flat_map block_lines bs)) (λ b. joined_lines (block_lines b))
    (λ b bs. flat_map-append (λ line. line ++ 10 ∷ []) (block_lines b) (flat_map block_lines bs)) _ _ _ c.args.blocks.now
    c.loop-block.block-index c.block-item.result c.block-item.result c.loop-block-test.true c.block-item.is
    c.in_ok-put_block.ensures c.loop-block.invariant
