use Rattle.std.proofs.Common.{refl}
use Rattle.std.specs.List.{flat_map}
use Rattle.un_ir.proofs.TextLoops.{text_step}
use Rattle.un_packet.specs.CodeRules.{written}
use Rattle.un_listing_reader.proofs.rules.all_written.Goals as goal

pub loop-i-preserved : goal.loop-i-preserved
loop-i-preserved c =
    text_step (λ is. flat_map written is) written (λ i is. refl) _ _ _ c.args.instrs.now c.loop-i.i-index c.i-item.result c.i-item.result
    c.loop-i-test.true c.i-item.is c.in_ok-push_written.ensures c.loop-i.invariant
