use Rattle.std.proofs.Common.{map, refl}
use Rattle.std.specs.List.{flat_map}
use Rattle.un_ir.specs.Text.{op_line, ended}
use Rattle.un_ir.proofs.TextLoops.{text_step}
use Rattle.un_ir.proofs.print.put_ops.Goals as goal

pub loop-o-preserved : goal.loop-o-preserved
loop-o-preserved c =
    let names = c.args.names.now in
    text_step (λ os. flat_map ended (map (op_line names) os)) (λ o. ended (op_line names o)) (λ o os. refl) _ _ _ c.args.ops.now
    c.loop-o.o-index c.o-item.result c.o-item.result c.loop-o-test.true c.o-item.is c.in_ok-put_op.ensures c.loop-o.invariant
