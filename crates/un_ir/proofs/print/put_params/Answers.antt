use Rattle.std.proofs.Common.{◌++◌, codes, get_or, refl}
use Rattle.std.specs.List.{flat_map}
use Rattle.un_ir.specs.Text.{name_text}
use Rattle.un_ir.proofs.TextLoops.{text_step}
use Rattle.un_ir.proofs.print.put_params.Goals as goal

pub loop-param-preserved : goal.loop-param-preserved
loop-param-preserved c =
    let names = c.args.names.now in
    let param = get_or c.args.params.now c.loop-param.param-index (record { 0 = 0 }) in
    text_step (λ params. flat_map (λ p. codes " " ++ name_text names p) params) (λ p. codes " " ++ name_text names p) (λ p params. refl)
    _ _ _ c.args.params.now c.loop-param.param-index (record { 0 = 0 }) param c.loop-param-test.true refl c.in_ok-put_first.ensures
    c.loop-param.invariant
