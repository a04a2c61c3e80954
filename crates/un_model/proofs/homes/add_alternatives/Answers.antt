use Rattle.std.specs.Prelude.{◌==◌, ◌&&◌}
use Rattle.un_base.specs.declared.ids.TempId.{TempId}
use Rattle.un_model.proofs.Steps.{any_more}
use Rattle.un_model.proofs.homes.add_alternatives.Goals as goal

pub loop-j-preserved : goal.loop-j-preserved
loop-j-preserved c = λ x i lt. any_more (λ (t : TempId). t.0 == x.0 && c.args.r == i) c.loop-j.j c.args.alts.now c.get.result.now _ _ _
    c.get.ensures (c.loop-j.invariant x i lt) (c.in_ok-add_register.ensures x i lt)
