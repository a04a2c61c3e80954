use Rattle.std.proofs.Common.{◌<◌, length, sym, subst, arith}
use Rattle.un_prop.specs.declared.act.Temp.{Temp}
use Rattle.un_rect.specs.Spans.{TempVars}
use Rattle.un_rect.proofs.extents.note_before.Goals as goal

pub extent_of-requires-clause-vars : goal.extent_of-requires-clause-vars
extent_of-requires-clause-vars c =
    let i = c.loop-i.i in
    let lt : i < length c.args.temps.now = omega (arith, c.loop-i-test.true, c.loop-i.auto.i-end) in
    subst (λ (a : Temp). TempVars c.args.w.now.vars.now a) (sym c.index-temps-i.is)
    (c.requires.of_temps i c.index-temps-i.result lt)
