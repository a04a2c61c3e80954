use Rattle.std.proofs.Common.{◌<◌, length, sym, subst, arith}
use Rattle.un_prop.specs.declared.act.Temp.{Temp}
use Rattle.un_rect.specs.Spans.{TempVars}
use Rattle.un_rect.proofs.clashes.next_noted.Goals as goal

pub passes-requires-clause-of_a : goal.passes-requires-clause-of_a
passes-requires-clause-of_a c =
    let lt : c.loop-i.i < length c.args.temps.now = omega (arith, c.loop-i-test.true, c.loop-i.auto.i-end, c.requires.there) in
    subst (λ (a : Temp). TempVars c.args.w.now.vars.now a) (sym c.index-temps-i.is)
    (c.requires.of_temps c.loop-i.i c.index-temps-i.result lt)

pub passes-requires-clause-of_b : goal.passes-requires-clause-of_b
passes-requires-clause-of_b c = subst (λ (a : Temp). TempVars c.args.w.now.vars.now a) (sym c.index-temps-j.is)
    (c.requires.of_temps c.args.j c.index-temps-j.result c.requires.there)
