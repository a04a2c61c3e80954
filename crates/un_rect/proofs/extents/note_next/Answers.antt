use Rattle.std.proofs.Common.{sym, subst}
use Rattle.un_prop.specs.declared.act.Temp.{Temp}
use Rattle.un_rect.specs.Spans.{TempVars}
use Rattle.un_rect.proofs.extents.note_next.Goals as goal

pub extent_of-requires-clause-vars : goal.extent_of-requires-clause-vars
extent_of-requires-clause-vars c = subst (λ (a : Temp). TempVars c.args.w.now.vars.now a) (sym c.index-temps-j.is)
    (c.requires.of_temps c.args.j c.index-temps-j.result c.requires.there)
