use Rattle.std.proofs.Common.{List, ◌≡◌, subst, arith, true}
use Rattle.un_base.specs.declared.ids.VarId.{VarId}
use Rattle.un_prop.specs.Acts.{act_vars}
use Rattle.un_prop.specs.Among.{among, AllAmong}
use Rattle.un_prop.specs.AmongLaws.{has_among}
use Rattle.un_prop.specs.declared.act.Act.{Act}
use Rattle.un_prop.specs.declared.act.Act.TheVariants.{Var}
use Rattle.un_prec.proofs.reads.first_from.Goals as goal

in_window : (vs : List VarId) (v : VarId) (on : Act) → on ≡ Var v → AllAmong vs (act_vars on) → among vs v ≡ true
in_window vs v on e all = subst (λ (a : Act). AllAmong vs (act_vars a)) e all 0 v (omega arith)

pub first_end-requires-clause-there : goal.first_end-requires-clause-there
first_end-requires-clause-there c = has_among c.args.w.now.vars.now c.in-Var.v c.args.w.now.store.now.sets
    (in_window c.args.w.now.vars.now c.in-Var.v c.args.a.now.on c.in-Var.is c.requires.vars.of_on) c.requires.known
