use Rattle.std.proofs.Common.{arith, subst}
use Rattle.un_prop.specs.Acts.{act_vars}
use Rattle.un_prop.specs.Among.{AllAmong}
use Rattle.un_prop.specs.AmongLaws.{has_among}
use Rattle.un_prop.specs.LookLaws.{known_of}
use Rattle.un_prop.specs.declared.act.Act.{Act}
use Rattle.un_slots.proofs.load.is_settled.Goals as goal

pub is_sure-requires : goal.is_sure-requires
is_sure-requires c = known_of c.args.w.now.vars.now (act_vars c.args.item.now.on) c.args.w.now.store.now.sets c.requires.vars.of_on
    c.requires.known

pub is_single-requires : goal.is_single-requires
is_single-requires c = has_among c.args.w.now.vars.now c.args.item.now.at c.args.w.now.store.now.sets c.requires.vars.of_at
    c.requires.known

pub is_single-requires-in-Var : goal.is_single-requires-in-Var
is_single-requires-in-Var c = has_among c.args.w.now.vars.now c.in-Var.v c.args.w.now.store.now.sets
    (subst (λ (a : Act). AllAmong c.args.w.now.vars.now (act_vars a)) c.in-Var.is c.requires.vars.of_on 0 c.in-Var.v (omega arith))
    c.requires.known
