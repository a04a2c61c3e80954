use Rattle.std.proofs.Common.{sym, subst}
use Rattle.un_prop.specs.Acts.{act_vars}
use Rattle.un_prop.specs.LookLaws.{known_of}
use Rattle.un_slots.specs.Slots.{ItemVars}
use Rattle.un_slots.proofs.crowd.is_taken.Goals as goal

pub surely_takes-requires-clause-known : goal.surely_takes-requires-clause-known
surely_takes-requires-clause-known c =
    let i = c.item-item.result in
    known_of c.args.w.now.vars.now (act_vars i.on) c.args.w.now.store.now.sets
    (subst (ItemVars c.args.w.now.vars.now) (sym c.item-item.is)
    (c.requires.vars c.loop-item.item-index i c.loop-item-test.true)).of_on c.requires.known
