use Rattle.std.proofs.Common.{List, sym, subst, ap, arith}
use Rattle.un_slots.specs.declared.item.Item.{Item}
use Rattle.un_slots.specs.Slots.{ItemVars}
use Rattle.std.proofs.lemmas.List.{drop_all}
use Rattle.un_slots.specs.Loads.{load}
use Rattle.un_slots.proofs.load.load_from.Goals as goal

pub add_settled-load-requires-clause-vars : goal.add_settled-load-requires-clause-vars
add_settled-load-requires-clause-vars c = subst (ItemVars c.args.w.now.vars.now) (sym c.index-items-j.is)
    (c.requires.vars c.loop-j.j c.index-items-j.result c.loop-j-test.true)

pub returns : goal.returns
returns c r = (
    let e = ap (λ (xs : List Item). load r xs c.args.w.now.store.now.sets c.args.c) (drop_all c.loop-j.j c.args.items.now
    (omega (arith, c.loop-j-test.false))) in
    let h = c.loop-j.invariant r in
    omega (arith, e, h))

pub add_settled-load-requires-clause-known : goal.add_settled-load-requires-clause-known
add_settled-load-requires-clause-known c = c.requires.known

pub add_settled-load-requires-clause-live : goal.add_settled-load-requires-clause-live
add_settled-load-requires-clause-live c = c.requires.live
