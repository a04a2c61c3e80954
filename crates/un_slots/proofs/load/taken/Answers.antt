use Rattle.std.proofs.Common.{List, ap, arith}
use Rattle.un_slots.specs.declared.item.Item.{Item}
use Rattle.un_slots.specs.Slots.{taken}
use Rattle.std.proofs.lemmas.List.{drop_all}
use Rattle.un_slots.proofs.load.taken.Goals as goal

pub returns : goal.returns
returns c r = (
    let e = ap (λ (xs : List Item). taken r xs c.args.fixed.now c.args.c) (drop_all c.loop-item.item-index c.args.items.now
    (omega (arith, c.loop-item-test.false))) in
    let h = c.loop-item.invariant r in
    omega (arith, e, h))
