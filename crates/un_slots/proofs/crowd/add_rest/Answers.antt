use Rattle.std.proofs.Common.{◌≡◌, ◌-◌, ◌^◌, length, sum_by, min, sym, ap, subst, arith}
use Rattle.un_slots.specs.Slots.{ItemVars}
use Rattle.un_slots.specs.Counts.{adds, ending}
use Rattle.un_slots.specs.CountLaws.{sum_below, few_below, ending_one, take_min}
use Rattle.un_slots.proofs.crowd.add_rest.Goals as goal

pub add_at-many-requires-clause-vars : goal.add_at-many-requires-clause-vars
add_at-many-requires-clause-vars c = subst (ItemVars c.args.w.now.vars.now) (sym c.index-items-j.is)
    (c.requires.vars c.loop-j.j c.index-items-j.result (omega (arith, c.loop-j-test.true, c.min-j-end.ensures)))

pub add_at-many-requires-clause-small : goal.add_at-many-requires-clause-small
add_at-many-requires-clause-small c k le =
    let s = c.args.w.now.store.now.sets in
    let f = adds c.args.r c.args.high s k in
    let i = c.index-items-j.result in
    let so_far = c.loop-j.invariant.counts k in
    let small = c.requires.small k le in
    let here = ap f c.index-items-j.is in
    let below = sum_below f c.args.items.now c.loop-j.j (2 ^ 32 - 1) i (omega (arith, c.loop-j-test.true, c.min-j-end.ensures))
    (omega (arith, c.loop-j-test.true, c.min-j-end.ensures)) in
    omega (arith, so_far, small, here, below)

pub overflow_add-many : goal.overflow_add-many
overflow_add-many c =
    let s = c.args.w.now.store.now.sets in
    let f = ending c.args.r s c.args.high in
    let i = c.index-items-j.result in
    let so_far = c.loop-j.invariant.many in
    let here = ap f c.index-items-j.is in
    let one = c.add_at-many.ensures.many in
    let below = sum_below f c.args.items.now c.loop-j.j (2 ^ 32 - 1) i (omega (arith, c.loop-j-test.true, c.min-j-end.ensures))
    (omega (arith, c.loop-j-test.true, c.min-j-end.ensures)) in
    let few = few_below f c.args.items.now (2 ^ 32 - 1) (ending_one c.args.r s c.args.high) in
    omega (arith, so_far, here, one, below, few)

pub returns-clause-counts : goal.returns-clause-counts
returns-clause-counts c k =
    let f = adds c.args.r c.args.high c.args.w.now.store.now.sets k in
    let items = c.args.items.now in
    let end : c.loop-j.j ≡ min (length items) (2 ^ 32 - 1) =
    omega (arith, c.loop-j-test.false, c.min-j-end.ensures, c.loop-j.auto.j-end, c.requires.within) in
    let all = ap (sum_by f) (take_min items c.loop-j.j (2 ^ 32 - 1) end) in
    let so_far = c.loop-j.invariant.counts k in
    omega (arith, all, so_far)

pub returns-clause-many : goal.returns-clause-many
returns-clause-many c =
    let f = ending c.args.r c.args.w.now.store.now.sets c.args.high in
    let items = c.args.items.now in
    let end : c.loop-j.j ≡ min (length items) (2 ^ 32 - 1) =
    omega (arith, c.loop-j-test.false, c.min-j-end.ensures, c.loop-j.auto.j-end, c.requires.within) in
    let all = ap (sum_by f) (take_min items c.loop-j.j (2 ^ 32 - 1) end) in
    let so_far = c.loop-j.invariant.many in
    omega (arith, all, so_far)
