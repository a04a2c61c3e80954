use Rattle.std.proofs.Common.{arith}
use Rattle.un_slots.specs.SlotLaws.{share_within, share_past}
use Rattle.un_slots.proofs.load.take.Goals as goal

pub returns-then-n-uses : goal.returns-then-n-uses
returns-then-n-uses c r = (
    let h = c.with.ensures r in
    let e = share_within r c.args.uses.now c.args.n (record { mem = 0; store = 0; xc = 0; control = 0 }) c.if-n-uses.true in
    omega (arith, h, e))

pub returns-else-n-uses : goal.returns-else-n-uses
returns-else-n-uses c r = (let e = share_past r c.args.uses.now c.args.n c.if-n-uses.false in omega (arith, e))
