use Rattle.std.proofs.Common.{refl, arith}
use Rattle.un_steps.specs.Full.{operations_of}
use Rattle.un_lists.proofs.Lists.{length_get}
use Rattle.un_steps.proofs.Boxes.{some_of}
use Rattle.un_steps.proofs.full.is_time.Goals as goal

pub returns-then-is_time_at : goal.returns-then-is_time_at
returns-then-is_time_at c = (λ t. (c.loop-i.i, c.is_time_at.ensures.0 c.if-is_time_at.true), λ some. refl)

pub returns : goal.returns
returns c = (
  λ t. absurd (cc t),
  λ some.
      let there = some_of _ _ some.1 in
      let lt = length_get (operations_of c.args.b.now) some.0 there.0 there.1 in
      absurd (c.loop-i.invariant some.0 (let a = c.count-i-end.ensures in let b = c.loop-i-test.false in omega (arith, lt, a, b)) some.1),
)
