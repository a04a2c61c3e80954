use Rattle.std.proofs.Common.{refl, arith}
use Rattle.un_lists.proofs.Lists.{length_get}
use Rattle.un_steps.proofs.Boxes.{some_of}
use Rattle.un_steps.proofs.rules.leaves_one_none.Goals as goal

pub returns-then-is_alike_at : goal.returns-then-is_alike_at
returns-then-is_alike_at c = (λ t. (c.loop-k.k, c.is_alike_at.ensures.0 c.if-is_alike_at.true), λ some. refl)

pub returns : goal.returns
returns c = (
  λ t. absurd (cc t),
  λ some.
      let there = some_of _ _ some.1 in
      let lt = length_get c.args.p.now.op.now.operands some.0 there.0 there.1 in
      absurd (c.loop-k.invariant some.0 (let a = c.len-k-end.ensures in let b = c.loop-k-test.false in omega (arith, lt, a, b)) some.1),
)
