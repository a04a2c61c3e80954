use Rattle.std.proofs.Common.{refl, arith}
use Rattle.un_steps.specs.Full.{operations_of}
use Rattle.un_lists.proofs.Lists.{length_get}
use Rattle.un_steps.proofs.Narrowing.{to_one, some_place, up_to}
use Rattle.un_steps.proofs.full.is_full_after.Goals as goal

pub returns-then-is_full_to_at : goal.returns-then-is_full_to_at
returns-then-is_full_to_at c = (
  λ t. up_to c.args.m.now c.args.s.now.sets (operations_of c.args.b.now) c.args.a c.loop-j.j
      (c.is_full_to_at.ensures.0 c.if-is_full_to_at.true),
  λ some. refl,
)

pub returns : goal.returns
returns c = (
  λ t. absurd (cc t),
  λ some.
      let one = to_one c.args.m.now c.args.s.now.sets (operations_of c.args.b.now) c.args.a some.0 some.1 in
      let lt = length_get (operations_of c.args.b.now) one.0 one.1 one.2 in
      absurd (c.loop-j.invariant one.0 (let a = c.count-j-end.ensures in let b = c.loop-j-test.false in omega (arith, lt, a, b))
      (some_place (operations_of c.args.b.now) one.0 one.1 _ one.2 one.3)),
)
