use Rattle.std.proofs.Common.{refl, arith}
use Rattle.un_steps.specs.Full.{operations_of}
use Rattle.un_lists.proofs.Lists.{length_get}
use Rattle.un_steps.proofs.Narrowing.{from_one, some_place, on_from}
use Rattle.un_steps.proofs.full.is_full.Goals as goal

pub returns-then-is_full_from_at : goal.returns-then-is_full_from_at
returns-then-is_full_from_at c = (
  λ t. on_from c.args.m.now c.args.s.now.sets (operations_of c.args.b.now) c.loop-i.i
      (c.is_full_from_at.ensures.0 c.if-is_full_from_at.true),
  λ some. refl,
)

pub returns : goal.returns
returns c = (
  λ t. absurd (cc t),
  λ some.
      let one = from_one c.args.m.now c.args.s.now.sets (operations_of c.args.b.now) some.0 some.1 some.2 in
      let lt = length_get (operations_of c.args.b.now) one.0 one.1 one.2 in
      absurd (c.loop-i.invariant one.0 (let a = c.count-i-end.ensures in let b = c.loop-i-test.false in omega (arith, lt, a, b))
      (some_place (operations_of c.args.b.now) one.0 one.1 _ one.2 one.3)),
)
