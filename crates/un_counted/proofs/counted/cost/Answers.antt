use Rattle.std.proofs.Common.{List, ◌≡◌, ◌+◌, ◌-◌, ◌^◌, min, arith, subst}
use Rattle.un_counted.specs.declared.counted.LeastEnd.{LeastEnd}
use Rattle.un_counted.specs.Counted.{value_at, cost_of}
use Rattle.un_counted.proofs.Past.{drop_all}
use Rattle.un_counted.proofs.counted.cost.Goals as goal

pub returns : goal.returns
returns c =
    let es = c.args.row.now in
    let f = value_at c.args.fixed.now in
    let none = drop_all es c.loop-e.e-index (omega (arith, c.loop-e-test.false)) in
    let end : min (c.loop-e.total + 0) (2 ^ 64 - 1) ≡ min (cost_of es f) (2 ^ 64 - 1) =
    subst (λ (us : List LeastEnd). min (c.loop-e.total + cost_of us f) (2 ^ 64 - 1) ≡ min (cost_of es f) (2 ^ 64 - 1)) none
    c.loop-e.invariant.so_far in
    omega (arith, end, c.loop-e.invariant.small)
