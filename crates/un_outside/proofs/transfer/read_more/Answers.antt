use Rattle.std.proofs.Common.{ℕ, take, arith, length-take-le}
use Rattle.un_outside.proofs.transfer.read_more.Goals as goal

pub returns-clause-ok : goal.returns-clause-ok
returns-clause-ok g c =
    let count = c.in_ok-count.count in
    let given = c.read.new.buf in
    let bound = c.in_ok-count.ensures.bound.0 in (
      take count given,
      c.in_ok-extend_from_slice.ensures.items,
      length-take-le count given bound,
      omega (arith, c.read.auto.buf, c.min.ensures, length-take-le {A = ℕ}),
      c.in_ok-count.ensures.bytes.0,
    )
