use Rattle.std.proofs.Common.{◌-◌, ◌+◌, arith, ap, length}
use Rattle.std.proofs.lemmas.List.FromFn.{length-range_with_len}
use Rattle.un_domains.specs.Domains.{values_of}
use Rattle.un_domains.proofs.places.count.Goals as goal

pub returns-then-lo-hi : goal.returns-then-lo-hi
returns-then-lo-hi c =
    omega (
      arith,
      ap (λ d. length (values_of d)) c.in-Range.is,
      length-range_with_len c.in-Range.lo (c.in-Range.hi + 1 - c.in-Range.lo),
      c.if-lo-hi.true,
    )
