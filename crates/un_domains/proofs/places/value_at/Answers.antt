use Rattle.std.proofs.Common.{◌-◌, ◌+◌, arith, ap, length}
use Rattle.std.proofs.lemmas.List.FromFn.{length-range_with_len}
use Rattle.un_domains.specs.Domains.{values_of}
use Rattle.un_domains.proofs.places.value_at.Goals as goal

pub overflow_cast-result : goal.overflow_cast-result
overflow_cast-result c =
    omega (
      arith,
      c.requires,
      ap (λ d. length (values_of d)) c.in-Range.is,
      length-range_with_len c.in-Range.lo
          (c.in-Range.hi + 1 - c.in-Range.lo),
    )

pub overflow_add-result : goal.overflow_add-result
overflow_add-result c =
    omega (
      arith,
      c.requires,
      ap (λ d. length (values_of d)) c.in-Range.is,
      length-range_with_len c.in-Range.lo
          (c.in-Range.hi + 1 - c.in-Range.lo),
    )
