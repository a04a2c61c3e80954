-- A text that does not begin, and one that is cut.
use Rattle.std.proofs.Common.{◌++◌, ◌∷◌, []}
use Rattle.un_listing_reader.proofs.LineCuts.{begins, not_begins, none_within, some_within}
use Rattle.un_listing_reader.proofs.line.within.Goals as goal

pub returns-in_err-strip_prefix-clause-none : goal.returns-in_err-strip_prefix-clause-none
returns-in_err-strip_prefix-clause-none c =
    none_within c.from_residual.result (λ rest. not_begins c.args.line.now c.args.start.now c.in_err-strip_prefix.ensures.cases
    (rest ++ 10 ∷ []))

pub returns-clause-some : goal.returns-clause-some
returns-clause-some c =
    let cut = c.in_ok-strip_prefix.ensures.cases in
    let start = begins c.args.line.now c.args.start.now cut.0 in
    some_within c.strip_suffix.result c.args.line.now c.args.start.now c.in_ok-strip_prefix.field-0.now
    (rw cut.1 start) c.strip_suffix.ensures.cases
