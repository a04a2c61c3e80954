use Rattle.std.proofs.Common.{◌≡◌, sym, ◌∙◌, arith}
use Rattle.std.proofs.lemmas.Fmt.{decimal_injective}
use Rattle.un_base.proofs.decimal.number_of.Goals as goal

pub returns-in-Err-clause-none : goal.returns-in-Err-clause-none
returns-in-Err-clause-none c n small is =
    let large = c.in-Err.ensures in
    let k = c.in_ok-read_decimal.field-0 in
    let same : n ≡ k = decimal_injective n k (omega (arith, small)) (omega arith) (sym is ∙ c.in_ok-read_decimal.ensures.some) in
    large (omega (arith, same, small))
