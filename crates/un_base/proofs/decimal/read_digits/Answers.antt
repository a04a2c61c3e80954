use Rattle.std.proofs.Common.{arith, ◌≡◌, ◌+◌, ◌-◌, ◌*◌, suc, get_or, drop, drop-cons, ◌∷◌, inr}
use Rattle.un_base.specs.Decimals.{value_of, value_after}
use Rattle.un_base.proofs.DecimalLaws.{if_none, value_after-grows}
use Rattle.un_base.proofs.decimal.read_digits.Goals as goal

pub returns-in_err-value-clause-none : goal.returns-in_err-value-clause-none
returns-in_err-value-clause-none c =
    let i = c.loop-byte.byte-index in
    let text = c.args.text.now in
    let here : drop i text ≡ get_or text i 0 ∷ drop (suc i) text = drop-cons text i 0 (omega arith) in
    let whole : value_of text ≡ value_after (10 * c.loop-byte.value + (get_or text i 0 - 48)) (drop (suc i) text) =
    rw here at c.loop-byte.invariant.value in
    if_none _ (inr (rw whole (value_after-grows (10 * c.loop-byte.value + (get_or text i 0 - 48)) (drop (suc i) text) _
    c.in_err-value.ensures.none)))
