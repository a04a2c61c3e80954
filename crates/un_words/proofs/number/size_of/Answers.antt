use Rattle.std.proofs.Common.{arith, sym, ap, ◌∙◌, ◌^◌, ◌+◌, ◌-◌, ◌*◌, ℕ, List, min, drop, get_or}
use Rattle.std.proofs.lemmas.List.{at_drop_more}
use Rattle.un_base.specs.Decimals.{value_after}
use Rattle.un_words.proofs.NumberLaws.{kept_size}
use Rattle.un_words.proofs.number.size_of.Goals as goal

pub loop-digit-preserved : goal.loop-digit-preserved
loop-digit-preserved c =
    let i = c.loop-digit.digit-index in
    let xs = c.args.digits.now in
    let most : ℕ = 2 ^ 32 - 1 in
    let rest : List ℕ = drop (i + 1) xs in
    record {
      whole = c.loop-digit.invariant.whole
          ∙ at_drop_more (λ (ds : List ℕ). min (value_after c.loop-digit.size ds) most) xs i 0 (omega arith)
          ∙ sym (kept_size most (10 * c.loop-digit.size + (get_or xs i 0 - 48)) rest)
          ∙ ap (λ (m : ℕ). min (value_after m rest) most) (sym c.with_digit-size.ensures);
      fits = omega (arith, c.with_digit-size.ensures);
    }
