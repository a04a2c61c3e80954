use Rattle.std.proofs.Common.{rules, sym, ◌∙◌, ◌<◌, length, inl, inr}
use Rattle.un_base.specs.Decimals.{HasLeadingZero}
use Rattle.un_base.proofs.DecimalLaws.{is_empty, no_decimal, read_some, read_none}
use Rattle.un_base.proofs.decimal.read_decimal.Goals.{then-is_empty-via-then-is_empty}
use Rattle.un_base.proofs.decimal.read_decimal.Goals.{then-is_empty-via-else-is_empty+then-has_leading_zero}
use Rattle.un_base.proofs.decimal.read_decimal.Goals as goal

pub returns-then-is_empty-clause-none : goal.returns-then-is_empty-clause-none
returns-then-is_empty-clause-none c = elim c.then-is_empty.branch [
  | then-is_empty-via-then-is_empty w ↦ no_decimal c.args.text.now
      (inl (is_empty c.args.text.now (sym c.is_empty.ensures ∙ w.if-is_empty.true)))
  | then-is_empty-via-else-is_empty+then-has_leading_zero w ↦ let zero : HasLeadingZero c.args.text.now = search rules in
      no_decimal c.args.text.now (inr (inr (inl zero)))
]

pub returns-clause-some : goal.returns-clause-some
returns-clause-some c =
    let some : 0 < length c.args.text.now = search rules in
    let first : ¬ HasLeadingZero c.args.text.now = search rules in
    read_some c.args.text.now c.read_digits.result some first c.read_digits.ensures.some

pub returns-clause-none : goal.returns-clause-none
returns-clause-none c = read_none c.args.text.now c.read_digits.result c.read_digits.ensures.none
