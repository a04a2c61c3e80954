use Rattle.std.proofs.Common.{Bool, true, false, ◌≡◌, ◌-◌, ◌∙◌, ◌&&◌, nat_le, nat_lt, sym, ap, arith}
use Rattle.std.proofs.lemmas.Bool.Decides.{nat_tests}
use Rattle.un_alt.proofs.Ranges.{has_range}
use Rattle.un_alt.proofs.span.is_from.Goals as goal

pub returns-then-n-first : goal.returns-then-n-first
returns-then-n-first c =
    let less = c.if-n-first.true in
    let far : nat_le c.args.first c.args.n ≡ false = grind (arith, nat_tests, less) in
    sym (has_range c.args.first c.args.count c.args.n ∙ ap (λ (b : Bool). b && nat_lt (c.args.n - c.args.first) c.args.count) far)

pub returns : goal.returns
returns c =
    let more = c.if-n-first.false in
    let near : nat_le c.args.first c.args.n ≡ true = grind (arith, nat_tests, more) in
    sym (has_range c.args.first c.args.count c.args.n ∙ ap (λ (b : Bool). b && nat_lt (c.args.n - c.args.first) c.args.count) near)
