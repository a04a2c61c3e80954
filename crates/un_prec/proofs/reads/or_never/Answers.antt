use Rattle.std.proofs.Common.{ℕ, ◌≡◌, ◌+◌, ◌∙◌, false, nat_le, sym, ap, arith}
use Rattle.std.specs.declared.option.Option.{Option}
use Rattle.std.proofs.lemmas.Bool.Decides.{nat_tests}
use Rattle.un_prec.specs.Reads.{ends_by}
use Rattle.un_prec.proofs.reads.or_never.Goals as goal

pub returns-in-None : goal.returns-in-None
returns-in-None c high y small =
    let far : nat_le (y + 18446744073709551615) high ≡ false = grind (arith, nat_tests, small) in
    ap (λ (o : Option ℕ). ends_by o high y) c.in-None.is ∙ sym far

pub returns-in-Some : goal.returns-in-Some
returns-in-Some c high y small = ap (λ (o : Option ℕ). ends_by o high y) c.in-Some.is
