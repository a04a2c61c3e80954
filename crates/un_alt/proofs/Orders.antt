-- Orders as the code has them.
use Rattle.std.proofs.Common.{ℕ, ◌≡◌, ◌≢◌, ◌+◌, false, nat_le, nat_lt, sym, arith}
use Rattle.std.proofs.lemmas.Bool.Decides.{nat_tests}
use Rattle.un_domains.specs.OrderLaws.{same_test}
use denote.Enum.Bare.{sameb, same_false}
use Rattle.un_prop.specs.contracts.propagator.Pruned.{the_type}
use Rattle.un_prop.specs.declared.propagator.Pruned.{Pruned}
use Rattle.un_prop.specs.declared.propagator.Pruned.TheVariants.{Failed}

pub going : (p : Pruned) → false ≡ sameb the_type p Failed → p ≢ Failed
going p e = same_false the_type p Failed (sym e)

pub late_is : (least gap below y : ℕ) → below + 1 ≡ least + gap → nat_le (least + gap) y ≡ nat_lt below y
late_is least gap below y is = same_test (nat_le (least + gap) y) (nat_lt below y) (λ h. grind (arith, nat_tests, h, is))
    (λ h. grind (arith, nat_tests, h, is))
