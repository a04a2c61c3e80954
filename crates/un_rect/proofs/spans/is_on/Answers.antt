use Rattle.std.proofs.Common.{ℕ, ◌≡◌, ◌<◌, ◌≤◌, true, not, List, length, nat_eq, ap, ◌∙◌, sym, subst, arith}
use Rattle.std.proofs.lemmas.Bool.Decides.{nat_tests}
use Rattle.un_domains.specs.Sets.{set_at, has, least}
use Rattle.un_domains.specs.SetLaws.{least-le}
use Rattle.un_domains.specs.OrderLaws.{same_test}
use Rattle.un_prop.specs.Acts.{act_vars}
use Rattle.un_prop.specs.ChainLaws.{least_in}
use Rattle.un_prop.specs.Looks.{sure}
use Rattle.un_prop.specs.Rounds.{HasVars}
use Rattle.un_prop.specs.declared.act.Act.{Act}
use Rattle.un_rect.proofs.spans.is_on.Goals as goal

zero_least : (xs : List ℕ) → 0 < length xs → nat_eq (least xs) 0 ≡ has xs 0
zero_least xs some = same_test (nat_eq (least xs) 0) (has xs 0)
    (λ h. let is : least xs ≡ 0 = grind (arith, nat_tests, h) in subst (λ (n : ℕ). has xs n ≡ true) is (least_in xs some))
    (λ h. let le : least xs ≤ 0 = least-le xs 0 h in let is : least xs ≡ 0 = omega (arith, le) in grind (arith, nat_tests, is))

pub returns-in-Var : goal.returns-in-Var
returns-in-Var c =
    let s = c.args.w.now.store.now.sets in
    let v = c.in-Var.v in
    let known = subst (λ (on : Act). HasVars (act_vars on) s) c.in-Var.is c.requires.known in
    let some : 0 < length (set_at s v.0) = c.requires.live v.0 (known 0 v (omega arith)) in
    subst (λ (on : Act). not (nat_eq c.min.result 0) ≡ sure on s) (sym c.in-Var.is)
    (ap not (ap (λ (n : ℕ). nat_eq n 0) c.min.ensures ∙ zero_least (set_at s v.0) some))
