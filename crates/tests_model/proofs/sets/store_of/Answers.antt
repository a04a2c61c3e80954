use Rattle.std.proofs.Common.{All, MatchOption, subst}
use Rattle.std.specs.Prelude.{⊤}
use Rattle.tests_model.proofs.StoreLaws.{full}
use Rattle.un_domains.specs.Domains.{IsDomain}
use Rattle.un_domains.specs.declared.domain.Domain.TheVariants.{Range}
use Rattle.tests_model.proofs.sets.store_of.Goals as goal

pub returns-in_ok-store-in-Some : goal.returns-in_ok-store-in-Some
returns-in_ok-store-in-Some c =
    let each = subst (λ o. MatchOption o ⊤ (λ v. All IsDomain v.items)) c.in-Some.is c.in_ok-all.ensures in
    full c.in-Some.all.items (Range 0 0) each c.in_ok-store-in-Some.store.sets c.in_ok-store-in-Some.ensures.sets
