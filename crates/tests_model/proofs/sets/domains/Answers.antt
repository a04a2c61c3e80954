use Rattle.std.proofs.Common.{All, [], ◌∷◌, List, MatchOption, subst, sym}
use Rattle.std.specs.Prelude.{⊤}
use Rattle.std.proofs.lemmas.List.Elements.{All-append, All-cons, All-nil}
use Rattle.un_domains.specs.declared.domain.Domain.{Domain}
use Rattle.un_domains.specs.Domains.{IsDomain}
use Rattle.tests_model.proofs.sets.domains.Goals as goal

pub loop-set-preserved : goal.loop-set-preserved
loop-set-preserved c =
    let d = c.in-Some-2.domain in
    let is = subst (λ o. MatchOption o ⊤ IsDomain) c.in-Some-2.is c.in_ok-domain.ensures in
    let one = All-cons IsDomain d [] is (All-nil IsDomain) in
    let all = All-append IsDomain c.loop-set.all.items (d ∷ []) c.loop-set.invariant one in
    subst (λ (ds : List Domain). All IsDomain ds) (sym c.in_ok-push-in-Some-2.ensures.items) all
