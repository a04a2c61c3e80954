use Rattle.std.proofs.Common.{length, List, [], ◌∷◌, subst, sym, arith, ap, ◌∙◌, length-append}
use Rattle.std.specs.Prelude.{All}
use Rattle.std.proofs.lemmas.List.Elements.{All-push}
use Rattle.un_domains.specs.declared.domain.Domain.{Domain}
use Rattle.un_domains.specs.Domains.{IsDomain}
use Rattle.tests_model.proofs.relaxed.time_domains.Goals as goal

pub loop-i-preserved : goal.loop-i-preserved
loop-i-preserved c = record {
  each = subst (λ (ds : List Domain). All IsDomain ds) (sym c.in_ok-push.ensures.items)
      (All-push IsDomain c.loop-i.all.items c.time_domain-domain.result c.loop-i.invariant.each c.time_domain-domain.ensures);
  long = omega (
    arith,
    ap (λ (ds : List Domain). length ds) c.in_ok-push.ensures.items
        ∙ length-append c.loop-i.all.items (c.time_domain-domain.result ∷ []),
    c.loop-i.invariant.long,
  );
}
