use Rattle.std.proofs.Common.{◌≡◌, ◌+◌, ◌++◌, ◌∷◌, [], ◌∙◌, List, ap, sym, subst, suc, length, map, arith, append_assoc, All}
use Rattle.std.proofs.lemmas.List.{length_push}
use Rattle.std.specs.Vec.Iter.{into_iter_items}
use Rattle.un_domains.specs.declared.shape.Shape.{Shape}
use Rattle.un_domains.specs.declared.domain.Domain.{Domain}
use Rattle.un_domains.specs.Domains.{values_of, IsDomain}
use Rattle.un_domains.specs.Sets.{Sets}
use Rattle.un_domains.specs.Shapes.{sets_of, IsStore}
use Rattle.un_domains.specs.ShapeLaws.{add_store}
use Rattle.un_domains.proofs.store.lay.Goals as goal

pub loop-domain-preserved : goal.loop-domain-preserved
loop-domain-preserved c =
    let hs = c.loop-domain.shapes.items in
    let h = c.in_ok-shape.shape in
    let d = c.in-Some.domain in
    let rest = into_iter_items c.next.new.self in
    let old = c.loop-domain.words.items in
    let new = c.add.new.words.items in
    let step = c.in-Some.ensures.steps in
    let each : All IsDomain (d ∷ rest) = subst (All IsDomain) step.0 c.loop-domain.invariant.each in
    let pushed = c.in_ok-push.ensures.items in
    let long : length (into_iter_items c.loop-domain.domain-iterator) ≡ length rest + 1 = ap length step.0 ∙ omega arith in
    let few = c.loop-domain.invariant.few in
    let added = add_store hs old new d h (omega (arith, few, long)) (each 0 d (omega arith)) c.loop-domain.invariant.store
    c.in_ok-shape.ensures in
    record {
      store = subst (λ (gs : List Shape). IsStore gs new []) (sym pushed) added.0;
      few = (let more = ap length pushed in omega (arith, few, long, more, length_push hs h));
      each = λ k x lt. each (suc k) x (omega (arith, lt));
      sets = ap (λ (gs : List Shape). sets_of gs new ++ map values_of rest) pushed
          ∙ (ap (λ (s : Sets). s ++ map values_of rest) added.1
          ∙ (append_assoc (sets_of hs old) (values_of d ∷ []) (map values_of rest)
          ∙ (ap (λ (ds : List Domain). sets_of hs old ++ map values_of ds) (sym step.0) ∙ c.loop-domain.invariant.sets)));
    }
