use Rattle.std.proofs.Common.{List, [], ◌∷◌, ◌++◌, ◌∙◌, take, take_all, ap, sym}
use Rattle.std.proofs.lemmas.List.{take_more}
use Rattle.un_domains.specs.declared.domain.Domain.{Domain}
use Rattle.un_domains.specs.declared.shape.Shape.{Shape}
use Rattle.un_domains.proofs.store.copy_shapes.Goals as goal

pub loop-shape-preserved : goal.loop-shape-preserved
loop-shape-preserved c =
    let h = c.shape-item.result in
    let i = c.loop-shape.shape-index in
    let with_first = λ (xs : List Shape) (d : Domain). xs ++ (record { at = h.at; n = h.n; first = d }) ∷ [] in
    c.in_ok-push.ensures.items ∙ (ap (λ (xs : List Shape). with_first xs c.in_ok-first.first) c.loop-shape.invariant
    ∙ (ap (with_first (take i c.args.shapes.now)) c.in_ok-first.ensures
    ∙ (ap (λ (x : Shape). take i c.args.shapes.now ++ x ∷ []) c.shape-item.is
    ∙ sym (take_more c.args.shapes.now i h c.loop-shape-test.true))))

pub returns : goal.returns
returns c = c.loop-shape.invariant ∙ take_all c.loop-shape.shape-index c.args.shapes.now c.loop-shape-test.false
