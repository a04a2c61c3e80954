use Rattle.std.proofs.Common.{List, ℕ, ◌+◌, [], ◌∷◌, ◌++◌, ◌∙◌, ◌≡◌, map, take, take_all, ap, sym, subst}
use Rattle.std.proofs.lemmas.List.{take_more, map-append}
use Rattle.un_domains.specs.declared.shape.Shape.{Shape}
use Rattle.un_domains.specs.Noted.{AreNoted}
use Rattle.un_domains.specs.NotedLaws.{noted_none, noted_more}
use Rattle.un_domains.specs.Shapes.{set_of}
use Rattle.un_domains.proofs.ends.all_ends.Goals as goal

pub loop-shape-init : goal.loop-shape-init
loop-shape-init c = subst (AreNoted []) (sym c.new-noted.ensures.items) noted_none

pub loop-shape-preserved : goal.loop-shape-preserved
loop-shape-preserved c =
    let ws = c.args.words.now in
    let h = c.shape-item.result in
    let i = c.loop-shape.shape-index in
    let hs = c.args.shapes.now in
    let a = c.ends_of-ends.result.least in
    let b = c.ends_of-ends.result.greatest in
    let more = noted_more (map (set_of ws) (take i hs)) c.loop-shape.noted.items (set_of ws h) a b c.loop-shape.invariant
    c.ends_of-ends.ensures in
    let end = c.push-in-loop-shape.new.self.items in
    let items = c.in_ok-push-2.ensures.items ∙ ap (λ (es : List ℕ). es ++ b ∷ []) c.in_ok-push.ensures.items in
    let whole : take (i + 1) hs ≡ take i hs ++ h ∷ [] =
    take_more hs i h c.loop-shape-test.true ∙ ap (λ (g : Shape). take i hs ++ g ∷ []) (sym c.shape-item.is) in
    subst (λ (gs : List Shape). AreNoted (map (set_of ws) gs) end) (sym whole)
    (subst (λ (s : List (List ℕ)). AreNoted s end) (sym (map-append (set_of ws) (take i hs) (h ∷ [])))
    (subst (AreNoted (map (set_of ws) (take i hs) ++ set_of ws h ∷ [])) (sym items) more))

pub returns : goal.returns
returns c = subst (λ (gs : List Shape). AreNoted (map (set_of c.args.words.now) gs) c.loop-shape.noted.items)
    (take_all c.loop-shape.shape-index c.args.shapes.now c.loop-shape-test.false) c.loop-shape.invariant
