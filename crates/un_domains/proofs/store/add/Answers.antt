use Rattle.std.proofs.Common.{◌^◌, ◌++◌, ◌-◌, ◌+◌, ◌/◌, ◌∷◌, [], ◌∙◌, ap, replicate, List, ℕ, arith, refl}
use Rattle.un_domains.specs.ShapeLaws.{is_added}
use Rattle.un_domains.proofs.store.add.Goals as goal

pub returns : goal.returns
returns c =
    let ws = c.args.words.now.items in
    let end = c.count-end.result in
    let items = c.in_ok-fill.ensures ∙ ap (λ (us : List ℕ). us ++ replicate ((end + 63) / 64) (2 ^ 64 - 1))
    (c.in_ok-push-2.ensures.items ∙ ap (λ (us : List ℕ). us ++ end ∷ []) c.in_ok-push.ensures.items) in
    is_added c.args.first ws c.fill.new.words.items c.len-at.result end ((end + 63) / 64) c.requires
    (omega (arith, c.len-at.ensures, c.args.words.now.ok)) c.count-end.ensures refl items
    (omega (arith, c.fill.new.words.ok, c.fill.new.words.small))
