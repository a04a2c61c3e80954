use Rattle.std.proofs.Common.{ℕ, ◌≡◌, ◌<◌, ◌∙◌, Bool, List, arith, ap, sym, subst, slice_get, Some}
use Rattle.un_domains.specs.declared.domain.Domain.{Domain}
use Rattle.un_model.specs.declared.model.BlockVars.{BlockVars}
use Rattle.un_lists.proofs.Lists.{index_get}
use Rattle.un_model.proofs.Steps.{places_more, places_all}
use Rattle.un_violations.specs.Loose.{is_time, loosened}
use Rattle.un_violations.specs.Marks.{AreMarked}
use Rattle.un_violations.proofs.loose.loose_domains.Goals as goal

marked : (p : ℕ → Bool) (marks : List Bool) (n k : ℕ) (b : Bool) → AreMarked p marks n → k < n → slice_get marks k ≡ Some b → b ≡ p k
marked p marks n k b h lt q = sym (index_get marks k _ b q) ∙ h.each k lt

pub loop-k-preserved : goal.loop-k-preserved
loop-k-preserved c =
    let blocks = c.args.m.now.blocks in
    let f : ℕ → Domain → Domain = λ k d. loosened (is_time blocks k) d in
    let has = subst (λ (bs : List BlockVars). AreMarked (is_time bs) c.in_ok-times.times c.len.result) c.as_slice.ensures c.in_ok-times.ensures in
    let lt : c.loop-k.k < c.len.result = omega (arith, c.len.ensures, c.len-k-end.ensures, c.loop-k-test.true) in
    let time = marked (is_time blocks) c.in_ok-times.times c.len.result c.loop-k.k c.get.result.now has lt c.get.ensures in
    places_more f c.loop-k.k c.loop-k.k c.args.m.now.domains c.get-in-loop-k.result.now
    c.loop-k.loose _ c.push.new.self c.in_ok-loosened.field-0 c.loop-k.invariant c.get-in-loop-k.ensures
    (c.in_ok-loosened.ensures ∙ ap (λ (b : Bool). loosened b c.get-in-loop-k.result.now) time) c.in_ok-push.ensures.ok

pub returns : goal.returns
returns c =
    places_all (λ (k : ℕ) (d : Domain). loosened (is_time c.args.m.now.blocks k) d) c.loop-k.k c.loop-k.k c.args.m.now.domains c.loop-k.loose _
    c.loop-k.invariant (omega arith)
