use Rattle.std.proofs.Common.{Bool, not, ◌||◌, ◌∙◌, sym, ap, get_or}
use Rattle.un_prop.specs.Acts.{is_active}
use Rattle.un_prop.specs.Choices.{passes_at}
use Rattle.un_prop.specs.ChoiceLaws.{passes_within, passes_past}
use Rattle.un_alt.proofs.chosen.ChosenPredicate.test.Goals as goal

pub returns-in-Some : goal.returns-in-Some
returns-in-Some c =
    let p = c.args.self.now in
    let x = c.args.fixed.now in
    let a = c.in-Some.definer.now in
    let found = c.in-Some.ensures.lookup.3 in
    let at = passes_within (λ a. is_active a x) c.as_slice.result.now c.value.result a found.0 in
    let is = ap (λ a. is_active a x) (sym (found.1 a)) in
    c.active-in-Some.ensures ∙ (sym is ∙ (sym at ∙ (ap (λ xs. passes_at (λ a. is_active a x) xs c.value.result) c.as_slice.ensures
    ∙ (ap (λ i. passes_at (λ a. is_active a x) p.alts i) c.value.ensures
    ∙ ap (λ (b : Bool). not b || passes_at (λ a. is_active a x) p.alts (get_or x p.choice.0 0)) c.if-not-active.ensures))))

pub returns-in-None : goal.returns-in-None
returns-in-None c =
    let p = c.args.self.now in
    let x = c.args.fixed.now in
    let at = passes_past (λ a. is_active a x) c.as_slice.result.now c.value.result c.in-None.ensures.lookup.3 in
    sym at ∙ (ap (λ xs. passes_at (λ a. is_active a x) xs c.value.result) c.as_slice.ensures
    ∙ (ap (λ i. passes_at (λ a. is_active a x) p.alts i) c.value.ensures
    ∙ ap (λ (b : Bool). not b || passes_at (λ a. is_active a x) p.alts (get_or x p.choice.0 0)) c.if-not-active.ensures))
