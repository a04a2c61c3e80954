use Rattle.std.proofs.Common.{ℕ, List, ◌≡◌, ◌∙◌, ap, subst, refl, option_and_then, arith}
use Rattle.un_base.specs.declared.ids.VarId.{VarId}
use Rattle.un_prop.specs.Last.{last_cut}
use Rattle.un_prop.specs.Going.{Goes, Stepped}
use Rattle.un_prop.specs.GoingLaws.{goes_chain, stepped_chain}
use Rattle.un_prop.specs.PartLaws.{checked}
use Rattle.un_prop.specs.Places.{places_in, each_place, choice_steps}
use Rattle.un_prop.specs.declared.propagator.Pruned.TheVariants.{Same}
use Rattle.un_alt.specs.Chosen.{chosen_holds, chosen_can, definer_cut, chosen_steps}
use Rattle.un_alt.proofs.chosen.ChosenPropagator.prune_in.Goals as goal

pub keep_definers-did-requires-clause-there : goal.keep_definers-did-requires-clause-there
keep_definers-did-requires-clause-there c =
    let p = c.args.self.now in
    let n : c.places-n.result ≡ places_in p.alts = c.places-n.ensures ∙ ap places_in c.as_slice.ensures in
    omega (arith, n)

pub returns-clause-prune : goal.returns-clause-prune
returns-clause-prune c =
    let p = c.args.self.now in
    let old = c.args.w.now.store.now in
    let one = c.keep_choice-first.new.w.store.now in
    let mid = c.keep_definers-did.new.w.store.now in
    let new = c.check_last.new.w.store.now in
    let first = c.keep_choice-first.result in
    let did = c.keep_definers-did.result in
    let t = chosen_holds p.user p.choice p.alts in
    let f = λ (n : ℕ). choice_steps p.user p.choice (chosen_can p.alts) n in
    let g = λ (n : ℕ). each_place (definer_cut p.user p.choice p.alts) n in
    let steps = chosen_steps p.user p.choice p.alts in
    let n : c.places-n.result ≡ places_in p.alts = c.places-n.ensures ∙ ap places_in c.as_slice.ensures in
    let e1 = ap (λ r. r.now) c.keep_choice-first.ensures.vars ∙ c.requires.vars in
    let e2 = ap (λ r. r.now) c.keep_definers-did.ensures.vars ∙ e1 in
    let step1 = subst (λ (m : ℕ). Stepped p.vars (f m) old one Same first) n
    (subst (λ (us : List VarId). Stepped us (f c.places-n.result) old one Same first) c.requires.vars c.keep_choice-first.ensures.step) in
    let step2 = subst (λ (m : ℕ). Stepped p.vars (g m) one mid first did) n
    (subst (λ (us : List VarId). Stepped us (g c.places-n.result) one mid first did) e1 c.keep_definers-did.ensures.step) in
    let last = subst (λ (us : List VarId). Goes us (last_cut p.vars t) mid new did c.check_last.result) e2 c.check_last.ensures.goes in
    checked p.vars p.vars (λ s. option_and_then (last_cut p.vars t) (steps s)) old new c.check_last.result refl c.requires.live
    (goes_chain p.vars steps (last_cut p.vars t) old mid new Same did c.check_last.result
    (stepped_chain p.vars (f (places_in p.alts)) (g (places_in p.alts)) old one mid Same first did step1 step2) last)
