use Rattle.std.proofs.Common.{ℕ, List, ◌≡◌, ◌∙◌, ap, subst, refl, option_and_then, arith}
use Rattle.un_base.specs.declared.ids.VarId.{VarId}
use Rattle.un_prop.specs.Last.{last_cut}
use Rattle.un_prop.specs.Going.{Goes, Stepped}
use Rattle.un_prop.specs.GoingLaws.{goes_chain, stepped_chain}
use Rattle.un_prop.specs.PartLaws.{checked}
use Rattle.un_prop.specs.Places.{places_in, choice_steps, each_place}
use Rattle.un_prop.specs.declared.propagator.Pruned.TheVariants.{Same}
use Rattle.un_prec.specs.Links.{at_cut}
use Rattle.un_prec.specs.Reads.{reads_holds, reads_can, reads_steps, user_steps, early_cut, soon_test}
use Rattle.un_prec.proofs.reads.ReadsPropagator.prune_in.Goals as goal

pub keep_earlies-did-requires-clause-there : goal.keep_earlies-did-requires-clause-there
keep_earlies-did-requires-clause-there c =
    let p = c.args.self.now in
    let n : c.places-n.result ≡ places_in p.alts = c.places-n.ensures ∙ ap places_in c.as_slice.ensures in
    omega (arith, n)

pub returns-clause-prune : goal.returns-clause-prune
returns-clause-prune c =
    let p = c.args.self.now in
    let old = c.args.w.now.store.now in
    let one = c.keep_soon-first.new.w.store.now in
    let two = c.keep_choice-second.new.w.store.now in
    let mid = c.keep_earlies-did.new.w.store.now in
    let new = c.check_last.new.w.store.now in
    let first = c.keep_soon-first.result in
    let second = c.keep_choice-second.result in
    let did = c.keep_earlies-did.result in
    let t = reads_holds p.user p.user_on p.choice p.alts in
    let f = at_cut (soon_test p.user_on p.choice p.alts) p.user in
    let g = λ (n : ℕ). choice_steps p.user_on p.choice (reads_can p.user p.alts) n in
    let h = λ (n : ℕ). each_place (early_cut p.user p.user_on p.choice p.alts) n in
    let n : c.places-n.result ≡ places_in p.alts = c.places-n.ensures ∙ ap places_in c.as_slice.ensures in
    let e1 = ap (λ r. r.now) c.keep_soon-first.ensures.vars ∙ c.requires.vars in
    let e2 = ap (λ r. r.now) c.keep_choice-second.ensures.vars ∙ e1 in
    let e3 = ap (λ r. r.now) c.keep_earlies-did.ensures.vars ∙ e2 in
    let step1 = subst (λ (us : List VarId). Stepped us f old one Same first) c.requires.vars c.keep_soon-first.ensures.step in
    let step2 = subst (λ (m : ℕ). Stepped p.vars (g m) one two first second) n
    (subst (λ (us : List VarId). Stepped us (g c.places-n.result) one two first second) e1 c.keep_choice-second.ensures.step) in
    let step3 = subst (λ (m : ℕ). Stepped p.vars (h m) two mid second did) n
    (subst (λ (us : List VarId). Stepped us (h c.places-n.result) two mid second did) e2 c.keep_earlies-did.ensures.step) in
    let last = subst (λ (us : List VarId). Goes us (last_cut p.vars t) mid new did c.check_last.result) e3 c.check_last.ensures.goes in
    let steps = reads_steps p.user p.user_on p.choice p.alts in
    let users = user_steps p.user p.user_on p.choice p.alts in
    checked p.vars p.vars (λ s. option_and_then (last_cut p.vars t) (steps s)) old new c.check_last.result refl c.requires.live
    (goes_chain p.vars steps (last_cut p.vars t) old mid new Same did c.check_last.result
    (stepped_chain p.vars users (h (places_in p.alts)) old two mid Same second did
    (stepped_chain p.vars f (g (places_in p.alts)) old one two Same first second step1 step2) step3) last)

pub check_last-requires-clause-live : goal.check_last-requires-clause-live
check_last-requires-clause-live c = c.keep_earlies-did.ensures.step.live
    (c.keep_choice-second.ensures.step.live (c.keep_soon-first.ensures.step.live (λ still. c.requires.live)))
