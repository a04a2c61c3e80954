use Rattle.std.proofs.Common.{List, ◌∙◌, ap, subst, refl, option_and_then}
use Rattle.un_base.specs.declared.ids.VarId.{VarId}
use Rattle.un_domains.specs.Sets.{Sets}
use Rattle.un_prop.specs.Last.{last_cut}
use Rattle.un_prop.specs.Going.{Goes, Stepped}
use Rattle.un_prop.specs.GoingLaws.{goes_chain, stepped_chain}
use Rattle.un_prop.specs.PartLaws.{checked}
use Rattle.un_prop.specs.declared.propagator.Pruned.TheVariants.{Same}
use Rattle.un_prec.specs.Links.{link_steps}
use Rattle.un_prec.specs.Inside.{start_link, end_link, inside_holds}
use Rattle.un_prec.proofs.inside.InsidePropagator.prune_in.Goals as goal

pub returns-clause-prune : goal.returns-clause-prune
returns-clause-prune c =
    let p = c.args.self.now in
    let old = c.args.w.now.store.now in
    let one = c.keep_link-first.new.w.store.now in
    let mid = c.keep_link-did.new.w.store.now in
    let new = c.check_last.new.w.store.now in
    let first = c.keep_link-first.result in
    let did = c.keep_link-did.result in
    let a = start_link p.at p.on in
    let b = end_link p.at p.on p.end in
    let t = inside_holds p.at p.on p.end in
    let e1 = ap (λ r. r.now) c.keep_link-first.ensures.vars ∙ c.requires.vars in
    let e2 = ap (λ r. r.now) c.keep_link-did.ensures.vars ∙ e1 in
    let step1 = subst (λ (us : List VarId). Stepped us (link_steps us a) old one Same first) c.requires.vars c.keep_link-first.ensures.step
    in
    let step2 = subst (λ (us : List VarId). Stepped us (link_steps us b) one mid first did) e1 c.keep_link-did.ensures.step in
    let last = subst (λ (us : List VarId). Goes us (last_cut p.vars t) mid new did c.check_last.result) e2 c.check_last.ensures.goes in
    let steps = λ (s : Sets). option_and_then (link_steps p.vars b) (link_steps p.vars a s) in
    checked p.vars p.vars (λ s. option_and_then (last_cut p.vars t) (steps s)) old new c.check_last.result refl c.requires.live
    (goes_chain p.vars steps (last_cut p.vars t) old mid new Same did c.check_last.result
    (stepped_chain p.vars (link_steps p.vars a) (link_steps p.vars b) old one mid Same first did step1 step2) last)
