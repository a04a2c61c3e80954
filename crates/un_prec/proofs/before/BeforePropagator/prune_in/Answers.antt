use Rattle.std.proofs.Common.{List, ◌∙◌, ap, subst, refl, option_and_then}
use Rattle.un_base.specs.declared.ids.VarId.{VarId}
use Rattle.un_prop.specs.Last.{last_cut}
use Rattle.un_prop.specs.Going.{Goes, Stepped}
use Rattle.un_prop.specs.GoingLaws.{goes_chain}
use Rattle.un_prop.specs.PartLaws.{checked}
use Rattle.un_prop.specs.declared.propagator.Pruned.TheVariants.{Same}
use Rattle.un_prec.specs.Links.{link_steps}
use Rattle.un_prec.specs.Before.{before_link, before_holds}
use Rattle.un_prec.proofs.before.BeforePropagator.prune_in.Goals as goal

pub returns-clause-prune : goal.returns-clause-prune
returns-clause-prune c =
    let p = c.args.self.now in
    let old = c.args.w.now.store.now in
    let mid = c.keep_link-did.new.w.store.now in
    let new = c.check_active.new.w.store.now in
    let did = c.keep_link-did.result in
    let l = before_link p.a p.a_on p.b p.b_on p.gap in
    let t = before_holds p.a p.a_on p.b p.b_on p.gap in
    let step = subst (λ (us : List VarId). Stepped us (link_steps us l) old mid Same did) c.requires.vars c.keep_link-did.ensures.step in
    let last = subst (λ (us : List VarId). Goes us (last_cut p.vars t) mid new did c.check_active.result)
    (ap (λ r. r.now) c.keep_link-did.ensures.vars ∙ c.requires.vars) c.check_active.ensures.goes in
    checked p.vars p.vars (λ s. option_and_then (last_cut p.vars t) (link_steps p.vars l s)) old new c.check_active.result refl
    c.requires.live
    (goes_chain p.vars (link_steps p.vars l) (last_cut p.vars t) old mid new Same did c.check_active.result step last)
