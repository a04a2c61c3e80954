use Rattle.std.proofs.Common.{List, ◌∙◌, ap, subst, refl, option_and_then}
use Rattle.un_base.specs.declared.ids.VarId.{VarId}
use Rattle.un_prop.specs.Last.{last_cut}
use Rattle.un_prop.specs.Going.{Goes, Stepped}
use Rattle.un_prop.specs.GoingLaws.{goes_chain}
use Rattle.un_prop.specs.PartLaws.{checked}
use Rattle.un_prop.specs.declared.propagator.Pruned.TheVariants.{Same}
use Rattle.un_prec.specs.Below.{below_holds, below_steps}
use Rattle.un_prec.proofs.below.BelowPropagator.prune_in.Goals as goal

pub returns-clause-prune : goal.returns-clause-prune
returns-clause-prune c =
    let p = c.args.self.now in
    let old = c.args.w.now.store.now in
    let mid = c.keep_cost-did.new.w.store.now in
    let new = c.check_last.new.w.store.now in
    let did = c.keep_cost-did.result in
    let t = below_holds p.ends p.limit in
    let step = subst (λ (us : List VarId). Stepped us (below_steps us p.ends p.limit) old mid Same did) c.requires.vars
    c.keep_cost-did.ensures.step in
    let last = subst (λ (us : List VarId). Goes us (last_cut p.vars t) mid new did c.check_last.result)
    (ap (λ r. r.now) c.keep_cost-did.ensures.vars ∙ c.requires.vars) c.check_last.ensures.goes in
    checked p.vars p.vars (λ s. option_and_then (last_cut p.vars t) (below_steps p.vars p.ends p.limit s)) old new c.check_last.result refl
    c.requires.live
    (goes_chain p.vars (below_steps p.vars p.ends p.limit) (last_cut p.vars t) old mid new Same did c.check_last.result step last)
