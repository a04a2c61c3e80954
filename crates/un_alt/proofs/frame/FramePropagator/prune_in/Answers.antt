use Rattle.std.proofs.Common.{List, ap, subst, refl, option_and_then, ◌∙◌}
use Rattle.un_base.specs.declared.ids.VarId.{VarId}
use Rattle.un_prop.specs.Last.{last_cut}
use Rattle.un_prop.specs.Going.{Goes, Stepped}
use Rattle.un_prop.specs.GoingLaws.{goes_chain}
use Rattle.un_prop.specs.PartLaws.{checked}
use Rattle.un_prop.specs.declared.propagator.Pruned.TheVariants.{Same}
use Rattle.un_alt.specs.Frame.{frame_holds}
use Rattle.un_alt.specs.FrameCuts.{frame_steps}
use Rattle.un_alt.proofs.frame.FramePropagator.prune_in.Goals as goal

pub returns-clause-prune : goal.returns-clause-prune
returns-clause-prune c =
    let p = c.args.self.now in
    let old = c.args.w.now.store.now in
    let mid = c.keep_frame-did.new.w.store.now in
    let new = c.check_last.new.w.store.now in
    let did = c.keep_frame-did.result in
    let t = frame_holds p.is_whole p.flag p.touch p.ins p.enter p.entry p.leaves in
    let f = frame_steps p.flag p.touch p.ins p.enter p.entry p.leaves in
    let step = subst (λ (us : List VarId). Stepped us f old mid Same did) c.requires.vars c.keep_frame-did.ensures.step in
    let last = subst (λ (us : List VarId). Goes us (last_cut p.vars t) mid new did c.check_last.result)
    (ap (λ r. r.now) c.keep_frame-did.ensures.vars ∙ c.requires.vars) c.check_last.ensures.goes in
    checked p.vars p.vars (λ s. option_and_then (last_cut p.vars t) (f s)) old new c.check_last.result refl c.requires.live
    (goes_chain p.vars f (last_cut p.vars t) old mid new Same did c.check_last.result step last)
