use Rattle.std.proofs.Common.{List, ◌∙◌, ap, subst, refl, option_and_then}
use Rattle.un_base.specs.declared.ids.VarId.{VarId}
use Rattle.un_prop.specs.Last.{last_cut}
use Rattle.un_prop.specs.Going.{Goes, Stepped}
use Rattle.un_prop.specs.GoingLaws.{goes_chain, stepped_chain}
use Rattle.un_prop.specs.PartLaws.{checked}
use Rattle.un_prop.specs.Rounds.{round}
use Rattle.un_prop.specs.When.{when_cut, other_than}
use Rattle.un_prop.specs.declared.propagator.Pruned.TheVariants.{Same}
use Rattle.un_alt.specs.Zeros.{zeros_holds, zeros_steps, some_live, zero_cut}
use Rattle.un_alt.proofs.zeros.ZerosPropagator.prune_in.Goals as goal

pub returns-clause-prune : goal.returns-clause-prune
returns-clause-prune c =
    let p = c.args.self.now in
    let old = c.args.w.now.store.now in
    let one = c.keep_active-first.new.w.store.now in
    let mid = c.keep_zeros-did.new.w.store.now in
    let new = c.check_last.new.w.store.now in
    let first = c.keep_active-first.result in
    let did = c.keep_zeros-did.result in
    let t = zeros_holds p.instr p.others in
    let f = when_cut (some_live p.others) (other_than 0) p.instr in
    let g = round (zero_cut p.instr) p.others in
    let e1 = ap (λ r. r.now) c.keep_active-first.ensures.vars ∙ c.requires.vars in
    let e2 = ap (λ r. r.now) c.keep_zeros-did.ensures.vars ∙ e1 in
    let step1 = subst (λ (us : List VarId). Stepped us f old one Same first) c.requires.vars c.keep_active-first.ensures.step in
    let step2 = subst (λ (us : List VarId). Stepped us g one mid first did) e1 c.keep_zeros-did.ensures.step in
    let last = subst (λ (us : List VarId). Goes us (last_cut p.vars t) mid new did c.check_last.result) e2 c.check_last.ensures.goes in
    checked p.vars p.vars (λ s. option_and_then (last_cut p.vars t) (zeros_steps p.instr p.others s)) old new c.check_last.result refl
    c.requires.live
    (goes_chain p.vars (zeros_steps p.instr p.others) (last_cut p.vars t) old mid new Same did c.check_last.result
    (stepped_chain p.vars f g old one mid Same first did step1 step2) last)
