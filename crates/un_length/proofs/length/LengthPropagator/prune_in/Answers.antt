use Rattle.std.proofs.Common.{List, ◌≡◌, ◌∙◌, length, ap, sym, subst, refl, arith, option_and_then}
use Rattle.un_base.specs.declared.ids.VarId.{VarId}
use Rattle.un_prop.specs.Last.{last_cut}
use Rattle.un_prop.specs.Going.{Goes, Stepped}
use Rattle.un_prop.specs.GoingLaws.{goes_chain}
use Rattle.un_prop.specs.PartLaws.{checked}
use Rattle.un_prop.specs.Rounds.{HasVars}
use Rattle.un_prop.specs.declared.propagator.Pruned.TheVariants.{Same}
use Rattle.un_length.specs.Blocks.{block_holds, BlockVars}
use Rattle.un_length.specs.Lengths.{length_cut}
use Rattle.un_length.proofs.Steps.{vars_long}
use Rattle.un_length.proofs.length.LengthPropagator.prune_in.Goals as goal

pub keep_length-did-requires-clause-vars : goal.keep_length-did-requires-clause-vars
keep_length-did-requires-clause-vars c =
    let p = c.args.self.now in
    subst (λ (us : List VarId). BlockVars us p.block.ops p.block.end) (sym c.requires.vars) p.among

pub keep_length-did-requires-clause-known : goal.keep_length-did-requires-clause-known
keep_length-did-requires-clause-known c = subst (λ (us : List VarId). HasVars us c.args.w.now.store.now.sets) (sym c.requires.vars)
    c.requires.known

pub keep_length-did-requires-clause-live : goal.keep_length-did-requires-clause-live
keep_length-did-requires-clause-live c = c.requires.live

pub keep_length-did-requires-clause-fixed : goal.keep_length-did-requires-clause-fixed
keep_length-did-requires-clause-fixed c =
    let long = vars_long c.args.self.now.vars c.args.w.now.store.now.sets c.args.self.now.ascend c.requires.known in
    let same = ap (length {A = VarId}) c.requires.vars in
    omega (arith, long, same, c.requires.room.fixed)

pub check_last-requires-clause-live : goal.check_last-requires-clause-live
check_last-requires-clause-live c = c.keep_length-did.ensures.step.live (λ going. c.requires.live)

pub returns-clause-prune : goal.returns-clause-prune
returns-clause-prune c =
    let p = c.args.self.now in
    let old = c.args.w.now.store.now in
    let mid = c.keep_length-did.new.w.store.now in
    let new = c.check_last.new.w.store.now in
    let did = c.keep_length-did.result in
    let t = block_holds p.block.ops p.block.arcs p.block.end in
    let f = length_cut p.vars p.block.ops p.block.arcs p.block.end p.block.horizon in
    let vars_mid : c.keep_length-did.new.w.vars.now ≡ p.vars = ap (λ r. r.now) c.keep_length-did.ensures.vars ∙ c.requires.vars in
    let step = subst (λ (us : List VarId). Stepped us (length_cut us p.block.ops p.block.arcs p.block.end p.block.horizon) old mid Same did)
    c.requires.vars c.keep_length-did.ensures.step in
    let last = subst (λ (us : List VarId). Goes us (last_cut p.vars t) mid new did c.check_last.result) vars_mid c.check_last.ensures.goes in
    checked p.vars p.vars (λ s. option_and_then (last_cut p.vars t) (f s)) old new c.check_last.result refl
    c.requires.live
    (goes_chain p.vars f (last_cut p.vars t) old mid new Same did c.check_last.result step last)
