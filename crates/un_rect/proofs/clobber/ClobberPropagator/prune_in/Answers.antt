use Rattle.std.proofs.Common.{List, ◌∙◌, All, refl, sym, ap, subst}
use Rattle.un_base.specs.declared.ids.VarId.{VarId}
use Rattle.un_prop.specs.Going.{Stepped}
use Rattle.un_prop.specs.GoingLaws.{stepped_chain, stepped_same}
use Rattle.un_prop.specs.PartLaws.{checked}
use Rattle.un_prop.specs.declared.propagator.Pruned.TheVariants.{Same}
use Rattle.un_rect.specs.Entries.{each_entry}
use Rattle.un_rect.specs.Clobber.{CallVars, call_steps, check_call, clobber_cut}
use Rattle.un_rect.specs.declared.clobber.ClobberCall.{ClobberCall}
use Rattle.un_rect.proofs.Spared.{clobber_idle}
use Rattle.un_prop.specs.AmongLaws.{has_among}
use Rattle.un_rect.proofs.clobber.ClobberPropagator.prune_in.Goals as goal

pub keep_calls-did-requires-clause-of_calls : goal.keep_calls-did-requires-clause-of_calls
keep_calls-did-requires-clause-of_calls c =
    let p = c.args.self.now in
    subst (λ (us : List VarId). All (CallVars us) c.as_slice.result.now) (sym c.requires.vars)
    (subst (λ (xs : List ClobberCall). All (CallVars p.vars) xs) (sym c.as_slice.ensures) p.of_calls)

pub returns-clause-prune : goal.returns-clause-prune
returns-clause-prune c =
    let p = c.args.self.now in
    let old = c.args.w.now.store.now in
    let one = c.keep_calls-did in
    let two = c.check_calls in
    let mid = one.new.w.store.now in
    let new = two.new.w.store.now in
    let f = each_entry (call_steps p.mask p.temp) p.calls in
    let g = each_entry (check_call p.vars p.mask p.temp) p.calls in
    let step1 = subst (λ (us : List VarId). Stepped us f old mid Same one.result) c.requires.vars
    (subst (λ (xs : List ClobberCall). Stepped c.args.w.now.vars.now (each_entry (call_steps p.mask p.temp) xs) old mid Same one.result)
    c.as_slice.ensures one.ensures.step) in
    let step2 = subst (λ (us : List VarId). Stepped us g mid new one.result two.result) (ap (λ r. r.now) one.ensures.vars
    ∙ c.requires.vars) two.ensures.step in
    checked p.vars p.vars (clobber_cut p.vars p.mask p.temp p.calls) old new two.result refl c.requires.live
    (stepped_chain p.vars f g old mid new Same one.result two.result step1 step2).goes

pub may_be_hit-requires-clause-there : goal.may_be_hit-requires-clause-there
may_be_hit-requires-clause-there c = has_among c.args.self.now.vars c.args.self.now.temp.reg c.args.w.now.store.now.sets
    c.args.self.now.of_temp.of_reg c.requires.known

pub returns-then-not-may_be_hit-clause-prune : goal.returns-then-not-may_be_hit-clause-prune
returns-then-not-may_be_hit-clause-prune c =
    let p = c.args.self.now in
    let old = c.args.w.now.store.now in
    let f = clobber_cut p.vars p.mask p.temp p.calls in
    checked p.vars p.vars f old old Same refl c.requires.live
    (stepped_same p.vars f old Same (λ live. clobber_idle p.vars p.mask p.temp p.of_temp old.sets c.requires.known live
    (sym c.may_be_hit.ensures ∙ c.if-not-may_be_hit.true) p.calls p.of_calls)).goes
