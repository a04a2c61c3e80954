use Rattle.std.proofs.Common.{List, ◌≡◌, ◌∙◌, length, ap, sym, subst, refl, option_and_then}
use Rattle.un_base.specs.declared.ids.VarId.{VarId}
use Rattle.un_prop.specs.Last.{last_cut}
use Rattle.un_prop.specs.Going.{Goes, Stepped}
use Rattle.un_prop.specs.GoingLaws.{goes_chain, stepped_chain}
use Rattle.un_prop.specs.PartLaws.{checked}
use Rattle.un_prop.specs.Places.{each_place}
use Rattle.un_prop.specs.declared.propagator.Pruned.TheVariants.{Same}
use Rattle.un_slots.specs.declared.item.Item.{Item}
use Rattle.un_slots.specs.Slots.{SlotVars, per_cycle_holds}
use Rattle.un_slots.specs.Loads.{slot_cut}
use Rattle.un_slots.specs.Crowds.{crowd_cut, per_cycle_steps}
use Rattle.un_slots.proofs.Carried.{same_known}
use Rattle.un_slots.proofs.per_cycle.PerCyclePropagator.prune_in.Goals as goal

pub keep_items-kept-requires-clause-vars : goal.keep_items-kept-requires-clause-vars
keep_items-kept-requires-clause-vars c =
    let p = c.args.self.now in
    subst (λ (xs : List Item). SlotVars c.args.w.now.vars.now xs) (sym c.as_slice-items.ensures)
    (subst (λ (us : List VarId). SlotVars us p.items) (sym c.requires.vars) p.among)

pub keep_crowds-did-requires-clause-vars : goal.keep_crowds-did-requires-clause-vars
keep_crowds-did-requires-clause-vars c =
    let p = c.args.self.now in
    subst (λ (xs : List Item). SlotVars c.keep_items-kept.new.w.vars.now xs) (sym c.as_slice-items.ensures)
    (subst (λ (us : List VarId). SlotVars us p.items) (sym (ap (λ r. r.now) c.keep_items-kept.ensures.vars ∙ c.requires.vars)) p.among)

pub check_last-requires-clause-live : goal.check_last-requires-clause-live
check_last-requires-clause-live c = c.keep_crowds-did.ensures.step.live (c.keep_items-kept.ensures.step.live (λ going. c.requires.live))

pub returns-clause-prune : goal.returns-clause-prune
returns-clause-prune c =
    let p = c.args.self.now in
    let old = c.args.w.now.store.now in
    let mid = c.keep_items-kept.new.w.store.now in
    let next = c.keep_crowds-did.new.w.store.now in
    let new = c.check_last.new.w.store.now in
    let kept = c.keep_items-kept.result in
    let did = c.keep_crowds-did.result in
    let t = per_cycle_holds p.items p.horizon in
    let xs = c.as_slice-items.result.now in
    let f = λ (xs : List Item). each_place (slot_cut xs p.horizon) (length xs) in
    let vars_mid : c.keep_items-kept.new.w.vars.now ≡ p.vars = ap (λ r. r.now) c.keep_items-kept.ensures.vars ∙ c.requires.vars in
    let vars_next : c.keep_crowds-did.new.w.vars.now ≡ p.vars = ap (λ r. r.now) c.keep_crowds-did.ensures.vars ∙ vars_mid in
    let first = subst (λ (xs : List Item). Stepped p.vars (f xs) old mid Same kept) c.as_slice-items.ensures
    (subst (λ (us : List VarId). Stepped us (f xs) old mid Same kept) c.requires.vars c.keep_items-kept.ensures.step) in
    let second = subst (λ (xs : List Item). Stepped p.vars (crowd_cut p.vars xs p.horizon) mid next kept did) c.as_slice-items.ensures
    (subst (λ (us : List VarId). Stepped us (crowd_cut us xs p.horizon) mid next kept did) vars_mid c.keep_crowds-did.ensures.step) in
    let step = stepped_chain p.vars (f p.items) (crowd_cut p.vars p.items p.horizon) old mid next Same kept did first second in
    let last = subst (λ (us : List VarId). Goes us (last_cut p.vars t) next new did c.check_last.result) vars_next
    c.check_last.ensures.goes in
    checked p.vars p.vars (λ s. option_and_then (last_cut p.vars t)
    (per_cycle_steps p.vars p.items p.horizon s)) old new c.check_last.result refl
    c.requires.live
    (goes_chain p.vars (per_cycle_steps p.vars p.items p.horizon) (last_cut p.vars t) old next new Same did c.check_last.result step last)

pub keep_items-kept-requires-clause-known : goal.keep_items-kept-requires-clause-known
keep_items-kept-requires-clause-known c = same_known c.args.self.now.vars c.args.w.now.vars.now c.args.w.now.store.now.sets
    c.args.w.now.store.now.sets c.requires.vars refl
    c.requires.known

pub keep_items-kept-requires-clause-live : goal.keep_items-kept-requires-clause-live
keep_items-kept-requires-clause-live c = c.requires.live

pub keep_crowds-did-requires-clause-known : goal.keep_crowds-did-requires-clause-known
keep_crowds-did-requires-clause-known c = same_known c.args.self.now.vars c.keep_items-kept.new.w.vars.now
    c.args.w.now.store.now.sets c.keep_items-kept.new.w.store.now.sets
    (ap (λ r. r.now) c.keep_items-kept.ensures.vars ∙ c.requires.vars) c.keep_items-kept.ensures.step.long c.requires.known

pub keep_crowds-did-requires-clause-live : goal.keep_crowds-did-requires-clause-live
keep_crowds-did-requires-clause-live c = c.keep_items-kept.ensures.step.live (λ going. c.requires.live)
