use Rattle.std.proofs.Common.{ap, refl, arith}
use Rattle.un_prop.specs.GoingLaws.{stepped_same}
use Rattle.un_prop.specs.Places.{each_place}
use Rattle.un_prop.specs.declared.propagator.Pruned.TheVariants.{Same}
use Rattle.un_slots.specs.Loads.{slot_cut}
use Rattle.un_slots.proofs.Carried.{next_place, same_known, same_vars}
use Rattle.std.proofs.Common.{ℕ, ◌≡◌, length, subst}
use Rattle.un_prop.specs.Going.{Stepped}
use Rattle.std.proofs.Common.{◌∙◌, List}
use Rattle.un_base.specs.declared.ids.VarId.{VarId}
use Rattle.un_slots.proofs.keep.keep_items.Goals as goal

pub list-requires-clause-span : goal.list-requires-clause-span
list-requires-clause-span c = c.requires.span

pub list-requires-clause-vars : goal.list-requires-clause-vars
list-requires-clause-vars c = c.requires.vars

pub list-requires-clause-known : goal.list-requires-clause-known
list-requires-clause-known c = c.requires.known

pub list-requires-clause-live : goal.list-requires-clause-live
list-requires-clause-live c = c.requires.live

pub keep_item-did-requires-clause-there : goal.keep_item-did-requires-clause-there
keep_item-did-requires-clause-there c = omega (arith, c.loop-k-test.true)

pub keep_item-did-requires-clause-vars : goal.keep_item-did-requires-clause-vars
keep_item-did-requires-clause-vars c = same_vars c.args.w.now.vars.now c.loop-k.w.vars.now c.args.items.now
    (ap (λ r. r.now) c.loop-k.invariant.vars) c.requires.vars

pub keep_item-did-requires-clause-known : goal.keep_item-did-requires-clause-known
keep_item-did-requires-clause-known c = same_known c.args.w.now.vars.now c.loop-k.w.vars.now c.args.w.now.store.now.sets
    c.loop-k.w.store.now.sets (ap (λ r. r.now) c.loop-k.invariant.vars) c.loop-k.invariant.step.long c.requires.known

pub keep_item-did-requires-clause-live : goal.keep_item-did-requires-clause-live
keep_item-did-requires-clause-live c = c.loop-k.invariant.step.live (λ going. c.requires.live)

pub keep_item-did-requires-clause-span : goal.keep_item-did-requires-clause-span
keep_item-did-requires-clause-span c = omega (arith, c.loop-k.invariant.cycles, c.requires.span)

pub keep_item-did-requires-clause-listed : goal.keep_item-did-requires-clause-listed
keep_item-did-requires-clause-listed c = c.loop-k.invariant.listed

pub loop-k-init : goal.loop-k-init
loop-k-init c = record {
  step = stepped_same c.args.w.now.vars.now (each_place (slot_cut c.args.items.now c.args.horizon) 0) c.args.w.now.store.now Same
      (λ live. refl);
  listed = λ going. c.list.ensures.listed;
  fixed = c.list.ensures.fixed;
  cycles = c.list.ensures.cycles;
  same_reference = refl;
  vars = refl;
}

pub returns-clause-step : goal.returns-clause-step
returns-clause-step c =
    let items = c.args.items.now in
    let end : c.loop-k.k ≡ length items = omega (arith, c.loop-k-test.false, c.loop-k.auto.k-end) in
    subst (λ (n : ℕ). Stepped c.args.w.now.vars.now (each_place (slot_cut items c.args.horizon) n) c.args.w.now.store.now
    c.loop-k.w.store.now Same c.loop-k.did) end c.loop-k.invariant.step

pub loop-k-preserved : goal.loop-k-preserved
loop-k-preserved c =
    let vs = c.args.w.now.vars.now in
    let f = slot_cut c.args.items.now c.args.horizon in
    let inv = c.loop-k.invariant in
    let did = c.keep_item-did in
    let mid = c.loop-k.w.store.now in
    record {
      step = next_place vs f c.loop-k.k c.args.w.now.store.now mid did.new.w.store.now Same c.loop-k.did did.result inv.step
          (subst (λ (us : List VarId). Stepped us (f c.loop-k.k) mid did.new.w.store.now c.loop-k.did did.result)
          (ap (λ r. r.now) inv.vars) did.ensures.step);
      listed = did.ensures.listed;
      fixed = did.ensures.fixed ∙ inv.fixed;
      cycles = did.ensures.cycles ∙ inv.cycles;
      same_reference = did.ensures.same_reference ∙ inv.same_reference;
      vars = did.ensures.vars ∙ inv.vars;
    }
