use Rattle.std.proofs.Common.{List, ◌∙◌, get_or, sym, ap, subst}
use Rattle.un_base.specs.declared.ids.VarId.{VarId}
use Rattle.un_prop.specs.Going.{Stepped}
use Rattle.un_rect.specs.Clobber.{CallVars, call_steps}
use Rattle.un_rect.specs.declared.clobber.ClobberCall.{ClobberCall}
use Rattle.un_rect.proofs.Loops.{stepped_entry}
use Rattle.un_rect.proofs.Rows.{same_known, same_temp}
use Rattle.std.proofs.Common.{refl}
use Rattle.un_prop.specs.GoingLaws.{stepped_same}
use Rattle.un_prop.specs.Places.{each_place}
use Rattle.un_rect.specs.Entries.{entry_cut}
use Rattle.un_rect.proofs.clobber.keep_each.Goals as goal

pub keep_call-did-requires-clause-of_call : goal.keep_call-did-requires-clause-of_call
keep_call-did-requires-clause-of_call c =
    subst (λ (x : ClobberCall). CallVars c.loop-c.w.vars.now x) (sym c.c-item.is)
    (subst (λ (us : List VarId). CallVars us (get_or c.args.calls.now c.loop-c.c-index c.c-item.result))
    (sym (ap (λ r. r.now) c.loop-c.invariant.vars))
    (c.requires.of_calls c.loop-c.c-index c.c-item.result c.loop-c-test.true))

pub loop-c-preserved : goal.loop-c-preserved
loop-c-preserved c =
    let w = c.args.w.now in
    let inv = c.loop-c.invariant in
    let did = c.keep_call-did in
    let f = call_steps c.args.mask c.args.a.now in
    record {
      step = stepped_entry w.vars.now c.loop-c.w.vars.now f c.args.calls.now c.loop-c.c-index c.c-item.result w.store.now
          c.loop-c.w.store.now did.new.w.store.now
          c.args.before c.loop-c.did did.result (ap (λ r. r.now) inv.vars) c.loop-c-test.true inv.step
          (subst (λ (x : ClobberCall). Stepped c.loop-c.w.vars.now (f x) c.loop-c.w.store.now did.new.w.store.now c.loop-c.did
          did.result) c.c-item.is did.ensures.step);
      same_reference = did.ensures.same_reference ∙ inv.same_reference;
      vars = did.ensures.vars ∙ inv.vars;
    }

pub keep_call-did-requires-clause-of_temp : goal.keep_call-did-requires-clause-of_temp
keep_call-did-requires-clause-of_temp c = same_temp c.args.w.now.vars.now c.loop-c.w.vars.now c.args.a.now
    (ap (λ r. r.now) c.loop-c.invariant.vars) c.requires.of_temp

pub keep_call-did-requires-clause-known : goal.keep_call-did-requires-clause-known
keep_call-did-requires-clause-known c = same_known c.args.w.now.vars.now c.loop-c.w.vars.now c.args.w.now.store.now.sets
    c.loop-c.w.store.now.sets (ap (λ r. r.now) c.loop-c.invariant.vars)
    (c.loop-c.invariant.step.long) c.requires.known

pub keep_call-did-requires-clause-live : goal.keep_call-did-requires-clause-live
keep_call-did-requires-clause-live c = c.loop-c.invariant.step.live c.requires.live

pub loop-c-init : goal.loop-c-init
loop-c-init c = record {
  step = stepped_same c.args.w.now.vars.now (each_place (entry_cut (call_steps c.args.mask c.args.a.now) c.args.calls.now) 0)
      c.args.w.now.store.now
      c.args.before (λ live. refl);
  same_reference = refl;
  vars = refl;
}
