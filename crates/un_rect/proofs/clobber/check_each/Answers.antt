use Rattle.std.proofs.Common.{List, ◌<◌, ◌∙◌, length, get_or, sym, ap, subst}
use Rattle.un_base.specs.declared.ids.VarId.{VarId}
use Rattle.un_prop.specs.Going.{Stepped}
use Rattle.un_rect.specs.Spans.{TempVars}
use Rattle.un_rect.specs.Clobber.{CallVars, check_call}
use Rattle.un_rect.specs.declared.clobber.ClobberCall.{ClobberCall}
use Rattle.un_rect.proofs.Loops.{stepped_entry}
use Rattle.un_rect.proofs.clobber.check_each.Goals as goal

pub invariant_of-part : goal.invariant_of-part
invariant_of-part c =
    let p = c.args.p.now in
    let k = c.loop-call.call-index in
    let item = c.call-item.result in
    let back = sym c.as_slice-vars.ensures in
    record {
      of_temp = subst (λ (us : List VarId). TempVars us p.temp) back p.of_temp;
      of_call = subst (λ (us : List VarId). CallVars us item) back
          (subst (λ (x : ClobberCall). CallVars p.vars x) (sym c.call-item.is)
          (subst (λ (xs : List ClobberCall). CallVars p.vars (get_or xs k item)) (sym c.as_slice-call-items.ensures)
          (p.of_calls k item (subst (λ (xs : List ClobberCall). k < length xs) c.as_slice-call-items.ensures c.loop-call-test.true))));
    }

pub loop-call-preserved : goal.loop-call-preserved
loop-call-preserved c =
    let w = c.args.w.now in
    let p = c.args.p.now in
    let inv = c.loop-call.invariant in
    let did = c.check-did in
    let k = c.loop-call.call-index in
    let item = c.call-item.result in
    let s = c.loop-call.w.store.now in
    let t = did.new.w.store.now in
    let us = c.loop-call.w.vars.now in
    record {
      step = stepped_entry w.vars.now us (check_call p.vars p.mask p.temp) p.calls k item w.store.now s t
          c.args.before c.loop-call.did did.result (ap (λ r. r.now) inv.vars)
          (subst (λ (xs : List ClobberCall). k < length xs) c.as_slice-call-items.ensures c.loop-call-test.true) inv.step
          (subst (λ (xs : List ClobberCall). Stepped us (check_call p.vars p.mask p.temp (get_or xs k item)) s t c.loop-call.did
          did.result) c.as_slice-call-items.ensures
          (subst (λ (x : ClobberCall). Stepped us (check_call p.vars p.mask p.temp x) s t c.loop-call.did did.result) c.call-item.is
          (subst (λ (vs : List VarId). Stepped us (check_call vs p.mask p.temp item) s t c.loop-call.did did.result)
          c.as_slice-vars.ensures did.ensures.step)));
      same_reference = did.ensures.same_reference ∙ inv.same_reference;
      vars = did.ensures.vars ∙ inv.vars;
    }
