use Rattle.std.proofs.Common.{List, ◌∙◌, length, get_or, ap, subst, arith, true}
use Rattle.un_base.specs.declared.ids.VarId.{VarId}
use Rattle.un_prop.specs.EachLaws.{each_next, each_end}
use Rattle.un_prop.specs.Going.{Stepped}
use Rattle.un_alt.specs.Zeros.{zero_cut}
use Rattle.un_alt.proofs.zeros.keep_zeros.Goals as goal

pub loop-v-preserved : goal.loop-v-preserved
loop-v-preserved c =
    let p = c.args.p.now in
    let inv = c.loop-v.invariant in
    let did = c.keep_zero-did in
    let d : VarId = record { 0 = 0 } in
    let lent = c.as_slice-others.ensures in
    let i = c.loop-v.v-index in
    record {
      step = each_next c.args.w.now.vars.now c.loop-v.w.vars.now (zero_cut p.instr) p.others i d c.args.w.now.store.now
          c.loop-v.w.store.now did.new.w.store.now c.args.before c.loop-v.did did.result (ap (λ r. r.now) inv.vars)
          (let long = ap length lent in omega (arith, c.loop-v-test.true, long)) inv.step
          (subst (λ (us : List VarId). Stepped c.loop-v.w.vars.now (zero_cut p.instr (get_or us i d)) c.loop-v.w.store.now
          did.new.w.store.now c.loop-v.did did.result) lent did.ensures.step);
      same_reference = did.ensures.same_reference ∙ inv.same_reference;
      vars = did.ensures.vars ∙ inv.vars;
    }

pub returns-clause-step : goal.returns-clause-step
returns-clause-step c =
    let p = c.args.p.now in
    let long = ap length c.as_slice-others.ensures in
    each_end c.args.w.now.vars.now (zero_cut p.instr) p.others c.loop-v.v-index c.args.w.now.store.now c.loop-v.w.store.now c.args.before
    c.loop-v.did (omega (arith, c.loop-v-test.false, long)) c.loop-v.invariant.step
