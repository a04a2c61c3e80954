use Rattle.std.proofs.Common.{List, true, false, ◌≡◌, ◌<◌, ◌-◌, ◌∙◌, length, get_or}
use Rattle.std.proofs.Common.{ap, sym}
use Rattle.std.proofs.Common.{subst, arith}
use Rattle.un_base.specs.declared.ids.VarId.{VarId}
use Rattle.un_prop.specs.Among.{among}
use Rattle.un_prop.specs.EachLaws.{each_next, each_end}
use Rattle.un_prop.specs.Going.{Stepped}
use Rattle.un_alt.specs.FrameCuts.{call_cut}
use Rattle.un_alt.proofs.frame_cuts.keep_calls.Goals as goal

pub keep_order-did-requires-clause-of_order : goal.keep_order-did-requires-clause-of_order
keep_order-did-requires-clause-of_order c =
    let p = c.args.p.now in
    let i = c.loop-v.v-index in
    let lent = c.as_slice-calls.ensures in
    let lt : i < length c.args.l.now.calls = (let long = ap length lent in omega (arith, c.loop-v-test.true, long)) in
    let d : VarId = record { 0 = 0 } in
    let u = subst (λ (us : List VarId). among p.vars (get_or us i d) ≡ true) (sym lent) (c.requires.of_leave.of_calls i d lt) in
    record { of_from = u; of_to = c.requires.of_leave.of_leave.of_at; of_instr = λ j e less. absurd (omega (arith, less)) }

pub loop-v-preserved : goal.loop-v-preserved
loop-v-preserved c =
    let p = c.args.p.now in
    let i = c.loop-v.v-index in
    let lent = c.as_slice-calls.ensures in
    let lt : i < length c.args.l.now.calls = (let long = ap length lent in omega (arith, c.loop-v-test.true, long)) in
    let d : VarId = record { 0 = 0 } in
    let inv = c.loop-v.invariant in
    let did = c.keep_order-did in
    record {
      step = each_next c.args.w.now.vars.now c.loop-v.w.vars.now (call_cut p.flag c.args.l.now.leave) c.args.l.now.calls i d
          c.args.w.now.store.now
          c.loop-v.w.store.now did.new.w.store.now c.args.before c.loop-v.did did.result (ap (λ r. r.now) inv.vars) lt inv.step
          (subst (λ (us : List VarId). Stepped c.loop-v.w.vars.now ((call_cut p.flag c.args.l.now.leave) (get_or us i d))
          c.loop-v.w.store.now
          did.new.w.store.now c.loop-v.did did.result) lent did.ensures.step);
      same_reference = did.ensures.same_reference ∙ inv.same_reference;
      vars = did.ensures.vars ∙ inv.vars;
    }

pub returns-clause-step : goal.returns-clause-step
returns-clause-step c =
    let p = c.args.p.now in
    let long = ap length c.as_slice-calls.ensures in
    each_end c.args.w.now.vars.now (call_cut p.flag c.args.l.now.leave) c.args.l.now.calls c.loop-v.v-index c.args.w.now.store.now
    c.loop-v.w.store.now
    c.args.before c.loop-v.did (omega (arith, c.loop-v-test.false, long)) c.loop-v.invariant.step
