use Rattle.std.proofs.Common.{List, true, false, ◌≡◌, ◌<◌, ◌-◌, ◌∙◌, length, get_or}
use Rattle.std.proofs.Common.{ap, sym}
use Rattle.std.proofs.Common.{subst, arith}
use Rattle.un_base.specs.declared.ids.VarId.{VarId}
use Rattle.un_prop.specs.Among.{among}
use Rattle.un_prop.specs.EachLaws.{each_next, each_end}
use Rattle.un_prop.specs.Going.{Stepped}
use Rattle.un_prop.specs.GoingLaws.{stepped_same}
use Rattle.un_prop.specs.Rounds.{round}
use Rattle.un_alt.specs.FrameCuts.{is_unused, slot_cut}
use Rattle.un_alt.proofs.Idle.{slots_idle}
use Rattle.un_alt.proofs.frame_cuts.keep_values.Goals as goal

pub returns-then-not-is_unused-clause-step : goal.returns-then-not-is_unused-clause-step
returns-then-not-is_unused-clause-step c =
    let p = c.args.p.now in
    let s = c.args.w.now.store.now in
    stepped_same c.args.w.now.vars.now (round (slot_cut p.flag) p.ins) s c.args.before (λ live. slots_idle p.vars p.flag s.sets
    c.requires.known live (sym c.is_unused.ensures ∙ c.if-not-is_unused.true) p.ins p.among.of_ins)

pub keep_value-did-requires-clause-of_v : goal.keep_value-did-requires-clause-of_v
keep_value-did-requires-clause-of_v c =
    let p = c.args.p.now in
    let i = c.loop-v.v-index in
    let lent = c.as_slice-ins.ensures in
    let lt : i < length p.ins = (let long = ap length lent in omega (arith, c.loop-v-test.true, long)) in
    let d : VarId = record { 0 = 0 } in
    subst (λ (us : List VarId). among p.vars (get_or us i d) ≡ true) (sym lent) (p.among.of_ins i d lt)

pub loop-v-preserved : goal.loop-v-preserved
loop-v-preserved c =
    let p = c.args.p.now in
    let i = c.loop-v.v-index in
    let lent = c.as_slice-ins.ensures in
    let lt : i < length p.ins = (let long = ap length lent in omega (arith, c.loop-v-test.true, long)) in
    let d : VarId = record { 0 = 0 } in
    let inv = c.loop-v.invariant in
    let did = c.keep_value-did in
    record {
      step = each_next c.args.w.now.vars.now c.loop-v.w.vars.now (slot_cut p.flag) p.ins i d c.args.w.now.store.now
          c.loop-v.w.store.now did.new.w.store.now c.args.before c.loop-v.did did.result (ap (λ r. r.now) inv.vars) lt inv.step
          (subst (λ (us : List VarId). Stepped c.loop-v.w.vars.now ((slot_cut p.flag) (get_or us i d)) c.loop-v.w.store.now
          did.new.w.store.now c.loop-v.did did.result) lent did.ensures.step);
      same_reference = did.ensures.same_reference ∙ inv.same_reference;
      vars = did.ensures.vars ∙ inv.vars;
    }

pub returns-clause-step : goal.returns-clause-step
returns-clause-step c =
    let p = c.args.p.now in
    let long = ap length c.as_slice-ins.ensures in
    each_end c.args.w.now.vars.now (slot_cut p.flag) p.ins c.loop-v.v-index c.args.w.now.store.now c.loop-v.w.store.now
    c.args.before c.loop-v.did (omega (arith, c.loop-v-test.false, long)) c.loop-v.invariant.step
