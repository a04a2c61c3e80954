use Rattle.std.proofs.Common.{List, true, false, ◌<◌, ◌-◌, ◌∙◌, length, get_or}
use Rattle.std.proofs.Common.{ap, sym}
use Rattle.std.proofs.Common.{subst, arith}
use Rattle.un_domains.specs.Sets.{least}
use Rattle.un_prop.specs.EachLaws.{each_next, each_end}
use Rattle.un_prop.specs.Going.{Stepped}
use Rattle.un_prop.specs.declared.act.Act.TheVariants.{Always}
use Rattle.un_alt.specs.declared.frame.FrameUse.{FrameUse}
use Rattle.un_alt.specs.Frame.{FrameUseVars}
use Rattle.un_alt.specs.FrameCuts.{copy_cut}
use Rattle.un_alt.proofs.frame_cuts.keep_last_copies.Goals as goal

pub keep_order-did-requires-clause-of_order : goal.keep_order-did-requires-clause-of_order
keep_order-did-requires-clause-of_order c =
    let p = c.args.p.now in
    let i = c.loop-u.u-index in
    let lent = c.as_slice-copies.ensures in
    let lt : i < length c.args.l.now.copies = (let long = ap length lent in omega (arith, c.loop-u-test.true, long)) in
    let d : FrameUse = record { instr = Always; least = 0; most = 0; at = record { 0 = 0 } } in
    let u = subst (λ (us : List FrameUse). FrameUseVars p.vars (get_or us i d)) (sym lent) (c.requires.of_leave.of_copies i d lt) in
    record { of_from = u.of_at; of_to = c.requires.of_leave.of_leave.of_at; of_instr = u.of_instr }

pub loop-u-preserved : goal.loop-u-preserved
loop-u-preserved c =
    let p = c.args.p.now in
    let i = c.loop-u.u-index in
    let lent = c.as_slice-copies.ensures in
    let lt : i < length c.args.l.now.copies = (let long = ap length lent in omega (arith, c.loop-u-test.true, long)) in
    let d : FrameUse = record { instr = Always; least = 0; most = 0; at = record { 0 = 0 } } in
    let inv = c.loop-u.invariant in
    let did = c.keep_order-did in
    record {
      step = each_next c.args.w.now.vars.now c.loop-u.w.vars.now (copy_cut p.flag c.args.l.now.leave) c.args.l.now.copies i d
          c.args.w.now.store.now
          c.loop-u.w.store.now did.new.w.store.now c.args.before c.loop-u.did did.result (ap (λ r. r.now) inv.vars) lt inv.step
          (subst (λ (us : List FrameUse). Stepped c.loop-u.w.vars.now ((copy_cut p.flag c.args.l.now.leave) (get_or us i d))
          c.loop-u.w.store.now
          did.new.w.store.now c.loop-u.did did.result) lent did.ensures.step);
      same_reference = did.ensures.same_reference ∙ inv.same_reference;
      vars = did.ensures.vars ∙ inv.vars;
    }

pub returns-clause-step : goal.returns-clause-step
returns-clause-step c =
    let p = c.args.p.now in
    let long = ap length c.as_slice-copies.ensures in
    each_end c.args.w.now.vars.now (copy_cut p.flag c.args.l.now.leave) c.args.l.now.copies c.loop-u.u-index c.args.w.now.store.now
    c.loop-u.w.store.now
    c.args.before c.loop-u.did (omega (arith, c.loop-u-test.false, long)) c.loop-u.invariant.step
