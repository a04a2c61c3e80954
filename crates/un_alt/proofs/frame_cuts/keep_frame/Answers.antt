use Rattle.std.proofs.Common.{List, ◌-◌, ◌∙◌}
use Rattle.std.proofs.Common.{option_and_then, ap}
use Rattle.std.proofs.Common.{subst}
use Rattle.un_base.specs.declared.ids.VarId.{VarId}
use Rattle.un_prop.specs.Going.{Stepped}
use Rattle.un_prop.specs.GoingLaws.{stepped_chain}
use Rattle.un_prop.specs.Rounds.{round}
use Rattle.un_prop.specs.declared.propagator.Pruned.TheVariants.{Same}
use Rattle.un_alt.specs.FrameCuts.{leave_op_cut}
use Rattle.un_alt.specs.FrameCuts.{left_cut, use_steps, op_steps, order_steps, enter_cut, entry_steps}
use Rattle.un_alt.proofs.frame_cuts.keep_frame.Goals as goal

pub keep_entry-entry-requires-clause-live : goal.keep_entry-entry-requires-clause-live
keep_entry-entry-requires-clause-live c = c.keep_leaves-leaves.ensures.step.live
    (c.keep_enter-enter.ensures.step.live (c.keep_use-used.ensures.step.live (λ still. c.requires.live)))

pub keep_all_left-requires-clause-live : goal.keep_all_left-requires-clause-live
keep_all_left-requires-clause-live c = c.keep_entry-entry.ensures.step.live (c.keep_leaves-leaves.ensures.step.live
    (c.keep_enter-enter.ensures.step.live (c.keep_use-used.ensures.step.live (λ still. c.requires.live))))

pub returns-clause-step : goal.returns-clause-step
returns-clause-step c =
    let p = c.args.p.now in
    let vs = c.args.w.now.vars.now in
    let s0 = c.args.w.now.store.now in
    let s1 = c.keep_use-used.new.w.store.now in
    let s2 = c.keep_enter-enter.new.w.store.now in
    let s3 = c.keep_leaves-leaves.new.w.store.now in
    let s4 = c.keep_entry-entry.new.w.store.now in
    let s5 = c.keep_all_left.new.w.store.now in
    let r1 = c.keep_use-used.result in
    let r2 = c.keep_enter-enter.result in
    let r3 = c.keep_leaves-leaves.result in
    let r4 = c.keep_entry-entry.result in
    let r5 = c.keep_all_left.result in
    let e1 = ap (λ r. r.now) c.keep_use-used.ensures.vars in
    let e2 = ap (λ r. r.now) c.keep_enter-enter.ensures.vars ∙ e1 in
    let e3 = ap (λ r. r.now) c.keep_leaves-leaves.ensures.vars ∙ e2 in
    let e4 = ap (λ r. r.now) c.keep_entry-entry.ensures.vars ∙ e3 in
    let f1 = use_steps p.flag p.touch p.ins in
    let f2 = enter_cut p.flag p.enter in
    let f3 = round (leave_op_cut p.flag) p.leaves in
    let f4 = entry_steps p.flag p.enter p.entry in
    let f5 = round (left_cut p.flag) p.leaves in
    let step2 = subst (λ (us : List VarId). Stepped us f2 s1 s2 r1 r2) e1 c.keep_enter-enter.ensures.step in
    let step3 = subst (λ (us : List VarId). Stepped us f3 s2 s3 r2 r3) e2 c.keep_leaves-leaves.ensures.step in
    let step4 = subst (λ (us : List VarId). Stepped us f4 s3 s4 r3 r4) e3 c.keep_entry-entry.ensures.step in
    let step5 = subst (λ (us : List VarId). Stepped us f5 s4 s5 r4 r5) e4 c.keep_all_left.ensures.step in
    let ops = op_steps p.flag p.enter p.leaves in
    let orders = order_steps p.flag p.enter p.entry p.leaves in
    stepped_chain vs (λ s. option_and_then ops (f1 s)) orders s0 s3 s5 Same r3 r5
    (stepped_chain vs f1 ops s0 s1 s3 Same r1 r3 c.keep_use-used.ensures.step (stepped_chain vs f2 f3 s1 s2 s3 r1 r2 r3 step2 step3))
    (stepped_chain vs f4 f5 s3 s4 s5 r3 r4 r5 step4 step5)
