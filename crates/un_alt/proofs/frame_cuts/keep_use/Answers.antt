use Rattle.std.proofs.Common.{List, ◌-◌, ◌∙◌}
use Rattle.std.proofs.Common.{option_and_then, ap}
use Rattle.std.proofs.Common.{subst}
use Rattle.un_base.specs.declared.ids.VarId.{VarId}
use Rattle.un_prop.specs.Going.{Stepped}
use Rattle.un_prop.specs.GoingLaws.{stepped_chain}
use Rattle.un_prop.specs.Rounds.{round}
use Rattle.un_prop.specs.declared.propagator.Pruned.TheVariants.{Same}
use Rattle.un_alt.specs.FrameCuts.{flag_cut, touch_cut, slot_cut}
use Rattle.un_alt.proofs.frame_cuts.keep_use.Goals as goal

pub returns-clause-step : goal.returns-clause-step
returns-clause-step c =
    let p = c.args.p.now in
    let vs = c.args.w.now.vars.now in
    let s0 = c.args.w.now.store.now in
    let s1 = c.keep_flag-first.new.w.store.now in
    let s2 = c.keep_copies-second.new.w.store.now in
    let s3 = c.keep_values.new.w.store.now in
    let a = c.keep_flag-first.result in
    let b = c.keep_copies-second.result in
    let e1 = ap (λ r. r.now) c.keep_flag-first.ensures.vars in
    let e2 = ap (λ r. r.now) c.keep_copies-second.ensures.vars ∙ e1 in
    let f = flag_cut p.flag p.touch p.ins in
    let g = round (touch_cut p.flag) p.touch in
    let h = round (slot_cut p.flag) p.ins in
    let step2 = subst (λ (us : List VarId). Stepped us g s1 s2 a b) e1 c.keep_copies-second.ensures.step in
    let step3 = subst (λ (us : List VarId). Stepped us h s2 s3 b c.keep_values.result) e2 c.keep_values.ensures.step in
    stepped_chain vs (λ s. option_and_then g (f s)) h s0 s2 s3 Same b c.keep_values.result
    (stepped_chain vs f g s0 s1 s2 Same a b c.keep_flag-first.ensures.step step2) step3
