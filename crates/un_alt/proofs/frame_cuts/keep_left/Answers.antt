use Rattle.std.proofs.Common.{List, ◌-◌}
use Rattle.std.proofs.Common.{ap}
use Rattle.std.proofs.Common.{subst}
use Rattle.un_base.specs.declared.ids.VarId.{VarId}
use Rattle.un_prop.specs.Going.{Stepped}
use Rattle.un_prop.specs.GoingLaws.{stepped_chain}
use Rattle.un_prop.specs.Rounds.{round}
use Rattle.un_alt.specs.FrameCuts.{copy_cut, call_cut}
use Rattle.un_alt.proofs.frame_cuts.keep_left.Goals as goal

pub returns-clause-step : goal.returns-clause-step
returns-clause-step c =
    let p = c.args.p.now in
    let l = c.args.l.now in
    let mid = c.keep_last_copies-first.new.w.store.now in
    let new = c.keep_calls.new.w.store.now in
    let first = c.keep_last_copies-first.result in
    stepped_chain c.args.w.now.vars.now (round (copy_cut p.flag l.leave) l.copies) (round (call_cut p.flag l.leave) l.calls)
    c.args.w.now.store.now mid new c.args.before first c.keep_calls.result c.keep_last_copies-first.ensures.step
    (subst (λ (us : List VarId). Stepped us (round (call_cut p.flag l.leave) l.calls) mid new first c.keep_calls.result)
    (ap (λ r. r.now) c.keep_last_copies-first.ensures.vars) c.keep_calls.ensures.step)
