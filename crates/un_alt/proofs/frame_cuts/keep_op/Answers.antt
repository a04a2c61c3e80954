use Rattle.std.proofs.Common.{List, ◌-◌}
use Rattle.std.proofs.Common.{ap}
use Rattle.std.proofs.Common.{subst}
use Rattle.un_base.specs.declared.ids.VarId.{VarId}
use Rattle.un_prop.specs.Going.{Stepped}
use Rattle.un_prop.specs.GoingLaws.{stepped_chain}
use Rattle.un_prop.specs.When.{is_only, when_cut, other_than, up_to}
use Rattle.un_alt.proofs.frame_cuts.keep_op.Goals as goal

pub returns-clause-step : goal.returns-clause-step
returns-clause-step c =
    let p = c.args.p.now in
    let op = c.args.op in
    let mid = c.keep_off-first.new.w.store.now in
    let new = c.keep_on.new.w.store.now in
    let first = c.keep_off-first.result in
    stepped_chain c.args.w.now.vars.now (when_cut (is_only p.flag 0) (up_to 0) op.instr) (when_cut (is_only p.flag 1) (other_than 0)
    op.instr)
    c.args.w.now.store.now mid new c.args.before first c.keep_on.result c.keep_off-first.ensures.step
    (subst (λ (us : List VarId). Stepped us (when_cut (is_only p.flag 1) (other_than 0) op.instr) mid new first c.keep_on.result)
    (ap (λ r. r.now) c.keep_off-first.ensures.vars) c.keep_on.ensures.step)
