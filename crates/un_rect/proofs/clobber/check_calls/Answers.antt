use Rattle.std.proofs.Common.{List, ◌∙◌, sym, subst}
use Rattle.un_base.specs.declared.ids.VarId.{VarId}
use Rattle.un_prop.specs.GoingLaws.{stepped_same}
use Rattle.un_rect.specs.Spans.{TempVars}
use Rattle.un_rect.specs.Clobber.{check_call}
use Rattle.un_rect.specs.Entries.{each_entry}
use Rattle.un_rect.proofs.CallSteps.{temp_idle}
use Rattle.un_rect.proofs.clobber.check_calls.Goals as goal

pub with_temp-requires-clause-vars : goal.with_temp-requires-clause-vars
with_temp-requires-clause-vars c =
    let p = c.args.p.now in
    subst (λ (us : List VarId). TempVars us p.temp) (sym c.requires.vars) p.of_temp

pub returns-then-is_more-clause-step : goal.returns-then-is_more-clause-step
returns-then-is_more-clause-step c =
    let p = c.args.p.now in
    let w = c.args.w.now in
    stepped_same w.vars.now (each_entry (check_call p.vars p.mask p.temp) p.calls) w.store.now c.args.before
    (λ live. temp_idle p.vars p.mask p.temp p.ascend p.of_temp w.store.now.sets c.requires.known live c.with_temp.result
    c.with_temp.ensures (sym c.is_more.ensures ∙ c.if-is_more.true) p.calls p.of_calls)

pub check_each-requires-clause-live : goal.check_each-requires-clause-live
check_each-requires-clause-live c = c.requires.live
