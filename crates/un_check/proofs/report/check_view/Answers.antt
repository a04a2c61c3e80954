use Rattle.std.proofs.Common.{IfOk, OnOk, subst}
use Rattle.un_isa.specs.declared.table.Table.{Table}
use Rattle.un_check.specs.Causes.{IsTold, claim_with}
use Rattle.un_check.specs.Sound.{IsSound}
use Rattle.un_check.proofs.report.check_view.Goals as goal

pub returns-clause-told : goal.returns-clause-told
returns-clause-told c nodes fit is =
    let v = c.args.v.now in
    subst (λ (t : Table). IfOk c.check_table.result (IsTold t c.args.f.now v.options (claim_with v nodes))) c.table_of.ensures.is
    (c.check_table.ensures.told nodes fit is)

pub returns-clause-sound : goal.returns-clause-sound
returns-clause-sound c r view fit =
    subst (λ (t : Table). IfOk c.check_table.result (λ told. OnOk told (IsSound t c.args.f.now r))) c.table_of.ensures.is
    (c.check_table.ensures.sound r view fit)
