use Rattle.std.proofs.Common.{sym, subst}
use Rattle.un_top.specs.Behaviours.{of_check_table}
use Rattle.un_top.specs.Runs.{RefusesText}
use Rattle.un_top.proofs.TableInputs.{check_table, check_last, check_is}
use Rattle.un_top.proofs.by_table.table_check.Goals as goal

pub returns-in-Err-table_of_text-clause-refused : goal.returns-in-Err-table_of_text-clause-refused
returns-in-Err-table_of_text-clause-refused c =
    let parts = c.split_three-parts in
    check_table c.args.input.now parts.result.first.now parts.result.middle.now c.in-Ok.f c.in-Err-table_of_text.status parts.ensures.first
    parts.ensures.middle c.requires.few c.in-Ok.ensures.ok c.in-Err-table_of_text.ensures.refused

pub returns-in-Ok-check_by-clause-ok : goal.returns-in-Ok-check_by-clause-ok
returns-in-Ok-check_by-clause-ok c =
    let parts = c.split_three-parts in
    let table = c.in-Ok-table_of_text in
    let out = c.in-Ok-check_by.out in (
      c.requires.few,
      check_is c.args.input.now parts.result.first.now parts.result.middle.now parts.result.last.now c.in-Ok.f table.table out.status
          out.text.items parts.ensures.first parts.ensures.middle parts.ensures.last c.in-Ok.ensures.ok table.ensures.ok table.ensures.fit
          c.in-Ok-check_by.ensures.ok,
    )

pub returns-clause-refused : goal.returns-clause-refused
returns-clause-refused c =
    let parts = c.split_three-parts in
    let table = c.in-Ok-table_of_text in
    let refused = c.in-Err-check_by in
    subst (RefusesText of_check_table c.args.input.now) (sym c.status_by-in-Err-check_by.ensures)
    (check_last c.args.input.now parts.result.first.now parts.result.middle.now parts.result.last.now c.in-Ok.f table.table refused.refused
    parts.ensures.first parts.ensures.middle parts.ensures.last c.requires.few c.in-Ok.ensures.ok table.ensures.ok refused.ensures.refused)
