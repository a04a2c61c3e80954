use Rattle.un_top.proofs.TableInputs.{alloc_table}
use Rattle.un_top.proofs.by_table.table_report.Goals as goal

pub returns-in-Err-table_of_text-clause-refused : goal.returns-in-Err-table_of_text-clause-refused
returns-in-Err-table_of_text-clause-refused c =
    let parts = c.split-parts in
    alloc_table c.args.options c.args.input.now parts.result.first.now parts.result.second.now c.in-Ok.f c.in-Err-table_of_text.status
    parts.ensures.first parts.ensures.second c.requires.few c.in-Ok.ensures.ok c.in-Err-table_of_text.ensures.refused
