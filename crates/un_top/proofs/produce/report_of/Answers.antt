use Rattle.std.proofs.Common.{refl}
use Rattle.un_commands.specs.Alloc.{model_options}
use Rattle.un_isa.specs.Versions.{table_of}
use Rattle.un_isa.specs.declared.table.TheConstants.{LAST}
use Rattle.un_top.proofs.SearchLaws.{report_for}
use Rattle.un_top.proofs.produce.report_of.Goals as goal

pub returns-clause-report : goal.returns-clause-report
returns-clause-report c =
    let o = model_options c.args.options in
    let out = c.in_ok-output.output in
    report_for c.table_of-table.result (table_of LAST) o o c.args.options.nodes c.args.text.now out.status out.text.items
    c.table_of-table.ensures.is refl c.in_ok-output.ensures.report
