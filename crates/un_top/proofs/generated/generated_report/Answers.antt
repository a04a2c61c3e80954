use Rattle.un_top.proofs.GeneratedLaws.{generated_is}
use Rattle.un_top.proofs.generated.generated_report.Goals as goal

pub returns-clause-report : goal.returns-clause-report
returns-clause-report c =
    let out = c.in_ok-output.output in
    generated_is c.table_of.result c.default_options.result c.in_ok-f.f c.in_ok-m.m c.args.seed c.args.size c.args.nodes out.status out.text.items
    c.table_of.ensures.is c.default_options.ensures c.in_ok-f.ensures c.in_ok-m.ensures.gives c.in_ok-output.ensures.summed
