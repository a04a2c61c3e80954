use Rattle.std.proofs.Common.{refl}
use Rattle.un_commands.specs.Alloc.{model_options}
use Rattle.un_top.proofs.SearchLaws.{report_is, report_for}
use Rattle.un_top.proofs.produce.report_by.Goals as goal

pub returns-clause-report : goal.returns-clause-report
returns-clause-report c =
    let t = c.args.t.now in
    let m = c.in_ok-model.model in
    let out = c.in_ok-output.output in
    let nodes = c.args.options.nodes in
    report_for t t c.model_options.result (model_options c.args.options) nodes c.args.text.now out.status out.text.items refl
    c.model_options.ensures (report_is t c.args.f.now c.model_options.result m nodes c.args.text.now out.status out.text.items
    c.requires.read c.in_ok-model.ensures.gives c.in_ok-output.ensures.found)
