use Rattle.std.proofs.lemmas.Result.{err_from_is_err_and}
use Rattle.un_report_reader.specs.FirstBad.{InNodes}
use Rattle.un_report_reader.specs.Limits.{AreFewLines}
use Rattle.un_report_reader.specs.Lines.{tree_head}
use Rattle.un_report_reader.proofs.PartLaws.{own_nodes}
use Rattle.un_report_reader.proofs.Through.{past_line}
use Rattle.un_report_reader.proofs.tree.tree.Goals as goal

pub returns-in_err-text-clause-bad : goal.returns-in_err-text-clause-bad
returns-in_err-text-clause-bad c =
    let p = err_from_is_err_and c.from_residual-in_err-text.result c.from_residual-in_err-text.ensures.1 in
    rw (p.1, p.2) (past_line (AreFewLines c.args.limits) tree_head (InNodes c.args.limits) c.args.at _ _ c.in_ok-count.ensures.ok _
    (own_nodes c.args.limits c.in_ok-count.count _ _ c.in_err-text.ensures.bad))
