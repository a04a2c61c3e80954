use Rattle.std.proofs.Common.{refl}
use Rattle.un_report_reader.proofs.Listings.{some_text}
use Rattle.un_report_reader.proofs.Through.{named, past_line}
use Rattle.un_report_reader.specs.FirstBad.{InNothing}
use Rattle.un_report_reader.specs.Lines.{IsPlain, end_text}
use Rattle.un_report_reader.proofs.tree.end.Goals as goal

pub returns-else-is_empty-clause-bad : goal.returns-else-is_empty-clause-bad
returns-else-is_empty-clause-bad c =
    past_line IsPlain end_text (λ v. InNothing) c.args.at tt c.in_ok-at.at c.in_ok-at.ensures.ok c.bad_line.result
    (named InNothing c.in_ok-at.at 1 c.bad_line.result c.bad_line.ensures.bad (some_text c.in_ok-at.at.rest.now c.if-is_empty.ensures, refl))
