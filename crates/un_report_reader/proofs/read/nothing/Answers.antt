use Rattle.std.proofs.Common.{refl}
use Rattle.un_report_reader.specs.FirstBad.{InNothing}
use Rattle.un_report_reader.proofs.Listings.{some_text}
use Rattle.un_report_reader.proofs.Through.{named}
use Rattle.un_report_reader.proofs.read.nothing.Goals as goal

pub returns-else-is_empty-clause-bad : goal.returns-else-is_empty-clause-bad
returns-else-is_empty-clause-bad c =
    named InNothing c.args.at 1 c.bad_line.result c.bad_line.ensures.bad (some_text c.args.at.rest.now c.if-is_empty.ensures, refl)
