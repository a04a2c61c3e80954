use Rattle.un_report_reader.proofs.PartLaws.{listings_bad}
use Rattle.un_report_reader.proofs.listing.listing.Goals as goal

pub returns-clause-bad : goal.returns-clause-bad
returns-clause-bad c = listings_bad c.args.limits c.args.at _ _ c.code.result c.in_ok-count.ensures.ok c.code.ensures.bad
