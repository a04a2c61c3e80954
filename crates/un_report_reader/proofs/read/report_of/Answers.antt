use Rattle.std.proofs.Common.{refl}
use Rattle.un_report_reader.proofs.ViewLaws.{report_made}
use Rattle.un_report_reader.proofs.read.report_of.Goals as goal

pub returns-in-Ok-clause-ok : goal.returns-in-Ok-clause-ok
returns-in-Ok-clause-ok c =
    report_made c.args.view _ c.requires refl c.in-Some.ensures.bytes refl refl refl
    (c.in-Ok.ensures.whole c.requires.tree.nodes c.requires.tree.are.1 c.requires.tree.spelled)
