use Rattle.un_base.proofs.LineLaws.{joined_lines-lines_of, lines_of-no_feed}
use Rattle.un_base.proofs.lines.lines.Goals as goal

pub returns-clause-joined : goal.returns-clause-joined
returns-clause-joined c = joined_lines-lines_of c.args.text.now

pub returns-clause-no_feed : goal.returns-clause-no_feed
returns-clause-no_feed c = lines_of-no_feed c.args.text.now
