use Rattle.std.proofs.Common.{sym, ◌∙◌}
use Rattle.un_base.proofs.LineLaws.{first_feed-Some, first_feed-None}
use Rattle.un_base.proofs.lines.line_end.Goals as goal

pub returns-in-Some-clause-end : goal.returns-in-Some-clause-end
returns-in-Some-clause-end c = first_feed-Some c.args.text.now c.in-Some.end (sym c.first_feed.ensures.place ∙ c.in-Some.is)

pub returns-in-None-clause-end : goal.returns-in-None-clause-end
returns-in-None-clause-end c = first_feed-None c.args.text.now (sym c.first_feed.ensures.place ∙ c.in-None.is)
