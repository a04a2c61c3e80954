-- The lines that were taken give the start, or the line behind them is bad.
use Rattle.std.proofs.Common.{sym}
use Rattle.un_start.proofs.DraftLaws.{draft_start, start_read, start_back, none_bad}
use Rattle.un_start.proofs.read.read_start.Goals as goal

pub into_start-requires : goal.into_start-requires
into_start-requires c = draft_start c.args.text.now _ _ c.in_ok-rest.ensures

pub returns-in-Some-clause-ok : goal.returns-in-Some-clause-ok
returns-in-Some-clause-ok c =
    start_read c.args.text.now c.in_ok-rest.rest.now c.take_lines.new.draft c.into_start.result c.in-Some.count c.in_ok-rest.ensures
    (sym c.in-Some.ensures) c.into_start.ensures.regs c.into_start.ensures.memory c.into_start.ensures.replies

pub returns-in-Some-clause-whole : goal.returns-in-Some-clause-whole
returns-in-Some-clause-whole c =
    start_back c.args.text.now c.in_ok-rest.rest.now c.take_lines.new.draft c.into_start.result c.in-Some.count c.in_ok-rest.ensures
    (sym c.in-Some.ensures) c.into_start.ensures.regs c.into_start.ensures.memory c.into_start.ensures.replies

pub returns-in-None-clause-whole : goal.returns-in-None-clause-whole
returns-in-None-clause-whole c = λ ls n are is.
    absurd (none_bad c.args.text.now c.in_ok-rest.rest.now c.take_lines.new.draft c.in_ok-rest.ensures (sym c.in-None.ensures) ls n are is)
