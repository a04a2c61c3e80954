use Rattle.un_report_reader.proofs.PartLaws.{rest_short, code_here, refused_at}
use Rattle.un_report_reader.proofs.listing.code.Goals as goal

pub slice_bounds-lines-count : goal.slice_bounds-lines-count
slice_bounds-lines-count c = rest_short c.args.at.rest.now c.args.count c.in-Some.rest.now c.in-Some.ensures.some

pub returns-in_ok-behind-in-Ok-clause-ok : goal.returns-in_ok-behind-in-Ok-clause-ok
returns-in_ok-behind-in-Ok-clause-ok c =
    code_here c.args.limits c.args.at c.args.count c.in-Some.rest.now _ _ c.in-Some.ensures.some c.in-Ok.ensures.ok c.in_ok-behind-in-Ok.ensures.rest
    c.in_ok-behind-in-Ok.ensures.lines

pub returns-in-Err-clause-bad : goal.returns-in-Err-clause-bad
returns-in-Err-clause-bad c =
    refused_at c.args.limits c.args.at c.args.count c.in-Some.rest.now _ c.refused.result c.in-Some.ensures.some c.in-Err.ensures.bad c.refused.ensures
