use Rattle.std.proofs.Common.{◌+◌}
use Rattle.un_post.proofs.Lowering.{of_there}
use Rattle.un_post.proofs.lower.lower_rows.Goals as goal

pub returns-in-Some-clause-several : goal.returns-in-Some-clause-several
returns-in-Some-clause-several c =
    of_there _ c.args.limit (c.args.at + 1) c.args.props.now c.in-Some.p.now c.rows_below.result c.in-Some.ensures.lookup.1 c.rows_below.ensures
