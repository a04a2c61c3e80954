use Rattle.un_rows.proofs.Meeting.{rows_hold}
use Rattle.un_rows.proofs.laws.rows_hold.Goals as goal

pub returns : goal.returns
returns c row has met less = rows_hold c.args.m.now c.args.s.now c.args.limit c.requires.model row has met less
