use Rattle.un_rows.proofs.Whole.{rows_whole}
use Rattle.un_rows.proofs.laws.rows_whole.Goals as goal

pub returns-clause-freqs : goal.returns-clause-freqs
returns-clause-freqs c row has = (rows_whole c.args.m.now c.requires.model row has).0

pub returns-clause-ends : goal.returns-clause-ends
returns-clause-ends c row has = (rows_whole c.args.m.now c.requires.model row has).1
