use Rattle.un_target.proofs.TableLaws.{one_table, one_cause, not_both}
use Rattle.un_target.proofs.laws.one_table_or_cause.Goals as goal

pub returns-clause-table : goal.returns-clause-table
returns-clause-table c = one_table c.args.text.now

pub returns-clause-cause : goal.returns-clause-cause
returns-clause-cause c = one_cause c.args.text.now

pub returns-clause-apart : goal.returns-clause-apart
returns-clause-apart c = not_both c.args.text.now
