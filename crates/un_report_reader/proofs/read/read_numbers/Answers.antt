use Rattle.un_report_reader.proofs.Alone.{numbers_back}
use Rattle.un_report_reader.proofs.read.read_numbers.Goals as goal

pub returns-clause-whole : goal.returns-clause-whole
returns-clause-whole c = numbers_back c.args.text.now c.alone.result c.alone.ensures.ok c.alone.ensures.bad
