use Rattle.un_target.proofs.ExampleLaws.{hexagon_read, causes_read}
use Rattle.un_target.proofs.laws.each_comes.Goals as goal

pub returns-clause-table : goal.returns-clause-table
returns-clause-table c = hexagon_read

pub returns-clause-cause : goal.returns-clause-cause
returns-clause-cause c = causes_read
