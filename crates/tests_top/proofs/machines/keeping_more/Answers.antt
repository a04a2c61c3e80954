use Rattle.tests_top.proofs.OtherTables.{keeping_fit}
use Rattle.tests_top.proofs.machines.keeping_more.Goals as goal

pub returns : goal.returns
returns c = rw c.hexagon.ensures.table keeping_fit
