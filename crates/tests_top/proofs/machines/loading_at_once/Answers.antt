use Rattle.tests_top.proofs.OtherTables.{quick_fit}
use Rattle.tests_top.proofs.machines.loading_at_once.Goals as goal

pub returns : goal.returns
returns c = rw c.hexagon-t.ensures.table quick_fit
