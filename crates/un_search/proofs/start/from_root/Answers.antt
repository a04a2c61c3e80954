use Rattle.std.proofs.Common.{refl}
use Rattle.un_search.proofs.RootLemmas.{order_kept, root_live}
use Rattle.un_search.proofs.start.from_root.Goals as goal

pub candidate-requires-clause-live : goal.candidate-requires-clause-live
candidate-requires-clause-live c = root_live c.args.m.now _ c.args.root.stores c.requires.root.at

pub from_solution-requires-clause-root : goal.from_solution-requires-clause-root
from_solution-requires-clause-root c = order_kept c.args.m.now c.args.root _ c.requires.root c.in_ok-outlook.ensures.same refl refl
