use Rattle.un_search.proofs.RootLemmas.{root_kept, root_live}
use Rattle.un_search.proofs.near.look_from.Goals as goal

pub near-requires-clause-live : goal.near-requires-clause-live
near-requires-clause-live c = root_live c.args.m.now _ c.args.root.stores c.requires.root.at

pub returns-in-None-clause-incumbent : goal.returns-in-None-clause-incumbent
returns-in-None-clause-incumbent c = record {
  best = c.requires.best;
  posting = (root_kept c.args.m.now c.args.root _ c.requires.root c.in_ok-solution.ensures.same, c.requires.under);
}

pub next-requires-clause-root : goal.next-requires-clause-root
next-requires-clause-root c = root_kept c.args.m.now c.args.root _ c.requires.root c.in_ok-solution.ensures.same
