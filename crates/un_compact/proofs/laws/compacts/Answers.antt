use Rattle.un_compact.proofs.Compaction.{exactly, is_solution, costs_no_more}
use Rattle.un_compact.proofs.laws.compacts.Goals as goal

pub returns-clause-compacted : goal.returns-clause-compacted
returns-clause-compacted c = exactly c.args.m.now c.requires.model c.args.s.now

pub returns-clause-solution : goal.returns-clause-solution
returns-clause-solution c = is_solution c.args.m.now c.requires.model c.requires.extended c.requires.fit c.args.s.now c.requires.loose

pub returns-clause-no_dearer : goal.returns-clause-no_dearer
returns-clause-no_dearer c = costs_no_more c.args.m.now c.requires.model c.args.s.now
