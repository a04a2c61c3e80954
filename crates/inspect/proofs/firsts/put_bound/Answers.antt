use Rattle.un_baseline.proofs.Spillable.{spillable}
use Rattle.inspect.proofs.firsts.put_bound.Goals as goal

pub spill_everywhere-requires : goal.spill_everywhere-requires
spill_everywhere-requires c = spillable c.args.f.now c.args.m.now c.requires.problem c.requires.roomy
