use Rattle.un_baseline.proofs.Spillable.{spillable}
use Rattle.inspect.proofs.times.call_late.Goals as goal

pub spill_everywhere-requires : goal.spill_everywhere-requires
spill_everywhere-requires c = let x = c.args.x.now in spillable x.f.now x.m.now c.requires.problem c.requires.roomy
