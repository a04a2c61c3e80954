use Rattle.un_baseline.proofs.Spillable.{spillable}
use Rattle.inspect.proofs.sweep.kept_in_slots.Goals as goal

pub spill_everywhere-requires : goal.spill_everywhere-requires
spill_everywhere-requires c =
    spillable c.args.f.now c.args.m.now c.requires.problem (c.is_roomy.ensures.0 c.if-not-is_roomy.false)
