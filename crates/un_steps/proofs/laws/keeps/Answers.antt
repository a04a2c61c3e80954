use Rattle.un_steps.specs.Keeping.{Keeps}
use Rattle.un_steps.specs.declared.step.Rule.{Rule}
use Rattle.un_steps.specs.declared.step.Rule.TheVariants.{TooSoon, Idle, OutsideBlock, FromIdle, TooLateFor, OutsideSpace, NoSpace, Alike}
use Rattle.un_steps.specs.declared.step.Rule.TheVariants.{NotHome, NotCongruent, TooDear, NoFrame, TooFull}
use Rattle.un_steps.proofs.Stepping.{stays}
use Rattle.un_steps.proofs.laws.keeps.Goals as goal

pub returns-clause-rules : goal.returns-clause-rules
returns-clause-rules c = by
  where
    by : (rule : Rule) → Keeps c.args.m.now c.args.limit rule
    by TooSoon = c.too_soon.ensures
    by Idle = c.idle.ensures
    by OutsideBlock = c.outside_block.ensures
    by FromIdle = c.from_idle.ensures
    by TooLateFor = c.too_late_for.ensures
    by OutsideSpace = c.outside_space.ensures
    by NoSpace = c.no_space.ensures
    by Alike = c.alike.ensures
    by NotHome = c.not_home.ensures
    by NotCongruent = c.not_congruent.ensures
    by TooDear = c.too_dear.ensures
    by NoFrame = c.no_frame.ensures
    by TooFull = c.too_full.ensures

pub returns-clause-steps : goal.returns-clause-steps
returns-clause-steps c = stays c.args.m.now c.args.limit (returns-clause-rules c)
