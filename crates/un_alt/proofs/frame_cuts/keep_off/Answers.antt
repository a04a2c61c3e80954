use Rattle.std.proofs.Common.{◌-◌}
use Rattle.un_prop.specs.Among.{among}
use Rattle.un_prop.specs.AmongLaws.{has_among}
use Rattle.un_prop.specs.When.{is_only}
use Rattle.un_alt.proofs.frame_cuts.keep_off.Goals as goal

pub keep_le_when-requires-clause-there : goal.keep_le_when-requires-clause-there
keep_le_when-requires-clause-there c = has_among c.args.p.now.vars c.args.op.instr c.args.w.now.store.now.sets c.requires.of_op.of_instr
    c.requires.known

pub is_only-off-requires-clause-there : goal.is_only-off-requires-clause-there
is_only-off-requires-clause-there c = let p = c.args.p.now in has_among p.vars p.flag c.args.w.now.store.now.sets p.among.of_flag
    c.requires.known

pub returns-clause-step : goal.returns-clause-step
returns-clause-step c = let p = c.args.p.now in c.keep_le_when.ensures.step (is_only p.flag 0) (λ still. c.is_only-off.ensures)
