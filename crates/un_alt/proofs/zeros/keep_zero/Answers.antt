use Rattle.un_prop.specs.AmongLaws.{has_among}
use Rattle.un_prop.specs.When.{is_only}
use Rattle.un_alt.proofs.zeros.keep_zero.Goals as goal

pub is_only-idle-requires-clause-there : goal.is_only-idle-requires-clause-there
is_only-idle-requires-clause-there c = let p = c.args.p.now in has_among p.vars p.instr c.args.w.now.store.now.sets p.among.of_instr
    c.requires.known

pub keep_le_when-requires-clause-there : goal.keep_le_when-requires-clause-there
keep_le_when-requires-clause-there c = has_among c.args.p.now.vars c.args.v c.args.w.now.store.now.sets c.requires.of_v c.requires.known

pub returns-clause-step : goal.returns-clause-step
returns-clause-step c = c.keep_le_when.ensures.step (is_only c.args.p.now.instr 0) (λ going. c.is_only-idle.ensures)
