use Rattle.std.proofs.Common.{sym, ap, ◌∙◌}
use Rattle.std.specs.Option.{option_map}
use Rattle.un_steps.specs.Found.{operation_of}
use Rattle.un_steps.specs.Full.{takes_by}
use Rattle.un_steps.proofs.full.takes_at.Goals as goal

pub returns-in-None-clause-value : goal.returns-in-None-clause-value
returns-in-None-clause-value c = ap (takes_by c.args.m.now c.args.s.now.sets c.args.r c.args.a c.args.n)
    (sym (ap (option_map operation_of) c.in-None.is) ∙ c.at.ensures)

pub returns-in-Some-clause-value : goal.returns-in-Some-clause-value
returns-in-Some-clause-value c = c.takes_in.ensures.value ∙ ap (takes_by c.args.m.now c.args.s.now.sets c.args.r c.args.a c.args.n)
    (sym (ap (option_map operation_of) c.in-Some.is) ∙ c.at.ensures)
