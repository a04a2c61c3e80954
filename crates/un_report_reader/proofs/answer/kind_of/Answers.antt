use Rattle.un_report_reader.proofs.PartLaws.{no_kind}
use Rattle.un_report_reader.proofs.answer.kind_of.Goals as goal

pub returns-in-None-after-2-clause-none : goal.returns-in-None-after-2-clause-none
returns-in-None-after-2-clause-none c = λ kind rest e.
    no_kind c.args.text.now c.in-None.ensures.none c.in-None-after.ensures.none c.in-None-after-2.ensures.none kind rest e
