use Rattle.un_report_reader.proofs.LimitLaws.{options_of}
use Rattle.un_top.proofs.CheckLaws.{view_lines, answered}
use Rattle.un_top.proofs.check.answer_by.Goals as goal

pub check_table-requires-clause-options : goal.check_table-requires-clause-options
check_table-requires-clause-options c = options_of c.args.view.now.version c.args.view.now.options c.requires.view.is_view.options

pub check_table-requires-clause-lines : goal.check_table-requires-clause-lines
check_table-requires-clause-lines c = view_lines c.args.text.now c.args.view.now c.requires.view

pub returns : goal.returns
returns c =
    answered (λ version. c.args.t.now) c.args.alloc c.args.f.now c.args.text.now c.args.view.now c.check_table.result c.requires.fit
    c.requires.view c.check_table.ensures.told c.check_table.ensures.sound
