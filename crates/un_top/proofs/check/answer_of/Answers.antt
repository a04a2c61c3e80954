use Rattle.un_isa.proofs.HexagonTable.{version_fit}
use Rattle.un_isa.specs.Versions.{table_of}
use Rattle.un_report_reader.proofs.LimitLaws.{options_of}
use Rattle.un_top.proofs.CheckLaws.{view_lines, answered}
use Rattle.un_top.proofs.check.answer_of.Goals as goal

pub check_view-requires-clause-version : goal.check_view-requires-clause-version
check_view-requires-clause-version c = c.requires.is_view.version

pub check_view-requires-clause-options : goal.check_view-requires-clause-options
check_view-requires-clause-options c = options_of c.args.view.now.version c.args.view.now.options c.requires.is_view.options

pub check_view-requires-clause-lines : goal.check_view-requires-clause-lines
check_view-requires-clause-lines c = view_lines c.args.text.now c.args.view.now c.requires

pub returns : goal.returns
returns c =
    answered table_of c.args.alloc c.args.f.now c.args.text.now c.args.view.now c.check_view.result (version_fit c.args.view.now.version)
    c.requires c.check_view.ensures.told c.check_view.ensures.sound
