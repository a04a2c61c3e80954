use Rattle.un_isa.specs.Versions.{table_of}
use Rattle.un_isa.specs.declared.table.TheConstants.{LAST}
use Rattle.un_top.proofs.RefuteLaws.{told_same, told_other}
use Rattle.un_top.proofs.refutation.told.Goals as goal

pub judged-requires-clause-same : goal.judged-requires-clause-same
judged-requires-clause-same c = c.is_of.ensures.0 c.if-is_of.true

pub returns-then-is_of-clause-told : goal.returns-then-is_of-clause-told
returns-then-is_of-clause-told c =
    told_same (table_of LAST) c.args.f.now c.args.text.now c.args.r.now c.judged.result c.requires.read c.judged.ensures.told

pub returns-else-is_of-clause-told : goal.returns-else-is_of-clause-told
returns-else-is_of-clause-told c =
    told_other (table_of LAST) c.args.f.now c.args.text.now c.args.r.now c.is_of.result c.other_name.result c.requires.read c.is_of.ensures
    c.if-is_of.false c.other_name.ensures.ends c.other_name.ensures.printed
