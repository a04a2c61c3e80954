use Rattle.std.proofs.Common.{◌+◌, ◌/◌, refl, arith}
use Rattle.un_report.specs.declared.report.TheConstants.{NUMBERS}
use Rattle.un_report_reader.specs.FirstBad.{IsBadNumber}
use Rattle.un_report_reader.proofs.NumberLaws.{one_more, bad_number}
use Rattle.un_report_reader.proofs.Through.{named}
use Rattle.un_report_reader.proofs.numbers.numbers.Goals as goal

pub returns-in_default-clause-bad : goal.returns-in_default-clause-bad
returns-in_default-clause-bad c =
    named (IsBadNumber c.args.count) c.args.at (c.loop-k.k / NUMBERS + 1) c.bad_line.result c.bad_line.ensures.bad
    (bad_number c.args.at.rest.now c.loop-k.rest.now c.args.count c.loop-k.values c.loop-k.k c.end_of.result c.loop-k.invariant
    (omega arith) c.end_of.ensures.is c.in_default.ensures.none)

pub loop-k-preserved : goal.loop-k-preserved
loop-k-preserved c =
    one_more c.args.at.rest.now c.loop-k.rest.now c.args.count c.loop-k.values c.loop-k.k _ _ c.end_of.result _ _ c.loop-k.invariant
    c.end_of.ensures.is c.in-Some.ensures.some.0 c.in-Some.ensures.some.1 c.in_ok-add.ensures refl
