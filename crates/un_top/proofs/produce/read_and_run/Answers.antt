use Rattle.un_top.specs.Behaviours.{behaviour_of}
use Rattle.un_top.proofs.Answered.{over_told, refused_told, ends_ok, late_ends}
use Rattle.un_top.proofs.produce.read_and_run.Goals as goal

pub returns-clause-ok : goal.returns-clause-ok
returns-clause-ok g c =
    over_told (g.S.Source.left c.args.src.now) (behaviour_of c.args.command) c.as_slice.result.now c.in-Ok.text.items c.over_input.result
    c.as_slice.ensures.value
    c.in-Ok.ensures.told c.over_input.ensures.ok

pub returns-clause-refused : goal.returns-clause-refused
returns-clause-refused g c =
    refused_told (g.S.Source.left c.args.src.now) c.args.command c.as_slice.result.now c.in-Ok.text.items (g.S.Source.faults
    c.args.src.now)
    (g.S.Source.faults c.input_of.new.src) c.over_input.result c.as_slice.ensures.value c.in-Ok.ensures.told
    c.over_input.ensures.refused

pub returns-clause-ends : goal.returns-clause-ends
returns-clause-ends g c = ends_ok c.args.command c.as_slice.result.now c.over_input.result c.over_input.ensures.ok

pub returns-clause-end_late : goal.returns-clause-end_late
returns-clause-end_late g c = late_ends c.over_input.result _ c.in-Ok.ensures.end

pub returns-in-Err-clause-end_late : goal.returns-in-Err-clause-end_late
returns-in-Err-clause-end_late g c = λ late. absurd (c.in-Err.ensures.early late)
