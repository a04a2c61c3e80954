use Rattle.un_isa.specs.Facts.{class_of}
use Rattle.un_isa.specs.Hexagon.{needs_by}
use Rattle.un_isa.specs.Tables.{number_of}
use Rattle.std.proofs.Common.{slice_get}
use Rattle.serde_json.specs.View.{view}
use Rattle.un_target.specs.Lending.{lent_parts}
use Rattle.un_target.proofs.UseLaws.{some_use, none_use, usual_use, usual_needs}
use Rattle.un_target.proofs.uses.needs.Goals as goal

pub returns-in-Some-clause-some : goal.returns-in-Some-clause-some
returns-in-Some-clause-some c = some_use (lent_parts c.args.parts.now) c.args.op (view c.in-Some.value.now) c.uses-least.result
    c.needs_above.result c.in-Some.ensures
    (usual_needs c.uses-least.result (needs_by (class_of c.args.op)) (slice_get c.hexagon.result.uses (number_of c.args.op))
    c.uses-least.ensures (c.hexagon.ensures.entries.needs c.args.op)) c.needs_above.ensures.some

pub returns-in-Some-clause-none : goal.returns-in-Some-clause-none
returns-in-Some-clause-none c = none_use (lent_parts c.args.parts.now) c.args.op (view c.in-Some.value.now) c.uses-least.result
    c.needs_above.result c.in-Some.ensures
    (usual_needs c.uses-least.result (needs_by (class_of c.args.op)) (slice_get c.hexagon.result.uses (number_of c.args.op))
    c.uses-least.ensures (c.hexagon.ensures.entries.needs c.args.op)) c.needs_above.ensures.none

pub returns-in-None-clause-some : goal.returns-in-None-clause-some
returns-in-None-clause-some c = usual_use (lent_parts c.args.parts.now) c.args.op c.uses-least.result c.hexagon.result.uses
    c.in-None.ensures c.uses-least.ensures (c.hexagon.ensures.entries.needs c.args.op) (c.hexagon.ensures.fit.needs c.args.op)
