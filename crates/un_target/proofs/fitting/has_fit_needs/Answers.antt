use Rattle.std.proofs.Common.{slice_get}
use Rattle.un_isa.specs.Facts.{class_of}
use Rattle.un_isa.specs.Hexagon.{needs_by}
use Rattle.un_isa.specs.Tables.{number_of}
use Rattle.un_target.proofs.FitLaws.{needs_fit}
use Rattle.un_target.proofs.UseLaws.{usual_needs}
use Rattle.un_target.proofs.fitting.has_fit_needs.Goals as goal

pub returns : goal.returns
returns c = needs_fit c.args.t.now c.args.op c.uses.result c.uses-2.result c.are_fit_needs.result
    (usual_needs c.uses.result (needs_by (class_of c.args.op)) (slice_get c.hexagon.result.uses (number_of c.args.op)) c.uses.ensures
    (c.hexagon.ensures.entries.needs c.args.op)) c.uses-2.ensures c.are_fit_needs.ensures
