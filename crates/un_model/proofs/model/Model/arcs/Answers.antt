use Rattle.std.proofs.Common.{Some, ap, sym, ◌∙◌}
use Rattle.un_model.proofs.ArcLists.{list_rises, list_has_each}
use Rattle.un_model.proofs.model.Model.arcs.Goals as goal

pub returns-clause-rising : goal.returns-clause-rising
returns-clause-rising c =
    list_rises c.args.self.now c.args.b.0 c.as_slice.result.now (c.get.ensures ∙ ap Some (sym c.as_slice.ensures))

pub returns-clause-each : goal.returns-clause-each
returns-clause-each c =
    list_has_each c.args.self.now c.args.b.0 c.as_slice.result.now (c.get.ensures ∙ ap Some (sym c.as_slice.ensures))
