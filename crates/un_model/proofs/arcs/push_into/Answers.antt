use Rattle.std.proofs.Common.{sym, ◌∙◌}
use Rattle.un_model.proofs.ArcSteps.{no_arcs}
use Rattle.un_model.proofs.Steps.{append-nil}
use Rattle.un_model.proofs.arcs.push_into.Goals as goal

pub returns-then-not-is_mandatory : goal.returns-then-not-is_mandatory
returns-then-not-is_mandatory c =
    let e = no_arcs c.args.t.now c.args.temps.now c.args.first c.args.before.now c.args.m c.args.to.now
    (sym c.is_mandatory.ensures ∙ c.if-not-is_mandatory.true) in
    rw e (sym (append-nil c.args.arcs.now))
