use Rattle.std.proofs.Common.{subst}
use Rattle.un_prop.specs.Pruning.{IsFix}
use Rattle.un_prop.specs.declared.run.Fix.{Fix}
use Rattle.un_stand.specs.Engines.{side_end}
use Rattle.un_stand.proofs.RoomLemmas.{decided_stable, decided_failed}
use Rattle.un_stand.proofs.room.decide_in.Goals as goal

pub returns-in-Stable : goal.returns-in-Stable
returns-in-Stable c = decided_stable c.args.decision c.args.engine.now c.decide.new.self c.in_ok-fix.ensures.deeper
    (λ box full long is. subst (λ (f : Fix). IsFix (side_end c.args.engine.now.props c.args.decision box) c.decide.new.self.store.sets f)
    c.in-Stable.is (c.in_ok-fix.ensures.child box full long is))

pub returns-in-Failed : goal.returns-in-Failed
returns-in-Failed c = decided_failed c.args.decision c.args.engine.now c.decide.new.self c.undo.new.self c.in_ok-fix.ensures.deeper
    c.undo.ensures.back
    (λ box full long is. subst (λ (f : Fix). IsFix (side_end c.args.engine.now.props c.args.decision box) c.decide.new.self.store.sets f)
    c.in-Failed.is (c.in_ok-fix.ensures.child box full long is))
