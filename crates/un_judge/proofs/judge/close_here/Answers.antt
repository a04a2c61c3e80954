use Rattle.std.proofs.Common.{refl, sym, ◌∙◌}
use Rattle.un_model.specs.Boxes.{IsBelow, root_of}
use Rattle.un_walk.proofs.StandLemmas.{cuts_box}
use Rattle.un_judge.proofs.Walkings.{stand_back, some_marked, end_comes, end_refuted}
use Rattle.un_judge.proofs.judge.close_here.Goals as goal

pub mark-requires : goal.mark-requires
mark-requires c = (cuts_box (root_of c.args.r.now.m.now) c.args.walk.now.stand c.requires.at).1

pub undo-requires : goal.undo-requires
undo-requires c =
    some_marked c.args.walk.now.stand.cuts.marked _ c.args.walk.now.stand.cuts.sets (c.close.ensures.marked ∙ c.in_ok-mark.ensures.ok)

pub returns-in-Closed-clause-at : goal.returns-in-Closed-clause-at
returns-in-Closed-clause-at c = stand_back (root_of c.args.r.now.m.now) c.args.walk.now.stand _ c.requires.at refl
    (sym c.in_ok-mark.ensures.ok ∙ (sym c.close.ensures.marked ∙ c.undo.ensures.marked))

pub returns-in-Bad-clause-at : goal.returns-in-Bad-clause-at
returns-in-Bad-clause-at c = stand_back (root_of c.args.r.now.m.now) c.args.walk.now.stand _ c.requires.at refl
    (sym c.in_ok-mark.ensures.ok ∙ (sym c.close.ensures.marked ∙ c.undo.ensures.marked))

pub returns-in-Short-clause-at : goal.returns-in-Short-clause-at
returns-in-Short-clause-at c = stand_back (root_of c.args.r.now.m.now) c.args.walk.now.stand _ c.requires.at refl
    (sym c.in_ok-mark.ensures.ok ∙ (sym c.close.ensures.marked ∙ c.undo.ensures.marked))

pub returns-in-Closed-clause-comes : goal.returns-in-Closed-clause-comes
returns-in-Closed-clause-comes c boxes verdict h =
    end_comes c.args.r.now c.args.walk.now.left _ c.args.walk.now.stand.cuts.sets c.in_ok-end.end _ boxes verdict c.mark.ensures.sets
    c.in_ok-end.ensures.comes c.in-Closed.is h

pub returns-in-Bad-clause-comes : goal.returns-in-Bad-clause-comes
returns-in-Bad-clause-comes c boxes verdict h =
    end_comes c.args.r.now c.args.walk.now.left _ c.args.walk.now.stand.cuts.sets c.in_ok-end.end _ boxes verdict c.mark.ensures.sets
    c.in_ok-end.ensures.comes c.in-Bad.is h

pub returns-in-Short-clause-comes : goal.returns-in-Short-clause-comes
returns-in-Short-clause-comes c boxes verdict h =
    end_comes c.args.r.now c.args.walk.now.left _ c.args.walk.now.stand.cuts.sets c.in_ok-end.end _ boxes verdict c.mark.ensures.sets
    c.in_ok-end.ensures.comes c.in-Short.is h

pub returns-in-Closed-clause-refuted : goal.returns-in-Closed-clause-refuted
returns-in-Closed-clause-refuted c =
    end_refuted (IsBelow c.args.r.now.m.now c.args.r.now.limit) _ c.args.walk.now.stand.cuts.sets c.in_ok-end.end _ c.mark.ensures.sets
    c.in-Closed.is c.in_ok-end.ensures.refuted
