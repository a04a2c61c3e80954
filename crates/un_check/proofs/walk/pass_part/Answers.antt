use Rattle.std.proofs.Common.{ap, ◌∙◌}
use Rattle.un_certificate.specs.Joints.{blocks_of}
use Rattle.un_check.specs.Steps.{over_waits}
use Rattle.un_check.specs.Walks.{box_of, outside_of}
use Rattle.un_check.proofs.StageLemmas.{ok_by}
use Rattle.un_check.proofs.walk.pass_part.Goals as goal

pub returns-in-None-clause-at : goal.returns-in-None-clause-at
returns-in-None-clause-at c =
    let m = c.args.rules.now.m.now in
    record { outer = c.requires.at.outer; stage = c.in_ok-step_part.ensures.at m (box_of m c.args.at.now) c.requires.at.stage }

pub returns-in-None-clause-waits : goal.returns-in-None-clause-waits
returns-in-None-clause-waits c =
    let m = c.args.rules.now.m.now in
    let p = c.args.at.now in
    c.in_ok-step_part.ensures.waits (blocks_of m) (box_of m p) (outside_of m p)
    ∙ ap (over_waits (blocks_of m) (box_of m p) (outside_of m p) c.step_part.new.stage) c.in-None.is

pub returns-in-Some-clause-waits : goal.returns-in-Some-clause-waits
returns-in-Some-clause-waits c =
    let m = c.args.rules.now.m.now in
    let p = c.args.at.now in
    ok_by c.next_part.result _ _ (λ e. c.in_ok-step_part.ensures.waits (blocks_of m) (box_of m p) (outside_of m p)
    ∙ (ap (over_waits (blocks_of m) (box_of m p) (outside_of m p) c.step_part.new.stage) c.in-Some.is ∙ e))
    c.next_part.ensures.waits
