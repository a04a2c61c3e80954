use Rattle.std.proofs.Common.{◌∙◌, subst}
use Rattle.un_certificate.specs.Joints.{blocks_of}
use Rattle.un_check.specs.Steps.{CanPass}
use Rattle.un_check.specs.Walks.{IsStageAt, box_of, outside_of}
use Rattle.un_check.proofs.StageLemmas.{begun_waits, from_stage, ok_by, step_part_at}
use Rattle.un_check.proofs.walk.advance.Goals as goal

pub pass_box-requires-clause-sides : goal.pass_box-requires-clause-sides
pass_box-requires-clause-sides c =
    let m = c.args.rules.now.m.now in
    (subst (CanPass (box_of m c.args.at.now) c.args.node) c.in-AtBox.is c.requires.pass).0

pub pass_box-requires-clause-stands : goal.pass_box-requires-clause-stands
pass_box-requires-clause-stands c =
    let m = c.args.rules.now.m.now in
    (subst (CanPass (box_of m c.args.at.now) c.args.node) c.in-AtBox.is c.requires.pass).1

pub open_part-requires-clause-block : goal.open_part-requires-clause-block
open_part-requires-clause-block c =
    let m = c.args.rules.now.m.now in
    subst (IsStageAt m (box_of m c.args.at.now)) c.in-AtPart.is c.requires.at.stage

pub pass_part-requires-clause-step : goal.pass_part-requires-clause-step
pass_part-requires-clause-step c =
    let m = c.args.rules.now.m.now in
    step_part_at m (box_of m c.args.at.now) c.args.node c.args.at.now.stage _ _ _ c.in-InPart.is c.requires.at.stage c.requires.pass

pub returns-in-AtBox-clause-waits : goal.returns-in-AtBox-clause-waits
returns-in-AtBox-clause-waits c =
    let m = c.args.rules.now.m.now in
    let p = c.args.at.now in
    ok_by c.pass_box.result _ _ (λ e. from_stage (blocks_of m) c.args.node (box_of m p) (outside_of m p) _ _ c.in-AtBox.is ∙ e)
    c.pass_box.ensures.waits

pub returns-in-AtPart-clause-waits : goal.returns-in-AtPart-clause-waits
returns-in-AtPart-clause-waits c =
    let m = c.args.rules.now.m.now in
    let p = c.args.at.now in
    ok_by c.open_part.result _ _ (λ e. from_stage (blocks_of m) c.args.node (box_of m p) (outside_of m p) _ _ c.in-AtPart.is
    ∙ (begun_waits (blocks_of m) c.in-AtPart.k c.args.node (box_of m p) _
    (subst (CanPass (box_of m p) c.args.node) c.in-AtPart.is c.requires.pass).1 ∙ e))
    c.open_part.ensures.waits

pub returns-in-AtEnd-clause-waits : goal.returns-in-AtEnd-clause-waits
returns-in-AtEnd-clause-waits c =
    let m = c.args.rules.now.m.now in
    absurd (subst (CanPass (box_of m c.args.at.now) c.args.node) c.in-AtEnd.is c.requires.pass)
