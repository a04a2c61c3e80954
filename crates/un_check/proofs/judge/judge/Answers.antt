use Rattle.std.proofs.Common.{sym, subst}
use Rattle.un_check.specs.Judging.{IsFound}
use Rattle.un_check.specs.Walks.{IsStageAt, box_of}
use Rattle.un_check.specs.declared.stage.Stage.{Stage}
use Rattle.un_check.proofs.judge.judge.Goals as goal

pub returns-in-AtPart-clause-found : goal.returns-in-AtPart-clause-found
returns-in-AtPart-clause-found c rest h =
    let g = c.args.rules.now in
    let b = box_of g.m.now c.args.at.now in
    subst (λ (s : Stage). IsFound g.m.now g.limit c.args.place c.args.node rest b s c.judge_begin.result) (sym c.in-AtPart.is)
    (c.judge_begin.ensures g.m.now g.limit _ b rest)

pub returns-in-InPart-clause-found : goal.returns-in-InPart-clause-found
returns-in-InPart-clause-found c rest h =
    let g = c.args.rules.now in
    let b = box_of g.m.now c.args.at.now in
    subst (λ (s : Stage). IsFound g.m.now g.limit c.args.place c.args.node rest b s c.judge_in.result) (sym c.in-InPart.is)
    (c.judge_in.ensures b g.limit c.in-InPart.field-1 rest (subst (IsStageAt g.m.now b) c.in-InPart.is c.requires.at.stage))
