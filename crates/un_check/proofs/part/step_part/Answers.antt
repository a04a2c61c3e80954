use Rattle.std.proofs.Common.{ℕ, [], ap, sym, subst, ◌∙◌}
use Rattle.std.specs.declared.option.Option.{Option}
use Rattle.un_base.specs.declared.ids.VarId.{VarId}
use Rattle.un_stand.specs.Rooms.{path_of}
use Rattle.un_stand.proofs.ModelRooms.{part_goes}
use Rattle.un_walk.specs.Routes.{paths_after}
use Rattle.un_walk.specs.Turns.{paths_behind}
use Rattle.un_check.specs.Steps.{CanStep}
use Rattle.un_check.specs.Walks.{IsStageAt}
use Rattle.un_check.proofs.StageLemmas.{from_stage, may_any, more_waits, over_at}
use Rattle.un_check.proofs.part.step_part.Goals as goal

pub returns-then-more-clause-at : goal.returns-then-more-clause-at
returns-then-more-clause-at c m b h =
    let p = c.in-InPart in
    part_goes b m p.k p.field-1 p.room c.step.new.room (subst (IsStageAt m b) p.is h) c.in_ok-more-in-InPart.ensures.at

pub returns-then-more-clause-waits : goal.returns-then-more-clause-waits
returns-then-more-clause-waits c n b ws =
    let p = c.in-InPart in
    let old = path_of p.room in
    let may = may_any c.args.node p.k p.field-1 _ _ (subst (CanStep c.args.node) p.is c.requires).2 in
    from_stage n c.args.node b ws c.args.stage.now _ p.is
    ∙ more_waits n p.k p.field-1 c.args.node b ws old may c.step.new.room c.in_ok-more-in-InPart.more c.if-more.true
    (ap (λ (d : Option (VarId × ℕ)). paths_after d old (paths_behind [] old)) (sym c.branch_of.ensures)
    ∙ c.in_ok-more-in-InPart.ensures.waits)

pub returns-in_ok-next-in-InPart-clause-at : goal.returns-in_ok-next-in-InPart-clause-at
returns-in_ok-next-in-InPart-clause-at c m b h =
    let p = c.in-InPart in
    part_goes b m p.k p.field-1 p.room c.step.new.room (subst (IsStageAt m b) p.is h) c.in_ok-more-in-InPart.ensures.at

pub returns-in_ok-next-in-InPart-clause-waits : goal.returns-in_ok-next-in-InPart-clause-waits
returns-in_ok-next-in-InPart-clause-waits c n b ws =
    let p = c.in-InPart in
    let old = path_of p.room in
    let may = may_any c.args.node p.k p.field-1 _ _ (subst (CanStep c.args.node) p.is c.requires).2 in
    from_stage n c.args.node b ws c.args.stage.now _ p.is
    ∙ over_at n p.k p.field-1 c.args.node b ws old may c.args.stage.now (path_of c.step.new.room) c.in_ok-more-in-InPart.more
    c.in_ok-next-in-InPart.next c.if-more.false c.in_ok-next-in-InPart.ensures.later
    (ap (λ (d : Option (VarId × ℕ)). paths_after d old (paths_behind [] old)) (sym c.branch_of.ensures)
    ∙ c.in_ok-more-in-InPart.ensures.waits)
