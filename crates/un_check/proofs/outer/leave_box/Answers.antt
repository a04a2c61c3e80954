use Rattle.std.proofs.Common.{ℕ, [], ap, sym, subst, ◌∙◌}
use Rattle.std.specs.declared.option.Option.{Option}
use Rattle.un_base.specs.declared.ids.VarId.{VarId}
use Rattle.un_domains.specs.Sets.{Sets}
use Rattle.un_model.specs.Boxes.{root_of}
use Rattle.un_tree.specs.Waits.{Whole, HasSidesIn}
use Rattle.un_stand.specs.Rooms.{path_of}
use Rattle.un_stand.proofs.ModelRooms.{at_goes, at_room}
use Rattle.un_walk.specs.Routes.{paths_after}
use Rattle.un_walk.specs.Turns.{paths_behind}
use Rattle.un_walk.proofs.RouteLemmas.{strict_by}
use Rattle.un_certificate.specs.Joints.{blocks_of}
use Rattle.un_check.specs.Walks.{IsStageAt, stage_waits}
use Rattle.un_check.proofs.StageLemmas.{left_waits, outer_at}
use Rattle.un_check.proofs.outer.leave_box.Goals as goal

pub step-requires-clause-at : goal.step-requires-clause-at
step-requires-clause-at c = let g = c.args.rules.now in at_room g.m.now g.limit c.args.at.now.outer c.requires.at

pub step-requires-clause-strict : goal.step-requires-clause-strict
step-requires-clause-strict c =
    let r = c.args.at.now.outer in
    strict_by r.stand.cuts.sets c.args.node [] c.branch_of.result c.branch_of.ensures
    (subst (λ (b : Sets). HasSidesIn c.args.node (Whole b)) (sym c.requires.at.room.stand.sets) c.requires.sides)

pub returns-clause-at : goal.returns-clause-at
returns-clause-at c =
    let g = c.args.rules.now in
    record {
      outer = at_goes g.m.now g.limit c.args.at.now.outer _ c.requires.at c.in_ok-more.ensures.at;
      stage = subst (IsStageAt g.m.now _) (sym c.stage_of.ensures) (outer_at g.m.now _ c.in_ok-more.more);
    }

pub returns-clause-waits : goal.returns-clause-waits
returns-clause-waits c =
    let m = c.args.rules.now.m.now in
    let old = path_of c.args.at.now.outer in
    left_waits (blocks_of m) (root_of m) c.args.node old _ c.in_ok-more.more c.requires.plain
    (ap (λ (b : Option (VarId × ℕ)). paths_after b old (paths_behind [] old)) (sym c.branch_of.ensures) ∙ c.in_ok-more.ensures.waits)
    ∙ ap (stage_waits (blocks_of m) _ _) (sym c.stage_of.ensures)
