use Rattle.std.proofs.Common.{ℕ, List, ◌++◌, ap, sym, subst, ◌∙◌, ◌<◌, ◌≤◌}
use Rattle.un_model.specs.Boxes.{root_of}
use Rattle.un_tree.specs.Waits.{Waiting}
use Rattle.un_stand.specs.Rooms.{path_of}
use Rattle.un_stand.proofs.ModelRooms.{at_goes, at_room}
use Rattle.un_certificate.specs.Joints.{blocks_of}
use Rattle.un_check.specs.Walks.{IsStageAt, box_of, outside_of, stage_waits}
use Rattle.un_check.proofs.StageLemmas.{outer_at, parts_none, parts_some, turned_waits}
use Rattle.un_check.proofs.outer.next_part.Goals as goal

pub turn-requires : goal.turn-requires
turn-requires c = let g = c.args.rules.now in at_room g.m.now g.limit c.args.at.now.outer c.requires.at

pub returns-then-k-blocks-clause-at : goal.returns-then-k-blocks-clause-at
returns-then-k-blocks-clause-at c =
    record { outer = c.requires.at; stage = subst (λ (n : ℕ). c.args.k < n) c.len-blocks.ensures c.if-k-blocks.true }

pub returns-then-k-blocks-clause-waits : goal.returns-then-k-blocks-clause-waits
returns-then-k-blocks-clause-waits c =
    let m = c.args.rules.now.m.now in
    ap (λ (ws : List Waiting). ws ++ outside_of m c.args.at.now)
    (parts_some (blocks_of m) c.args.k (box_of m c.args.at.now) (subst (λ (n : ℕ). c.args.k < n) c.len-blocks.ensures c.if-k-blocks.true))

pub returns-clause-at : goal.returns-clause-at
returns-clause-at c =
    let g = c.args.rules.now in
    record {
      outer = at_goes g.m.now g.limit c.args.at.now.outer _ c.requires.at c.in_ok-more.ensures.at;
      stage = subst (IsStageAt g.m.now _) (sym c.stage_of.ensures) (outer_at g.m.now _ c.in_ok-more.more);
    }

pub returns-clause-waits : goal.returns-clause-waits
returns-clause-waits c =
    let m = c.args.rules.now.m.now in
    ap (λ (ws : List Waiting). ws ++ outside_of m c.args.at.now)
    (parts_none (blocks_of m) c.args.k (box_of m c.args.at.now) (subst (λ (n : ℕ). n ≤ c.args.k) c.len-blocks.ensures c.if-k-blocks.false))
    ∙ (turned_waits (blocks_of m) (root_of m) (path_of c.args.at.now.outer) _ c.in_ok-more.more c.in_ok-more.ensures.waits
    ∙ ap (stage_waits (blocks_of m) _ _) (sym c.stage_of.ensures))
