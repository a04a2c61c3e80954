use Rattle.std.proofs.Common.{ℕ, ap, sym, subst, ◌∙◌, ◌∷◌, ◌++◌, ◌+◌}
use Rattle.std.specs.declared.option.Option.{Option}
use Rattle.un_domains.specs.Sets.{Sets}
use Rattle.un_model.specs.Boxes.{root_of}
use Rattle.un_tree.specs.Waits.{Inside}
use Rattle.un_walk.proofs.StandLemmas.{cuts_box}
use Rattle.un_stand.specs.Rooms.{IsPartAt}
use Rattle.un_certificate.specs.Joints.{blocks_of}
use Rattle.un_check.specs.Walks.{box_of, outside_of, parts_from}
use Rattle.un_check.proofs.StageLemmas.{opened_waits}
use Rattle.un_check.proofs.part.open_part.Goals as goal

pub room_of-requires-clause-first : goal.room_of-requires-clause-first
room_of-requires-clause-first c =
    let m = c.args.rules.now.m.now in cuts_box (root_of m) c.args.at.now.outer.stand c.requires.at.room.stand

pub returns-clause-at : goal.returns-clause-at
returns-clause-at c =
    let m = c.args.rules.now.m.now in
    record {
      outer = c.requires.at;
      stage = subst (λ (b : Sets). IsPartAt b m c.args.k c.number_of-number.result c.in_ok-room.room) c.requires.at.room.stand.sets
          c.in_ok-room.ensures.at;
    }

pub returns-clause-waits : goal.returns-clause-waits
returns-clause-waits c =
    let m = c.args.rules.now.m.now in
    let p = c.args.at.now in
    ap (λ (n : Option ℕ). Inside c.args.k n (box_of m p) ∷ (parts_from (blocks_of m) (c.args.k + 1) (box_of m p) ++ outside_of m p))
    (sym c.number_of-number.ensures)
    ∙ opened_waits (blocks_of m) c.args.k c.number_of-number.result (box_of m p) (outside_of m p) c.in_ok-room.room c.in_ok-room.ensures.path
