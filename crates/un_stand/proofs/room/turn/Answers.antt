use Rattle.std.proofs.Common.{[], ◌∷◌, refl, ap, sym, subst, ◌∙◌, length, length-append, arith}
use Rattle.un_domains.specs.Sets.{Sets}
use Rattle.un_tree.specs.Boxes.{Splits}
use Rattle.un_stand.specs.Rooms.{path_of}
use Rattle.un_stand.proofs.RoomLemmas.{room_goes}
use Rattle.un_walk.specs.Turns.{paths_behind}
use Rattle.un_walk.proofs.Paths.{behind_above, behind_below, with_option}
use Rattle.un_walk.proofs.StandLemmas.{path_splits}
use Rattle.un_stand.proofs.room.turn.Goals as goal

pub loop-decision-init : goal.loop-decision-init
loop-decision-init c = record { room = c.requires; goes = λ root fix ps h. h; waits = refl }

pub go_down-requires-clause-at : goal.go_down-requires-clause-at
go_down-requires-clause-at c = room_goes _ _ c.loop-decision.invariant.room c.go_up.ensures.at

pub go_down-requires-clause-split : goal.go_down-requires-clause-split
go_down-requires-clause-split c =
    let g = c.loop-decision.invariant.room in
    let up = c.go_up.ensures.at g.root g.fix g.props g.at in
    subst (λ (b : Sets). Splits b c.in-Some.decision.var c.in-Some.decision.val) (sym up.stand.sets)
    (path_splits g.root c.loop-decision.room.stand g.at.stand (path_of c.go_up.new.room) c.in-Some.decision
    (with_option _ _ c.go_up.result c.in-Some.decision c.in-Some.is c.go_up.ensures.path))

pub returns-in-AtMost-clause-at : goal.returns-in-AtMost-clause-at
returns-in-AtMost-clause-at c root fix ps h =
    c.in_ok-go_down.ensures.at root fix ps (c.go_up.ensures.at root fix ps (c.loop-decision.invariant.goes root fix ps h))

pub returns-in-AtMost-clause-waits : goal.returns-in-AtMost-clause-waits
returns-in-AtMost-clause-waits c =
    c.loop-decision.invariant.waits
    ∙ behind_below (path_of c.loop-decision.room) (path_of c.go_up.new.room) c.in-Some.decision
    (with_option _ _ c.go_up.result c.in-Some.decision c.in-Some.is c.go_up.ensures.path) c.in-AtMost.is _
    c.in_ok-go_down.ensures.path

pub loop-decision-preserved : goal.loop-decision-preserved
loop-decision-preserved c = record {
  room = room_goes _ _ c.loop-decision.invariant.room c.go_up.ensures.at;
  goes = λ root fix ps h. c.go_up.ensures.at root fix ps (c.loop-decision.invariant.goes root fix ps h);
  waits = c.loop-decision.invariant.waits
      ∙ behind_above (path_of c.loop-decision.room) (path_of c.go_up.new.room) c.in-Some.decision
      (with_option _ _ c.go_up.result c.in-Some.decision c.in-Some.is c.go_up.ensures.path) c.in_default-side.is;
}

pub loop-decision-smaller : goal.loop-decision-smaller
loop-decision-smaller c =
    let e = ap length (with_option (path_of c.loop-decision.room) (path_of c.go_up.new.room) c.go_up.result c.in-Some.decision
    c.in-Some.is c.go_up.ensures.path) in
    omega (arith, e, length-append (path_of c.go_up.new.room) (c.in-Some.decision ∷ []))

pub returns-clause-at : goal.returns-clause-at
returns-clause-at c root fix ps h = c.go_up.ensures.at root fix ps (c.loop-decision.invariant.goes root fix ps h)

pub returns-clause-waits : goal.returns-clause-waits
returns-clause-waits c = c.loop-decision.invariant.waits ∙ ap (paths_behind []) c.in_default.ensures.none
