use Rattle.std.proofs.Common.{refl, ◌∙◌, arith}
use Rattle.un_stand.specs.Rooms.{path_of}
use Rattle.un_stand.proofs.JumpLemmas.{taken_whole, up_kept}
use Rattle.un_stand.proofs.RoomLemmas.{room_goes}
use Rattle.un_stand.proofs.jump.rise.Goals as goal

pub loop-room-init : goal.loop-room-init
loop-room-init c = record { here = c.requires; goes = λ root fix ps h. h; begins = refl }

pub returns-clause-path : goal.returns-clause-path
returns-clause-path c = taken_whole c.args.keep (path_of c.loop-room.room) _ (omega arith) c.loop-room.invariant.begins

pub loop-room-preserved : goal.loop-room-preserved
loop-room-preserved c =
    let up = up_kept (path_of c.loop-room.room) (path_of c.go_up.new.room) _ c.args.keep (omega arith) c.go_up.ensures.path
    c.go_up.ensures.none in
    record {
      here = room_goes _ _ c.loop-room.invariant.here c.go_up.ensures.at;
      goes = λ root fix ps h. c.go_up.ensures.at root fix ps (c.loop-room.invariant.goes root fix ps h);
      begins = up.0 ∙ c.loop-room.invariant.begins;
    }

pub loop-room-smaller : goal.loop-room-smaller
loop-room-smaller c =
    (up_kept (path_of c.loop-room.room) (path_of c.go_up.new.room) _ c.args.keep (omega arith) c.go_up.ensures.path
    c.go_up.ensures.none).1
