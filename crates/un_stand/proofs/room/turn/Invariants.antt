-- what waits stays
use Rattle.std.proofs.Common.{◌≡◌, [], length}
use Rattle.un_stand.specs.Rooms.{Goes, IsRoom, path_of}
use Rattle.un_walk.specs.Turns.{paths_behind}
use Rattle.un_stand.proofs.room.turn.Given as goal

abbrev pub invariant-loop-decision : goal.invariant-loop-decision
invariant-loop-decision l = record {
  room : IsRoom l.room;
  goes : Goes l.fn.room l.room;
  waits : paths_behind [] (path_of l.fn.room) ≡ paths_behind [] (path_of l.room);
}

abbrev pub decreases-loop-decision : goal.decreases-loop-decision
decreases-loop-decision l = length (path_of l.room)
