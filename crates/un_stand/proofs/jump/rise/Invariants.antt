-- what is left of the path begins alike
use Rattle.std.proofs.Common.{◌≡◌, length, take}
use Rattle.un_stand.specs.Rooms.{Goes, IsRoom, path_of}
use Rattle.un_stand.proofs.jump.rise.Given as goal

abbrev pub invariant-loop-room : goal.invariant-loop-room
invariant-loop-room l = record {
  here : IsRoom l.room;
  goes : Goes l.fn.room l.room;
  begins : take l.keep (path_of l.room) ≡ take l.keep (path_of l.fn.room);
}

abbrev pub decreases-loop-room : goal.decreases-loop-room
decreases-loop-room l = length (path_of l.room)
