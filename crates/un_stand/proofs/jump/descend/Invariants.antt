-- the first decisions of the path so far
use Rattle.std.proofs.Common.{◌≡◌, ◌≤◌, ◌-◌, length, take}
use Rattle.un_stand.specs.Rooms.{Goes, IsRoomOn, path_of}
use Rattle.un_stand.proofs.jump.descend.Given as goal

abbrev pub invariant-loop-at : goal.invariant-loop-at
invariant-loop-at l = record {
  place : IsRoomOn l.path l.room;
  goes : Goes l.fn.room l.room;
  so_far : path_of l.room ≡ take l.at l.path;
  within : l.at ≤ length l.path;
}

abbrev pub decreases-loop-at : goal.decreases-loop-at
decreases-loop-at l = length l.path - l.at
