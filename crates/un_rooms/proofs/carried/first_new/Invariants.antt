use Rattle.std.proofs.Common.{◌≡◌, drop}
use Rattle.un_rooms.specs.Marked.{is_marked}
use Rattle.un_sites.specs.Crossings.{first_new}
use Rattle.un_rooms.proofs.carried.first_new.Given as goal

abbrev pub invariant-loop-x : goal.invariant-loop-x
invariant-loop-x l = first_new (is_marked l.marks) (drop l.x-index l.operands) ≡ first_new (is_marked l.marks) l.operands
