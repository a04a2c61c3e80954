-- what is marked is live
use Rattle.std.proofs.Common.{◌≡◌, length}
use Rattle.un_live.specs.Marks.{name_of, unmarked, AreSound}
use Rattle.un_live.proofs.marks.spread.Given as goal

abbrev pub invariant-sweeps : goal.invariant-sweeps
invariant-sweeps l = record { long : length l.marks ≡ length l.blocks; sound : AreSound l.blocks (name_of l.name) l.marks }

abbrev pub decreases-sweeps : goal.decreases-sweeps
decreases-sweeps l = unmarked l.marks
