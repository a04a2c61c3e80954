-- the byte does not stand before
use Rattle.std.proofs.Common.{◌≢◌, All, take}
use Rattle.un_base.proofs.lines.cut.Given as goal

abbrev pub invariant-loop-i : goal.invariant-loop-i
invariant-loop-i l = All (λ y. y ≢ l.b) (take l.i l.text)
