-- the bytes so far, and zeros
use Rattle.std.proofs.Common.{◌≡◌, ◌-◌, ◌++◌, take, replicate}
use Rattle.un_base.specs.declared.name.TheConstants.{NAME_BYTES}
use Rattle.un_base.proofs.name.padded.Given as goal

abbrev pub invariant-loop-i : goal.invariant-loop-i
invariant-loop-i l = l.bytes ≡ take l.i l.text ++ replicate (NAME_BYTES - l.i) 0
