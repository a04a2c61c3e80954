use Rattle.std.proofs.Common.{◌≡◌, ◌++◌, drop}
use Rattle.un_sites.specs.Places.{registers_at}
use Rattle.un_sites.specs.Sites.{definers_in}
use Rattle.un_sites.proofs.sites.add_registers.Given as goal

abbrev pub invariant-loop-x : goal.invariant-loop-x
invariant-loop-x l = l.regs ++ registers_at (definers_in l.sites) (drop l.x-index l.xs) ≡ l.initial.regs ++ registers_at
    (definers_in l.sites) l.xs
