-- Which options a model may have.
use Rattle.std.specs.Prelude.{ℕ, ◌≤◌, IfSome}
use Rattle.un_isa.specs.declared.reg.TheConstants.{SLOTS}
use Rattle.un_model.specs.declared.model.Options.{Options}
use Rattle.un_model.specs.declared.model.TheConstants.{ASSIGNABLE}

-- r0 to r(n - 1) may be assigned
abbrev pub IsCountOfRegisters : ℕ → Type 0
IsCountOfRegisters n = (1 ≤ n) × (n ≤ ASSIGNABLE)

pub record AreOptions (o : Options) : Type 0 where
  pub regs : IfSome o.regs IsCountOfRegisters
  pub slots : o.slots ≤ SLOTS
