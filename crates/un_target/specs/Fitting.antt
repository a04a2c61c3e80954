-- What a table that fits owes, operation by operation and register by register.
use Rattle.std.specs.Prelude.{ℕ, ◌≡◌, ◌<◌, ◌^◌, Bool, true, ◌&&◌, not, slice_get, IsSomeAnd}
use Rattle.un_isa.specs.declared.op.Op.{Op}
use Rattle.un_isa.specs.declared.reg.TheConstants.{REGISTERS}
use Rattle.un_isa.specs.declared.table.Table.{Table}
use Rattle.un_isa.specs.Does.{is_compare}
use Rattle.un_isa.specs.Facts.{class_of}
use Rattle.un_isa.specs.Fit.{IsFitLatency, AreFitNeeds, may_be_saved}
use Rattle.un_isa.specs.Hexagon.{HEXAGON, needs_by, is_saved}
use Rattle.un_isa.specs.Starts.{is_clobbered}
use Rattle.un_isa.specs.Tables.{number_of, latency_of}

-- the latency of an operation
abbrev pub HasFitLatency : Table → Op → Type 0
HasFitLatency t op = IsFitLatency op (latency_of t op) × (t.fresh ≡ true → is_compare op ≡ true → latency_of t op ≡ 1)

-- what it needs of a packet
abbrev pub HasFitNeeds : Table → Op → Type 0
HasFitNeeds t op = IsSomeAnd (slice_get t.uses (number_of op)) (AreFitNeeds (needs_by (class_of op)))

-- r16 to r27 are kept, and of the others only those that may be; a call spoils what it clobbers on HEXAGON, but for what is kept
pub record IsFitRegister (keeps spoils : Bool) (r : ℕ) : Type 0 where
  pub kept : is_saved r ≡ true → keeps ≡ true
  pub allowed : keeps ≡ true → may_be_saved r ≡ true
  pub clobbered : spoils ≡ (is_clobbered r && not keeps)

-- the masks have no bits but of registers; arguments and result are those of HEXAGON
pub record HasFitRest (t : Table) : Type 0 where
  pub no_others : (t.clobbered < 2 ^ REGISTERS) × (t.saved < 2 ^ REGISTERS)
  pub args : t.args ≡ HEXAGON.args
  pub result : t.result ≡ HEXAGON.result
