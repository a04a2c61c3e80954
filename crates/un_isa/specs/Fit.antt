-- Which tables the compiler works for: HEXAGON, and those that differ from it in these ways alone.
use Rattle.std.specs.Prelude.{ℕ, ◌≡◌, ◌<◌, ◌≤◌, ◌^◌, Bool, true, ◌&&◌, not, is_none, nat_le, nat_lt, slice_get, IsSomeAnd}
use Rattle.std.specs.Bool.{OnTrue}
use Rattle.un_isa.specs.declared.op.Op.{Op}
use Rattle.un_isa.specs.declared.reg.TheConstants.{STACK, REGISTERS}
use Rattle.un_isa.specs.declared.table.Needs.{Needs}
use Rattle.un_isa.specs.declared.table.Table.{Table}
use Rattle.un_isa.specs.Tables.{number_of, latency_of, in_mask}
use Rattle.un_isa.specs.Does.{is_compare}
use Rattle.un_isa.specs.Starts.{is_clobbered}
use Rattle.un_isa.specs.Facts.{class_of, result_space}
use Rattle.un_isa.specs.Hexagon.{HEXAGON, needs_by, is_saved}

-- the operations whose latency is always 1: those without a result
abbrev pub is_quick : Op → Bool
is_quick op = is_none (result_space op)

-- at most 1, and at least so many
abbrev pub IsAtMostOne : ℕ → ℕ → Type 0
IsAtMostOne least n = (least ≤ n) × (n ≤ 1)

-- a latency
abbrev pub IsFitLatency : Op → ℕ → Type 0
IsFitLatency op n = (1 ≤ n) × (n ≤ 2) × OnTrue (is_quick op) (n ≡ 1)

-- an operation needs at most one place of each resource, and each that it needs of a Hexagon packet
pub record AreFitNeeds (least needs : Needs) : Type 0 where
  pub mem : IsAtMostOne least.mem needs.mem
  pub store : IsAtMostOne least.store needs.store
  pub xc : IsAtMostOne least.xc needs.xc
  pub control : IsAtMostOne least.control needs.control

-- the registers that a function may keep: r6 to r28
abbrev pub may_be_saved : ℕ → Bool
may_be_saved r = nat_le 6 r && nat_lt r STACK

-- The arguments and the result are those of HEXAGON. r16 to r27 are saved, and of the others only r6 to r15 and r28 may
-- be. A call clobbers what it clobbers on HEXAGON, but for what is saved.
pub record IsFit (t : Table) : Type 0 where
  pub latencies : (op : Op) → IsFitLatency op (latency_of t op)
  pub needs : (op : Op) → IsSomeAnd (slice_get t.uses (number_of op)) (AreFitNeeds (needs_by (class_of op)))
  pub args : t.args ≡ HEXAGON.args
  pub result : t.result ≡ HEXAGON.result
  pub kept : (r : ℕ) → r < REGISTERS → is_saved r ≡ true → in_mask t.saved r ≡ true
  pub saved : (r : ℕ) → r < REGISTERS → in_mask t.saved r ≡ true → may_be_saved r ≡ true
  pub clobbered : (r : ℕ) → r < REGISTERS → in_mask t.clobbered r ≡ (is_clobbered r && not (in_mask t.saved r))
  pub no_others : (t.clobbered < 2 ^ REGISTERS) × (t.saved < 2 ^ REGISTERS)
  -- where a jump may test what a compare of its own packet writes, it may do so in the next packet
  pub quick_compares : t.fresh ≡ true → (op : Op) → is_compare op ≡ true → latency_of t op ≡ 1
