-- The table of this project's profile of Hexagon V4.
use Rattle.std.specs.Prelude.{ℕ, ◌≡◌, ◌<◌, ◌^◌, Bool, false, ◌&&◌, nat_le, [], ◌∷◌, Some, map, slice_get}
use Rattle.un_isa.specs.declared.op.Op.{Op}
use Rattle.un_isa.specs.declared.facts.Class.{Class}
use Rattle.un_isa.specs.declared.facts.Class.TheVariants.{Alu32, Xtype, Loading, Storing, Control, Nothing}
use Rattle.un_isa.specs.declared.reg.TheConstants.{REGISTERS}
use Rattle.un_isa.specs.declared.table.Needs.{Needs}
use Rattle.un_isa.specs.declared.table.Table.{Table}
use Rattle.un_isa.specs.Facts.{class_of, latency_by, all_ops}
use Rattle.un_isa.specs.Starts.{is_clobbered}
use Rattle.un_isa.specs.Tables.{number_of, latency_of, in_mask}

-- what the instructions of each class need of a packet
abbrev pub of_alu : Needs
of_alu = record { mem = 0; store = 0; xc = 0; control = 0 }

abbrev pub of_xtype : Needs
of_xtype = record { mem = 0; store = 0; xc = 1; control = 0 }

abbrev pub of_load : Needs
of_load = record { mem = 1; store = 0; xc = 0; control = 0 }

abbrev pub of_store : Needs
of_store = record { mem = 1; store = 1; xc = 0; control = 0 }

abbrev pub of_control : Needs
of_control = record { mem = 0; store = 0; xc = 1; control = 1 }

-- what an instruction of a class needs of a packet
abbrev pub needs_by : Class → Needs
needs_by Alu32 = of_alu
needs_by Xtype = of_xtype
needs_by Loading = of_load
needs_by Storing = of_store
needs_by Control = of_control
needs_by Nothing = of_alu

-- the latencies and the needs of all operations. A call clobbers r0 to r15, r28, r31 and p0 to p3, its arguments are in r0 to
-- r5 and its result in r0; a function keeps r16 to r27. Jumps test predicates of earlier packets alone.
abbrev pub HEXAGON : Table
HEXAGON = record {
  lat = map latency_by all_ops;
  uses = map (λ op. needs_by (class_of op)) all_ops;
  clobbered = 0xF_9000_FFFF;
  args = 0 ∷ 1 ∷ 2 ∷ 3 ∷ 4 ∷ 5 ∷ [];
  result = 0;
  saved = 0x0FFF_0000;
  fresh = false;
}

-- r16 to r27
abbrev pub is_saved : ℕ → Bool
is_saved r = nat_le 16 r && nat_le r 27

-- the table, entry by entry
pub record IsHexagon (t : Table) : Type 0 where
  pub latencies : (op : Op) → latency_of t op ≡ latency_by op
  pub needs : (op : Op) → slice_get t.uses (number_of op) ≡ Some (needs_by (class_of op))
  pub clobbered : (r : ℕ) → r < REGISTERS → in_mask t.clobbered r ≡ is_clobbered r
  pub saved : (r : ℕ) → r < REGISTERS → in_mask t.saved r ≡ is_saved r
  pub no_others : (t.clobbered < 2 ^ REGISTERS) × (t.saved < 2 ^ REGISTERS)
  pub args : t.args ≡ 0 ∷ 1 ∷ 2 ∷ 3 ∷ 4 ∷ 5 ∷ []
  pub result : t.result ≡ 0
  pub fresh : t.fresh ≡ false
