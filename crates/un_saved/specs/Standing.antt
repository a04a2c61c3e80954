-- Where the saved values stand at the boundaries of blocks, and which boundaries have them where the entry leaves them.
use Rattle.std.specs.Prelude.{ℕ, ◌≡◌, ◌+◌, ◌<◌, true, List, Option, Some, None, Contains, count_by, Bool, false, length, nat_le}
use Rattle.std.specs.Prelude.{slice_get, option_and_then}
use Rattle.std.specs.List.{range_with_len}
use Rattle.un_isa.specs.declared.reg.TheConstants.{FIRST_SLOT}
use Rattle.un_ir.specs.Live.{targets_of}
use Rattle.un_ir.specs.declared.extended.ExtBlock.{ExtBlock}
use Rattle.un_model.specs.Congruences.{term_of, live_out_reads, register_of, register_read}
use Rattle.un_model.specs.declared.schedule.Schedule.{Schedule}
use Rattle.un_saved.specs.Saved.{saved_in, keeps_places}
use Rattle.un_saved.specs.declared.boundary.Boundary.{Boundary}
use Rattle.un_saved.specs.declared.boundary.Boundary.TheVariants.{StartOf, EndOf}

-- the register of the saved value at place j where a block takes it, and where block k, which is this one, hands it over
abbrev pub taken_at : Schedule → Option ExtBlock → ℕ → Option ℕ
taken_at t None j = None
taken_at t (Some b) j = option_and_then (register_of t.ranges) (slice_get (saved_in b) j)

abbrev pub handed_at : Schedule → ℕ → Option ExtBlock → ℕ → Option ℕ
handed_at t k None j = None
handed_at t k (Some a) j = register_read t.ranges (slice_get (live_out_reads k t.reads) (length a.live_out + j))

-- the register of the saved value at place j at a boundary
abbrev pub place_at : Schedule → List ExtBlock → Boundary → ℕ → Option ℕ
place_at t blocks (StartOf b) j = taken_at t (slice_get blocks b) j
place_at t blocks (EndOf b) j = handed_at t b (slice_get blocks b) j

-- an edge leads from block k to block l
pub record Leads (blocks : List ExtBlock) (k l : ℕ) : Type 0 where
  pub block : ExtBlock
  pub from : slice_get blocks k ≡ Some block
  pub to : Contains (targets_of k (term_of block.ops)) l
  pub there : l < length blocks

-- block k hands its saved values over where it takes them
pub record Keeps (blocks : List ExtBlock) (k : ℕ) : Type 0 where
  pub block : ExtBlock
  pub at : slice_get blocks k ≡ Some block
  pub keeps : keeps_places block ≡ true

-- A boundary that is joined to the end of the entry: by edges, in either direction, and through blocks that hand their saved values over
-- where they take them.
pub data IsJoined (blocks : List ExtBlock) : Boundary → Type 0 where
  entry : IsJoined blocks (EndOf 0)
  on : (k l : ℕ) → Leads blocks k l → IsJoined blocks (EndOf k) → IsJoined blocks (StartOf l)
  back : (k l : ℕ) → Leads blocks k l → IsJoined blocks (StartOf l) → IsJoined blocks (EndOf k)
  through : (k : ℕ) → Keeps blocks k → IsJoined blocks (StartOf k) → IsJoined blocks (EndOf k)
  within : (k : ℕ) → Keeps blocks k → IsJoined blocks (EndOf k) → IsJoined blocks (StartOf k)

-- a register is a slot
abbrev pub is_slot : Option ℕ → Bool
is_slot None = false
is_slot (Some r) = nat_le FIRST_SLOT r

-- how many of so many saved values have slots at a boundary
abbrev pub in_slots : Schedule → List ExtBlock → Boundary → ℕ → ℕ
in_slots t blocks c n = count_by (λ (j : ℕ). is_slot (place_at t blocks c j)) (range_with_len 0 n)
