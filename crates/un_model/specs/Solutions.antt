-- What a solution is: the ten clauses, each on the schedule that the values make.
use Rattle.std.specs.Prelude.{ℕ, ◌≡◌, ◌+◌, ◌<◌, ◌≤◌, ◌↔◌, ◌⊎◌, nat_le, Bool, true, false, ◌==◌, ◌&&◌, ◌||◌, IsTrue, is_none, if◌then◌else◌}
use Rattle.std.specs.Prelude.{List, [], ◌∷◌, ◌++◌, Option, Some, None, All, AllPairs, Contains, IfSome, slice_get, sum_by}
use Rattle.std.specs.List.{AllZip, list_any}
use Rattle.un_isa.specs.declared.op.Op.{Op}
use Rattle.un_isa.specs.declared.op.Op.TheVariants.{Load, Store, Call, Spill, Reload, Enter, Leave}
use Rattle.un_isa.specs.declared.reg.Reg.{Reg}
use Rattle.un_isa.specs.declared.reg.Space.{Space}
use Rattle.un_isa.specs.declared.reg.TheConstants.{FIRST_SLOT}
use Rattle.un_isa.specs.Registers.{space_of}
use Rattle.un_isa.specs.declared.table.Table.{Table}
use Rattle.un_isa.specs.Tables.{latency_of, gap_by, in_mask}
use Rattle.un_isa.specs.Does.{is_branch, is_transfer}
use Rattle.un_domains.specs.declared.domain.Domain.{Domain}
use Rattle.un_domains.specs.declared.domain.Domain.TheVariants.{Range, Set}
use Rattle.un_model.specs.declared.model.Model.{Model}
use Rattle.un_model.specs.declared.model.Solution.{Solution}
use Rattle.un_isa.specs.declared.packet_counts.Resource.{Resource}
use Rattle.un_isa.specs.PacketCounts.{places_of, share_of as share_by}
use Rattle.un_model.specs.declared.schedule.Issue.{Issue}
use Rattle.un_model.specs.declared.schedule.Read.{Read}
use Rattle.un_model.specs.declared.schedule.LiveRange.{LiveRange}
use Rattle.un_model.specs.declared.schedule.Schedule.{Schedule}
use Rattle.un_model.specs.declared.verdict.Verdict.{Verdict}
use Rattle.un_model.specs.Congruences.{KeepsCongruences}
use Rattle.un_model.specs.Cost.{value_of}
use Rattle.un_model.specs.Instructions.{needs_by, space_read, space_given}
use Rattle.un_model.specs.Schedules.{schedule_of}

-- the least number of cycles from the instruction of one operation to that of another, none where they may be in any order
abbrev pub Distance : Type 0
Distance = Option Op → Option Op → Option ℕ

-- operation i is so long before operation j, where they are of one block
unfoldable pub Precedes : Distance → Issue → Issue → Type 0
Precedes distance i j = i.block.0 ≡ j.block.0 → IfSome (distance i.instr j.instr) (λ (n : ℕ). i.cycle + n ≤ j.cycle)

-- ---- 1: each value is in its domain, and there are as many as variables

abbrev pub InDomain : ℕ → Domain → Type 0
InDomain v (Range lo hi) = (lo ≤ v) × (v ≤ hi)
InDomain v (Set values) = Contains values v

abbrev pub KeepsDomains : List Domain → List ℕ → Type 0
KeepsDomains domains values = AllZip InDomain values domains

-- ---- 2: the variables of an inactive operation are 0. Mandatory operations have no variable that makes them inactive.

abbrev pub IsIdleAtZero : Issue → Type 0
IsIdleAtZero i = (i.active ≡ true) ⊎ (i.zero ≡ true)

abbrev pub IsZeroRange : LiveRange → Type 0
IsZeroRange h = (h.active ≡ true) ⊎ (h.reg ≡ 0)

abbrev pub KeepsZeros : Schedule → Type 0
KeepsZeros t = All IsIdleAtZero t.issues × All IsZeroRange t.ranges

-- ---- 3: every operand of an active operation, and of `out`, chooses an active temporary

abbrev pub IsLive : Option LiveRange → Type 0
IsLive None = ⊥
IsLive (Some h) = h.active ≡ true

abbrev pub KeepsChoices : Schedule → Type 0
KeepsChoices t = All (λ (r : Read). IsLive (slice_get t.ranges r.temp.0)) t.reads

-- ---- 4: operands and results lie in the spaces of the instructions; operands of `out`, and values at a block's start, in any

abbrev pub InSpace : ℕ → Option Space → Type 0
InSpace reg None = Unit {0}
InSpace reg (Some space) = space_of reg ≡ space

abbrev pub ReadsInSpace : Read → Option LiveRange → Type 0
ReadsInSpace r None = ⊥
ReadsInSpace r (Some h) = InSpace h.reg (space_read r.instr r.operand)

abbrev pub IsGivenInSpace : LiveRange → Type 0
IsGivenInSpace h = InSpace h.reg (space_given h.instr)

abbrev pub KeepsSpaces : Schedule → Type 0
KeepsSpaces t = All (λ (r : Read). ReadsInSpace r (slice_get t.ranges r.temp.0)) t.reads × All IsGivenInSpace t.ranges

-- ---- 5: an instruction issues in its block, a transfer in the block's last cycle, and a user leaves a gap after the definer of
-- what it reads, where that is active

abbrev pub IsWithin : ℕ → ℕ → Op → Type 0
IsWithin cycle end op = (0 < cycle) × (cycle < end)

abbrev pub IsLast : ℕ → ℕ → Bool → Type 0
IsLast cycle end true = cycle + 1 ≡ end
IsLast cycle end false = Unit {0}

abbrev pub IsPlacedAs : ℕ → ℕ → Op → Type 0
IsPlacedAs cycle end op = IsWithin cycle end op × IsLast cycle end (is_transfer op)

abbrev pub IsPlaced : Issue → Type 0
IsPlaced i = IfSome i.instr (IsPlacedAs i.cycle i.end)

-- how many cycles a user issues after the definer, by the instructions of both
abbrev pub Gap : Type 0
Gap = Option Op → Option Op → ℕ

abbrev pub LeavesGap : Gap → Read → Option LiveRange → Type 0
LeavesGap gap r None = ⊥
LeavesGap gap r (Some h) = h.active ≡ true → h.from + gap h.instr r.instr ≤ r.cycle

-- a user waits for its definer as the table says; it waits one cycle for what is there at a block's start, and a block's end waits
-- for the definer's latency
abbrev pub latency_gap : Table → Gap
latency_gap t None user = 1
latency_gap t (Some definer) None = latency_of t definer
latency_gap t (Some definer) (Some user) = gap_by t definer user

-- how long an instruction waits at least, whatever gives what it reads
abbrev pub least_wait : Table → Option Op → ℕ
least_wait t None = 1
least_wait t (Some user) = if is_branch user && t.fresh then 0 else 1

abbrev pub KeepsLatencies : Gap → Schedule → Type 0
KeepsLatencies gap t = All IsPlaced t.issues × All (λ (r : Read). LeavesGap gap r (slice_get t.ranges r.temp.0)) t.reads

-- ---- 6: Loads, Stores and Calls of a block keep their order

-- a later Load, Store or Call may not be in the cycle of a Store or Call, nor a Call in that of a Load
abbrev pub after_write : Option Op → Option ℕ
after_write (Some Load) = Some 1
after_write (Some Store) = Some 1
after_write (Some Call) = Some 1
after_write _ = None

abbrev pub after_load : Option Op → Option ℕ
after_load (Some Store) = Some 0
after_load (Some Call) = Some 1
after_load _ = None

abbrev pub memory_distance : Distance
memory_distance (Some Load) later = after_load later
memory_distance (Some Store) later = after_write later
memory_distance (Some Call) later = after_write later
memory_distance _ later = None

-- issues stand in the order of the source
abbrev pub KeepsMemory : Schedule → Type 0
KeepsMemory t = AllPairs (Precedes memory_distance) t.issues

-- ---- 7: two active temporaries of a block with one register do not occupy it in one cycle, and no active temporary but a
-- call's own result occupies a clobbered register in the call's cycle

-- a temporary occupies its register in cycle c
abbrev pub Occupies : LiveRange → ℕ → Type 0
Occupies h c = (h.from ≤ c) × (c ≤ h.last)

abbrev pub IsApart : LiveRange → LiveRange → Type 0
IsApart a b = (c : ℕ) → Occupies a c → Occupies b c → ⊥

unfoldable pub ShareNoCycle : LiveRange → LiveRange → Type 0
ShareNoCycle a b = a.active ≡ true → b.active ≡ true → a.block.0 ≡ b.block.0 → a.reg ≡ b.reg → IsApart a b

-- an operation, where it is a call, finds the clobbered registers free of all but its own result
unfoldable pub SparesRange : ℕ → Issue → LiveRange → Type 0
SparesRange clobbered i h =
    i.instr ≡ Some Call → h.active ≡ true → i.block.0 ≡ h.block.0 → in_mask clobbered h.reg ≡ true → Occupies h i.cycle → i.op.0 ≡ h.op.0

unfoldable pub IsSpared : ℕ → List Issue → LiveRange → Type 0
IsSpared clobbered issues h = All (λ (i : Issue). SparesRange clobbered i h) issues

abbrev pub KeepsRegisters : ℕ → Schedule → Type 0
KeepsRegisters clobbered t = AllPairs ShareNoCycle t.ranges × All (IsSpared clobbered t.issues) t.ranges

-- ---- 8: in each cycle of each block the instructions have room in one packet

abbrev pub issues_at : ℕ → ℕ → Issue → Bool
issues_at b c i = i.block.0 == b && i.cycle == c

-- how much of a resource an instruction takes, if there is one
abbrev pub share_of : Table → Resource → Option Op → ℕ
share_of t resource None = 0
share_of t resource (Some op) = share_by resource (needs_by t (Some op))

-- how much of it the operations of block b in cycle c take together
abbrev pub taken : Table → Resource → List Issue → ℕ → ℕ → ℕ
taken t resource issues b c = sum_by (λ (i : Issue). if issues_at b c i then share_of t resource i.instr else 0) issues

abbrev pub Fits : Table → List Issue → ℕ → ℕ → Resource → Type 0
Fits t issues b c resource = taken t resource issues b c ≤ places_of resource

unfoldable pub HasRoom : Table → List Issue → ℕ → ℕ → Type 0
HasRoom t issues b c = (resource : Resource) → Fits t issues b c resource

abbrev pub KeepsPackets : Table → Schedule → Type 0
KeepsPackets table t = (b c : ℕ) → HasRoom table t.issues b c

-- ---- 9: the temporaries that preassigned operands choose have their homes, and congruences hold. A preassigned value has its
-- home alone as domain.

abbrev pub HasHome : Option Reg → LiveRange → Type 0
HasHome home h = IfSome home (λ (r : Reg). h.reg ≡ r.0)

abbrev pub ReadsHome : Read → Option LiveRange → Type 0
ReadsHome r None = ⊥
ReadsHome r (Some h) = HasHome r.home h

abbrev pub KeepsHomes : Schedule → Type 0
KeepsHomes t = All (λ (r : Read). ReadsHome r (slice_get t.ranges r.temp.0)) t.reads

-- ---- 10: the frame flag, Enter and Leave agree with the use of the frame

-- a Spill or a Reload
abbrev pub is_frame_access : Option Op → Bool
is_frame_access (Some Spill) = true
is_frame_access (Some Reload) = true
is_frame_access _ = false

-- a value at a block's start, which alone is active without an instruction, has a slot
abbrev pub starts_in_slot : LiveRange → Bool
starts_in_slot h = h.active && is_none h.instr && nat_le FIRST_SLOT h.reg

-- an active copy is a Spill or a Reload, or a value at a block's start has a slot
abbrev pub uses_frame : Schedule → Bool
uses_frame t = list_any (λ (i : Issue). is_frame_access i.instr) t.issues || list_any starts_in_slot t.ranges

abbrev pub after_enter : Option Op → Option ℕ
after_enter (Some Spill) = Some 1
after_enter (Some Reload) = Some 1
after_enter (Some Call) = Some 1
after_enter (Some Leave) = Some 1
after_enter _ = None

abbrev pub before_leave : ℕ → Option Op → Option ℕ
before_leave n (Some Leave) = Some n
before_leave n _ = None

-- Spill, Reload, Call and Leave come after Enter, no Spill and no Reload comes after Leave, and a Call comes before it
abbrev pub frame_distance : Distance
frame_distance (Some Enter) later = after_enter later
frame_distance (Some Spill) later = before_leave 0 later
frame_distance (Some Reload) later = before_leave 0 later
frame_distance (Some Call) later = before_leave 1 later
frame_distance _ later = None

-- Enter and Leave are all active, or all inactive
abbrev pub HasFrame : Bool → Issue → Type 0
HasFrame b i = i.frame ≡ true → i.active ≡ b

-- for each two operations, in whatever order they stand
abbrev pub KeepsFrameOrder : List Issue → Type 0
KeepsFrameOrder issues = All (λ (i : Issue). All (Precedes frame_distance i) issues) issues

pub record KeepsFrame (flag : ℕ) (t : Schedule) : Type 0 where
  pub used : uses_frame t ≡ true → flag ≡ 1
  pub needed : flag ≡ 1 → uses_frame t ≡ true
  pub without : flag ≡ 0 → All (HasFrame false) t.issues
  pub with_frame : flag ≡ 1 → All (HasFrame true) t.issues
  pub ordered : flag ≡ 1 → KeepsFrameOrder t.issues

-- ---- the ten clauses together

-- of values as a schedule
pub record IsSchedule (gap : Gap) (domains : List Domain) (m : Model) (values : List ℕ) (t : Schedule) : Type 0 where
  pub in_domains : KeepsDomains domains values
  pub zeros : KeepsZeros t
  pub choices : KeepsChoices t
  pub spaces : KeepsSpaces t
  pub latencies : KeepsLatencies gap t
  pub memory : KeepsMemory t
  pub registers : KeepsRegisters m.ext.table.clobbered t
  pub packets : KeepsPackets m.ext.table t
  pub homes : KeepsHomes t
  pub congruences : KeepsCongruences m.ext.blocks t
  pub frame : KeepsFrame (value_of values m.flag) t

abbrev pub IsSolution : Model → Solution → Type 0
IsSolution m s = IsSchedule (latency_gap m.ext.table) m.domains m s.values (schedule_of m s.values)

-- ---- which clauses are broken

-- the truth values say which clauses are kept
pub record Tells (gap : Gap) (domains : List Domain) (m : Model) (values : List ℕ) (t : Schedule) (v : Verdict) : Type 0 where
  pub in_domains : IsTrue v.domains ↔ KeepsDomains domains values
  pub zeros : IsTrue v.zeros ↔ KeepsZeros t
  pub choices : IsTrue v.choices ↔ KeepsChoices t
  pub spaces : IsTrue v.spaces ↔ KeepsSpaces t
  pub latencies : IsTrue v.latencies ↔ KeepsLatencies gap t
  pub memory : IsTrue v.memory ↔ KeepsMemory t
  pub registers : IsTrue v.registers ↔ KeepsRegisters m.ext.table.clobbered t
  pub packets : IsTrue v.packets ↔ KeepsPackets m.ext.table t
  pub homes : IsTrue v.homes ↔ (KeepsHomes t × KeepsCongruences m.ext.blocks t)
  pub frame : IsTrue v.frame ↔ KeepsFrame (value_of values m.flag) t

abbrev pub broken : ℕ → Bool → List ℕ
broken k true = []
broken k false = k ∷ []

-- the numbers of the clauses that are not kept, rising; where a value is in no domain the other clauses are not asked
abbrev pub broken_after : Verdict → List ℕ
broken_after v =
    broken 2 v.zeros ++ broken 3 v.choices ++ broken 4 v.spaces ++ broken 5 v.latencies ++ broken 6 v.memory ++ broken 7 v.registers ++
    broken 8 v.packets ++ broken 9 v.homes ++ broken 10 v.frame

abbrev pub broken_clauses : Verdict → List ℕ
broken_clauses v = if v.domains then broken_after v else 1 ∷ []

-- the list has the number of each clause that the values break, once, rising
abbrev pub ListsBroken : Gap → List Domain → Model → List ℕ → List ℕ → Type 0
ListsBroken gap domains m values clauses = (v : Verdict) ×
    (Tells gap domains m values (schedule_of m values) v × (clauses ≡ broken_clauses v))
