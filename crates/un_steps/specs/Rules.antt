-- The thirteen rules of a step log: which values y of variable v may go from a box, at an operation, an arc or a block. Nothing goes by a
-- least or a greatest value where there is none.
use Rattle.std.specs.Prelude.{ℕ, ◌≡◌, ◌≢◌, ◌⊎◌, ◌+◌, ◌*◌, ◌-◌, ◌<◌, ◌≤◌, ◌==◌, ◌&&◌, nat_le, nat_lt, not, Bool, true, false}
use Rattle.std.specs.Prelude.{if◌then◌else◌, List, []}
use Rattle.std.specs.Prelude.{◌∷◌, Option, Some, None, IsSomeAnd, length, map, sum_by, slice_get, Contains}
use Rattle.std.specs.List.{list_any}
use Rattle.un_base.specs.declared.ids.TempId.{TempId}
use Rattle.un_isa.specs.PacketCounts.{places_of}
use Rattle.un_isa.specs.declared.packet_counts.Resource.{Resource}
use Rattle.un_isa.specs.declared.reg.Reg.{Reg}
use Rattle.un_ir.specs.Extended.{is_copy}
use Rattle.un_ir.specs.Kinds.{is_delimiter, is_mandatory}
use Rattle.un_ir.specs.Linear.{is_out, place_over}
use Rattle.un_ir.specs.Live.{targets_of}
use Rattle.un_ir.specs.declared.extended.TheConstants.{SPILL, RELOAD}
use Rattle.un_ir.specs.declared.extended.Operand.{Operand}
use Rattle.un_ir.specs.declared.extended.ExtBlock.{ExtBlock}
use Rattle.un_domains.specs.Sets.{Sets, set_at, has, least}
use Rattle.un_model.specs.declared.model.Model.{Model}
use Rattle.un_model.specs.declared.model.BlockVars.{BlockVars}
use Rattle.un_model.specs.Arcs.{own_instr, value_read}
use Rattle.un_model.specs.Congruences.{term_of, live_in_temps}
use Rattle.un_model.specs.Instructions.{instruction_of, space_read, space_given}
use Rattle.un_model.specs.Solutions.{InSpace, share_of}
use Rattle.un_steps.specs.Words.{Operation, Alternative, least_of, greatest_of, regs, definer_of, IsVar, result_vars, other_vars, time_of}
use Rattle.un_steps.specs.Words.{cycles, giving_cycles, IsSure, is_sure, IsOff, instrs, gap_by, alternative, choices_left}

-- ---- 1: of an arc, cycles before the least of its start and the gap, and cycles after which the gap leads past the greatest of its end

abbrev pub IsTooSoon : Sets → Operation → Operation → ℕ → ℕ → ℕ → Type 0
IsTooSoon s from to gap v y =
    (IsVar (time_of to) v × IsSomeAnd (least_of (cycles s from)) (λ (c : ℕ). y < c + gap)) ⊎ (IsVar (time_of from) v × IsSomeAnd
    (greatest_of (cycles s to)) (λ (c : ℕ). c < y + gap))

-- ---- 2: of an operation that is off, all but 0; and that it is off, where another of its variables cannot be 0

abbrev pub lacks_zero : Sets → ℕ → Bool
lacks_zero s v = not (has (set_at s v) 0)

abbrev pub IsIdle : Model → Sets → Operation → ℕ → ℕ → Type 0
IsIdle m s p v y =
    (IsOff s p × (has (other_vars m p) v ≡ true) × (0 < y)) ⊎ (IsVar p.vars.instr v × (y ≡ 0) ×
    (list_any (lacks_zero s) (other_vars m p) ≡ true))

-- ---- 3: of an operation that is sure, cycle 0 and cycles from the greatest end on, and ends up to its least cycle

abbrev pub IsPastEnd : Sets → Operation → ℕ → Type 0
IsPastEnd s p y = IsSomeAnd (greatest_of (set_at s p.end.0)) (λ (end : ℕ). end ≤ y)

abbrev pub IsOutsideBlock : Sets → Operation → ℕ → ℕ → Type 0
IsOutsideBlock s p v y =
    (is_delimiter p.op.kind ≡ false) × IsSure s p × ((IsVar p.vars.cycle v × ((y ≡ 0) ⊎ IsPastEnd s p y)) ⊎ ((p.end.0 ≡ v) × IsSomeAnd
    (least_of (cycles s p)) (λ (c : ℕ). y ≤ c)))

-- ---- 4: of an operation that is sure, alternatives whose definer is off

abbrev pub IsFromIdle : Model → Sets → Operation → ℕ → ℕ → Type 0
IsFromIdle m s p v y = IsSure s p × IsSomeAnd (alternative p v y) (λ (a : Alternative). IsSomeAnd (definer_of m a.temp) (IsOff s))

-- ---- 5: of an operation that is sure, alternatives that are given too late

-- p waits for d past a cycle where d gives in cycle c, whatever instructions are left to the two; and there are some
pub record WaitsPast (m : Model) (s : Sets) (p d : Operation) (last c : ℕ) : Type 0 where
  pub giver : 0 < length (instrs s d)
  pub user : 0 < length (instrs s p)
  pub each : (i j : ℕ) → has (instrs s d) i ≡ true → has (instrs s p) j ≡ true → last < c + gap_by m d p i j

-- from the least cycle in which d gives, p waits past the last cycle that is left to it
abbrev pub IsLateFor : Model → Sets → Operation → Operation → Type 0
IsLateFor m s p d = IsSomeAnd (least_of (giving_cycles s d)) (λ (c : ℕ). IsSomeAnd (greatest_of (cycles s p)) (λ (last : ℕ).
    WaitsPast m s p d last c))

abbrev pub IsTooLateFor : Model → Sets → Operation → ℕ → ℕ → Type 0
IsTooLateFor m s p v y = IsSure s p × IsSomeAnd (alternative p v y) (λ (a : Alternative). IsSomeAnd (definer_of m a.temp) (IsLateFor m s p))

-- ---- 6: of a copy with one instruction, registers outside the space of its result

abbrev pub only : List ℕ → Option ℕ
only (x ∷ []) = Some x
only _ = None

abbrev pub IsOutsideSpace : Model → Sets → Operation → ℕ → ℕ → Type 0
IsOutsideSpace m s p v y =
    (is_copy p.op.kind ≡ true) × (has (result_vars m p) v ≡ true) × IsSomeAnd p.vars.instr (λ i. IsSomeAnd (only (set_at s i.0)) (λ (n : ℕ).
    (0 < n) × (InSpace y (space_given (instruction_of p.op.kind n)) → ⊥)))

-- ---- 7: of an operation that is sure, alternatives without a register in the operand's space, whatever the instruction

abbrev pub HasNoSpace : Model → Sets → Operation → Alternative → Type 0
HasNoSpace m s p a =
    (n r : ℕ) → has (instrs s p) n ≡ true → has (regs m s a.temp) r ≡ true
    → InSpace r (space_read (instruction_of p.op.kind n) a.at) → ⊥

abbrev pub IsNoSpace : Model → Sets → Operation → ℕ → ℕ → Type 0
IsNoSpace m s p v y = (is_out p.op.kind ≡ false) × IsSure s p × IsSomeAnd (alternative p v y) (HasNoSpace m s p)

-- ---- 8: of an operation that every solution issues, alternatives beside which an operand that reads another value finds no register

-- of two temporaries at places j and k each two registers in the operands' spaces are one
abbrev pub AreOneRegister : Model → Sets → Operation → ℕ → TempId → ℕ → TempId → Type 0
AreOneRegister m s p j x k z =
    (r : ℕ) → has (regs m s x) r ≡ true → InSpace r (space_read (own_instr p.op) j) → (q : ℕ) → has (regs m s z) q ≡ true
    → InSpace q (space_read (own_instr p.op) k) → r ≡ q

-- the operand at place k is left no alternative with another register
abbrev pub HasNoOther : Model → Sets → Operation → Alternative → ℕ → Operand → Type 0
HasNoOther m s p a k b = (i : ℕ) → has (choices_left s p k) i ≡ true → (z : TempId) → slice_get b.alts i ≡ Some z
    → AreOneRegister m s p a.at a.temp k z

abbrev pub IsAlikeAt : Model → Sets → Operation → Alternative → ℕ → Type 0
IsAlikeAt m s p a k = IsSomeAnd (slice_get p.op.operands k) (λ (b : Operand). (value_read b ≢ value_read a.operand) × HasNoOther m s p a k b)

abbrev pub IsAlike : Model → Sets → Operation → ℕ → ℕ → Type 0
IsAlike m s p v y = (is_mandatory p.op.kind ≡ true) × IsSomeAnd (alternative p v y) (λ (a : Alternative). (k : ℕ) × IsAlikeAt m s p a k)

-- ---- 9: of an operand with a home, alternatives that cannot be there

abbrev pub IsNotHome : Model → Sets → Operation → ℕ → ℕ → Type 0
IsNotHome m s p v y = IsSomeAnd (alternative p v y) (λ (a : Alternative). IsSomeAnd a.operand.home (λ (r : Reg).
    has (regs m s a.temp) r.0 ≡ false))

-- ---- 10: of `out`, alternatives that share no register with what a successor takes in their place

abbrev pub ShareNone : Model → Sets → TempId → TempId → Type 0
ShareNone m s x z = (r : ℕ) → has (regs m s x) r ≡ true → has (regs m s z) r ≡ true → ⊥

-- block b takes at place j what is handed over at the alternative's place, and shares no register with it
abbrev pub IsTakenElsewhere : Model → Sets → Operation → Alternative → ExtBlock → ℕ → Type 0
IsTakenElsewhere m s p a b j = (place_over p.owner b j ≡ a.at) × IsSomeAnd (slice_get (live_in_temps b.ops) j) (ShareNone m s a.temp)

abbrev pub IsElsewhereIn : Model → Sets → Operation → Alternative → ℕ → Type 0
IsElsewhereIn m s p a l = IsSomeAnd (slice_get m.ext.blocks l) (λ (b : ExtBlock). (j : ℕ) × IsTakenElsewhere m s p a b j)

abbrev pub HasSuccessor : Model → Sets → Operation → Alternative → Type 0
HasSuccessor m s p a = (l : ℕ) × Contains (targets_of p.block (term_of p.owner.ops)) l × IsElsewhereIn m s p a l

abbrev pub IsNotCongruent : Model → Sets → Operation → ℕ → ℕ → Type 0
IsNotCongruent m s p v y = (is_out p.op.kind ≡ true) × IsSomeAnd (alternative p v y) (HasSuccessor m s p)

-- ---- 11: with a limit, ends of a block that with the least ends of the others cost it

-- the end of a block: y of the one with variable v, and the least of the others
abbrev pub end_with : Sets → ℕ → ℕ → BlockVars → Option ℕ
end_with s v y vars = if vars.end.0 == v then Some y else least_of (set_at s vars.end.0)

abbrev pub cost_at : ExtBlock → Option ℕ → Option ℕ → Option ℕ
cost_at block None rest = None
cost_at block (Some end) None = None
cost_at block (Some end) (Some rest) = Some (block.freq * (end - 1) + rest)

-- what blocks cost with these ends
abbrev pub cost_with : Sets → ℕ → ℕ → List ExtBlock → List BlockVars → Option ℕ
cost_with s v y [] vars = Some 0
cost_with s v y (block ∷ blocks) [] = Some 0
cost_with s v y (block ∷ blocks) (vars ∷ more) = cost_at block (end_with s v y vars) (cost_with s v y blocks more)

abbrev pub IsTooDear : Model → Option ℕ → Sets → BlockVars → ℕ → ℕ → Type 0
IsTooDear m limit s vars v y = (vars.end.0 ≡ v) × IsSomeAnd limit (λ (c : ℕ). IsSomeAnd (cost_with s v y m.ext.blocks m.blocks) (λ (n : ℕ). c ≤ n))

-- ---- 12: without a frame, the instructions of a copy that access it; and that there is none, where a copy has these alone

abbrev pub IsAccess : ℕ → Type 0
IsAccess n = (n ≡ SPILL) ⊎ (n ≡ RELOAD)

abbrev pub AreAccesses : List ℕ → Type 0
AreAccesses ns = (0 < length ns) × ((n : ℕ) → has ns n ≡ true → IsAccess n)

abbrev pub IsNoFrame : Model → Sets → Operation → ℕ → ℕ → Type 0
IsNoFrame m s p v y =
    (is_copy p.op.kind ≡ true) × IsSomeAnd p.vars.instr (λ i. ((set_at s m.flag.0 ≡ 0 ∷ []) × (i.0 ≡ v) × IsAccess y)
    ⊎ ((m.flag.0 ≡ v) × (y ≡ 0) × AreAccesses (set_at s i.0)))

-- ---- 13: of a block, its end and the cycles of its operations, where in some cycles its operations take more than the packets have

-- the least and the greatest of some cycles are of the n cycles from a on
abbrev pub are_among : ℕ → ℕ → Option ℕ → Option ℕ → Bool
are_among a n (Some first) (Some last) = nat_le a first && nat_lt last (a + n)
are_among a n (Some first) None = false
are_among a n None last = false

-- an operation is sure, and all cycles that are left to it are
abbrev pub issues_in : Sets → ℕ → ℕ → Operation → Bool
issues_in s a n p = is_sure s p && are_among a n (least_of (cycles s p)) (greatest_of (cycles s p))

-- how much of a resource an operation takes with the instruction of this number, and at least, by those that are left to it
abbrev pub share_with : Model → Resource → Operation → ℕ → ℕ
share_with m r p i = share_of m.ext.table r (instruction_of p.op.kind i)

abbrev pub least_share : Model → Sets → Resource → Operation → ℕ
least_share m s r p = least (map (share_with m r p) (instrs s p))

-- how much of it an operation takes for sure in these cycles
abbrev pub takes_in : Model → Sets → Resource → ℕ → ℕ → Operation → ℕ
takes_in m s r a n p = if issues_in s a n p then least_share m s r p else 0

-- of some resource operations take more than these packets have
abbrev pub IsFullIn : Model → Sets → List Operation → ℕ → ℕ → Type 0
IsFullIn m s ps a n = (r : Resource) × (n * places_of r < sum_by (takes_in m s r a n) ps)

-- v is the variable of the time of an operation: its cycle, or the block's end
abbrev pub IsTimeOf : List Operation → ℕ → Type 0
IsTimeOf ps v = (i : ℕ) × IsSomeAnd (slice_get ps i) (λ (p : Operation). IsVar (time_of p) v)

abbrev pub IsTooFull : Model → Sets → List Operation → ℕ → Type 0
IsTooFull m s ps v = IsTimeOf ps v × ((a : ℕ) × (n : ℕ) × IsFullIn m s ps a n)
