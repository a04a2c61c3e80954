-- The earliest and the latest cycles of operations that a store and the precedences leave.
use Rattle.std.specs.Prelude.{ℕ, ◌+◌, ◌-◌, ◌^◌, if◌then◌else◌, List, [], ◌∷◌, max, min, nat_eq}
use Rattle.un_base.specs.declared.ids.VarId.{VarId}
use Rattle.un_domains.specs.Sets.{Sets, set_at, least, greatest}
use Rattle.un_length.specs.declared.block.Task.{Task}
use Rattle.un_length.specs.declared.block.Precedence.{Precedence}
use Rattle.un_length.specs.Places.{at_place}

-- the cycles f of the operations by their places, with that of a precedence's second raised to the gap after its first's, up to the
-- greatest number
abbrev pub raise : Precedence → (ℕ → ℕ) → ℕ → ℕ
raise a f i = if nat_eq i a.to then max (f i) (min (f a.from + a.gap) (2 ^ 32 - 1)) else f i

-- raised by each precedence in turn
abbrev pub raised : List Precedence → (ℕ → ℕ) → ℕ → ℕ
raised [] f i = f i
raised (a ∷ rest) f i = raised rest (raise a f) i

-- with that of its first lowered to the gap before its second's
abbrev pub lower : Precedence → (ℕ → ℕ) → ℕ → ℕ
lower a f i = if nat_eq i a.from then min (f i) (f a.to - a.gap) else f i

-- lowered by each precedence in turn, the last one first
abbrev pub lowered : List Precedence → (ℕ → ℕ) → ℕ → ℕ
lowered [] f i = f i
lowered (a ∷ rest) f i = lower a (lowered rest f) i

-- the first cycle of an operation: its least, from its head on
abbrev pub first_cycle : Sets → Task → ℕ
first_cycle s t = max (least (set_at s t.at.0)) t.head

-- its greatest, so long before the greatest end as it issues
abbrev pub last_cycle : VarId → Sets → Task → ℕ
last_cycle end s t = min (greatest (set_at s t.at.0)) (greatest (set_at s end.0) - t.tail)

-- the earliest cycles by the precedences, and the latest
abbrev pub earliest : List Task → List Precedence → Sets → ℕ → ℕ
earliest ops arcs s i = raised arcs (at_place (first_cycle s) ops) i

abbrev pub latest : List Task → List Precedence → VarId → Sets → ℕ → ℕ
latest ops arcs end s i = lowered arcs (at_place (last_cycle end s) ops) i
