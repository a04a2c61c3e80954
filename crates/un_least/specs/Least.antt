-- The least end before which the operations of a block have room, whatever the store.
use Rattle.std.specs.Prelude.{ℕ, zero, suc, ◌-◌, Bool, if◌then◌else◌, List, max, min}
use Rattle.un_length.specs.declared.block.Task.{Task}
use Rattle.un_length.specs.declared.block.Precedence.{Precedence}
use Rattle.un_length.specs.Mixed.{fit_mixed}
use Rattle.un_length.specs.Places.{at_place}
use Rattle.un_length.specs.Windows.{raised, lowered}

-- the first cycle of an operation in any store: 1 for all but the end, from its head on; and its last before an end
abbrev pub head_cycle : Task → ℕ
head_cycle t = max t.head (min t.tail 1)

abbrev pub tail_cycle : ℕ → Task → ℕ
tail_cycle end t = end - t.tail

-- with the precedences
abbrev pub earliest_of : List Task → List Precedence → ℕ → ℕ
earliest_of ops arcs i = raised arcs (at_place head_cycle ops) i

abbrev pub latest_of : List Task → List Precedence → ℕ → ℕ → ℕ
latest_of ops arcs end i = lowered arcs (at_place (tail_cycle end) ops) i

-- the operations have room between these
abbrev pub fits_before : List Task → List Precedence → ℕ → ℕ → Bool
fits_before ops arcs horizon end = fit_mixed ops horizon (earliest_of ops arcs) (latest_of ops arcs end)

-- the first number of so many from one on that passes a test; the one behind them where none does
unfoldable pub least_by : (ℕ → Bool) → ℕ → ℕ → ℕ
least_by test from zero = from
least_by test from (suc n) = if test from then from else least_by test (suc from) n

-- the first end of those from one on before which they have room, looked for up to the horizon
abbrev pub least_end_of : List Task → List Precedence → ℕ → ℕ → ℕ
least_end_of ops arcs horizon from = least_by (fits_before ops arcs horizon) from (horizon - from)
