-- Numbers drawn from a seed: a state of 64 bits goes from one number to the next, and a draw answers of its high bits.
use Rattle.std.specs.Prelude.{ℕ, zero, suc, ◌+◌, ◌*◌, ◌/◌, ◌%◌, ◌^◌}
use Rattle.un_gen.specs.declared.draws.TheConstants.{FACTOR, STEP}

-- the state that comes after another one
unfoldable pub next : ℕ → ℕ
next s = (s * FACTOR + STEP) % 2 ^ 64

-- what a draw below m answers that has led to state s
unfoldable pub answer : ℕ → ℕ → ℕ
answer m s = (s / 2 ^ 33) % m

-- the state after so many draws
abbrev pub after : ℕ → ℕ → ℕ
after zero s = s
after (suc draws) s = after draws (next s)

-- what the draw answers that comes after so many others, below m
abbrev pub drawn : ℕ → ℕ → ℕ → ℕ
drawn draws m s = answer m (after (suc draws) s)
