-- How many calls take how many bytes.
use Rattle.std.specs.Prelude.{ℕ, ◌+◌, ◌*◌, ◌-◌, ◌≤◌}

-- no more calls were made than so many bytes have pieces of p bytes, the last of them maybe shorter
abbrev pub IsCallForEach : ℕ → ℕ → ℕ → ℕ → Type 0
IsCallForEach p count before now = p * (now - before) ≤ count + (p - 1)
