-- From when on registers can be read.
use Rattle.std.specs.Prelude.{ℕ, ◌≤◌, List, slice_index}

-- each register can be read from a cycle up to this one
abbrev pub IsReadyBy : ℕ → List ℕ → Type 0
IsReadyBy cycle ready = (r : ℕ) → slice_index ready r ≤ cycle
