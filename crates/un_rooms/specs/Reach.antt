-- Marks of the operations of a block: those that arcs lead to, and those from which arcs lead.
use Rattle.std.specs.Prelude.{ℕ, ◌≡◌, ◌+◌, ◌-◌, ◌<◌, ◌≤◌, nat_lt, Bool, false, List, [], ◌∷◌, slice_index_or, if◌then◌else◌}
use Rattle.un_domains.specs.Sets.{has}
use Rattle.un_model.specs.declared.model.Arc.{Arc}

-- the mark of operation n, of marks that stand from `low` on
abbrev pub mark_at : ℕ → List Bool → ℕ → Bool
mark_at low marks n = if nat_lt n low then false else slice_index_or marks (n - low) false

-- exactly these are marked
abbrev pub Marks : ℕ → List Bool → List ℕ → Type 0
Marks low marks ns = (n : ℕ) → mark_at low marks n ≡ has ns n

-- a number is one of n from `low` on
abbrev pub IsWithin : ℕ → ℕ → ℕ → Type 0
IsWithin low n k = (low ≤ k) × (k < low + n)

-- so are the operations of an arc
abbrev pub IsArcWithin : ℕ → ℕ → Arc → Type 0
IsArcWithin low n a = IsWithin low n a.from.0 × IsWithin low n a.to.0

-- an arc leads back from what leads on
abbrev pub back_by : Arc → List ℕ → List ℕ
back_by a ns = if has ns a.to.0 then a.from.0 ∷ ns else ns

-- the operations from which arcs, in their order, lead to some of these
abbrev pub leading : List Arc → List ℕ → List ℕ
leading [] ns = ns
leading (a ∷ arcs) ns = back_by a (leading arcs ns)

-- a number is one from `low` on, before `past`
abbrev pub IsBetween : ℕ → ℕ → ℕ → Type 0
IsBetween low past n = (low ≤ n) × (n < past)

-- so are the operations of an arc
abbrev pub IsArcBetween : ℕ → ℕ → Arc → Type 0
IsArcBetween low past a = IsBetween low past a.from.0 × IsBetween low past a.to.0
