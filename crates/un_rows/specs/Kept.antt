-- A draft's instructions with the cycles in which a solution issues them.
use Rattle.std.specs.Prelude.{ℕ, ◌+◌, ◌≤◌, List, [], ◌∷◌, Some, nat_eq, slice_index, if◌then◌else◌}
use Rattle.un_isa.specs.PacketCounts.{share_of}
use Rattle.un_isa.specs.declared.packet_counts.Resource.{Resource}
use Rattle.un_isa.specs.declared.table.Table.{Table}
use Rattle.un_model.specs.Instructions.{needs_by}
use Rattle.un_length.specs.declared.block.Precedence.{Precedence}
use Rattle.un_rows.specs.declared.draft.Owed.{Owed}

-- each issues from its head on, which is past the block's start, and its tail before the end
abbrev pub AreKept : ℕ → List Owed → List ℕ → Type 0
AreKept end [] [] = Unit {0}
AreKept end [] (c ∷ cs) = ⊥
AreKept end (o ∷ os) [] = ⊥
AreKept end (o ∷ os) (c ∷ cs) = (1 ≤ c) × (o.head ≤ c) × (c + o.tail ≤ end) × AreKept end os cs

-- what those that issue in cycle c take of a resource
abbrev pub owed_taken : Table → Resource → List Owed → List ℕ → ℕ → ℕ
owed_taken t r [] cs c = 0
owed_taken t r (o ∷ os) [] c = 0
owed_taken t r (o ∷ os) (k ∷ ks) c = (if nat_eq k c then share_of r (needs_by t (Some o.op)) else 0) + owed_taken t r os ks c

-- a precedence is kept by the cycles of the operations in their order
abbrev pub IsKeptBy : List ℕ → Precedence → Type 0
IsKeptBy cycles a = slice_index cycles a.from + a.gap ≤ slice_index cycles a.to
