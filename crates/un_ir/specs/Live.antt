-- Which names are live at a place of a function. A place of a block is that of an operation, or of the terminator, which
-- stands after the last one.
use Rattle.std.specs.Prelude.{ℕ, ◌≡◌, ◌≢◌, ◌+◌, ◌≤◌, List, [], ◌∷◌, Option, Some, None, map, length, slice_get, Contains}
use Rattle.un_base.specs.declared.ids.NameId.{NameId}
use Rattle.un_ir.specs.declared.function.SrcOp.{SrcOp}
use Rattle.un_ir.specs.declared.function.Term.{Term}
use Rattle.un_ir.specs.declared.function.Term.TheVariants.{Fall, Jump, Branch, Ret}
use Rattle.un_ir.specs.declared.function.Block.{Block}

abbrev pub read_by_term : Term → List NameId
read_by_term Fall = []
read_by_term (Jump to) = []
read_by_term (Branch pred sense to) = pred ∷ []
read_by_term (Ret None) = []
read_by_term (Ret (Some name)) = name ∷ []

-- the blocks to which the terminator of block b may lead
abbrev pub targets_of : ℕ → Term → List ℕ
targets_of b Fall = (b + 1) ∷ []
targets_of b (Jump to) = to.0 ∷ []
targets_of b (Branch pred sense to) = (b + 1) ∷ to.0 ∷ []
targets_of b (Ret value) = []

-- the names that are read at a place
abbrev pub read_by : Option SrcOp → Term → List NameId
read_by None term = read_by_term term
read_by (Some o) term = o.srcs

abbrev pub read_at : Block → ℕ → List NameId
read_at block k = read_by (slice_get block.ops k) block.term

-- the name that is assigned at a place
abbrev pub assigned_by : Option SrcOp → Option NameId
assigned_by None = None
assigned_by (Some o) = o.dst

abbrev pub assigned_at : Block → ℕ → Option NameId
assigned_at block k = assigned_by (slice_get block.ops k)

-- the places to which place k of block b may lead, each with its block
abbrev pub next_by : ℕ → ℕ → Option SrcOp → Term → List (ℕ × ℕ)
next_by b k None term = map (λ (c : ℕ). (c, 0)) (targets_of b term)
next_by b k (Some o) term = (b, k + 1) ∷ []

abbrev pub next_of : ℕ → ℕ → Block → List (ℕ × ℕ)
next_of b k block = next_by b k (slice_get block.ops k) block.term

-- the name is live at place k of block b: a path from there ends at a use of it, and has no assignment to it before
pub data IsLive (blocks : List Block) (name : NameId) : ℕ → ℕ → Type 0 where
  used : (b k : ℕ) (block : Block) → slice_get blocks b ≡ Some block → k ≤ length block.ops → Contains (read_at block k) name
      → IsLive blocks name b k
  kept : (b k : ℕ) (block : Block) (c l : ℕ) → slice_get blocks b ≡ Some block → k ≤ length block.ops → assigned_at block k ≢ Some name
      → Contains (next_of b k block) (c, l) → IsLive blocks name c l → IsLive blocks name b k
