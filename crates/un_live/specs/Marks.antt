-- Blocks that are marked as having a name live at their start.
use Rattle.std.specs.Prelude.{ℕ, ◌+◌, ◌||◌, ◌≡◌, ◌↔◌, Bool, true, false, List, [], ◌∷◌, length, slice_get, Some, unwrap_or, if◌then◌else◌}
use Rattle.std.specs.Option.{option_map_or}
use Rattle.un_base.specs.declared.ids.NameId.{NameId}
use Rattle.un_ir.specs.declared.function.Term.{Term}
use Rattle.un_ir.specs.declared.function.Term.TheVariants.{Fall, Jump, Branch, Ret}
use Rattle.un_ir.specs.declared.function.Block.{Block}
use Rattle.un_ir.specs.Live.{IsLive}
use Rattle.un_live.specs.Tables.{meeting}
use Rattle.un_live.specs.declared.meeting.Meeting.{Meeting}
use Rattle.un_live.specs.declared.meeting.Meeting.TheVariants.{Read, Assigned, Neither}

abbrev pub marked : List Bool → ℕ → Bool
marked marks b = unwrap_or (slice_get marks b) false

-- a block to which the terminator of block b may lead is marked
abbrev pub leads : List Bool → ℕ → Term → Bool
leads marks b Fall = marked marks (b + 1)
leads marks b (Jump to) = marked marks to.0
leads marks b (Branch pred sense to) = marked marks (b + 1) || marked marks to.0
leads marks b (Ret value) = false

abbrev pub live_by : Meeting → Bool → Bool
live_by Read later = true
live_by Assigned later = false
live_by Neither later = later

-- by the marks of the blocks to which block b may lead, the name is live at its start
abbrev pub lives : NameId → List Bool → ℕ → Block → Bool
lives name marks b block = live_by (meeting name block.ops block.term) (leads marks b block.term)

abbrev pub lives_at : List Block → NameId → List Bool → ℕ → Bool
lives_at blocks name marks b = option_map_or (lives name marks b) (slice_get blocks b) false

-- a marked block has the name live at its start
abbrev pub AreSound : List Block → NameId → List Bool → Type 0
AreSound blocks name marks = (b : ℕ) → marked marks b ≡ true → IsLive blocks name b 0

-- no block is left to be marked
abbrev pub AreClosed : List Block → NameId → List Bool → Type 0
AreClosed blocks name marks = (b : ℕ) → lives_at blocks name marks b ≡ true → marked marks b ≡ true

-- how many blocks are not marked
abbrev pub unmarked : List Bool → ℕ
unmarked [] = 0
unmarked (true ∷ marks) = unmarked marks
unmarked (false ∷ marks) = unmarked marks + 1

abbrev pub name_of : ℕ → NameId
name_of n = record { 0 = n }

-- the marks of a name: of each block, whether the name is live at its start
pub record IsColumn (blocks : List Block) (name : NameId) (marks : List Bool) : Type 0 where
  pub long : length marks ≡ length blocks
  pub exact : (b : ℕ) → (marked marks b ≡ true) ↔ IsLive blocks name b 0

-- the names of block b, by the marks of the names from number k on
abbrev pub names_from : ℕ → List (List Bool) → ℕ → List NameId
names_from k [] b = []
names_from k (marks ∷ columns) b = if marked marks b then name_of k ∷ names_from (k + 1) columns b else names_from (k + 1) columns b

-- the marks of so many names, each in its place
pub record AreColumns (blocks : List Block) (names : ℕ) (columns : List (List Bool)) : Type 0 where
  pub whole : length columns ≡ names
  pub each : (k : ℕ) (marks : List Bool) → slice_get columns k ≡ Some marks → IsColumn blocks (name_of k) marks
