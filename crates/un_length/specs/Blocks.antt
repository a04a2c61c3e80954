-- Blocks: their operations keep the precedences, issue before the end, and have room in each cycle.
use Rattle.std.specs.Prelude.{ℕ, ◌≡◌, ◌≤◌, ◌+◌, Bool, true, ◌&&◌, if◌then◌else◌, List, sum_by, nat_eq, nat_le, slice_index, All}
use Rattle.std.specs.List.{list_all}
use Rattle.un_base.specs.declared.ids.VarId.{VarId}
use Rattle.un_isa.specs.declared.packet_counts.Resource.{Resource}
use Rattle.un_isa.specs.PacketCounts.{resources, places_of, share_of}
use Rattle.un_prop.specs.Among.{among}
use Rattle.un_length.specs.declared.block.Task.{Task}
use Rattle.un_length.specs.declared.block.Precedence.{Precedence}
use Rattle.un_length.specs.Places.{at_place}

-- the cycle of an operation
abbrev pub cycle_of : List ℕ → Task → ℕ
cycle_of x t = slice_index x t.at.0

-- the second operation of a precedence issues at least the gap after the first
abbrev pub arc_holds : List Task → List ℕ → Precedence → Bool
arc_holds ops x a = nat_le (at_place (cycle_of x) ops a.from + a.gap) (at_place (cycle_of x) ops a.to)

-- how much of a resource the operations take in cycle c
abbrev pub taken_by : Resource → ℕ → List ℕ → Task → ℕ
taken_by r c x t = if nat_eq (cycle_of x t) c then share_of r t.needs else 0

abbrev pub taken : Resource → List Task → List ℕ → ℕ → ℕ
taken r ops x c = sum_by (taken_by r c x) ops

-- in cycle c they take no more than a packet has
abbrev pub has_room : List Task → List ℕ → ℕ → Bool
has_room ops x c = list_all (λ r. nat_le (taken r ops x c) (places_of r)) resources

-- an operation issues from its head on and so long before the end, and its cycle has room
abbrev pub task_holds : List Task → VarId → List ℕ → Task → Bool
task_holds ops end x t =
    nat_le t.head (cycle_of x t) && (nat_le (cycle_of x t + t.tail) (slice_index x end.0) && has_room ops x (cycle_of x t))

-- all precedences are kept, and so it is for all operations
abbrev pub block_holds : List Task → List Precedence → VarId → List ℕ → Bool
block_holds ops arcs end x = list_all (arc_holds ops x) arcs && list_all (task_holds ops end x) ops

-- the same as relations
pub record FitsBlock (ops : List Task) (arcs : List Precedence) (end : VarId) (x : List ℕ) : Type 0 where
  pub ordered : All (λ (a : Precedence). at_place (cycle_of x) ops a.from + a.gap ≤ at_place (cycle_of x) ops a.to) arcs
  pub begun : All (λ (t : Task). t.head ≤ cycle_of x t) ops
  pub ended : All (λ (t : Task). cycle_of x t + t.tail ≤ slice_index x end.0) ops
  pub room : (r : Resource) (c : ℕ) → taken r ops x c ≤ places_of r

-- the operations' variables stand in the list
abbrev pub TaskVars : List VarId → List Task → Type 0
TaskVars vs ops = All (λ (t : Task). among vs t.at ≡ true) ops

-- and the end's
pub record BlockVars (vs : List VarId) (ops : List Task) (end : VarId) : Type 0 where
  pub of_ops : TaskVars vs ops
  pub of_end : among vs end ≡ true
