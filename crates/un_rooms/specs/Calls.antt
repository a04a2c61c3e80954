-- A call of a block, as the code sees it.
use Rattle.std.specs.Prelude.{ℕ, ◌≡◌, Bool, true, false, not, ◌||◌, List, [], ◌∷◌, length, filter}
use Rattle.un_ir.specs.Linear.{is_in}
use Rattle.un_model.specs.declared.model.Arc.{Arc}
use Rattle.un_rooms.specs.Gathered.{gathered}
use Rattle.un_sites.specs.Places.{Place}
use Rattle.un_sites.specs.Postings.{cycle_var}
use Rattle.un_rooms.specs.Reach.{Marks, mark_at, leading}
use Rattle.un_sites.specs.Rooms.{is_behind, users_of}
use Rattle.un_rooms.specs.declared.call_rows.CallSite.{CallSite}

-- the call q among the operations ps: its number and cycle, marks of what leads to it, and the users of each temporary, from
-- `first` on, among what is behind it
pub record SeesCall (arcs : List Arc) (ps : List Place) (first : ℕ) (q : Place) (s : CallSite) : Type 0 where
  pub op : s.op ≡ q.op
  pub at : s.at ≡ cycle_var q
  pub leads : Marks s.low s.leading (leading arcs (q.op ∷ []))
  pub users : s.users ≡ gathered first (length s.users) (users_of (filter (is_behind arcs q) ps))

-- whether a test holds, or, as is asked for, does not
abbrev pub on_side : Bool → Bool → Bool
on_side true b = b
on_side false b = not b

-- a definer is before a call, by the call's marks
abbrev pub before_by : Place → CallSite → Bool
before_by definer s = is_in definer.it.kind || mark_at s.low s.leading definer.op
