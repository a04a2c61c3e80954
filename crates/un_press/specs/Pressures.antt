-- In each cycle the values that are there and are read later are no more than there is room for, and no more cross a call.
use Rattle.std.specs.Prelude.{ℕ, ◌<◌, ◌≤◌, Bool, ◌&&◌, List, nat_le, nat_lt, length, filter, All}
use Rattle.std.specs.List.{list_all, list_any, range_with_len}
use Rattle.un_base.specs.declared.ids.VarId.{VarId}
use Rattle.un_prop.specs.Acts.{at_vars, at_value}
use Rattle.un_prop.specs.Among.{AllAmong}
use Rattle.un_prop.specs.declared.act.At.{At}
use Rattle.un_press.specs.declared.live.Span.{Span}

-- a value is defined by cycle t, and some use of it is later
abbrev pub is_live : ℕ → List ℕ → Span → Bool
is_live t x v = nat_le (at_value v.def x) t && list_any (λ (u : At). nat_lt t (at_value u x)) v.uses

-- how many of some values are
abbrev pub living : List Span → List ℕ → ℕ → ℕ
living values x t = length (filter (is_live t x) values)

-- in each cycle below the horizon there is room for them
abbrev pub live_holds : List Span → ℕ → ℕ → List ℕ → Bool
live_holds values room horizon x = list_all (λ (t : ℕ). nat_le (living values x t) room) (range_with_len 0 horizon)

-- the same as a relation
abbrev pub FitsLive : List Span → ℕ → ℕ → List ℕ → Type 0
FitsLive values room horizon x = (t : ℕ) → t < horizon → living values x t ≤ room

-- what crosses a call for sure has room, whatever the call's cycle
abbrev pub across_holds : ℕ → ℕ → List ℕ → Bool
across_holds sure room x = nat_le sure room

-- the variables of values stand in the list
pub record SpanVars (vs : List VarId) (v : Span) : Type 0 where
  pub of_def : AllAmong vs (at_vars v.def)
  pub of_uses : All (λ (u : At). AllAmong vs (at_vars u)) v.uses

abbrev pub LiveVars : List VarId → List Span → Type 0
LiveVars vs values = All (SpanVars vs) values
