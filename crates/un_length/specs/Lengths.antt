-- Lengths: a block fails where its operations have no room before its greatest end.
use Rattle.std.specs.Prelude.{ℕ, ◌≡◌, ◌+◌, Bool, true, not, ◌&&◌, ◌||◌, List, length, nat_le, nat_lt}
use Rattle.std.specs.declared.option.Option.{Option}
use Rattle.un_base.specs.declared.ids.VarId.{VarId}
use Rattle.un_domains.specs.Sets.{Sets, set_at, greatest}
use Rattle.un_prop.specs.Failing.{first_cut}
use Rattle.un_length.specs.declared.block.Task.{Task}
use Rattle.un_length.specs.declared.block.Precedence.{Precedence}
use Rattle.un_length.specs.Windows.{earliest, latest}
use Rattle.un_length.specs.Mixed.{fit_mixed}

-- the greatest end and the number of operations are together less than the horizon, and there is a variable for each
abbrev pub is_near : List VarId → List Task → VarId → ℕ → Sets → Bool
is_near vs ops end horizon s = nat_lt (greatest (set_at s end.0) + length ops) horizon && nat_le (length ops) (length vs)

-- where it is so, the operations have room between their earliest and their latest cycles
abbrev pub length_test : List VarId → List Task → List Precedence → VarId → ℕ → Sets → Bool
length_test vs ops arcs end horizon s =
    not (is_near vs ops end horizon s) || fit_mixed ops horizon (earliest ops arcs s) (latest ops arcs end s)

-- it fails where they have not
abbrev pub length_cut : List VarId → List Task → List Precedence → VarId → ℕ → Sets → Option Sets
length_cut vs ops arcs end horizon s = first_cut (λ s c. length_test vs ops arcs end horizon s) vs s

-- what is so of a store that it leaves
abbrev pub LengthStrong : List VarId → List Task → List Precedence → VarId → ℕ → Sets → Type 0
LengthStrong vs ops arcs end horizon s = length_test vs ops arcs end horizon s ≡ true
