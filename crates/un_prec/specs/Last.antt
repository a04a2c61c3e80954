-- Last: a control transfer issues in the last cycle of its block.
use Rattle.std.specs.Prelude.{ℕ, ◌≡◌, ◌+◌, Bool, List, nat_eq, slice_index, option_and_then}
use Rattle.std.specs.declared.option.Option.{Option}
use Rattle.un_base.specs.declared.ids.VarId.{VarId}
use Rattle.un_domains.specs.Sets.{Sets, set_at, least}
use Rattle.un_prop.specs.declared.act.Act.TheVariants.{Always}
use Rattle.un_prop.specs.declared.act.At.TheVariants.{Var}
use Rattle.un_prec.specs.Links.{link_steps, LinkVars, at_cut, close_test}
use Rattle.un_prec.specs.Inside.{end_link}

-- the end is the cycle and 1
abbrev pub last_holds : VarId → VarId → List ℕ → Bool
last_holds at end x = nat_eq (slice_index x end.0) (slice_index x at.0 + 1)

abbrev pub last_steps : List VarId → VarId → VarId → Sets → Option Sets
last_steps vs at end s = option_and_then (at_cut (close_test (end_link at Always end)) (Var at)) (link_steps vs (end_link at Always end) s)

-- its variables stand in the list
abbrev pub LastVars : List VarId → VarId → VarId → Type 0
LastVars vs at end = LinkVars vs (end_link at Always end)

-- the least end is the least cycle and 1
abbrev pub LastStrong : VarId → VarId → Sets → Type 0
LastStrong at end s = least (set_at s end.0) ≡ least (set_at s at.0) + 1
