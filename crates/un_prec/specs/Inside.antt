-- Inside: an operation issues from cycle 1 to before the end of its block.
use Rattle.std.specs.Prelude.{ℕ, ◌≡◌, ◌+◌, ◌≤◌, Bool, true, ◌&&◌, List, option_and_then}
use Rattle.std.specs.declared.option.Option.{Option}
use Rattle.un_base.specs.declared.ids.VarId.{VarId}
use Rattle.un_domains.specs.Sets.{Sets, set_at, least}
use Rattle.un_prop.specs.Looks.{sure}
use Rattle.un_prop.specs.declared.act.Act.{Act}
use Rattle.un_prop.specs.declared.act.Act.TheVariants.{Always}
use Rattle.un_prop.specs.declared.act.At.TheVariants.{Const, Var}
use Rattle.un_prec.specs.declared.link.Link.{Link}
use Rattle.un_prec.specs.Links.{link_holds, link_steps, LinkVars}

-- cycle 1 or later
abbrev pub start_link : VarId → Act → Link
start_link at on = record { from = Const 0; from_on = Always; to = Var at; to_on = on; gap = 1 }

-- before the end
abbrev pub end_link : VarId → Act → VarId → Link
end_link at on end = record { from = Var at; from_on = on; to = Var end; to_on = Always; gap = 1 }

-- the operation is in 1 to the end less 1, or it is not active
abbrev pub inside_holds : VarId → Act → VarId → List ℕ → Bool
inside_holds at on end x = link_holds (start_link at on) x && link_holds (end_link at on end) x

abbrev pub inside_steps : List VarId → VarId → Act → VarId → Sets → Option Sets
inside_steps vs at on end s = option_and_then (link_steps vs (end_link at on end)) (link_steps vs (start_link at on) s)

-- its variables stand in the list
pub record InsideVars (vs : List VarId) (at : VarId) (on : Act) (end : VarId) : Type 0 where
  pub of_start : LinkVars vs (start_link at on)
  pub of_end : LinkVars vs (end_link at on end)

-- where the operation is sure, its least cycle is at least 1 and the least end is above it
abbrev pub InsideStrong : VarId → Act → VarId → Sets → Type 0
InsideStrong at on end s = sure on s ≡ true → (1 ≤ least (set_at s at.0)) × (least (set_at s at.0) + 1 ≤ least (set_at s end.0))
