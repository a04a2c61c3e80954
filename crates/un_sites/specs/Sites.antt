-- What the code names operations and definers by.
use Rattle.std.specs.Prelude.{List, map, Option, None, Some}
use Rattle.un_base.specs.declared.ids.VarId.{VarId}
use Rattle.un_prop.specs.declared.act.At.{At}
use Rattle.un_prop.specs.declared.act.At.TheVariants.{Const, Var}
use Rattle.un_sites.specs.Places.{Place, Definer, no_place}
use Rattle.un_sites.specs.declared.sites.Spot.{Spot}
use Rattle.un_sites.specs.declared.sites.Site.{Site}

abbrev pub place_of : Spot → Place
place_of p = record { block = p.block; end = p.end; op = p.op; it = p.it.now; vars = p.vars.now }

abbrev pub definer_in : VarId → Option Spot → Definer
definer_in reg None = record { place = no_place; reg = reg }
definer_in reg (Some p) = record { place = place_of p; reg = reg }

abbrev pub definer_at : Site → Definer
definer_at s = definer_in s.reg s.place

abbrev pub definers_in : List Site → List Definer
definers_in ss = map definer_at ss

-- the time at a cycle, where there is one
abbrev pub cycle_time : Option VarId → At
cycle_time None = Const 0
cycle_time (Some v) = Var v

-- an operation, where there is one
abbrev pub place_in : Option Spot → Place
place_in None = no_place
place_in (Some p) = place_of p
