-- The parts of temporaries and of calls speak of a propagator's variables alone.
use Rattle.std.specs.Prelude.{ℕ, ◌++◌, List, [], ◌∷◌, map, Contains}
use Rattle.un_base.specs.declared.ids.VarId.{VarId}
use Rattle.un_prop.specs.Among.{among, AllAmong}
use Rattle.un_prop.specs.Parts.{Part}
use Rattle.un_prop.specs.WithinLaws.{AreWithin, filter_among, both_within, part_within}
use Rattle.un_prop.specs.declared.act.Temp.{Temp}
use Rattle.un_rect.specs.Apart.{apart_parts, pair_part, temp_vars}
use Rattle.un_rect.specs.Clobber.{clobber_parts}
use Rattle.un_rect.specs.declared.clobber.ClobberCall.{ClobberCall}

pairs_within : (vs : List VarId) (a : Temp) (rest : List Temp) → AreWithin vs (map (pair_part vs a) rest)
pairs_within vs a [] = tt
pairs_within vs a (b ∷ rest) = (filter_among (among (temp_vars a ++ temp_vars b)) vs, pairs_within vs a rest)

apart_each : (vs : List VarId) (temps : List Temp) → AreWithin vs (apart_parts vs temps)
apart_each vs [] = tt
apart_each vs (a ∷ rest) = both_within vs (map (pair_part vs a) rest) (apart_parts vs rest) (pairs_within vs a rest) (apart_each vs rest)

pub apart_within : (vs : List VarId) (temps : List Temp) (part : Part) → Contains (apart_parts vs temps) part → AllAmong vs part.vars
apart_within vs temps part there = part_within vs (apart_parts vs temps) (apart_each vs temps) part there

clobber_each : (vs : List VarId) (mask : ℕ) (a : Temp) (calls : List ClobberCall) → AreWithin vs (clobber_parts vs mask a calls)
clobber_each vs mask a [] = tt
clobber_each vs mask a (c ∷ calls) = (filter_among _ vs, clobber_each vs mask a calls)

pub clobber_within : (vs : List VarId) (mask : ℕ) (a : Temp) (calls : List ClobberCall) (part : Part)
    → Contains (clobber_parts vs mask a calls) part → AllAmong vs part.vars
clobber_within vs mask a calls part there =
    part_within vs (clobber_parts vs mask a calls) (clobber_each vs mask a calls) part there
