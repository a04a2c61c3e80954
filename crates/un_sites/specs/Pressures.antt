-- What is posted of pressure: in each cycle of a block, and across each of its calls, there is room for the values that are there.
use Rattle.std.specs.Prelude.{ℕ, ◌+◌, Bool, false, not, ◌&&◌, nat_le, nat_lt, List, ◌∷◌, Option, Some, None, filter, length, map, slice_get}
use Rattle.std.specs.List.{list_any, range_with_len}
use Rattle.un_base.specs.declared.ids.TempId.{TempId}
use Rattle.un_isa.specs.Tables.{in_mask}
use Rattle.un_isa.specs.declared.reg.TheConstants.{FIRST_SLOT, SLOTS}
use Rattle.un_domains.specs.Sets.{has}
use Rattle.un_domains.specs.declared.domain.Domain.{Domain}
use Rattle.un_domains.specs.declared.domain.Domain.TheVariants.{Range, Set}
use Rattle.un_ir.specs.Kinds.{is_call_kind, is_mandatory}
use Rattle.un_ir.specs.declared.extended.ExtBlock.{ExtBlock}
use Rattle.un_model.specs.declared.model.Arc.{Arc}
use Rattle.un_model.specs.declared.model.BlockVars.{BlockVars}
use Rattle.un_model.specs.declared.model.Model.{Model}
use Rattle.un_model.specs.Pairs.{joined, over_blocks}
use Rattle.un_press.specs.declared.live.Span.{Span}
use Rattle.un_kinds.specs.Constraints.{Constraint, Live, Across}
use Rattle.un_sites.specs.Crossings.{crossing, reads_value}
use Rattle.un_sites.specs.Places.{Place, Definer, block_places, time_of, definers_at, definers_of}
use Rattle.un_sites.specs.Postings.{cycle_var, with_kind}
use Rattle.un_sites.specs.Rooms.{arcs_or, temps_in}

-- ---- room

-- a variable with this domain may be r
abbrev pub in_domain : Option Domain → ℕ → Bool
in_domain None r = false
in_domain (Some (Range lo hi)) r = nat_le lo r && nat_le r hi
in_domain (Some (Set values)) r = has values r

-- what a definer gives may be in register r
abbrev pub may_have : List Domain → ℕ → Definer → Bool
may_have domains r d = in_domain (slice_get domains d.reg.0) r

-- the registers and slots in which something of what these definers give may be
unfoldable pub room_of : List Domain → List Definer → List ℕ
room_of domains ds = filter (λ (r : ℕ). list_any (may_have domains r) ds) (range_with_len 0 (FIRST_SLOT + SLOTS))

-- those of them that are registers
abbrev pub registers_among : List ℕ → List ℕ
registers_among room = filter (λ (r : ℕ). nat_lt r FIRST_SLOT) room

-- those of them that a call leaves as they are
abbrev pub spared_room : ℕ → List ℕ → List ℕ
spared_room clobbered room = filter (λ (r : ℕ). not (in_mask clobbered r)) room

-- ---- values

-- a value that operation p defines, with the times of the operations of a list that read it
abbrev pub span_of : List Place → Place → TempId → Span
span_of ps p t = record { def = time_of p; uses = map time_of (filter (reads_value false t.0) ps) }

abbrev pub own_spans : List Place → Place → List Span
own_spans ps p = map (span_of ps p) p.it.results

-- those of the operations of the list
abbrev pub spans_in : List Place → List Span
spans_in ps = joined (map (own_spans ps) ps)

-- ---- a block

-- the values of a block, and how many registers and slots there are for them
abbrev pub live_by : List ℕ → ℕ → List Place → Constraint
live_by room horizon ps = Live (spans_in (with_kind is_mandatory ps)) (length room) horizon

-- the values that cross a call, and how many there are that it leaves as they are
abbrev pub across_by : ℕ → List Arc → List ℕ → List Place → Place → Constraint
across_by clobbered arcs room ps call =
    Across (cycle_var call) (length (crossing false arcs ps call)) (length (spared_room clobbered room))

abbrev pub pressure_by : ℕ → List Arc → List ℕ → ℕ → List Place → List Constraint
pressure_by clobbered arcs room horizon ps =
    live_by room horizon ps ∷ map (across_by clobbered arcs room ps) (with_kind is_call_kind ps)

abbrev pub block_room : List Domain → List Definer → List Place → List ℕ
block_room domains ds ps = room_of domains (definers_at ds (temps_in ps))

-- one block after another
abbrev pub pressure_in : Model → List Definer → ℕ → ℕ → ExtBlock → BlockVars → List Constraint
pressure_in m ds b n block vars =
    let ps : List Place = block_places b n block vars in
    pressure_by m.ext.table.clobbered (arcs_or (slice_get m.arcs b)) (block_room m.domains ds ps) block.horizon ps

abbrev pub pressures_of : Model → List Constraint
pressures_of m = over_blocks (pressure_in m (definers_of m)) 0 0 m.ext.blocks m.blocks
