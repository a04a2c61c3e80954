-- What operations of a block take of the packets, and how many cycles that fills: its own operations, with Spills and Reloads beside them.
use Rattle.std.specs.Prelude.{ℕ, ◌+◌, ◌-◌, ◌*◌, ◌/◌, ◌==◌, max, fold, map, sum_by, Bool, if◌then◌else◌, List, Some}
use Rattle.std.specs.List.{list_any}
use Rattle.un_isa.specs.PacketCounts.{resources, places_of}
use Rattle.un_isa.specs.declared.op.Op.TheVariants.{Spill, Reload, Enter, Leave}
use Rattle.un_isa.specs.declared.packet_counts.Resource.{Resource}
use Rattle.un_isa.specs.declared.table.Table.{Table}
use Rattle.un_ir.specs.Extended.{is_leave}
use Rattle.un_model.specs.Arcs.{own_instr}
use Rattle.un_model.specs.Solutions.{share_of}
use Rattle.un_sites.specs.Places.{Place}

-- what these operations take, of which those that a solution may leave out take nothing
abbrev pub own_share : Table → List Place → Resource → ℕ
own_share t ps r = sum_by (λ (p : Place). share_of t r (own_instr p.it)) ps

-- what so many Spills take, with the frame's Enter
abbrev pub spills_share : Table → ℕ → Resource → ℕ
spills_share t n r = if n == 0 then 0 else share_of t r (Some Enter) + n * share_of t r (Some Spill)

-- what so many Reloads take, with the frame's Leave where the block has one
abbrev pub reloads_share : Table → Bool → ℕ → Resource → ℕ
reloads_share t leaves n r =
    if n == 0 then 0 else (if leaves then share_of t r (Some Leave) else 0) + n * share_of t r (Some Reload)

-- a block has a Leave
abbrev pub has_leave : List Place → Bool
has_leave ps = list_any (λ (p : Place). is_leave p.it.kind) ps

-- the fewest cycles that have so much of a resource
abbrev pub cycles_for : Resource → ℕ → ℕ
cycles_for r n = (n + (places_of r - 1)) / places_of r

-- the fewest cycles that have what these operations with so many Spills and Reloads take
abbrev pub cycles_with : Table → List Place → Bool → ℕ → ℕ → ℕ
cycles_with t ps leaves spills reloads =
    fold max 0
    (map (λ (r : Resource). cycles_for r (own_share t ps r + (spills_share t spills r + reloads_share t leaves reloads r))) resources)
