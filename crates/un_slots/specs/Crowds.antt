-- Crowds: where the sure items whose cycles all lie in an interval need more of a resource than its packets have, nothing holds.
use Rattle.std.specs.Prelude.{ℕ, zero, suc, ◌+◌, ◌-◌, ◌*◌, ◌^◌, Bool, true, not, ◌&&◌, if◌then◌else◌, List}
use Rattle.std.specs.Prelude.{take, sum_by, nat_eq, nat_le, length, option_and_then}
use Rattle.std.specs.declared.option.Option.{Option}
use Rattle.std.specs.List.{list_any, list_all}
use Rattle.un_base.specs.declared.ids.VarId.{VarId}
use Rattle.un_domains.specs.Sets.{Sets, set_at, least, greatest}
use Rattle.un_prop.specs.Failing.{first_cut}
use Rattle.un_prop.specs.Looks.{act_set, sure}
use Rattle.un_prop.specs.Places.{each_place}
use Rattle.un_slots.specs.declared.item.Item.{Item}
use Rattle.un_isa.specs.declared.packet_counts.Resource.{Resource}
use Rattle.un_slots.specs.Slots.{share_at}
use Rattle.un_slots.specs.Loads.{slot_cut}
use Rattle.un_isa.specs.PacketCounts.{resources, places_of}

-- an item surely takes some of a resource: it is sure, and no number that is left takes none
abbrev pub surely_takes : Resource → Sets → Item → Bool
surely_takes r s i = sure i.on s && not (list_any (λ n. nat_eq (share_at r i.uses n) 0) (act_set i.on s))

-- all its cycles are from low to high
abbrev pub lies_in : ℕ → ℕ → Sets → Item → Bool
lies_in low high s i = nat_le low (least (set_at s i.at.0)) && nat_le (greatest (set_at s i.at.0)) high

-- how many items surely take some of it in this interval
abbrev pub crowded : Resource → ℕ → ℕ → Sets → Item → ℕ
crowded r low high s i = if surely_takes r s i && lies_in low high s i then 1 else 0

abbrev pub crowd : Resource → List Item → ℕ → ℕ → Sets → ℕ
crowd r items low high s = sum_by (crowded r low high s) items

-- they are no more than the packets of the interval have
abbrev pub crowd_fits : Resource → List Item → Sets → ℕ → ℕ → Bool
crowd_fits r items s high low = nat_le (crowd r items low high s) (places_of r * (high + 1 - low))

-- all numbers below n pass
abbrev pub all_below : (ℕ → Bool) → ℕ → Bool
all_below p zero = true
all_below p (suc n) = all_below p n && p n

-- the items that are counted: as many as a number can say
abbrev pub counted : List Item → List Item
counted items = take (2 ^ 32 - 1) items

-- in no interval before the horizon there are more
abbrev pub crowds_fit : List Item → ℕ → Sets → Bool
crowds_fit items horizon s =
    list_all (λ r. all_below (λ high. all_below (crowd_fits r (counted items) s high) (high + 1)) horizon) resources

-- it fails where in some interval there are more
abbrev pub crowd_cut : List VarId → List Item → ℕ → Sets → Option Sets
crowd_cut vs items horizon s = first_cut (λ s c. crowds_fit items horizon s) vs s

-- all that is known before all but one is fixed
abbrev pub per_cycle_steps : List VarId → List Item → ℕ → Sets → Option Sets
per_cycle_steps vs items horizon s = option_and_then (crowd_cut vs items horizon) (each_place (slot_cut items horizon) (length items) s)
