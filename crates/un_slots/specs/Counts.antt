-- What the code counts: the items that surely take some of a resource, by their last cycles and by their least.
use Rattle.std.specs.Prelude.{ℕ, zero, suc, ◌≡◌, ◌<◌, ◌+◌, Bool, ◌&&◌, if◌then◌else◌, List, sum_by, nat_eq, nat_lt, slice_index}
use Rattle.un_domains.specs.Sets.{Sets, set_at, least, greatest}
use Rattle.un_slots.specs.declared.item.Item.{Item}
use Rattle.un_isa.specs.declared.packet_counts.Resource.{Resource}
use Rattle.un_slots.specs.Crowds.{surely_takes, all_below, crowd_fits}

-- whether an item surely takes some and has this cycle as its last
abbrev pub ends_at : Resource → Sets → ℕ → Item → Bool
ends_at r s high i = surely_takes r s i && nat_eq (greatest (set_at s i.at.0)) high

-- an item counted at its least cycle
abbrev pub at_least : Sets → ℕ → Item → ℕ
at_least s c i = if nat_eq (least (set_at s i.at.0)) c then 1 else 0

-- such an item as a number; and counted at its least cycle
abbrev pub ending : Resource → Sets → ℕ → Item → ℕ
ending r s high i = if ends_at r s high i then 1 else 0

abbrev pub adds : Resource → ℕ → Sets → ℕ → Item → ℕ
adds r high s c i = if surely_takes r s i && (nat_eq (least (set_at s i.at.0)) c && nat_eq (greatest (set_at s i.at.0)) high) then 1 else 0

-- an item that surely takes some and has no cycle from `end` on, as a number; and counted at its least cycle
abbrev pub ended : Resource → ℕ → Sets → Item → ℕ
ended r end s i = if surely_takes r s i && nat_lt (greatest (set_at s i.at.0)) end then 1 else 0

abbrev pub starts : Resource → ℕ → Sets → ℕ → Item → ℕ
starts r end s c i = if surely_takes r s i && (nat_eq (least (set_at s i.at.0)) c && nat_lt (greatest (set_at s i.at.0)) end) then 1 else 0

-- the items are counted at their least cycles, those before `end`
abbrev pub AreCounts : Resource → List Item → ℕ → Sets → List ℕ → Type 0
AreCounts r items end s cycles = (c : ℕ) → c < end → slice_index cycles c ≡ sum_by (starts r end s c) items

-- the sum of n numbers from low on
abbrev pub sum_from : (ℕ → ℕ) → ℕ → ℕ → ℕ
sum_from f low zero = 0
sum_from f low (suc n) = f low + sum_from f (suc low) n

-- all intervals that end with a cycle have room
abbrev pub end_fits : Resource → List Item → Sets → ℕ → Bool
end_fits r items s high = all_below (crowd_fits r items s high) (high + 1)
