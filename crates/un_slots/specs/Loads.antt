-- What is known of packets before all is fixed: cycles that the items that are settled leave no room in are lost by the others.
use Rattle.std.specs.Prelude.{ℕ, zero, suc, ◌≡◌, ◌+◌, ◌≤◌, Bool, true, not, ◌&&◌, ◌||◌, if◌then◌else◌, List, [], ◌∷◌, length, sum_by}
use Rattle.std.specs.Prelude.{nat_eq, nat_le, nat_lt, Option, None, Some}
use Rattle.std.specs.List.{list_any, list_all, slice_get}
use Rattle.un_domains.specs.Sets.{Sets, set_at, has, least, cut_by}
use Rattle.un_prop.specs.Looks.{act_set, sure}
use Rattle.un_slots.specs.declared.item.Item.{Item}
use Rattle.un_isa.specs.declared.packet_counts.Resource.{Resource}
use Rattle.un_slots.specs.Slots.{share_at}
use Rattle.un_isa.specs.PacketCounts.{resources, places_of}

-- an item is settled where it is sure, has one cycle and one number left
abbrev pub is_settled : Sets → Item → Bool
is_settled s i = sure i.on s && (nat_eq (length (set_at s i.at.0)) 1 && nat_eq (length (act_set i.on s)) 1)

-- it is settled, and cycle c is that one
abbrev pub settled_at : Sets → ℕ → Item → Bool
settled_at s c i = is_settled s i && nat_eq (least (set_at s i.at.0)) c

-- how much of a resource the settled items take in cycle c
abbrev pub load_by : Resource → Sets → ℕ → Item → ℕ
load_by r s c i = if settled_at s c i then share_at r i.uses (least (act_set i.on s)) else 0

abbrev pub load : Resource → List Item → Sets → ℕ → ℕ
load r items s c = sum_by (load_by r s c) items

-- the items but the one at place k
abbrev pub others : ℕ → List Item → List Item
others k [] = []
others zero (i ∷ rest) = rest
others (suc k) (i ∷ rest) = i ∷ others k rest

-- number n of an item has needs, and they fit beside what is taken
abbrev pub fits_beside : (Resource → ℕ) → Item → ℕ → Bool
fits_beside f i n = nat_lt n (length i.uses) && list_all (λ r. nat_le (f r + share_at r i.uses n) (places_of r)) resources

-- they fit into cycle c beside what these items, where settled, take
abbrev pub fits : List Item → Item → Sets → ℕ → ℕ → Bool
fits items i s c = fits_beside (λ r. load r items s c) i

-- some number that is left fits
abbrev pub can_issue : List Item → Item → Sets → ℕ → Bool
can_issue items i s c = list_any (fits items i s c) (act_set i.on s)

-- a sure item keeps the cycles before the horizon into which some number fits beside the other items that are settled
abbrev pub slot_test : List Item → ℕ → ℕ → Item → Sets → ℕ → Bool
slot_test items horizon k i s c = not (sure i.on s) || (nat_lt c horizon && can_issue (others k items) i s c)

-- the item at place k, if there is one, keeps these cycles
abbrev pub slot_cut_of : List Item → ℕ → ℕ → Option Item → Sets → Option Sets
slot_cut_of items horizon k None s = Some s
slot_cut_of items horizon k (Some i) s = cut_by (slot_test items horizon k i s) i.at.0 s

abbrev pub slot_cut : List Item → ℕ → ℕ → Sets → Option Sets
slot_cut items horizon k s = slot_cut_of items horizon k (slice_get items k) s

-- into each cycle that is left for a sure item some number that is left fits beside the other items that are settled
abbrev pub SlotsStrong : List Item → Sets → Type 0
SlotsStrong items s =
    (k : ℕ) (i : Item) → slice_get items k ≡ Some i → sure i.on s ≡ true → (c : ℕ) → has (set_at s i.at.0) c ≡ true
    → (n : ℕ) × (has (act_set i.on s) n ≡ true) × ((r : Resource) → load r (others k items) s c + share_at r i.uses n ≤ places_of r)
