-- Whether operations have room between their earliest and their latest cycles.
use Rattle.std.specs.Prelude.{ℕ, ◌+◌, ◌-◌, ◌*◌, Bool, ◌&&◌, List, length, nat_le, nat_lt}
use Rattle.std.specs.List.{list_all}
use Rattle.un_isa.specs.declared.packet_counts.Resource.{Resource}
use Rattle.un_isa.specs.PacketCounts.{resources, places_of, share_of}
use Rattle.un_slots.specs.Crowds.{all_below}
use Rattle.un_length.specs.declared.block.Task.{Task}
use Rattle.un_length.specs.Places.{at_place}
use Rattle.un_length.specs.Sums.{count_below}

-- the operation at a place takes some of a resource
abbrev pub takes : Resource → List Task → ℕ → Bool
takes r ops i = nat_lt 0 (at_place (λ t. share_of r t.needs) ops i)

-- it takes some, and all its cycles are from low to high
abbrev pub lies_in : Resource → List Task → (ℕ → ℕ) → (ℕ → ℕ) → ℕ → ℕ → ℕ → Bool
lies_in r ops early late low high i = takes r ops i && (nat_le low (early i) && nat_le (late i) high)

-- how many such operations there are
abbrev pub crowd : Resource → List Task → (ℕ → ℕ) → (ℕ → ℕ) → ℕ → ℕ → ℕ
crowd r ops early late low high = count_below (lies_in r ops early late low high) (length ops)

-- they are no more than the packets of the interval have
abbrev pub crowd_fits : Resource → List Task → (ℕ → ℕ) → (ℕ → ℕ) → ℕ → ℕ → Bool
crowd_fits r ops early late high low = nat_le (crowd r ops early late low high) (places_of r * (high + 1 - low))

-- so it is in all intervals that end with a cycle
abbrev pub end_fits : Resource → List Task → (ℕ → ℕ) → (ℕ → ℕ) → ℕ → Bool
end_fits r ops early late high = all_below (crowd_fits r ops early late high) (high + 1)

-- no operation's earliest cycle is after its latest, and in no interval before the horizon there are more than its packets have
abbrev pub in_order : List Task → (ℕ → ℕ) → (ℕ → ℕ) → Bool
in_order ops early late = all_below (λ i. nat_le (early i) (late i)) (length ops)

abbrev pub all_fit : List Task → ℕ → (ℕ → ℕ) → (ℕ → ℕ) → Bool
all_fit ops horizon early late = list_all (λ r. all_below (end_fits r ops early late) horizon) resources

abbrev pub have_room : List Task → ℕ → (ℕ → ℕ) → (ℕ → ℕ) → Bool
have_room ops horizon early late = in_order ops early late && all_fit ops horizon early late
