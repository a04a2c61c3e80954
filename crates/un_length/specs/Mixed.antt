-- What cycles lose where few operations of a sort may issue in them: where all that may issue in a cycle are loads and stores it holds two
-- of them, and has two places for none. With what its cycles lose an interval has less room.
use Rattle.std.specs.Prelude.{ℕ, ◌≡◌, ◌+◌, ◌-◌, ◌*◌, ◌^◌, Bool, not, ◌&&◌, ◌||◌, if◌then◌else◌, List, length, min, nat_le, nat_lt}
use Rattle.std.specs.Prelude.{slice_index}
use Rattle.un_isa.specs.declared.packet_counts.Resource.{Resource}
use Rattle.un_isa.specs.declared.packet_counts.Resource.TheVariants.{Instructions, Memory, Stores, MultiplyOrControl, Control}
use Rattle.un_isa.specs.PacketCounts.{places_of}
use Rattle.un_slots.specs.Crowds.{all_below}
use Rattle.un_slots.specs.Counts.{sum_from}
use Rattle.un_length.specs.declared.block.Task.{Task}
use Rattle.un_length.specs.declared.mixed.Sort.{Sort}
use Rattle.un_length.specs.declared.mixed.Sort.TheVariants.{First, Both, Neither}
use Rattle.un_length.specs.Sums.{count_below}
use Rattle.un_length.specs.Rooms.{takes, crowd, have_room}
use Rattle.un_length.specs.Counting.{starts}

-- the operation at a place may issue in cycle q
abbrev pub may_issue : (ℕ → ℕ) → (ℕ → ℕ) → ℕ → ℕ → Bool
may_issue early late q i = nat_le (early i) q && nat_le q (late i)

-- how many operations of a sort may
abbrev pub issuable : (ℕ → Bool) → List Task → (ℕ → ℕ) → (ℕ → ℕ) → ℕ → ℕ
issuable sort ops early late q = count_below (λ i. sort i && may_issue early late q i) (length ops)

-- sorts by two resources: those that take some of the first and none of the second, some of both, none of either
abbrev pub passes : Sort → Bool → Bool → Bool
passes First a b = a && not b
passes Both a b = a && b
passes Neither a b = not a && not b

abbrev pub is_of : Sort → Resource → Resource → List Task → ℕ → Bool
is_of sort r s ops i = passes sort (takes r ops i) (takes s ops i)

-- how many of those that take some of a resource a cycle can hold, where some of them take a scarcer one too
abbrev pub holds_of : Resource → Resource → List Task → (ℕ → ℕ) → (ℕ → ℕ) → ℕ → ℕ
holds_of r s ops early late q = min (places_of r)
    (issuable (is_of First r s ops) ops early late q + min (places_of s) (issuable (is_of Both r s ops) ops early late q))

-- how many operations it can hold, and how many of its places it loses so
abbrev pub holds_at : List Task → (ℕ → ℕ) → (ℕ → ℕ) → ℕ → ℕ
holds_at ops early late q = min (places_of Instructions) (issuable (is_of Neither Memory MultiplyOrControl ops) ops early late q
    + (holds_of Memory Stores ops early late q + holds_of MultiplyOrControl Control ops early late q))

abbrev pub lost_at : List Task → (ℕ → ℕ) → (ℕ → ℕ) → ℕ → ℕ
lost_at ops early late q = places_of Instructions - holds_at ops early late q

-- the operations whose cycles all lie in an interval, and what its cycles lose, are no more than its packets have
abbrev pub mix_fits : List Task → (ℕ → ℕ) → (ℕ → ℕ) → ℕ → ℕ → Bool
mix_fits ops early late high low =
    nat_le (crowd Instructions ops early late low high + sum_from (lost_at ops early late) low (high + 1 - low))
    (places_of Instructions * (high + 1 - low))

-- so it is in all intervals that end with a cycle, and in all before the horizon
abbrev pub mixed_end_fits : List Task → (ℕ → ℕ) → (ℕ → ℕ) → ℕ → Bool
mixed_end_fits ops early late high = all_below (mix_fits ops early late high) (high + 1)

abbrev pub mixes_fit : List Task → ℕ → (ℕ → ℕ) → (ℕ → ℕ) → Bool
mixes_fit ops horizon early late = all_below (mixed_end_fits ops early late) horizon

-- the operations, and a packet of them more, are more than a number of 32 bits can count
abbrev pub are_countless : List Task → Bool
are_countless ops = nat_le (2 ^ 32) (length ops + places_of Instructions)

-- where numbers count them, it is so in all
abbrev pub mixed_room : List Task → ℕ → (ℕ → ℕ) → (ℕ → ℕ) → Bool
mixed_room ops horizon early late = are_countless ops || mixes_fit ops horizon early late

-- what the code counts: at each cycle stands how many have it as their earliest, of those that end before `end`, and before `end` what the
-- cycle loses
abbrev pub AreMixed : List Task → (ℕ → ℕ) → (ℕ → ℕ) → ℕ → List ℕ → Type 0
AreMixed ops early late end counts = (c : ℕ) → slice_index counts c
    ≡ count_below (starts Instructions ops early late end c) (length ops) + (if nat_lt c end then lost_at ops early late c else 0)

-- the operations have room, with what cycles lose
abbrev pub fit_mixed : List Task → ℕ → (ℕ → ℕ) → (ℕ → ℕ) → Bool
fit_mixed ops horizon early late = have_room ops horizon early late && mixed_room ops horizon early late
