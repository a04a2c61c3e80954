-- Packets: in each cycle the active items take no more of each resource than a packet has.
use Rattle.std.specs.Prelude.{ℕ, zero, suc, ◌≡◌, ◌<◌, ◌≤◌, Bool, true, not, ◌&&◌, ◌||◌, if◌then◌else◌, List, [], ◌∷◌, length, sum_by}
use Rattle.std.specs.Prelude.{nat_eq, nat_le, nat_lt, slice_index, All}
use Rattle.std.specs.List.{list_all}
use Rattle.un_base.specs.declared.ids.VarId.{VarId}
use Rattle.un_isa.specs.declared.table.Needs.{Needs}
use Rattle.un_prop.specs.Among.{among, AllAmong}
use Rattle.un_prop.specs.Acts.{act_vars, act_number, is_active}
use Rattle.un_slots.specs.declared.item.Item.{Item}
use Rattle.un_isa.specs.declared.packet_counts.Resource.{Resource}
use Rattle.un_isa.specs.PacketCounts.{resources, places_of, share_of}

-- how much of a resource the entry at a place takes; nothing past the end
abbrev pub share_at : Resource → List Needs → ℕ → ℕ
share_at r [] n = 0
share_at r (u ∷ us) zero = share_of r u
share_at r (u ∷ us) (suc n) = share_at r us n

-- an item issues in cycle c
abbrev pub issues_at : ℕ → List ℕ → Item → Bool
issues_at c x i = is_active i.on x && nat_eq (slice_index x i.at.0) c

-- how much of a resource the items take in cycle c
abbrev pub taken_by : Resource → ℕ → List ℕ → Item → ℕ
taken_by r c x i = if issues_at c x i then share_at r i.uses (act_number i.on x) else 0

abbrev pub taken : Resource → List Item → List ℕ → ℕ → ℕ
taken r items x c = sum_by (taken_by r c x) items

-- in cycle c they take no more than a packet has
abbrev pub has_room : List Item → List ℕ → ℕ → Bool
has_room items x c = list_all (λ r. nat_le (taken r items x c) (places_of r)) resources

-- an item is not active; or its cycle is before the horizon and has room, and there are needs for its number
abbrev pub item_holds : List Item → ℕ → List ℕ → Item → Bool
item_holds items horizon x i =
    not (is_active i.on x) || (nat_lt (slice_index x i.at.0) horizon && (nat_lt (act_number i.on x) (length i.uses)
    && has_room items x (slice_index x i.at.0)))

abbrev pub per_cycle_holds : List Item → ℕ → List ℕ → Bool
per_cycle_holds items horizon x = list_all (item_holds items horizon x) items

-- the same as relations: in every cycle all resources suffice, no active item issues at or past the horizon, and there are needs
-- for its number
pub record FitsCycles (items : List Item) (horizon : ℕ) (x : List ℕ) : Type 0 where
  pub room : (r : Resource) (c : ℕ) → taken r items x c ≤ places_of r
  pub early : All (λ (i : Item). is_active i.on x ≡ true → slice_index x i.at.0 < horizon) items
  pub known : All (λ (i : Item). is_active i.on x ≡ true → act_number i.on x < length i.uses) items

-- the items' variables stand in the list
pub record ItemVars (vs : List VarId) (i : Item) : Type 0 where
  pub of_on : AllAmong vs (act_vars i.on)
  pub of_at : among vs i.at ≡ true

abbrev pub SlotVars : List VarId → List Item → Type 0
SlotVars vs items = All (ItemVars vs) items
