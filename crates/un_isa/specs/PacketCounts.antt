-- What one packet holds.
use Rattle.std.specs.Prelude.{ℕ, ◌≤◌, List, [], ◌∷◌, length, sum_by}
use Rattle.un_isa.specs.declared.packet_counts.TheConstants.{PACKET, MEM_PLACES, STORE_PLACES, XC_PLACES, CONTROL_PLACES}
use Rattle.un_isa.specs.declared.packet_counts.Resource.{Resource}
use Rattle.un_isa.specs.declared.packet_counts.Resource.TheVariants.{Instructions, Memory, Stores, MultiplyOrControl, Control}
use Rattle.un_isa.specs.declared.table.Needs.{Needs}

-- all resources
abbrev pub resources : List Resource
resources = Instructions ∷ Memory ∷ Stores ∷ MultiplyOrControl ∷ Control ∷ []

-- how much of a resource a packet has
abbrev pub places_of : Resource → ℕ
places_of Instructions = PACKET
places_of Memory = MEM_PLACES
places_of Stores = STORE_PLACES
places_of MultiplyOrControl = XC_PLACES
places_of Control = CONTROL_PLACES

-- how much of it an instruction with these needs takes
abbrev pub share_of : Resource → Needs → ℕ
share_of Instructions n = 1
share_of Memory n = n.mem
share_of Stores n = n.store
share_of MultiplyOrControl n = n.xc
share_of Control n = n.control

-- instructions with these needs have room in one packet
pub record FitPacket (needs : List Needs) : Type 0 where
  pub instructions : length needs ≤ PACKET
  pub mem : sum_by (λ (n : Needs). n.mem) needs ≤ MEM_PLACES
  pub store : sum_by (λ (n : Needs). n.store) needs ≤ STORE_PLACES
  pub xc : sum_by (λ (n : Needs). n.xc) needs ≤ XC_PLACES
  pub control : sum_by (λ (n : Needs). n.control) needs ≤ CONTROL_PLACES
