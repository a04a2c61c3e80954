-- The amounts of resources that a load has.
use Rattle.std.specs.Prelude.{ℕ, ◌≡◌, ◌-◌, ◌^◌, min}
use Rattle.un_isa.specs.declared.packet_counts.Resource.{Resource}
use Rattle.un_isa.specs.declared.packet_counts.Resource.TheVariants.{Instructions, Memory, Stores, MultiplyOrControl, Control}
use Rattle.un_slots.specs.declared.load.Load.{Load}

-- how much of a resource is taken
abbrev pub amount : Resource → Load → ℕ
amount Instructions l = l.instructions
amount Memory l = l.mem
amount Stores l = l.store
amount MultiplyOrControl l = l.xc
amount Control l = l.control

-- these amounts are taken, as far as a number reaches
abbrev pub IsLoad : Load → (Resource → ℕ) → Type 0
IsLoad l f = (r : Resource) → min (amount r l) (2 ^ 32 - 1) ≡ min (f r) (2 ^ 32 - 1)
