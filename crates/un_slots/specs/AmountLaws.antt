-- Laws of the amounts of resources that a load has.
use Rattle.std.proofs.Common.{ℕ, ◌≡◌, ◌≤◌, ◌-◌, ◌^◌, ◌∙◌, nat_le, min, ap, arith}
use Rattle.std.specs.List.{list_all}
use Rattle.std.proofs.lemmas.Bool.Decides.{nat_tests}
use Rattle.un_domains.specs.OrderLaws.{same_test}
use Rattle.un_isa.specs.declared.packet_counts.Resource.{Resource}
use Rattle.un_isa.specs.declared.packet_counts.Resource.TheVariants.{Instructions, Memory, Stores, MultiplyOrControl, Control}
use Rattle.un_slots.specs.declared.load.Load.{Load}
use Rattle.un_isa.specs.PacketCounts.{resources, places_of}
use Rattle.un_slots.specs.SlotLaws.{for_each, of_each}
use Rattle.un_slots.specs.Amounts.{amount, IsLoad}

pub load_as : (l : Load) (f g : Resource → ℕ) → IsLoad l f → ((r : Resource) → f r ≡ g r) → IsLoad l g
load_as l f g h same r = h r ∙ ap (λ (n : ℕ). min n (2 ^ 32 - 1)) (same r)

few : (r : Resource) → places_of r ≤ 4
few Instructions = omega arith
few Memory = omega arith
few Stores = omega arith
few MultiplyOrControl = omega arith
few Control = omega arith

-- a load is within what a packet has where its amounts are
pub within_is : (l : Load) (f : Resource → ℕ) → IsLoad l f → list_all (λ r. nat_le (amount r l) (places_of r)) resources ≡ list_all
    (λ r. nat_le (f r) (places_of r)) resources
within_is l f h = same_test _ _
    (λ all. for_each (λ r. nat_le (f r) (places_of r)) (λ r. (
    let le = of_each (λ r. nat_le (amount r l) (places_of r)) all r in
    let less : amount r l ≤ places_of r = grind (arith, nat_tests, le) in
    let small = few r in
    let same = h r in
    let done : f r ≤ places_of r = omega (arith, less, small, same) in
    grind (arith, nat_tests, done))))
    (λ all. for_each (λ r. nat_le (amount r l) (places_of r)) (λ r. (
    let le = of_each (λ r. nat_le (f r) (places_of r)) all r in
    let less : f r ≤ places_of r = grind (arith, nat_tests, le) in
    let small = few r in
    let same = h r in
    let done : amount r l ≤ places_of r = omega (arith, less, small, same) in
    grind (arith, nat_tests, done))))
