-- The laws of the propagator of packets.
use Rattle.std.proofs.Common.{ℕ, ◌≡◌, true, List, length, Some}
use Rattle.un_base.specs.declared.ids.VarId.{VarId}
use Rattle.un_domains.specs.Sets.{Sets, IsIn, NoneEmpty, Kept}
use Rattle.un_prop.specs.Rounds.{HasVars}
use Rattle.un_prop.specs.Lawful.{Lawful}
use Rattle.un_prop.specs.Steps.{lawful_then}
use Rattle.un_prop.specs.Places.{each_place}
use Rattle.un_prop.specs.ChainLaws.{then_kept, known_in, stable_then}
use Rattle.un_slots.specs.declared.item.Item.{Item}
use Rattle.un_slots.specs.Slots.{SlotVars, per_cycle_holds}
use Rattle.un_slots.specs.Loads.{slot_cut, SlotsStrong}
use Rattle.un_slots.specs.LoadLaws.{slots_lawful, slots_keeps, slots_strong}
use Rattle.un_slots.specs.Crowds.{crowd_cut, per_cycle_steps}
use Rattle.un_slots.specs.CrowdLaws.{crowd_lawful, crowd_keeps}

module _ (vs : List VarId) (items : List Item) (horizon : ℕ) (among_all : SlotVars vs items) where
  slots : Lawful vs (each_place (slot_cut items horizon) (length items))
  slots = slots_lawful vs items horizon among_all (length items)

  pub steps_lawful : Lawful vs (per_cycle_steps vs items horizon)
  steps_lawful = lawful_then vs (each_place (slot_cut items horizon) (length items)) (crowd_cut vs items horizon) slots
      (crowd_lawful vs items horizon among_all)

  pub steps_keeps : (s : Sets) (x : List ℕ) → HasVars vs s → IsIn x s → per_cycle_holds items horizon x ≡ true
      → Kept x (per_cycle_steps vs items horizon s)
  steps_keeps s x known there holds = then_kept (crowd_cut vs items horizon) x (each_place (slot_cut items horizon) (length items) s)
      (slots_keeps vs items horizon among_all (length items) s x known there holds)
      (λ m in_m. crowd_keeps vs items horizon among_all m x (known_in vs s m x there in_m known) in_m holds)

  pub steps_strong : (s : Sets) → HasVars vs s → NoneEmpty s → per_cycle_steps vs items horizon s ≡ Some s → SlotsStrong items s
  steps_strong s known full stable = slots_strong vs items horizon among_all s known full
      (stable_then vs (each_place (slot_cut items horizon) (length items)) (crowd_cut vs items horizon) slots
      (crowd_lawful vs items horizon among_all) s known full stable).0
