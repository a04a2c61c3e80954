use Rattle.std.proofs.Common.{◌≡◌, drop, map, max}
use Rattle.std.specs.Prelude.{fold}
use Rattle.un_rooms.specs.declared.demands.Demand.{Demand}
use Rattle.un_rooms.proofs.demands.most.Given as goal

abbrev pub invariant-loop-d : goal.invariant-loop-d
invariant-loop-d l = record {
  spills : fold max l.spills (map (λ (d : Demand). d.asked.spills) (drop l.d-index l.demands))
      ≡ fold max l.fn.owed.spills (map (λ (d : Demand). d.asked.spills) l.demands);
  reloads : fold max l.reloads (map (λ (d : Demand). d.asked.reloads) (drop l.d-index l.demands))
      ≡ fold max l.fn.owed.reloads (map (λ (d : Demand). d.asked.reloads) l.demands);
}
