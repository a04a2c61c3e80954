-- Where Loads, Stores and Calls keep their order, an assignment is a solution that costs less than a limit exactly where it meets
-- what is posted.
use Rattle.std.proofs.Common.{ℕ, ◌↔◌, ◌<◌}
use Rattle.std.specs.Prelude.{Option, IfSome}
use Rattle.un_ir.specs.declared.extended.Ext.{Ext}
use Rattle.un_model.specs.declared.model.Options.{Options}
use Rattle.un_model.specs.declared.model.Solution.{Solution}
use Rattle.un_model.specs.Cost.{cost_of}
use Rattle.un_model.specs.Schedules.{schedule_of}
use Rattle.un_model.specs.Solutions.{IsSolution, KeepsMemory}
use Rattle.un_model.specs.Variables.{model_of}
use Rattle.un_kinds.specs.Constraints.{AllMet}
use Rattle.un_sites.specs.Postings.{postings_of}
use Rattle.un_sites.specs.Rooms.{rooms_of}
use Rattle.un_post.proofs.Facts.{Given}
use Rattle.un_post.proofs.OfRooms.{rooms_met, rooms_kept}
use Rattle.un_post.proofs.Posted.{posted}

pub solved_by : (e : Ext) (o : Options) (limit : Option ℕ) (s : Solution) → Given e o s.values
    → KeepsMemory (schedule_of (model_of e o) s.values)
    → (IsSolution (model_of e o) s × IfSome limit (λ n. cost_of (model_of e o) s < n))
    ↔ (AllMet (postings_of (model_of e o) limit) s.values × AllMet (rooms_of (model_of e o)) s.values)
solved_by e o limit s given memory =
    let rest = posted e o limit s given in (
      λ h.
          let t = h.0 in (
            rest.0 (record {
              singly = record { zeros = t.zeros; choices = t.choices; spaces = t.spaces; latencies = t.latencies; homes = t.homes };
              congruences = t.congruences;
              frame = t.frame;
              cheaper = h.1;
            }),
            rooms_met e o s.values given t,
          ),
      λ h.
          let k = rest.1 h.0 in
          let one = k.singly in
          let rooms = rooms_kept e o s.values given h.1 in (
            record {
              in_domains = given.domains;
              zeros = one.zeros;
              choices = one.choices;
              spaces = one.spaces;
              latencies = one.latencies;
              memory = memory;
              registers = rooms.0;
              packets = rooms.1;
              homes = one.homes;
              congruences = k.congruences;
              frame = k.frame;
            },
            k.cheaper,
          ),
    )
