-- The plan that spills every name is a solution.
use Rattle.std.proofs.Common.{◌≡◌, ℕ, List}
use Rattle.un_model.specs.declared.model.Model.{Model}
use Rattle.un_model.specs.Solutions.{IsSolution}
use Rattle.un_baseline.specs.RoomyOptions.{IsSpillable}
use Rattle.un_baseline.specs.SpillEverywhere.{spilled_values}
use Rattle.un_baseline.proofs.Kept.{zeros_of_model, memory_of_model, packets_of_model, choices_of_model, spaces_of_model, homes_of_model}
use Rattle.un_baseline.proofs.Kept.{registers_of_model, congruences_of_model}
use Rattle.un_baseline.proofs.FrameKept.{latencies_of_model, frame_of_model, domains_of_model}

module _ (m : Model) (h : IsSpillable m) (values : List ℕ) (same : values ≡ spilled_values m.ext) where
  pub solution_of_model : IsSolution m (record { values = values })
  solution_of_model = record {
    in_domains = domains_of_model m h values same;
    zeros = zeros_of_model m h values same;
    choices = choices_of_model m h values same;
    spaces = spaces_of_model m h values same;
    latencies = latencies_of_model m h values same;
    memory = memory_of_model m h values same;
    registers = registers_of_model m h values same;
    packets = packets_of_model m h values same;
    homes = homes_of_model m h values same;
    congruences = congruences_of_model m h values same;
    frame = frame_of_model m h values same;
  }
