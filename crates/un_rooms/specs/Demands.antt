-- What an operation asks of its block.
use Rattle.std.specs.Prelude.{ℕ, ◌+◌, Bool, List, fold, map, max, if◌then◌else◌}
use Rattle.un_isa.specs.declared.table.Table.{Table}
use Rattle.un_ir.specs.Linear.{is_out}
use Rattle.un_length.specs.declared.block.Task.{Task}
use Rattle.un_model.specs.Arcs.{own_instr}
use Rattle.un_model.specs.Instructions.{needs_by}
use Rattle.un_model.specs.declared.model.Arc.{Arc}
use Rattle.un_rooms.specs.declared.demands.Demand.{Demand}
use Rattle.un_sites.specs.Crossings.{spills_at, reloads_at}
use Rattle.un_sites.specs.Lengths.{is_asking, owed_head, asked_head, tail_in, var_in}
use Rattle.un_sites.specs.Places.{Place, time_of}
use Rattle.un_sites.specs.Shares.{has_leave, cycles_with}
use Rattle.un_sites.specs.declared.edges.Accesses.{Accesses}

-- nothing, where an operation does not ask
abbrev pub if_asking : ℕ → List Place → Place → ℕ → ℕ
if_asking room ps p n = if is_asking room ps p then n else 0

abbrev pub demand_of : Table → ℕ → Bool → List Arc → List Place → Place → Demand
demand_of t room is_entry arcs ps p = record {
  head = if_asking room ps p (asked_head t room is_entry arcs ps p);
  tail = tail_in t room arcs ps p;
  asked = record {
    spills = if_asking room ps p (spills_at t room is_entry arcs ps p);
    reloads = if_asking room ps p (reloads_at t room arcs ps p);
  };
}

-- the head of the end of a block that owes so much and of which the operations ask for this
abbrev pub end_by : Table → Accesses → List Place → List Demand → ℕ
end_by t owed ps demands =
    max (cycles_with t ps (has_leave ps) (fold max owed.spills (map (λ (d : Demand). d.asked.spills) demands))
    (fold max owed.reloads (map (λ (d : Demand). d.asked.reloads) demands)) + 1) (owed_head t owed)

-- an operation as what takes a place before the end, with these margins
abbrev pub task_with : Table → Place → ℕ → ℕ → Task
task_with t p tail head = record { at = var_in (time_of p); head = head; tail = tail; needs = needs_by t (own_instr p.it) }

-- and as what asks for this in a block whose end has the head `end`
abbrev pub task_by : Table → ℕ → Place → Demand → Task
task_by t end p d = task_with t p d.tail (if is_out p.it.kind then end else d.head)
