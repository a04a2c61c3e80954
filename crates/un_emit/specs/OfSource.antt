-- Which extended function is one of a source, and what code owes such sources.
use Rattle.std.specs.Prelude.{ℕ, ◌≡◌, List, map, length}
use Rattle.un_base.specs.declared.ids.NameId.{NameId}
use Rattle.un_isa.specs.declared.reg.TheConstants.{REGISTERS}
use Rattle.un_isa.specs.declared.start.Start.{Start}
use Rattle.un_ir.specs.declared.extended.Ext.{Ext}
use Rattle.un_ir.specs.declared.extended.ExtBlock.{ExtBlock}
use Rattle.un_ir.specs.declared.function.Block.{Block}
use Rattle.un_ir.specs.declared.function.Function.{Function}
use Rattle.un_ir.specs.Linear.{linear_run}
use Rattle.un_ir.specs.LinearOf.{kind_of_pair, AreLive}
use Rattle.un_ir.specs.Runs.{as_linear}
use Rattle.un_ir.specs.Source.{source_run}
use Rattle.un_model.specs.declared.model.Model.{Model}
use Rattle.un_model.specs.declared.model.Solution.{Solution}
use Rattle.un_model.specs.Cost.{cost_of}
use Rattle.un_packet.specs.declared.code.Code.{Code}
use Rattle.un_simulation.specs.Count.{count_of}
use Rattle.un_simulation.specs.Simulation.{Simulates}
use Rattle.un_emit.specs.Emitted.{start_places}

-- the extended function is one of this source, whose names are live as the lists have it: from each start it comes to what the
-- source comes to, and its blocks have the source's labels and frequencies and begin with the values of the live names
pub record IsOfSource (f : Function) (lists : List (List NameId)) (e : Ext) : Type 0 where
  pub runs : (start : Start) (n : ℕ) → length start.regs ≡ REGISTERS
      → linear_run e.table e.blocks start n ≡ as_linear e.table start lists (source_run f start n)
  pub labels : map (λ (b : ExtBlock). b.label) e.blocks ≡ map (λ (b : Block). b.label) f.blocks
  pub frequencies : map (λ (b : ExtBlock). b.freq) e.blocks ≡ map (λ (b : Block). b.freq) f.blocks
  pub kinds : e.names ≡ map kind_of_pair f.names
  pub live : AreLive f.blocks lists
  pub live_in : map (λ (b : ExtBlock). b.live_in) e.blocks ≡ lists

-- For each source of the model's extended function the code does what the source does, with the names in the places that the
-- solution gives them, and its packets, as often as they run, are what the solution costs.
pub record IsRightFor (m : Model) (s : Solution) (code : Code) : Type 0 where
  pub simulates : (f : Function) (lists : List (List NameId)) → IsOfSource f lists m.ext
      → Simulates m.ext.table f (start_places m s.values) code
  pub counted : (f : Function) (lists : List (List NameId)) → IsOfSource f lists m.ext → count_of f code ≡ cost_of m s
