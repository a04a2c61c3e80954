-- The code of a solution is right for each source of the extended function.
use Rattle.std.proofs.Common.{ℕ, ◌≡◌, ◌≢◌, List, map, sym, ap, ◌∙◌, subst}
use Rattle.un_base.specs.declared.ids.NameId.{NameId}
use Rattle.un_isa.specs.Fit.{IsFit}
use Rattle.un_ir.specs.declared.extended.ExtBlock.{ExtBlock}
use Rattle.un_ir.specs.declared.function.Function.{Function}
use Rattle.un_ir.specs.Extended.{IsExtended}
use Rattle.un_model.specs.declared.model.Model.{Model}
use Rattle.un_model.specs.declared.model.Solution.{Solution}
use Rattle.un_model.specs.Cost.{blocks_cost, cost_of}
use Rattle.un_model.specs.Options.{AreOptions}
use Rattle.un_model.specs.Solutions.{IsSolution}
use Rattle.un_model.specs.Variables.{IsModel, model_of}
use Rattle.un_packet.specs.declared.code.Code.{Code}
use Rattle.un_packet.specs.declared.code.CodeBlock.{CodeBlock}
use Rattle.un_simulation.specs.Count.{count_of}
use Rattle.un_simulation.specs.Simulation.{Simulates}
use Rattle.un_emit.specs.Emitted.{packet_cost, IsEmitted, start_places}
use Rattle.un_emit.specs.OfSource.{IsOfSource, IsRightFor}
use Rattle.un_emit.proofs.Codes.{labels_kept}
use Rattle.un_emit.proofs.Costs.{cost_is}
use Rattle.un_emit.proofs.Counts.{Apart, counted}
use Rattle.un_lists.proofs.Lists.{Pairwise, Member, each_of, pairwise_all, pairwise_map, pairwise_of_map}
use Rattle.un_emit.proofs.Simulating.{simulates}
use Rattle.un_emit.proofs.SolvedModels.{solved}

module _ (m : Model) (s : Solution) (own : IsModel m) (code : Code) (is : IsEmitted m s.values code) where
  emitted : IsEmitted (model_of m.ext m.options) s.values code
  emitted = subst (λ (x : Model). IsEmitted x s.values code) own is

  -- what the solution costs is the number of the code's packets, each as often as its block runs
  pub costs_packets : cost_of m s ≡ packet_cost m.ext.blocks code.blocks
  costs_packets =
      ap (λ (x : Model). blocks_cost s.values m.ext.blocks x.blocks) own
      ∙ sym (cost_is m.ext m.options s.values)
      ∙ ap (packet_cost m.ext.blocks) (let k = emitted in sym k.blocks)

  code_labels : map (λ (c : CodeBlock). c.label) code.blocks ≡ map (λ (b : ExtBlock). b.label) m.ext.blocks
  code_labels =
      ap (map (λ (c : CodeBlock). c.label)) (let k = emitted in k.blocks)
      ∙ labels_kept (model_of m.ext m.options) s.values 0 m.ext.blocks

  abbrev Differs : List ℕ → List ℕ → Type 0
  Differs x y = x ≢ y

  apart : IsExtended m.ext → Pairwise Apart code.blocks
  apart extended =
      let g = extended.good in
      let blocks = pairwise_all (λ (a b : ExtBlock). a.label ≢ b.label) m.ext.blocks g.distinct_labels in
      let labels = pairwise_map Differs (λ (b : ExtBlock). b.label) m.ext.blocks blocks in
      pairwise_of_map Differs (λ (c : CodeBlock). c.label) code.blocks (subst (Pairwise Differs) (sym code_labels) labels)

  -- and so it is what the packets come to under the source's labels
  pub counts_packets : IsExtended m.ext → (f : Function) (lists : List (List NameId)) → IsOfSource f lists m.ext
      → count_of f code ≡ cost_of m s
  counts_packets extended f lists of =
      counted code.blocks (apart extended) f.blocks m.ext.blocks code.blocks
      (each_of (λ (c : CodeBlock). Member c code.blocks) code.blocks (λ c mem. mem)) of.frequencies of.labels code_labels
      ∙ sym costs_packets

  -- the code does what the source does and has the solution's cost
  pub right : IsExtended m.ext → IsFit m.ext.table → AreOptions m.options → IsSolution m s → IsRightFor m s code
  right extended fit options solution = record {
    simulates = λ f lists of.
        subst (λ (x : Model). Simulates m.ext.table f (start_places x s.values) code) (sym own)
        (simulates m.ext m.options s.values (solved m s own extended fit options solution) f lists of code emitted);
    counted = counts_packets extended;
  }
