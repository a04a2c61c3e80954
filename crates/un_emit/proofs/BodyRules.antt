-- What the body of the emission rests on, where the values that it reads are those of a solution: each temporary has a place, the
-- frame is small, and the code keeps its rules.
use Rattle.std.proofs.Common.{ℕ, ◌≡◌, ◌≤◌, List, sym, subst}
use Rattle.un_isa.specs.Fit.{IsFit}
use Rattle.un_isa.specs.declared.reg.TheConstants.{FRAME}
use Rattle.un_ir.specs.Extended.{IsExtended}
use Rattle.un_model.specs.declared.model.Model.{Model}
use Rattle.un_model.specs.declared.model.Solution.{Solution}
use Rattle.un_model.specs.Emission.{frame_of}
use Rattle.un_model.specs.Options.{AreOptions}
use Rattle.un_model.specs.Solutions.{IsSolution}
use Rattle.un_model.specs.Variables.{IsModel, model_of}
use Rattle.un_packet.specs.CodeRules.{KeepsRules}
use Rattle.un_packet.specs.declared.code.CodeBlock.{CodeBlock}
use Rattle.un_emit.specs.Bounds.{HavePlaces, FitFrame}
use Rattle.un_emit.specs.Emitted.{code_blocks}
use Rattle.un_emit.proofs.BodyPlaces.{have_places}
use Rattle.un_model.proofs.Readings.{Solved}
use Rattle.un_emit.proofs.Rules.{keeps_rules}
use Rattle.un_emit.proofs.RulesFrame.{small}
use Rattle.un_emit.proofs.SolvedModels.{solved}

module _ (m : Model) (s : Solution) (values : List ℕ) (are : values ≡ s.values) (own : IsModel m) (extended : IsExtended m.ext)
    (fit : IsFit m.ext.table) (options : AreOptions m.options) (solution : IsSolution m s) where
  -- what holds of the function's model holds of the model
  of_model : (P : Model → List ℕ → Type 0) → (Solved m.ext m.options s.values → P (model_of m.ext m.options) s.values) → P m values
  of_model P h = subst (P m) (sym are) (subst (λ (x : Model). P x s.values) (sym own) (h (solved m s own extended fit options solution)))

  pub frame_small : frame_of m values ≤ FRAME
  frame_small = of_model (λ x vs. frame_of x vs ≤ FRAME) (small m.ext m.options s.values)

  pub frame_fits : (frame : ℕ) → frame ≡ frame_of m values → FitFrame m values frame
  frame_fits frame f = record {
    is = f;
    small = subst (λ (n : ℕ). n ≤ FRAME) (sym f) frame_small;
    places = of_model HavePlaces (have_places m.ext m.options s.values);
  }

  pub rules_kept : (frame : ℕ) (blocks : List CodeBlock) → frame ≡ frame_of m values → blocks ≡ code_blocks m values
      → KeepsRules frame blocks
  rules_kept frame blocks f b =
      let rules = of_model (λ x vs. KeepsRules (frame_of x vs) (code_blocks x vs)) (keeps_rules m.ext m.options s.values) in
      subst (KeepsRules frame) (sym b) (subst (λ (n : ℕ). KeepsRules n (code_blocks m values)) (sym f) rules)
