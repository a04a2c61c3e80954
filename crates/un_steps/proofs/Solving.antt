-- From a model to its own function and options: what is shown of these holds of it.
use Rattle.std.proofs.Common.{ℕ, ◌≡◌, ◌<◌, List, sym, subst}
use Rattle.std.specs.Prelude.{Option, IfSome, slice_index}
use Rattle.un_ir.specs.declared.extended.Ext.{Ext}
use Rattle.un_domains.specs.Sets.{Sets, IsIn}
use Rattle.un_model.specs.declared.model.Options.{Options}
use Rattle.un_model.specs.declared.model.Model.{Model}
use Rattle.un_model.specs.Cost.{cost_of}
use Rattle.un_model.specs.Schedules.{schedule_of}
use Rattle.un_model.specs.Solutions.{IsSchedule, latency_gap}
use Rattle.un_model.specs.Variables.{model_of}
use Rattle.un_lists.proofs.Lists.{Member}
use Rattle.un_model.proofs.Placed.{Placed}
use Rattle.un_model.proofs.PlacedSchedules.{all}
use Rattle.un_model.proofs.Readings.{Solved}
use Rattle.un_model.specs.Boxes.{IsBelow}
use Rattle.un_steps.specs.Allowed.{MayGoAt}
use Rattle.un_steps.specs.Keeping.{IsGround}
use Rattle.un_steps.specs.Words.{Operation, operation_at}
use Rattle.un_steps.proofs.Boxes.{some_of}
use Rattle.un_steps.proofs.Placing.{operation_of, found}

solved : (m : Model) (limit : Option ℕ) (x : List ℕ) → IsGround m → IsBelow m limit x → Solved m.ext m.options x
solved m limit x g below = record {
  extended = g.extended;
  fit = g.fit;
  options = g.options;
  schedule = subst (λ (z : Model). IsSchedule (latency_gap m.ext.table) z.domains z x (schedule_of z x)) g.model below.0;
}

-- what no value of a solution may go by, said of a function and its options
abbrev pub Safe : (Model → Option ℕ → Sets → ℕ → ℕ → ℕ → Type 0) → Option ℕ → Ext → Options → Type 0
Safe P limit e o = (x : List ℕ) (s : Sets) (n v y : ℕ) → Solved e o x → IsIn x s → IfSome limit (λ (c : ℕ). cost_of (model_of e o) (record { values = x }) < c)
    → P (model_of e o) limit s n v y → slice_index x v ≡ y → ⊥

-- it holds of the model
pub of_model : (m : Model) (limit : Option ℕ) (P : Model → Option ℕ → Sets → ℕ → ℕ → ℕ → Type 0) → IsGround m → Safe P limit m.ext m.options
    → (s : Sets) (x : List ℕ) (n v y : ℕ) → IsIn x s → IsBelow m limit x → P m limit s n v y → slice_index x v ≡ y → ⊥
of_model m limit P g safe s x n v y inside below goes =
    safe x s n v y (solved m limit x g below) inside
    (subst (λ (z : Model). IfSome limit (λ (c : ℕ). cost_of z (record { values = x }) < c)) g.model below.1)
    (subst (λ (z : Model). P z limit s n v y) g.model goes)

-- a rule of operations
pub of_operations : (m : Model) (limit : Option ℕ) (P : Model → Sets → Operation → ℕ → ℕ → Type 0) → IsGround m
    → ((x : List ℕ) (h : Solved m.ext m.options x) (s : Sets) → IsIn x s → (q : Placed) (v y : ℕ) → Member q (all m.ext m.options x)
    → P (model_of m.ext m.options) s (operation_of q) v y → slice_index x v ≡ y → ⊥)
    → (s : Sets) (x : List ℕ) (n v y : ℕ) → IsIn x s → IsBelow m limit x → MayGoAt m n (λ (p : Operation). P m s p v y)
    → slice_index x v ≡ y → ⊥
of_operations m limit P g safe = of_model m limit (λ z limit s n v y. MayGoAt z n (λ (p : Operation). P z s p v y)) g
    (λ x s n v y h inside cheap goes is.
    let there = some_of (operation_at (model_of m.ext m.options) n) (λ (p : Operation). P (model_of m.ext m.options) s p v y) goes in
    let r = found m.ext m.options x n there.0 there.1 in
    safe x h s inside r.0 v y r.1 (subst (λ (p : Operation). P (model_of m.ext m.options) s p v y) (sym r.2) there.2) is)
