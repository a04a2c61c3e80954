-- Which steps a log may have: values go from a box where a rule lets them.
use Rattle.std.specs.Prelude.{ℕ, ◌≡◌, ◌<◌, ◌≤◌, ◌&&◌, nat_le, not, Bool, true, List, Option, IsSomeAnd, length, slice_get}
use Rattle.un_domains.specs.Sets.{Sets, set_at, has, kept}
use Rattle.un_model.specs.declared.model.Arc.{Arc}
use Rattle.un_model.specs.declared.model.Model.{Model}
use Rattle.un_model.specs.declared.model.BlockVars.{BlockVars}
use Rattle.un_model.specs.Pairs.{joined}
use Rattle.un_steps.specs.Words.{Operation, operations_of, operations_in, operation_at}
use Rattle.un_steps.specs.Rules.{IsTooSoon, IsIdle, IsOutsideBlock, IsFromIdle, IsTooLateFor, IsOutsideSpace, IsNoSpace, IsAlike, IsNotHome}
use Rattle.un_steps.specs.Rules.{IsNotCongruent, IsTooDear, IsNoFrame, IsTooFull}
use Rattle.un_steps.specs.declared.step.Rule.{Rule}
use Rattle.un_steps.specs.declared.step.Rule.TheVariants.{TooSoon, Idle, OutsideBlock, FromIdle, TooLateFor, OutsideSpace, NoSpace, Alike}
use Rattle.un_steps.specs.declared.step.Rule.TheVariants.{NotHome, NotCongruent, TooDear, NoFrame, TooFull}
use Rattle.un_steps.specs.declared.step.Step.{Step}

-- ---- values that may go

-- the arcs of all blocks, one after another
abbrev pub arcs_of : Model → List Arc
arcs_of m = joined m.arcs

abbrev pub MayGoAtArc : Model → Sets → ℕ → ℕ → Arc → Type 0
MayGoAtArc m s v y a = IsSomeAnd (operation_at m a.from.0) (λ (from : Operation). IsSomeAnd (operation_at m a.to.0) (λ (to : Operation).
    IsTooSoon s from to a.gap v y))

-- by a rule of operations
abbrev pub MayGoAt : Model → ℕ → (Operation → Type 0) → Type 0
MayGoAt m o P = IsSomeAnd (operation_at m o) P

-- a rule of operations lets value y of variable v go at one
abbrev pub Takes : Rule → Model → Sets → Operation → ℕ → ℕ → Type 0
Takes TooSoon m s p v y = ⊥
Takes Idle m s p v y = IsIdle m s p v y
Takes OutsideBlock m s p v y = IsOutsideBlock s p v y
Takes FromIdle m s p v y = IsFromIdle m s p v y
Takes TooLateFor m s p v y = IsTooLateFor m s p v y
Takes OutsideSpace m s p v y = IsOutsideSpace m s p v y
Takes NoSpace m s p v y = IsNoSpace m s p v y
Takes Alike m s p v y = IsAlike m s p v y
Takes NotHome m s p v y = IsNotHome m s p v y
Takes NotCongruent m s p v y = IsNotCongruent m s p v y
Takes TooDear m s p v y = ⊥
Takes NoFrame m s p v y = IsNoFrame m s p v y
Takes TooFull m s p v y = ⊥

-- value y of variable v may go from the box s by a rule at place o
abbrev pub MayGo : Rule → Model → Option ℕ → Sets → ℕ → ℕ → ℕ → Type 0
MayGo TooSoon m limit s o v y = IsSomeAnd (slice_get (arcs_of m) o) (MayGoAtArc m s v y)
MayGo Idle m limit s o v y = MayGoAt m o (λ (p : Operation). IsIdle m s p v y)
MayGo OutsideBlock m limit s o v y = MayGoAt m o (λ (p : Operation). IsOutsideBlock s p v y)
MayGo FromIdle m limit s o v y = MayGoAt m o (λ (p : Operation). IsFromIdle m s p v y)
MayGo TooLateFor m limit s o v y = MayGoAt m o (λ (p : Operation). IsTooLateFor m s p v y)
MayGo OutsideSpace m limit s o v y = MayGoAt m o (λ (p : Operation). IsOutsideSpace m s p v y)
MayGo NoSpace m limit s o v y = MayGoAt m o (λ (p : Operation). IsNoSpace m s p v y)
MayGo Alike m limit s o v y = MayGoAt m o (λ (p : Operation). IsAlike m s p v y)
MayGo NotHome m limit s o v y = MayGoAt m o (λ (p : Operation). IsNotHome m s p v y)
MayGo NotCongruent m limit s o v y = MayGoAt m o (λ (p : Operation). IsNotCongruent m s p v y)
MayGo TooDear m limit s o v y = IsSomeAnd (slice_get m.blocks o) (λ (vars : BlockVars). IsTooDear m limit s vars v y)
MayGo NoFrame m limit s o v y = MayGoAt m o (λ (p : Operation). IsNoFrame m s p v y)
MayGo TooFull m limit s o v y = IsTooFull m s (operations_in m o) v

-- ---- steps

-- a rule's places: arcs, blocks or operations, by their numbers
abbrev pub places_of : Rule → Model → ℕ
places_of TooSoon m = length (arcs_of m)
places_of TooDear m = length m.blocks
places_of TooFull m = length m.blocks
places_of _ m = length (operations_of m)

-- the rule has this place, there is the variable, and each of its values from the first to the last may go
pub record IsAllowed (m : Model) (limit : Option ℕ) (s : Sets) (step : Step) : Type 0 where
  pub place : step.place < places_of step.rule m
  pub var : step.var.0 < length s
  pub each : (y : ℕ) → step.first ≤ y → y ≤ step.last → has (set_at s step.var.0) y ≡ true
      → MayGo step.rule m limit s step.place step.var.0 y

-- ---- what a step leaves

-- value y is of those that a step takes
abbrev pub is_taken : Step → ℕ → Bool
is_taken step y = nat_le step.first y && nat_le y step.last

-- the box without them
abbrev pub after : Sets → Step → Sets
after s step = kept (λ (y : ℕ). not (is_taken step y)) s step.var.0
