-- Which variables a rule can take values of at each of its places.
use Rattle.std.specs.Prelude.{ℕ, List, [], ◌∷◌, ◌++◌, Option, None, Some, map, slice_get}
use Rattle.std.specs.List.{flat_map}
use Rattle.std.specs.Option.{option_to_list}
use Rattle.un_base.specs.declared.ids.VarId.{VarId}
use Rattle.un_model.specs.declared.model.Arc.{Arc}
use Rattle.un_model.specs.declared.model.BlockVars.{BlockVars}
use Rattle.un_model.specs.declared.model.Model.{Model}
use Rattle.un_steps.specs.Allowed.{arcs_of}
use Rattle.un_steps.specs.Words.{Operation, operation_at, operations_in, number_of, result_vars, other_vars, time_of}
use Rattle.un_steps.specs.declared.step.Rule.{Rule}
use Rattle.un_steps.specs.declared.step.Rule.TheVariants.{TooSoon, Idle, OutsideBlock, FromIdle, TooLateFor, OutsideSpace, NoSpace, Alike}
use Rattle.un_steps.specs.declared.step.Rule.TheVariants.{NotHome, NotCongruent, TooDear, NoFrame, TooFull}

-- the variables of what there is at a place
abbrev pub vars_of : {A : Type 0} → (A → List ℕ) → Option A → List ℕ
vars_of f None = []
vars_of f (Some a) = f a

-- a variable, where there is one
abbrev pub one_var : Option VarId → List ℕ
one_var v = map number_of (option_to_list v)

-- the choices of an operation
abbrev pub choice_vars : Operation → List ℕ
choice_vars p = map number_of p.vars.choices

-- the time of an operation
abbrev pub time_vars : Operation → List ℕ
time_vars p = one_var (time_of p)

-- the times of both ends of an arc
abbrev pub arc_vars : Model → Arc → List ℕ
arc_vars m a = vars_of time_vars (operation_at m a.to.0) ++ vars_of time_vars (operation_at m a.from.0)

-- of a rule of operations at one
abbrev pub operation_vars : Rule → Model → Operation → List ℕ
operation_vars TooSoon m p = []
operation_vars Idle m p = one_var p.vars.instr ++ other_vars m p
operation_vars OutsideBlock m p = one_var p.vars.cycle ++ p.end.0 ∷ []
operation_vars FromIdle m p = choice_vars p
operation_vars TooLateFor m p = choice_vars p
operation_vars OutsideSpace m p = result_vars m p
operation_vars NoSpace m p = choice_vars p
operation_vars Alike m p = choice_vars p
operation_vars NotHome m p = choice_vars p
operation_vars NotCongruent m p = choice_vars p
operation_vars TooDear m p = []
operation_vars NoFrame m p = one_var p.vars.instr ++ m.flag.0 ∷ []
operation_vars TooFull m p = []

abbrev pub end_vars : BlockVars → List ℕ
end_vars vars = vars.end.0 ∷ []

-- the variables that a rule can take values of at place o
abbrev pub vars_at : Rule → Model → ℕ → List ℕ
vars_at TooSoon m o = vars_of (arc_vars m) (slice_get (arcs_of m) o)
vars_at Idle m o = vars_of (operation_vars Idle m) (operation_at m o)
vars_at OutsideBlock m o = vars_of (operation_vars OutsideBlock m) (operation_at m o)
vars_at FromIdle m o = vars_of (operation_vars FromIdle m) (operation_at m o)
vars_at TooLateFor m o = vars_of (operation_vars TooLateFor m) (operation_at m o)
vars_at OutsideSpace m o = vars_of (operation_vars OutsideSpace m) (operation_at m o)
vars_at NoSpace m o = vars_of (operation_vars NoSpace m) (operation_at m o)
vars_at Alike m o = vars_of (operation_vars Alike m) (operation_at m o)
vars_at NotHome m o = vars_of (operation_vars NotHome m) (operation_at m o)
vars_at NotCongruent m o = vars_of (operation_vars NotCongruent m) (operation_at m o)
vars_at TooDear m o = vars_of end_vars (slice_get m.blocks o)
vars_at NoFrame m o = vars_of (operation_vars NoFrame m) (operation_at m o)
vars_at TooFull m o = flat_map time_vars (operations_in m o)
