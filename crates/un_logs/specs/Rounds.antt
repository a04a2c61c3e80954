-- Rounds of the rules of step logs: at each turn, a rule at a place for a variable, the values that may go are taken run after run.
use Rattle.std.specs.Prelude.{ℕ, zero, suc, ◌≡◌, ◌+◌, ◌<◌, ◌≤◌, true, List, [], ◌∷◌, Option, map, take}
use Rattle.std.specs.List.{flat_map, range_with_len}
use Rattle.un_domains.specs.Sets.{Sets, set_at, has}
use Rattle.un_model.specs.declared.model.Model.{Model}
use Rattle.un_steps.specs.Allowed.{MayGo, after, places_of}
use Rattle.un_steps.specs.declared.step.Rule.{Rule}
use Rattle.un_steps.specs.declared.step.Rule.TheVariants.{TooSoon, Idle, OutsideBlock, FromIdle, TooLateFor, OutsideSpace, NoSpace, Alike}
use Rattle.un_steps.specs.declared.step.Rule.TheVariants.{NotHome, NotCongruent, TooDear, NoFrame, TooFull}
use Rattle.un_steps.specs.declared.step.Step.{Step}
use Rattle.un_logs.specs.Vars.{vars_at}
use Rattle.un_logs.specs.declared.turn.Run.{Run}
use Rattle.un_logs.specs.declared.turn.Turn.{Turn}

-- ---- one turn

-- the step that takes a run of values
abbrev pub step_of : Turn → Run → Step
step_of t r = record { rule = t.rule; place = t.place; var = t.var; first = r.first; last = r.last }

module _ (m : Model) (limit : Option ℕ) (t : Turn) where
  -- a value is left, and may go
  pub record Leaves (box : Sets) (y : ℕ) : Type 0 where
    pub left : has (set_at box t.var.0) y ≡ true
    pub free : MayGo t.rule m limit box t.place t.var.0 y

  -- all values from the first to the last that are left may go
  abbrev pub AllGo : Sets → ℕ → ℕ → Type 0
  AllGo box first last =
      (y : ℕ) → first ≤ y → y ≤ last → has (set_at box t.var.0) y ≡ true → MayGo t.rule m limit box t.place t.var.0 y

  -- no value from this one on may go
  abbrev pub NoneGoes : Sets → ℕ → Type 0
  NoneGoes box from = (y : ℕ) → from ≤ y → Leaves box y → ⊥

  -- the next run of values that may go: from the first one that may go to the last before one that is kept
  pub record IsRun (box : Sets) (from : ℕ) (r : Run) : Type 0 where
    pub begin : from ≤ r.first
    pub none : (y : ℕ) → from ≤ y → y < r.first → Leaves box y → ⊥
    pub first : Leaves box r.first
    pub order : r.first ≤ r.last
    pub last : has (set_at box t.var.0) r.last ≡ true
    pub each : AllGo box r.first r.last
    pub longest : (y : ℕ) → r.last < y → has (set_at box t.var.0) y ≡ true → AllGo box r.first y → ⊥

  -- from a value on, runs are taken one after another, each from what the one before leaves
  abbrev pub RunsGo : ℕ → List Run → Sets → Sets → Type 0
  RunsGo from [] old new = NoneGoes old from × (new ≡ old)
  RunsGo from (r ∷ rs) old new = IsRun old from r × RunsGo (r.last + 1) rs (after old (step_of t r)) new

  -- what a turn does to a box
  pub record IsTurn (old new : Sets) : Type 0 where
    pub runs : List Run
    pub go : RunsGo 0 runs old new

-- ---- the turns of a round, in order

-- the rules by their numbers, from 1
abbrev pub all_rules : List Rule
all_rules =
    TooSoon ∷ Idle ∷ OutsideBlock ∷ FromIdle ∷ TooLateFor ∷ OutsideSpace ∷ NoSpace ∷ Alike ∷ NotHome ∷ NotCongruent
    ∷ TooDear ∷ NoFrame ∷ TooFull ∷ []

abbrev pub turn : Rule → ℕ → ℕ → Turn
turn rule o v = record { rule = rule; place = o; var = record { 0 = v } }

-- of a rule at a place
abbrev pub turns_at : Model → Rule → ℕ → List Turn
turns_at m rule o = map (turn rule o) (vars_at rule m o)

-- of a rule at each of its places
abbrev pub turns_by : Model → Rule → List Turn
turns_by m rule = flat_map (turns_at m rule) (range_with_len 0 (places_of rule m))

-- of the first so many rules
abbrev pub turns_of : ℕ → Model → List Turn
turns_of rules m = flat_map (turns_by m) (take rules all_rules)

-- ---- turns one after another

module _ (m : Model) (limit : Option ℕ) where
  abbrev pub Turns : List Turn → Sets → Sets → Type 0
  Turns [] old new = new ≡ old
  Turns (t ∷ ts) old new = (box : Sets) × IsTurn m limit t old box × Turns ts box new

  -- a round by the first so many rules
  abbrev pub IsRound : ℕ → Sets → Sets → Type 0
  IsRound rules old new = Turns (turns_of rules m) old new

  -- so many rounds
  abbrev pub Rounds : ℕ → ℕ → Sets → Sets → Type 0
  Rounds rules zero old new = new ≡ old
  Rounds rules (suc n) old new = (box : Sets) × IsRound rules old box × Rounds rules n box new
