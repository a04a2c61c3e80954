-- What a step log comes to: leaf after leaf, line after line.
use Rattle.std.specs.Prelude.{ℕ, ◌≡◌, ◌+◌, ◌<◌, ◌⊎◌, ⊤, List, [], ◌∷◌, Option, length}
use Rattle.std.specs.List.{flat_map}
use Rattle.un_base.specs.Lines.{pieces_of}
use Rattle.un_domains.specs.Sets.{Sets, set_at}
use Rattle.un_model.specs.Boxes.{root_of}
use Rattle.un_model.specs.declared.model.Model.{Model}
use Rattle.un_tree.specs.Waits.{Waiting, Whole, Visit, visits_of}
use Rattle.un_tree.specs.declared.node.Node.{Node}
use Rattle.un_tree.specs.declared.node.Node.TheVariants.{Closed}
use Rattle.un_steps.specs.Allowed.{IsAllowed, after}
use Rattle.un_steps.specs.declared.step.Step.{Step}
use Rattle.un_judge.specs.Lines.{IsStepLine, dot_line}
use Rattle.un_judge.specs.declared.verdict.StepVerdict.{StepVerdict}
use Rattle.un_judge.specs.declared.verdict.StepVerdict.TheVariants.{Yes, BadStep, Short}

-- ---- the boxes of the closed leaves, in order

-- the box of a closed leaf outside of parts
abbrev pub closed_by : Node → Waiting → List Sets
closed_by Closed (Whole b) = b ∷ []
closed_by _ _ = []

abbrev pub closed_box : Visit → List Sets
closed_box p = closed_by p.node p.waiting

abbrev pub closed_boxes : ℕ → Sets → List Node → List Sets
closed_boxes blocks root nodes = flat_map closed_box (visits_of blocks root nodes)

-- ---- lines

-- some variable has no value left
pub record HasEmpty (box : Sets) : Type 0 where
  pub var : ℕ
  pub there : var < length box
  pub none : set_at box var ≡ []

-- a dot ends a leaf in whose box some variable has no value left
pub record Ends (box : Sets) (line : List ℕ) : Type 0 where
  pub dot : line ≡ dot_line
  pub empty : HasEmpty box

-- what lines come to by the first so many rules, in a model under a limit
module _ (rules : ℕ) (m : Model) (limit : Option ℕ) where
  -- a step takes values that its rule lets go
  pub record Goes (box : Sets) (line : List ℕ) (s : Step) : Type 0 where
    pub spelled : IsStepLine rules line s
    pub allowed : IsAllowed m limit box s

  -- a line does neither
  pub record IsBad (box : Sets) (line : List ℕ) : Type 0 where
    pub no_end : Ends box line → ⊥
    pub no_step : (s : Step) → Goes box line s → ⊥

  -- lines, of which the first has this number, come to a verdict where these boxes wait; of the first one the steps before have
  -- taken values
  abbrev pub Comes : ℕ → List Sets → List (List ℕ) → StepVerdict → Type 0
  Comes n [] [] verdict = verdict ≡ Yes
  Comes n [] (line ∷ lines) verdict = verdict ≡ Short
  Comes n (box ∷ boxes) [] verdict = verdict ≡ Short
  Comes n (box ∷ boxes) (line ∷ lines) verdict =
      (Ends box line × Comes (n + 1) boxes lines verdict)
      ⊎ (((s : Step) × Goes box line s × Comes (n + 1) (after box s ∷ boxes) lines verdict)
      ⊎ (IsBad box line × (verdict ≡ BadStep n)))

-- what the text of a log comes to, for the closed leaves of a model's tree
abbrev pub IsJudged : ℕ → Model → Option ℕ → List Node → List ℕ → StepVerdict → Type 0
IsJudged rules m limit nodes log verdict = Comes rules m limit 1 (closed_boxes (length m.ext.blocks) (root_of m) nodes) (pieces_of log) verdict

abbrev pub OnYes : Type 0 → StepVerdict → Type 0
OnYes A Yes = A
OnYes A (BadStep n) = ⊤
OnYes A Short = ⊤
