-- What the lines of one leaf come to.
use Rattle.std.specs.Prelude.{ℕ, ◌≡◌, ◌+◌, ⊤, List}
use Rattle.un_base.specs.Lines.{pieces_of}
use Rattle.un_domains.specs.Sets.{Sets}
use Rattle.un_steps.specs.Allowed.{after}
use Rattle.un_steps.specs.declared.step.Step.{Step}
use Rattle.un_judge.specs.Judged.{Ends, Goes, IsBad, Comes}
use Rattle.un_judge.specs.declared.leaf.Done.{Done}
use Rattle.un_judge.specs.declared.leaf.Done.TheVariants.{Ended, Went, Bad as BadLine}
use Rattle.un_judge.specs.declared.leaf.Left.{Left}
use Rattle.un_judge.specs.declared.leaf.Rules.{Rules}
use Rattle.un_judge.specs.declared.leaf.LeafEnd.{LeafEnd}
use Rattle.un_judge.specs.declared.leaf.LeafEnd.TheVariants.{Closed, Bad, Short as Over}
use Rattle.un_judge.specs.declared.verdict.StepVerdict.{StepVerdict}
use Rattle.un_judge.specs.declared.verdict.StepVerdict.TheVariants.{BadStep, Short}

-- what a line does to a box: of a step the values are taken
abbrev pub Does : Rules → List ℕ → Sets → Sets → Done → Type 0
Does r line old new Ended = Ends old line × (new ≡ old)
Does r line old new Went = (s : Step) × Goes r.rules r.m.now r.limit old line s × (new ≡ after old s)
Does r line old new BadLine = IsBad r.rules r.m.now r.limit old line

-- what is left of a log comes to a verdict where these boxes wait
abbrev pub LeftComes : Rules → Left → List Sets → StepVerdict → Type 0
LeftComes r left boxes verdict = Comes r.rules r.m.now r.limit (left.read + 1) boxes (pieces_of left.text.now) verdict

-- what is left behind a leaf comes to a verdict where these boxes wait
abbrev pub EndComes : Rules → LeafEnd → List Sets → StepVerdict → Type 0
EndComes r (Closed left) boxes verdict = LeftComes r left boxes verdict
EndComes r (Bad n) boxes verdict = verdict ≡ BadStep n
EndComes r Over boxes verdict = verdict ≡ Short

abbrev pub OnClosed : Type 0 → LeafEnd → Type 0
OnClosed A (Closed left) = A
OnClosed A (Bad n) = ⊤
OnClosed A Over = ⊤
