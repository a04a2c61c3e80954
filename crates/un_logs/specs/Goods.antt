-- What the lines that are written do: put before a log that is good for what follows, they make one that is good from where they begin.
use Rattle.std.specs.Prelude.{ℕ, ◌≡◌, ◌<◌, List, ◌∷◌, ◌++◌}
use Rattle.un_base.specs.Lines.{pieces_of}
use Rattle.un_domains.specs.Sets.{Sets, NoneEmpty, total}
use Rattle.un_judge.specs.Judged.{Comes, HasEmpty}
use Rattle.un_judge.specs.declared.leaf.Rules.{Rules}
use Rattle.un_judge.specs.declared.verdict.StepVerdict.TheVariants.{Yes}
use Rattle.un_logs.specs.Rounds.{Turns}
use Rattle.un_logs.specs.declared.pass.Pass.{Pass}
use Rattle.un_logs.specs.declared.pass.Pass.TheVariants.{Emptied, Taken, Same}
use Rattle.un_logs.specs.declared.turn.Turn.{Turn}

-- a text is a good log where these boxes wait, whatever number its first line has
abbrev pub IsGood : Rules → List Sets → List ℕ → Type 0
IsGood r boxes text = (n : ℕ) → Comes r.rules r.m.now r.limit n boxes (pieces_of text) Yes

-- steps that lead from a box to another
abbrev pub Leads : Rules → Sets → Sets → List ℕ → Type 0
Leads r old new part = (boxes : List Sets) (rest : List ℕ) → IsGood r (new ∷ boxes) rest → IsGood r (old ∷ boxes) (part ++ rest)

-- steps and a dot that end a leaf
abbrev pub Closes : Rules → Sets → List ℕ → Type 0
Closes r old part = (boxes : List Sets) (rest : List ℕ) → IsGood r boxes rest → IsGood r (old ∷ boxes) (part ++ rest)

-- a text grows by steps that lead from a box to another
pub record Writes (r : Rules) (old new : Sets) (before now : List ℕ) : Type 0 where
  pub part : List ℕ
  pub grown : now ≡ before ++ part
  pub leads : Leads r old new part

-- a text grows by steps and a dot that end a leaf
pub record Ends (r : Rules) (old : Sets) (before now : List ℕ) : Type 0 where
  pub part : List ℕ
  pub grown : now ≡ before ++ part
  pub closes : Closes r old part

-- turns leave some set empty
abbrev pub Empties : Rules → List Turn → Sets → Type 0
Empties r ts old = (new : Sets) → Turns r.m.now r.limit ts old new → HasEmpty new

-- turns take values, and leave no set empty
pub record Takes (r : Rules) (ts : List Turn) (old new : Sets) : Type 0 where
  pub turns : Turns r.m.now r.limit ts old new
  pub full : NoneEmpty new
  pub fewer : total new < total old

-- what turns come to, and others behind them
abbrev pub joined : Pass → Pass → Pass
joined Emptied next = Emptied
joined Same next = next
joined Taken Emptied = Emptied
joined Taken Taken = Taken
joined Taken Same = Taken

-- what turns come to in a box that has no empty set
abbrev pub Does : Rules → List Turn → Sets → Sets → Pass → Type 0
Does r ts old new Emptied = HasEmpty new × Empties r ts old
Does r ts old new Taken = Takes r ts old new
Does r ts old new Same = Turns r.m.now r.limit ts old new × (new ≡ old)
