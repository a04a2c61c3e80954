-- What an answer of the outside says of its count of faults, and what a part of an output is.
use Rattle.std.specs.Prelude.{ℕ, ◌≡◌, ◌+◌, ◌-◌, ◌^◌, ◌<◌, ◌≤◌, min, Result, Ok, IfOk, OnOk, OnErr, List, ◌++◌}
use Rattle.std.specs.declared.option.Option.{Option}
use Rattle.std.specs.Io.KnownBytes.{Appends}

-- one fault more, up to the count's last value
abbrev pub one_more : ℕ → ℕ
one_more before = min (before + 1) (2 ^ 64 - 1)

-- the count is greater, or it stands at its last value
abbrev pub Rose : ℕ → ℕ → Type 0
Rose before now = one_more before ≤ now

-- the count has not fallen, and it rose exactly where the call failed
pub record HasCause {T E : Type 0} (before now : ℕ) (result : Result T E) : Type 0 where
  pub later : before ≤ now
  pub failed : OnErr result (now ≡ one_more before)
  pub went : OnOk result (now ≡ before)

-- the count has not fallen, and it rose exactly where the call failed, or took nothing of a piece that is not empty
pub record HasWriteCause {E : Type 0} (before now : ℕ) (result : Result ℕ E) (offered : ℕ) : Type 0 where
  pub later : before ≤ now
  pub failed : OnErr result (now ≡ one_more before)
  pub stuck : result ≡ Ok 0 → 0 < offered → now ≡ one_more before
  pub went : IfOk result (λ n. (n ≡ 0 → offered ≡ 0) → now ≡ before)

-- a prefix of bs was appended, where the bytes are told
abbrev pub AppendsPrefix : Option (List ℕ) → Option (List ℕ) → List ℕ → Type 0
AppendsPrefix old new bs = (front : List ℕ) × (rest : List ℕ) × (front ++ rest ≡ bs) × Appends old new front
