-- What a queue of propagators keeps.
use Rattle.std.specs.Prelude.{ℕ, ◌≡◌, ◌+◌, ◌<◌, ◌≤◌, ◌⊎◌, Bool, true, false, cond, ◌==◌, List, length, sum_by, count_by, slice_index}
use Rattle.std.specs.Prelude.{slice_index_or, All, Some}
use Rattle.std.specs.declared.option.Option.{Option}
use Rattle.un_base.specs.declared.ids.VarId.{VarId}
use Rattle.un_domains.specs.Sets.{Sets, set_at, has}

-- the row of each variable has the places of the propagators that read it
pub record IsTable {P : Type 0} (scope : P → List VarId) (ps : List P) (vars : ℕ) (table : Sets) : Type 0 where
  pub long : length table ≡ vars
  pub there : (i : ℕ) (d : P) → i < length ps → All (λ v. has (set_at table v.0) i ≡ true) (scope (slice_index_or ps i d))
  pub within : (v i : ℕ) → has (set_at table v) i ≡ true → i < length ps

-- the place i stands in the rows of these variables, and else the rows are as they were
pub record Entered (vs : List VarId) (i : ℕ) (old new : Sets) : Type 0 where
  pub long : length new ≡ length old
  pub there : All (λ v. has (set_at new v.0) i ≡ true) vs
  pub grows : (v j : ℕ) → has (set_at old v) j ≡ true → has (set_at new v) j ≡ true
  pub alone : (v j : ℕ) → has (set_at new v) j ≡ true → (has (set_at old v) j ≡ true) ⊎ (j ≡ i)

-- whether the propagator at i waits
abbrev pub waits : List Bool → ℕ → Bool
waits ws i = slice_index_or ws i false

abbrev pub flag : Bool → ℕ
flag b = cond b 1 0

-- the places of those that wait, each of them once in one of two lists, with room for all in each
pub record IsQueue (ws : List Bool) (weights : ℕ) (light : List ℕ) (size : ℕ) (heavy : List ℕ) (heavy_size : ℕ) : Type 0 where
  pub weighed : weights ≡ length ws
  pub once : (i : ℕ) → count_by (λ x. x == i) light + count_by (λ x. x == i) heavy ≡ flag (waits ws i)
  pub long : length light + length heavy ≡ sum_by flag ws
  pub room : length ws ≤ size
  pub heavy_room : length ws ≤ heavy_size

-- each propagator that does not wait leaves the store as it is
abbrev pub IsReady : {P : Type 0} → (P → Sets → Option Sets) → List P → List Bool → Sets → Type 0
IsReady {P = P} cut ps ws s = (i : ℕ) (d : P) → i < length ps → waits ws i ≡ false → cut (slice_index_or ps i d) s ≡ Some s

-- how many values each variable has
pub record IsSizes (sizes : List ℕ) (s : Sets) : Type 0 where
  pub long : length sizes ≡ length s
  pub each : (v : ℕ) → v < length s → slice_index sizes v ≡ length (set_at s v)

-- nothing stops waiting
abbrev pub Grows : List Bool → List Bool → Type 0
Grows old new = (i : ℕ) → waits old i ≡ true → waits new i ≡ true

-- all that read variable v wait
abbrev pub AllWait : Sets → List Bool → ℕ → Type 0
AllWait table ws v = (i : ℕ) → has (set_at table v) i ≡ true → waits ws i ≡ true
