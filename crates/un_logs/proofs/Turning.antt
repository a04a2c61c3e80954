-- Turns: what each does is one, and it takes values alone.
use Rattle.std.proofs.Common.{ℕ, zero, suc, ◌≡◌, ◌↔◌, ◌+◌, ◌<◌, ◌≤◌, Bool, true, false, not, List, [], ◌∷◌, ◌++◌, length, map, Some, None}
use Rattle.std.proofs.Common.{refl, sym, ap, ◌∙◌, subst, arith, ◌⊎◌, inl, inr}
use Rattle.std.specs.Prelude.{Option, IsSomeAnd, IsTrue, slice_get}
use Rattle.std.specs.Bool.{OnTrue}
use Rattle.std.proofs.lemmas.Bool.{cases_lt}
use Rattle.un_domains.specs.Sets.{Sets, set_at, has}
use Rattle.un_ir.specs.declared.extended.ExtBlock.{ExtBlock}
use Rattle.un_model.specs.declared.model.BlockVars.{BlockVars}
use Rattle.un_model.specs.declared.model.Model.{Model}
use Rattle.un_steps.specs.Allowed.{arcs_of, MayGo, places_of, IsAllowed, after}
use Rattle.un_steps.specs.Rules.{IsFullIn, IsTimeOf}
use Rattle.un_steps.specs.Words.{operations_of, operations_in, operations_by}
use Rattle.un_steps.specs.declared.step.Rule.{Rule}
use Rattle.un_steps.specs.declared.step.Rule.TheVariants.{TooSoon, Idle, OutsideBlock, FromIdle, TooLateFor, OutsideSpace, NoSpace, Alike}
use Rattle.un_steps.specs.declared.step.Rule.TheVariants.{NotHome, NotCongruent, TooDear, NoFrame, TooFull}
use Rattle.un_logs.specs.Rounds.{AllGo, IsRun, RunsGo, IsTurn, Turns, Rounds, step_of, turn, turns_of}
use Rattle.un_logs.specs.declared.turn.Run.{Run}
use Rattle.un_logs.specs.declared.turn.Turn.{Turn}
use Rattle.un_logs.proofs.Within.{IsWithin, within_same, within_then, after_within, is_there}

-- ---- a rule lets values go at its places alone

some_below : {A : Type 0} (xs : List A) (i : ℕ) (P : A → Type 0) → IsSomeAnd (slice_get xs i) P → i < length xs
some_below [] i P h = absurd h
some_below (x ∷ xs) zero P h = omega arith
some_below (x ∷ xs) (suc i) P h = let lt = some_below xs i P h in omega (arith, lt)

some_there : {A : Type 0} (xs : List A) (i : ℕ) (a : A) → slice_get xs i ≡ Some a → i < length xs
some_there [] i a e = absurd (cc e)
some_there (x ∷ xs) zero a e = omega arith
some_there (x ∷ xs) (suc i) a e = let lt = some_there xs i a e in omega (arith, lt)

block_below : (m : Model) (o v : ℕ) → IsTimeOf (operations_in m o) v → o < length m.blocks
block_below m o v h = by (slice_get m.ext.blocks o) (slice_get m.blocks o) refl h
  where
    by : (b : Option ExtBlock) (vars : Option BlockVars) → slice_get m.blocks o ≡ vars
        → IsTimeOf (operations_by o b vars) v → o < length m.blocks
    by (Some b) (Some vars) e k = some_there m.blocks o vars e
    by (Some b) None e k = absurd k.1
    by None vars e k = absurd k.1

pub at_place : (rule : Rule) (m : Model) (limit : Option ℕ) (s : Sets) (o v y : ℕ) → MayGo rule m limit s o v y → o < places_of rule m
at_place TooSoon m limit s o v y h = some_below (arcs_of m) o _ h
at_place Idle m limit s o v y h = some_below (operations_of m) o _ h
at_place OutsideBlock m limit s o v y h = some_below (operations_of m) o _ h
at_place FromIdle m limit s o v y h = some_below (operations_of m) o _ h
at_place TooLateFor m limit s o v y h = some_below (operations_of m) o _ h
at_place OutsideSpace m limit s o v y h = some_below (operations_of m) o _ h
at_place NoSpace m limit s o v y h = some_below (operations_of m) o _ h
at_place Alike m limit s o v y h = some_below (operations_of m) o _ h
at_place NotHome m limit s o v y h = some_below (operations_of m) o _ h
at_place NotCongruent m limit s o v y h = some_below (operations_of m) o _ h
at_place TooDear m limit s o v y h = some_below m.blocks o _ h
at_place NoFrame m limit s o v y h = some_below (operations_of m) o _ h
at_place TooFull m limit s o v y h = block_below m o v h.0

-- ---- one turn

module _ (m : Model) (limit : Option ℕ) (t : Turn) where
  -- a run is allowed as a step
  pub run_allowed : (s : Sets) (from : ℕ) (r : Run) → IsRun m limit t s from r → IsAllowed m limit s (step_of t r)
  run_allowed s from r h =
      let f = h.first in
      record {
        place = at_place t.rule m limit s t.place t.var.0 r.first f.free;
        var = is_there s t.var.0 r.first f.left;
        each = h.each;
      }

  run_once : (s : Sets) (from : ℕ) (a b : Run) → IsRun m limit t s from a → IsRun m limit t s from b → a ≡ b
  run_once s from a b h k =
      let firsts : a.first ≡ b.first = by_first (cases_lt a.first b.first) (cases_lt b.first a.first) in
      let lasts : a.last ≡ b.last = by_last firsts (cases_lt a.last b.last) (cases_lt b.last a.last) in
      ap (λ (n : ℕ). record { first = n; last = a.last }) firsts ∙ ap (λ (n : ℕ). record { first = b.first; last = n }) lasts
    where
      by_first : (a.first < b.first) ⊎ (b.first ≤ a.first) → (b.first < a.first) ⊎ (a.first ≤ b.first) → a.first ≡ b.first
      by_first (inl lt) other = absurd (k.none a.first h.begin lt h.first)
      by_first (inr le) (inl lt) = absurd (h.none b.first k.begin lt k.first)
      by_first (inr le) (inr ge) = omega (arith, le, ge)

      by_last : a.first ≡ b.first → (a.last < b.last) ⊎ (b.last ≤ a.last) → (b.last < a.last) ⊎ (a.last ≤ b.last) → a.last ≡ b.last
      by_last e (inl lt) other =
          absurd (h.longest b.last lt k.last (λ y lo hi left. k.each y (omega (arith, lo, e)) hi left))
      by_last e (inr le) (inl lt) =
          absurd (k.longest a.last lt h.last (λ y lo hi left. h.each y (omega (arith, lo, e)) hi left))
      by_last e (inr le) (inr ge) = omega (arith, le, ge)

  runs_once : (rs qs : List Run) (from : ℕ) (old a b : Sets) → RunsGo m limit t from rs old a → RunsGo m limit t from qs old b → a ≡ b
  runs_once [] [] from old a b h k = h.1 ∙ sym k.1
  runs_once [] (q ∷ qs) from old a b h k = let run = k.0 in absurd (h.0 q.first run.begin run.first)
  runs_once (r ∷ rs) [] from old a b h k = let run = h.0 in absurd (k.0 r.first run.begin run.first)
  runs_once (r ∷ rs) (q ∷ qs) from old a b h k =
      let same : q ≡ r = run_once old from q r k.0 h.0 in
      runs_once rs qs (r.last + 1) (after old (step_of t r)) a b h.1
      (subst (λ (x : Run). RunsGo m limit t (x.last + 1) qs (after old (step_of t x)) b) same k.1)

  pub turn_once : (old a b : Sets) → IsTurn m limit t old a → IsTurn m limit t old b → a ≡ b
  turn_once old a b h k = runs_once h.runs k.runs 0 old a b h.go k.go

  runs_within : (rs : List Run) (from : ℕ) (old new : Sets) → RunsGo m limit t from rs old new → IsWithin old new
  runs_within [] from old new h = within_same old new h.1
  runs_within (r ∷ rs) from old new h =
      within_then old (after old (step_of t r)) new (after_within old (step_of t r))
      (runs_within rs (r.last + 1) (after old (step_of t r)) new h.1)

  pub turn_within : (old new : Sets) → IsTurn m limit t old new → IsWithin old new
  turn_within old new h = runs_within h.runs 0 old new h.go

-- ---- turns one after another

module _ (m : Model) (limit : Option ℕ) where
  pub turns_once : (ts : List Turn) (old a b : Sets) → Turns m limit ts old a → Turns m limit ts old b → a ≡ b
  turns_once [] old a b h k = h ∙ sym k
  turns_once (t ∷ ts) old a b h k =
      let same : k.0 ≡ h.0 = turn_once m limit t old k.0 h.0 k.1 h.1 in
      turns_once ts h.0 a b h.2 (subst (λ (s : Sets). Turns m limit ts s b) same k.2)

  pub turns_within : (ts : List Turn) (old new : Sets) → Turns m limit ts old new → IsWithin old new
  turns_within [] old new h = within_same old new h
  turns_within (t ∷ ts) old new h =
      within_then old h.0 new (turn_within m limit t old h.0 h.1) (turns_within ts h.0 new h.2)

  pub turns_append : (ts us : List Turn) (a b c : Sets) → Turns m limit ts a b → Turns m limit us b c → Turns m limit (ts ++ us) a c
  turns_append [] us a b c h k = subst (λ (s : Sets). Turns m limit us s c) h k
  turns_append (t ∷ ts) us a b c h k = (h.0, h.1, turns_append ts us h.0 b c h.2 k)

  pub turns_split : (ts us : List Turn) (a c : Sets) → Turns m limit (ts ++ us) a c
      → (b : Sets) × Turns m limit ts a b × Turns m limit us b c
  turns_split [] us a c h = (a, refl, h)
  turns_split (t ∷ ts) us a c h =
      let rest = turns_split ts us h.0 c h.2 in
      (rest.0, (h.0, h.1, rest.1), rest.2)

  -- ---- rounds

  pub rounds_within : (rules n : ℕ) (old new : Sets) → Rounds m limit rules n old new → IsWithin old new
  rounds_within rules zero old new h = within_same old new h
  rounds_within rules (suc n) old new h =
      within_then old h.0 new (turns_within (turns_of rules m) old h.0 h.1) (rounds_within rules n h.0 new h.2)

-- ---- how a run is found

module _ (m : Model) (limit : Option ℕ) (t : Turn) (s : Sets) (first last y : ℕ)
    (none : (z : ℕ) → last < z → z < y → has (set_at s t.var.0) z ≡ true → ⊥) where
  -- the next value that is left may go too
  pub each_to : AllGo m limit t s first last → MayGo t.rule m limit s t.place t.var.0 y → AllGo m limit t s first y
  each_to each free z lo hi h = by (cases_lt last z) (cases_lt z y)
    where
      by : (last < z) ⊎ (z ≤ last) → (z < y) ⊎ (y ≤ z) → MayGo t.rule m limit s t.place t.var.0 z
      by (inr le) other = each z lo le h
      by (inl lt) (inl below) = absurd (none z lt below h)
      by (inl lt) (inr ge) =
          let same : y ≡ z = omega (arith, hi, ge) in
          subst (λ (k : ℕ). MayGo t.rule m limit s t.place t.var.0 k) same free

  pub none_to : has (set_at s t.var.0) y ≡ false → (z : ℕ) → last < z → z < y + 1 → has (set_at s t.var.0) z ≡ true → ⊥
  none_to out z lo hi h = by (cases_lt z y)
    where
      by : (z < y) ⊎ (y ≤ z) → ⊥
      by (inl below) = none z lo below h
      by (inr ge) =
          let same : z ≡ y = omega (arith, hi, ge) in
          cc (sym h ∙ (ap (has (set_at s t.var.0)) same ∙ out))

-- ---- turns that take nothing

-- where no value of any variable may go
pub quiet_turns : (m : Model) (limit : Option ℕ) (rule : Rule) (o : ℕ) (s : Sets)
    → ((v y : ℕ) → MayGo rule m limit s o v y → ⊥) → (vs : List ℕ) → Turns m limit (map (turn rule o) vs) s s
quiet_turns m limit rule o s none [] = refl
quiet_turns m limit rule o s none (v ∷ vs) = (
  s,
  record { runs = []; go = (λ y le l. let free = l.free in none v y free, refl) },
  quiet_turns m limit rule o s none vs,
)

-- where a block is not too full
pub quiet_full : (m : Model) (limit : Option ℕ) (rule : Rule) (o : ℕ) (s : Sets) → rule ≡ TooFull
    → ((a : ℕ) × (n : ℕ) × IsFullIn m s (operations_in m o) a n → ⊥) → (v y : ℕ) → MayGo rule m limit s o v y → ⊥
quiet_full m limit rule o s is none v y h = let k = subst (λ (r : Rule). MayGo r m limit s o v y) is h in none k.1

pub on_not : (b : Bool) (P R : Type 0) → IsTrue b ↔ P → ((P → ⊥) → R) → OnTrue (not b) R
on_not true P R iff f = tt
on_not false P R iff f = f (λ p. cc (iff.1 p))

-- ---- a rule that tells no value from another

pub full_each : (m : Model) (limit : Option ℕ) (t : Turn) (s : Sets) (first last : ℕ) → t.rule ≡ TooFull
    → MayGo t.rule m limit s t.place t.var.0 first → AllGo m limit t s first last
full_each m limit t s first last is free y lo hi h =
    subst (λ (r : Rule). MayGo r m limit s t.place t.var.0 y) (sym is)
    (subst (λ (r : Rule). MayGo r m limit s t.place t.var.0 first) is free)
