-- Laws of a queue.
use Rattle.std.proofs.Common.{ℕ, ◌≡◌, ◌<◌, ◌⊎◌, Bool, true, false, List, length, get_or, All, refl, inl, inr}
use Rattle.std.specs.declared.option.Option.{Option}
use Rattle.un_base.specs.declared.ids.VarId.{VarId}
use Rattle.un_domains.specs.Sets.{Sets, set_at, NoneEmpty}
use Rattle.un_prop.specs.Rounds.{HasVars}
use Rattle.un_prop.specs.Lawful.{Lawful}
use Rattle.un_prop.specs.Steps.{stable_local}
use Rattle.un_prop.specs.Queues.{IsTable, IsReady, waits, Grows, AllWait}

wait_or_not : (b : Bool) → b ≡ false → b ≡ true → ⊥
wait_or_not true h k = cc h
wait_or_not false h k = cc k

-- **after a change of some variables, a queue in which all that read them wait is ready**: this is what the search owes
-- after a decision, and the run after a propagator
pub ready_after : {P : Type 0} (scope : P → List VarId) (cut : P → Sets → Option Sets) → ((p : P) → Lawful (scope p) (cut p))
    → (ps : List P) (vars : ℕ) (table : Sets) (old new : List Bool) (s t : Sets)
    → IsTable scope ps vars table → All (λ p. HasVars (scope p) s) ps → NoneEmpty s → NoneEmpty t → length t ≡ length s
    → ((v : ℕ) → v < length s → (set_at s v ≡ set_at t v) ⊎ AllWait table new v) → Grows old new → IsReady cut ps old s
    → IsReady cut ps new t
ready_after scope cut lawful ps vars table old new s t tab known fs ft e changed grows ready i d lt rests =
    stable_local (scope (get_or ps i d)) (cut (get_or ps i d)) (lawful (get_or ps i d)) s t (known i d lt) fs ft e agree
    (ready i d lt (by (waits old i) refl))
  where
    by : (b : Bool) → waits old i ≡ b → waits old i ≡ false
    by true h = absurd (wait_or_not (waits new i) rests (grows i h))
    by false h = h

    agree : All (λ v. set_at s v.0 ≡ set_at t v.0) (scope (get_or ps i d))
    agree k x below = elim (changed (get_or (scope (get_or ps i d)) k x).0 (known i d lt k x below)) [
      | inl same ↦ same
      | inr all ↦ absurd (wait_or_not (waits new i) rests (all i (tab.there i d lt k x below)))
    ]
