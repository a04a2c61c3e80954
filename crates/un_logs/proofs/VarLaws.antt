-- No rule takes values of other variables than those that are gone over.
use Rattle.std.proofs.Common.{ℕ, zero, suc, ◌≡◌, ◌+◌, ◌≤◌, Bool, true, false, List, [], ◌∷◌, ◌++◌, Some, None, map}
use Rattle.std.proofs.Common.{Contains, refl, sym, arith, ◌⊎◌, inl, inr}
use Rattle.std.specs.Prelude.{Option, IsSomeAnd, slice_get, if◌then◌else◌, ◌==◌}
use Rattle.std.specs.List.{flat_map}
use Rattle.std.proofs.lemmas.List.Elements.{Contains-append_left, Contains-append_right}
use Rattle.std.proofs.lemmas.Bool.Decides.{nat_tests}
use Rattle.un_base.specs.declared.ids.VarId.{VarId}
use Rattle.un_domains.specs.SetLaws.{has-cons}
use Rattle.un_domains.specs.Sets.{Sets, set_at, has}
use Rattle.un_ir.specs.declared.extended.Operand.{Operand}
use Rattle.un_model.specs.declared.model.Arc.{Arc}
use Rattle.un_model.specs.declared.model.BlockVars.{BlockVars}
use Rattle.un_model.specs.declared.model.Model.{Model}
use Rattle.un_steps.specs.Allowed.{arcs_of, MayGo, MayGoAtArc}
use Rattle.un_steps.specs.Rules.{IsTooSoon, IsIdle, IsOutsideBlock, IsFromIdle, IsTooLateFor, IsOutsideSpace, IsNoSpace, IsAlike, IsNotHome}
use Rattle.un_steps.specs.Rules.{IsNotCongruent, IsTooDear, IsNoFrame, IsPastEnd, IsAccess, AreAccesses}
use Rattle.un_steps.specs.Words.{Operation, Alternative, alternative_by, operation_at, operations_in, number_of, IsVar, alternative}
use Rattle.un_steps.specs.Words.{alternative_in, other_vars, result_vars, time_of, cycles, least_of}
use Rattle.un_steps.specs.declared.step.Rule.{Rule}
use Rattle.un_steps.specs.declared.step.Rule.TheVariants.{TooSoon, Idle, OutsideBlock, FromIdle, TooLateFor, OutsideSpace, NoSpace, Alike}
use Rattle.un_steps.specs.declared.step.Rule.TheVariants.{NotHome, NotCongruent, TooDear, NoFrame, TooFull}
use Rattle.un_logs.specs.Vars.{vars_of, one_var, choice_vars, time_vars, arc_vars, operation_vars, end_vars, vars_at}

-- ---- lists

first_in : (v w : ℕ) (xs : List ℕ) → w ≡ v → Contains (w ∷ xs) v
first_in v w xs e = (0, omega arith, e)

later_in : (w v : ℕ) (xs : List ℕ) → Contains xs v → Contains (w ∷ xs) v
later_in w v xs c = (suc c.0, (let lt = c.1 in omega (arith, lt)), c.2)

has_in : (xs : List ℕ) (v : ℕ) → has xs v ≡ true → Contains xs v
has_in [] v h = absurd (cc h)
has_in (x ∷ xs) v h = elim (has-cons x v xs h) [ inl e ↦ first_in v x xs (sym e) | inr t ↦ later_in x v xs (has_in xs v t) ]

one_in : (w : Option VarId) (v : ℕ) → IsVar w v → Contains (one_var w) v
one_in None v h = absurd h
one_in (Some x) v h = first_in v x.0 [] h

some_in : {A : Type 0} (f : A → List ℕ) (P : A → Type 0) (v : ℕ) → ((a : A) → P a → Contains (f a) v) → (o : Option A) → IsSomeAnd o P
    → Contains (vars_of f o) v
some_in f P v each None h = absurd h
some_in f P v each (Some a) h = each a h

-- ---- choices

choice_in : (v y : ℕ) (Q : Alternative → Type 0) (j : ℕ) (ws : List VarId) (operands : List Operand)
    → IsSomeAnd (alternative_in v y j ws operands) Q → Contains (map number_of ws) v
choice_in v y Q j [] operands h = absurd h
choice_in v y Q j (w ∷ ws) [] h = absurd h
choice_in v y Q j (w ∷ ws) (x ∷ xs) h = by (w.0 == v) refl h (choice_in v y Q (j + 1) ws xs)
  where
    by : (b : Bool) → (w.0 == v) ≡ b
        → IsSomeAnd (if b then alternative_by j x (slice_get x.alts y) else alternative_in v y (j + 1) ws xs) Q
        → (IsSomeAnd (alternative_in v y (j + 1) ws xs) Q → Contains (map number_of ws) v) → Contains (w.0 ∷ map number_of ws) v
    by true e k rest = first_in v w.0 (map number_of ws) (grind (arith, nat_tests, e))
    by false e k rest = later_in w.0 v (map number_of ws) (rest k)

chosen_in : (p : Operation) (v y : ℕ) (Q : Alternative → Type 0) → IsSomeAnd (alternative p v y) Q → Contains (choice_vars p) v
chosen_in p v y Q h = choice_in v y Q 0 p.vars.choices p.op.operands h

-- ---- rules

idle_in : (m : Model) (s : Sets) (v y : ℕ) (p : Operation) → IsIdle m s p v y → Contains (operation_vars Idle m p) v
idle_in m s v y p (inl h) = Contains-append_right (one_var p.vars.instr) (other_vars m p) v (has_in (other_vars m p) v h.1)
idle_in m s v y p (inr h) = Contains-append_left (one_var p.vars.instr) (other_vars m p) v (one_in p.vars.instr v h.0)

place_in : (m : Model) (s : Sets) (v y : ℕ) (p : Operation) → IsOutsideBlock s p v y → Contains (operation_vars OutsideBlock m p) v
place_in m s v y p h = by h.2
  where
    by : (IsVar p.vars.cycle v × ((y ≡ 0) ⊎ IsPastEnd s p y)) ⊎ ((p.end.0 ≡ v) × IsSomeAnd (least_of (cycles s p)) (λ (c : ℕ). y ≤ c))
        → Contains (operation_vars OutsideBlock m p) v
    by (inl k) = Contains-append_left (one_var p.vars.cycle) (p.end.0 ∷ []) v (one_in p.vars.cycle v k.0)
    by (inr k) = Contains-append_right (one_var p.vars.cycle) (p.end.0 ∷ []) v (first_in v p.end.0 [] k.0)

frame_in : (m : Model) (s : Sets) (v y : ℕ) (p : Operation) → IsNoFrame m s p v y → Contains (operation_vars NoFrame m p) v
frame_in m s v y p h = by p.vars.instr h.1
  where
    by : (w : Option VarId) → IsSomeAnd w (λ i. ((set_at s m.flag.0 ≡ 0 ∷ []) × (i.0 ≡ v) × IsAccess y)
        ⊎ ((m.flag.0 ≡ v) × (y ≡ 0) × AreAccesses (set_at s i.0))) → Contains (one_var w ++ m.flag.0 ∷ []) v
    by None k = absurd k
    by (Some i) (inl k) = first_in v i.0 (m.flag.0 ∷ []) k.1
    by (Some i) (inr k) = later_in i.0 v (m.flag.0 ∷ []) (first_in v m.flag.0 [] k.0)

arc_in : (m : Model) (s : Sets) (v y : ℕ) (a : Arc) → MayGoAtArc m s v y a → Contains (arc_vars m a) v
arc_in m s v y a h = by (operation_at m a.from.0) (operation_at m a.to.0) h
  where
    by : (f t : Option Operation) → IsSomeAnd f (λ (from : Operation). IsSomeAnd t (λ (to : Operation). IsTooSoon s from to a.gap v y))
        → Contains (vars_of time_vars t ++ vars_of time_vars f) v
    by None t k = absurd k
    by (Some f) None k = absurd k
    by (Some f) (Some t) (inl k) = Contains-append_left (time_vars t) (time_vars f) v (one_in (time_of t) v k.0)
    by (Some f) (Some t) (inr k) = Contains-append_right (time_vars t) (time_vars f) v (one_in (time_of f) v k.0)

times_in : (v : ℕ) (ps : List Operation) (i : ℕ) → IsSomeAnd (slice_get ps i) (λ (p : Operation). IsVar (time_of p) v)
    → Contains (flat_map time_vars ps) v
times_in v [] i h = absurd h
times_in v (p ∷ ps) zero h = Contains-append_left (time_vars p) (flat_map time_vars ps) v (one_in (time_of p) v h)
times_in v (p ∷ ps) (suc i) h = Contains-append_right (time_vars p) (flat_map time_vars ps) v (times_in v ps i h)

-- what a rule takes values of is gone over
pub taken_in : (m : Model) (limit : Option ℕ) (rule : Rule) (s : Sets) (o v y : ℕ) → MayGo rule m limit s o v y → Contains (vars_at rule m o) v
taken_in m limit TooSoon s o v y h = some_in (arc_vars m) (MayGoAtArc m s v y) v (arc_in m s v y) (slice_get (arcs_of m) o) h
taken_in m limit Idle s o v y h =
    some_in (operation_vars Idle m) (λ (p : Operation). IsIdle m s p v y) v (idle_in m s v y) (operation_at m o) h
taken_in m limit OutsideBlock s o v y h =
    some_in (operation_vars OutsideBlock m) (λ (p : Operation). IsOutsideBlock s p v y) v (place_in m s v y) (operation_at m o) h
taken_in m limit FromIdle s o v y h =
    some_in choice_vars (λ (p : Operation). IsFromIdle m s p v y) v (λ p k. chosen_in p v y _ k.1) (operation_at m o) h
taken_in m limit TooLateFor s o v y h =
    some_in choice_vars (λ (p : Operation). IsTooLateFor m s p v y) v (λ p k. chosen_in p v y _ k.1) (operation_at m o) h
taken_in m limit OutsideSpace s o v y h =
    some_in (result_vars m) (λ (p : Operation). IsOutsideSpace m s p v y) v (λ p k. has_in (result_vars m p) v k.1) (operation_at m o) h
taken_in m limit NoSpace s o v y h =
    some_in choice_vars (λ (p : Operation). IsNoSpace m s p v y) v (λ p k. chosen_in p v y _ k.2) (operation_at m o) h
taken_in m limit Alike s o v y h =
    some_in choice_vars (λ (p : Operation). IsAlike m s p v y) v (λ p k. chosen_in p v y _ k.1) (operation_at m o) h
taken_in m limit NotHome s o v y h =
    some_in choice_vars (λ (p : Operation). IsNotHome m s p v y) v (λ p k. chosen_in p v y _ k) (operation_at m o) h
taken_in m limit NotCongruent s o v y h =
    some_in choice_vars (λ (p : Operation). IsNotCongruent m s p v y) v (λ p k. chosen_in p v y _ k.1) (operation_at m o) h
taken_in m limit TooDear s o v y h =
    some_in end_vars (λ (vars : BlockVars). IsTooDear m limit s vars v y) v (λ vars k. first_in v vars.end.0 [] k.0) (slice_get m.blocks o) h
taken_in m limit NoFrame s o v y h =
    some_in (operation_vars NoFrame m) (λ (p : Operation). IsNoFrame m s p v y) v (frame_in m s v y) (operation_at m o) h
taken_in m limit TooFull s o v y h = let time = h.0 in times_in v (operations_in m o) time.0 time.1
