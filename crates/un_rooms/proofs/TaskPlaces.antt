-- Places of operations by their variables, as a loop finds them, and precedences between them.
use Rattle.std.proofs.Common.{ℕ, suc, ◌≡◌, ◌+◌, ◌≤◌, Bool, true, false, List, [], ◌∷◌, ◌++◌, length, drop, All, refl, sym, ap}
use Rattle.std.proofs.Common.{◌∙◌, subst, arith}
use Rattle.std.specs.Prelude.{Some, slice_get, ◌==◌, ◌&&◌, nat_lt, if◌then◌else◌}
use Rattle.std.specs.List.{AllByRecursion}
use Rattle.std.proofs.lemmas.Bool.Decides.{nat_tests}
use Rattle.std.proofs.lemmas.List.Elements.{All-from_recursion}
use Rattle.un_base.specs.declared.ids.VarId.{VarId}
use Rattle.un_model.proofs.Steps.{drop_at, drop_past, append-nil}
use Rattle.un_prop.specs.declared.act.Act.TheVariants.{Always}
use Rattle.un_prop.specs.declared.act.At.TheVariants.{Var}
use Rattle.un_length.specs.declared.block.Precedence.{Precedence}
use Rattle.un_length.specs.declared.block.Task.{Task}
use Rattle.un_length.specs.Places.{Leads}
use Rattle.un_kinds.specs.Constraints.{Constraint, Before}
use Rattle.un_rooms.specs.Waits.{befores_by}
use Rattle.un_rooms.specs.declared.wait.Wait.{Wait}
use Rattle.un_sites.specs.Lengths.{task_place, precedence_at, precedence_by, precedences_by}

-- ---- the place of a variable

module _ (ops : List Task) (i : ℕ) (v : VarId) (h : i + task_place (drop i ops) v ≡ task_place ops v) where
  at_step : (t : Task) → slice_get ops i ≡ Some t
      → task_place (drop i ops) v ≡ (if t.at.0 == v.0 then 0 else suc (task_place (drop (i + 1) ops) v))
  at_step t g = ap (λ (ts : List Task). task_place ts v) (drop_at ops i t g)

  pub place_here : (t : Task) → slice_get ops i ≡ Some t → t.at.0 ≡ v.0 → i ≡ task_place ops v
  place_here t g e =
      let same : (t.at.0 == v.0) ≡ true = grind (arith, nat_tests, e) in
      let z : task_place (drop i ops) v ≡ 0 =
      at_step t g ∙ ap (λ (b : Bool). if b then 0 else suc (task_place (drop (i + 1) ops) v)) same in
      omega (arith, z, h)

  pub place_later : (t : Task) → slice_get ops i ≡ Some t → (t.at.0 ≡ v.0 → ⊥)
      → i + 1 + task_place (drop (i + 1) ops) v ≡ task_place ops v
  place_later t g e = by (t.at.0 == v.0) refl
    where
      by : (b : Bool) → (t.at.0 == v.0) ≡ b → i + 1 + task_place (drop (i + 1) ops) v ≡ task_place ops v
      by true s = absurd (e (grind (arith, nat_tests, s)))
      by false s =
          let z : task_place (drop i ops) v ≡ suc (task_place (drop (i + 1) ops) v) =
          at_step t g ∙ ap (λ (b : Bool). if b then 0 else suc (task_place (drop (i + 1) ops) v)) s in
          omega (arith, z, h)

  pub place_nowhere : length ops ≤ i → i ≤ length ops → length ops ≡ task_place ops v
  place_nowhere past le =
      let z : task_place (drop i ops) v ≡ 0 = ap (λ (ts : List Task). task_place ts v) (drop_past i ops past) in
      omega (arith, z, h)

-- ---- precedences lead from place to place

lead_two : (n i j gap : ℕ) (a b : Bool) → nat_lt i n ≡ a → nat_lt j n ≡ b
    → AllByRecursion (Leads n) (if a && b then record { from = i; to = j; gap = gap } ∷ [] else [])
lead_two n i j gap true true e f = (record { of_from = grind (arith, nat_tests, e); of_to = grind (arith, nat_tests, f) }, tt)
lead_two n i j gap true false e f = tt
lead_two n i j gap false b e f = tt

lead_at : (n i j gap : ℕ) → AllByRecursion (Leads n) (precedence_at n i j gap)
lead_at n i j gap = lead_two n i j gap (nat_lt i n) (nat_lt j n) refl refl

lead_by : (ops : List Task) (c : Constraint) → AllByRecursion (Leads (length ops)) (precedence_by ops c)
lead_by ops (Before (Var a) Always (Var b) Always gap) = lead_at (length ops) (task_place ops a) (task_place ops b) gap
lead_by ops _ = tt

lead_more : (n : ℕ) (xs ys : List Precedence) → AllByRecursion (Leads n) xs → AllByRecursion (Leads n) ys
    → AllByRecursion (Leads n) (xs ++ ys)
lead_more n [] ys h k = k
lead_more n (x ∷ xs) ys h k = (h.0, lead_more n xs ys h.1 k)

lead_each : (ops : List Task) (cs : List Constraint) → AllByRecursion (Leads (length ops)) (precedences_by ops cs)
lead_each ops [] = tt
lead_each ops (c ∷ cs) = lead_more (length ops) (precedence_by ops c) (precedences_by ops cs) (lead_by ops c) (lead_each ops cs)

pub all_lead : (ops : List Task) (cs : List Constraint) → All (Leads (length ops)) (precedences_by ops cs)
all_lead ops cs = All-from_recursion _ _ (lead_each ops cs)

-- the precedences that a loop over waits has added
pub added_lead : (ops : List Task) (waits : List Wait) (i : ℕ) (made : List Precedence)
    → made ++ precedences_by ops (befores_by (drop i waits)) ≡ precedences_by ops (befores_by waits) → length waits ≤ i
    → All (Leads (length ops)) made
added_lead ops waits i made h le =
    let none : made ++ precedences_by ops (befores_by (drop i waits)) ≡ made ++ [] =
    ap (λ (ws : List Wait). made ++ precedences_by ops (befores_by ws)) (drop_past i waits le) in
    subst (All (Leads (length ops))) (sym h ∙ none ∙ append-nil made) (all_lead ops (befores_by waits))
