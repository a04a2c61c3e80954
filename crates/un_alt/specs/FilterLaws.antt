-- Laws of filters of a choice that may be missing.
use Rattle.std.proofs.Common.{ℕ, zero, suc, ◌≡◌, Bool, true, List, [], ◌∷◌, get_or, None, Some, option_and_then}
use Rattle.std.proofs.Common.{refl, arith}
use Rattle.std.specs.declared.option.Option.{Option}
use Rattle.std.specs.List.{Contains}
use Rattle.un_base.specs.declared.ids.VarId.{VarId}
use Rattle.un_domains.specs.Sets.{Sets, IsIn, Kept}
use Rattle.un_prop.specs.Rounds.{HasVars}
use Rattle.un_prop.specs.Parts.{Part, SameAt, ChecksForward}
use Rattle.un_prop.specs.PartLaws.{one_part, lawful_checked, keeps_checked, forward_checked}
use Rattle.un_prop.specs.Last.{last_cut}
use Rattle.un_prop.specs.LastLaws.{Ascend}
use Rattle.un_prop.specs.Lawful.{Lawful, LawfulTest}
use Rattle.un_prop.specs.Steps.{lawful_some}
use Rattle.un_prop.specs.Among.{AllAmong}
use Rattle.un_prop.specs.Acts.{act_vars, is_active}
use Rattle.un_prop.specs.Choices.{passes_at}
use Rattle.un_prop.specs.PlaceLaws.{choice_lawful, choice_keeps}
use Rattle.un_prop.specs.declared.act.Act.{Act}
use Rattle.un_alt.specs.Registers.{place_of, value_at, some_passes, choice_vars}
use Rattle.un_alt.specs.Filters.{choice_cut}

-- no variable is read
pub none_among : (vs : List VarId) → AllAmong vs []
none_among vs i d lt = absurd (omega (arith, lt))

-- a test of the value at a place is one of the variable there
pub some_at : (p : ℕ → Bool) (vs : List VarId) (i : ℕ) (x : List ℕ) → some_passes p (value_at vs i x) ≡ passes_at
    (λ (v : VarId). p (get_or x v.0 0)) vs i
some_at p [] i x = refl
some_at p (v ∷ vs) zero x = refl
some_at p (v ∷ vs) (suc i) x = some_at p vs i x

-- a filter of a choice, and then the check of the last variable
module _ (vs : List VarId) (t : List ℕ → Bool) (looks : (x y : List ℕ) → SameAt vs x y → t x ≡ t y) (ascend : Ascend vs) (on : Act)
    (choice : Option VarId) (can : Sets → ℕ → Bool)
    (n : ℕ) (of_on : AllAmong vs (act_vars on)) (of_choice : AllAmong vs (choice_vars choice)) (h : LawfulTest vs can) where
  filter_lawful : Lawful vs (choice_cut on choice can n)
  filter_lawful = by choice of_choice
    where
      by : (o : Option VarId) → AllAmong vs (choice_vars o) → Lawful vs (choice_cut on o can n)
      by None all = lawful_some vs
      by (Some v) all = choice_lawful vs on v can of_on (all 0 v (omega arith)) h n

  pub filtered_lawful : Lawful vs (λ s. option_and_then (last_cut vs t) (choice_cut on choice can n s))
  filtered_lawful = lawful_checked vs t looks ascend (choice_cut on choice can n) filter_lawful

  pub filtered_forward : (part : Part) → Contains (one_part vs t) part → ChecksForward part vs
      (λ s. option_and_then (last_cut vs t) (choice_cut on choice can n s))
  filtered_forward = forward_checked vs t looks ascend (choice_cut on choice can n) filter_lawful

  pub filtered_keeps : (fits : (x : List ℕ) → t x ≡ true → (m : Sets) → HasVars vs m → IsIn x m → is_active on x ≡ true → can m
      (place_of choice x) ≡ true)
      → (s : Sets) (x : List ℕ) → HasVars vs s → IsIn x s → t x ≡ true → Kept x
      (option_and_then (last_cut vs t) (choice_cut on choice can n s))
  filtered_keeps fits s x k there holds = keeps_checked vs t looks ascend (choice_cut on choice can n) filter_lawful s x k
      (by choice of_choice (fits x holds)) there.long holds
    where
      by : (o : Option VarId) → AllAmong vs (choice_vars o) →
          ((m : Sets) → HasVars vs m → IsIn x m → is_active on x ≡ true → can m (place_of o x) ≡ true) → Kept x (choice_cut on o can n s)
      by None all f = there
      by (Some v) all f = choice_keeps vs on v can of_on (all 0 v (omega arith)) h n s x k there f
