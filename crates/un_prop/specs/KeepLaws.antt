-- Rounds lose no assignment for which all propagators hold.
use Rattle.std.proofs.Common.{ℕ, zero, suc, ◌≡◌, ◌<◌, Bool, true, false, cond, nat_eq, List, [], ◌∷◌, length, get_or, None, Some, sym}
use Rattle.std.proofs.Common.{◌∙◌, subst, arith}
use Rattle.std.specs.declared.option.Option.{Option}
use Rattle.std.specs.List.{AllByRecursion}
use Rattle.un_base.specs.declared.ids.VarId.{VarId}
use Rattle.un_domains.specs.Sets.{Sets, IsIn, NoneEmpty, Kept, set_at, has, total}
use Rattle.un_prop.specs.ChainLaws.{then_kept}
use Rattle.un_prop.specs.Fixes.{Known, known_long}
use Rattle.un_prop.specs.Lawful.{Lawful}
use Rattle.un_prop.specs.Rounds.{HasVars, round, rounds, fix_of}

nonempty_has : (xs : List ℕ) (x : ℕ) → has xs x ≡ true → 0 < length xs
nonempty_has [] x h = absurd (cc h)
nonempty_has (y ∷ ys) x h = omega arith

pub IsIn-full : (x : List ℕ) (s : Sets) → IsIn x s → NoneEmpty s
IsIn-full x s h v below = nonempty_has (set_at s v) (get_or x v 0) (h.each v below)

module _ {P : Type 0} (scope : P → List VarId) (cut : P → Sets → Option Sets) (lawful : (p : P) → Lawful (scope p) (cut p))
    (holds : P → List ℕ → Bool)
    (keeps : (p : P) (s : Sets) (x : List ℕ) → HasVars (scope p) s → NoneEmpty s → IsIn x s → holds p x ≡ true → Kept x (cut p s)) where
  pub round_kept : (ps : List P) (s : Sets) (x : List ℕ) → Known scope cut lawful ps s → IsIn x s
      → AllByRecursion (λ p. holds p x ≡ true) ps → Kept x (round cut ps s)
  round_kept [] s x k h all = h
  round_kept (p ∷ ps) s x k h all =
      then_kept (round cut ps) x (cut p s) (keeps p s x k.0 (IsIn-full x s h) h all.0)
      (λ t there. round_kept ps t x (known_long scope cut lawful ps s t (sym there.long ∙ h.long) k.1) there all.1)

  rounds_keep : (n : ℕ) (ps : List P) (s : Sets) (x : List ℕ) → Known scope cut lawful ps s → IsIn x s
      → AllByRecursion (λ p. holds p x ≡ true) ps → Kept x (rounds cut n ps s)
  rounds_keep zero ps s x k h all = h
  rounds_keep (suc n) ps s x k h all =
      then_kept (λ t. cond (nat_eq (total t) (total s)) (Some s) (rounds cut n ps t)) x (round cut ps s) (round_kept ps s x k h all)
      (λ t there. by t (nat_eq (total t) (total s)) there (rounds_keep n ps t x
      (known_long scope cut lawful ps s t (sym there.long ∙ h.long) k) there all))
    where
      by : (t : Sets) (b : Bool) → IsIn x t → Kept x (rounds cut n ps t) → Kept x (cond b (Some s) (rounds cut n ps t))
      by t true there rest = h
      by t false there rest = rest

  -- **rounds lose no assignment for which all hold**
  pub fix_keeps : (ps : List P) (s : Sets) (x : List ℕ) → Known scope cut lawful ps s → IsIn x s
      → AllByRecursion (λ p. holds p x ≡ true) ps → Kept x (fix_of cut ps s)
  fix_keeps ps s x k h all = rounds_keep (suc (total s)) ps s x k h all

  -- so they do not fail where there is one
  pub fix_refutes : (ps : List P) (s : Sets) (x : List ℕ) → Known scope cut lawful ps s → IsIn x s
      → AllByRecursion (λ p. holds p x ≡ true) ps → fix_of cut ps s ≡ None → ⊥
  fix_refutes ps s x k h all none = subst (Kept x) none (fix_keeps ps s x k h all)
