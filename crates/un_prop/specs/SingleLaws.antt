-- On single values a propagator fails exactly where it does not hold.
use Rattle.std.proofs.Common.{ℕ, zero, suc, ◌≡◌, ◌<◌, Bool, true, false, ◌&&◌, List, [], ◌∷◌, length, get_or, None, Some, MatchOption}
use Rattle.std.proofs.Common.{All, refl, sym}
use Rattle.std.proofs.Common.{ap, ◌∙◌, subst, arith}
use Rattle.std.specs.declared.option.Option.{Option}
use Rattle.std.specs.Bool.{⊤}
use Rattle.std.specs.List.{Contains, AllByRecursion}
use Rattle.std.proofs.lemmas.List.{get_or_default}
use Rattle.std.proofs.lemmas.List.Elements.{recursion_from_All}
use Rattle.un_base.specs.declared.ids.VarId.{VarId}
use Rattle.un_domains.specs.Sets.{Sets, set_at, has, IsIn, IsSingle, NoneEmpty, Kept}
use Rattle.un_domains.specs.Order.{Below}
use Rattle.un_domains.specs.OrderLaws.{single_below, has_here}
use Rattle.un_prop.specs.Among.{AllAmong}
use Rattle.un_prop.specs.AmongLaws.{has_among}
use Rattle.un_prop.specs.Rounds.{HasVars}
use Rattle.un_prop.specs.Parts.{Part, all_meet, ChecksForward}
use Rattle.un_prop.specs.Lawful.{Lawful}

meet_all : (x : List ℕ) (ps : List Part) → AllByRecursion (λ (q : Part). q.meets x ≡ true) ps → all_meet ps x ≡ true
meet_all x [] all = refl
meet_all x (p ∷ ps) all = both (p.meets x) (all_meet ps x) all.0 (meet_all x ps all.1)
  where
    both : (b c : Bool) → b ≡ true → c ≡ true → (b && c) ≡ true
    both true c h k = k
    both false c h k = absurd (cc h)

single_one : (s : Sets) (x : List ℕ) → IsSingle x s → (v : ℕ) → v < length s → length (set_at s v) ≡ 1
single_one s x single v lt = ap length (single.each v lt)

single_full : (s : Sets) (x : List ℕ) → IsSingle x s → NoneEmpty s
single_full s x single v lt = let one = single_one s x single v lt in omega (arith, one)

single_in : (s t : Sets) (x : List ℕ) → IsSingle x s → Below t s → NoneEmpty t → IsIn x t
single_in s t x single le full = record {
  long = single.long ∙ sym le.long;
  each = λ v lt. (
      let below : v < length s = omega (arith, lt, le.long) in
      let same = single_below t s v le (full v lt) (single_one s x single v below) in
      subst (λ (xs : List ℕ). has xs (get_or x v 0) ≡ true) (sym (same ∙ single.each v below)) (has_here (get_or x v 0) []));
}

module _ (scope : List VarId) (holds : List ℕ → Bool) (cut : Sets → Option Sets) (parts : List Part)
    (whole : (x : List ℕ) → holds x ≡ all_meet parts x)
    (within : (q : Part) → Contains parts q → AllAmong scope q.vars)
    (forward : (q : Part) → Contains parts q → ChecksForward q scope cut) (lawful : Lawful scope cut)
    (keeps : (s : Sets) (x : List ℕ) → HasVars scope s → NoneEmpty s → IsIn x s → holds x ≡ true → Kept x (cut s)) where
  pub single_fails : (s : Sets) (x : List ℕ) → HasVars scope s → IsSingle x s → 0 < length scope → holds x ≡ false → cut s ≡ None
  single_fails s x k single some fails = by (cut s) refl (lawful.shrinks s k (single_full s x single))
    where
      by : (c : Option Sets) → cut s ≡ c → MatchOption c ⊤ (λ t. Below t s × NoneEmpty t) → cut s ≡ None
      by None is h = is
      by (Some t) is h =
          let met : All (λ (q : Part). q.meets x ≡ true) parts = λ i d lt. (let there : Contains parts (get_or parts i d) =
          (i, lt, get_or_default parts i (get_or parts i d) d lt) in
          forward (get_or parts i d) there s t 0 x k (single_full s x single)
          (λ none. absurd (omega (arith, some, none))) (λ j e lt' ne. single_one s x single (get_or (get_or parts i d).vars j e).0
          (has_among scope (get_or (get_or parts i d).vars j e) s (within (get_or parts i d) there j e lt') k))
          is (single_in s t x single h.0 h.1)) in
          let yes_all : holds x ≡ true = whole x ∙ meet_all x parts (recursion_from_All _ _ met) in
          absurd (cc (sym fails ∙ yes_all))

  pub single_failed : (s : Sets) (x : List ℕ) → HasVars scope s → IsSingle x s → cut s ≡ None → holds x ≡ false
  single_failed s x k single none = by (holds x) refl
    where
      by : (b : Bool) → holds x ≡ b → holds x ≡ false
      by false e = e
      by true e = absurd (subst (Kept x) none (keeps s x k (single_full s x single)
          (record {
            long = single.long;
            each = λ v lt. subst (λ (xs : List ℕ). has xs (get_or x v 0) ≡ true) (sym (single.each v lt))
                (has_here (get_or x v 0) []);
          }) e))

  -- what is left of single values holds; one that reads no variable is to hold by itself
  pub single_holds : (s : Sets) (x : List ℕ) → HasVars scope s → IsSingle x s → (length scope ≡ 0 → holds x ≡ true) → cut s ≡ Some s
      → holds x ≡ true
  single_holds s x k single grounded stays = by (length scope) refl (holds x) refl
    where
      by : (n : ℕ) → length scope ≡ n → (b : Bool) → holds x ≡ b → holds x ≡ true
      by n is true e = e
      by zero is false e = grounded is
      by (suc n) is false e = absurd (let fails = single_fails s x k single (omega (arith, is)) e in cc (sym stays ∙ fails))
