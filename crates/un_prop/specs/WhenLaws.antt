-- Laws of cuts where something is so of the store.
use Rattle.std.proofs.Common.{ℕ, ◌≡◌, ◌<◌, ◌∙◌, Bool, true, false, not, ◌&&◌, ◌||◌, List, [], ◌∷◌, length, get_or, nat_eq, Some}
use Rattle.std.proofs.Common.{refl, sym, ap, subst}
use Rattle.std.proofs.Common.{arith, inl, inr}
use Rattle.std.specs.List.{AllByRecursion, list_any, list_all}
use Rattle.std.proofs.lemmas.Bool.Decides.{nat_tests}
use Rattle.un_base.specs.declared.ids.VarId.{VarId}
use Rattle.un_domains.specs.Sets.{Sets, set_at, has, least, cut_by, IsIn, NoneEmpty, Kept}
use Rattle.un_domains.specs.CutLaws.{cut_by_kept}
use Rattle.un_domains.specs.SetLaws.{has-cons}
use Rattle.un_domains.specs.OrderLaws.{single_below}
use Rattle.un_prop.specs.Lawful.{Lawful, LawfulTest}
use Rattle.un_prop.specs.Steps.{lawful_cut_by}
use Rattle.un_prop.specs.Rounds.{HasVars}
use Rattle.un_prop.specs.Among.{among}
use Rattle.un_prop.specs.AmongLaws.{in_list, has_among}
use Rattle.un_prop.specs.LastLaws.{cut_all, cut_same, passes_all}
use Rattle.un_prop.specs.LookLaws.{not_or, or_not, both, firsts, set_alike}
use Rattle.un_prop.specs.When.{is_only, when_test, when_cut, LawfulFact}

-- The only value

one_of : (xs : List ℕ) (y : ℕ) → nat_eq (length xs) 1 ≡ true → has xs y ≡ true → y ≡ least xs
one_of [] y e h = absurd (cc h)
one_of (x ∷ []) y e h = elim (has-cons x y [] h) [ inl is ↦ is | inr later ↦ absurd (cc later) ]
one_of (x ∷ z ∷ xs) y e h = absurd (let two : length (x ∷ z ∷ xs) ≡ 1 = grind (arith, nat_tests, e) in omega (arith, two))

pub only_value : (v : VarId) (n : ℕ) (s : Sets) (y : ℕ) → is_only v n s ≡ true → has (set_at s v.0) y ≡ true → y ≡ n
only_value v n s y e h =
    let two = firsts (nat_eq (length (set_at s v.0)) 1) (nat_eq (least (set_at s v.0)) n) e in
    let is : least (set_at s v.0) ≡ n = (let t = two.1 in grind (arith, nat_tests, t)) in
    one_of (set_at s v.0) y two.0 h ∙ is

module _ (vs : List VarId) where
  pub only_fact : (v : VarId) (n : ℕ) → among vs v ≡ true → LawfulFact vs (is_only v n)
  only_fact v n at = record {
    grows = λ t s k full le e.
        (let one : length (set_at s v.0) ≡ 1 = (let t = (firsts (nat_eq (length (set_at s v.0)) 1) (nat_eq (least (set_at s v.0)) n) e).0 in
        grind (arith, nat_tests, t)) in
        let there = has_among vs v s at k in
        let same = single_below t s v.0 le (full v.0 (omega (arith, there, le.long))) one in
        subst (λ (xs : List ℕ). (nat_eq (length xs) 1 && nat_eq (least xs) n) ≡ true) (sym same) e);
    local = λ s t agree. ap (λ (xs : List ℕ). nat_eq (length xs) 1 && nat_eq (least xs) n) (set_alike vs s t agree v at);
  }

  -- Facts together

  pub both_facts : (a b : Sets → Bool) → LawfulFact vs a → LawfulFact vs b → LawfulFact vs (λ s. a s && b s)
  both_facts a b h k = record {
    grows = λ t s known full le e. (let two = firsts (a s) (b s) e in
        both (a t) (b t) (h.grows t s known full le two.0) (k.grows t s known full le two.1));
    local = λ s t agree. ap (λ (c : Bool). c && b s) (h.local s t agree) ∙ ap (λ (c : Bool). a t && c) (k.local s t agree);
  }

  pub either_fact : (a b : Sets → Bool) → LawfulFact vs a → LawfulFact vs b → LawfulFact vs (λ s. a s || b s)
  either_fact a b h k = record {
    grows = λ t s known full le e. or_grows (a s) (b s) (a t) (b t) (h.grows t s known full le) (k.grows t s known full le) e;
    local = λ s t agree. ap (λ (c : Bool). c || b s) (h.local s t agree) ∙ ap (λ (c : Bool). a t || c) (k.local s t agree);
  }
    where
      or_grows : (a b c d : Bool) → (a ≡ true → c ≡ true) → (b ≡ true → d ≡ true) → (a || b) ≡ true → (c || d) ≡ true
      or_grows true b c d h k e = ap (λ (x : Bool). x || d) (h refl)
      or_grows false true true d h k e = refl
      or_grows false true false d h k e = k refl
      or_grows false false c d h k e = absurd (cc e)

  pub any_fact : {A : Type 0} (P : A → Type 0) (so : A → Sets → Bool) → ((a : A) → P a → LawfulFact vs (so a)) → (xs : List A)
      → AllByRecursion P xs → LawfulFact vs (λ s. list_any (λ a. so a s) xs)
  any_fact P so h [] all = record { grows = λ t s known full le e. e; local = λ s t agree. refl }
  any_fact P so h (a ∷ xs) all = either_fact (so a) (λ s. list_any (λ b. so b s) xs) (h a all.0) (any_fact P so h xs all.1)

  pub all_facts : {A : Type 0} (P : A → Type 0) (so : A → Sets → Bool) → ((a : A) → P a → LawfulFact vs (so a)) → (xs : List A)
      → AllByRecursion P xs → LawfulFact vs (λ s. list_all (λ a. so a s) xs)
  all_facts P so h [] all = record { grows = λ t s known full le e. e; local = λ s t agree. refl }
  all_facts P so h (a ∷ xs) all = both_facts (so a) (λ s. list_all (λ b. so b s) xs) (h a all.0) (all_facts P so h xs all.1)

  -- The cut

  pub fixed_test : (p : ℕ → Bool) → LawfulTest vs (λ s. p)
  fixed_test p = record { monotone = λ t s y known full le e. e; local = λ s t y agree. refl }

  pub when_lawful_test : (so : Sets → Bool) (q : Sets → ℕ → Bool) → LawfulFact vs so → LawfulTest vs q → LawfulTest vs (when_test so q)
  when_lawful_test so q h k = record {
    monotone = λ t s y known full le e. not_or (so s) (q s y)
        (λ is. k.monotone t s y known full le (or_not (so t) (q t y) e (h.grows t s known full le is)));
    local = λ s t y agree. ap (λ (c : Bool). not c || q s y) (h.local s t agree) ∙ ap (λ (c : Bool). not (so t) || c) (k.local s t y agree);
  }

  pub when_lawful : (so : Sets → Bool) (q : Sets → ℕ → Bool) (v : VarId) → among vs v ≡ true → LawfulFact vs so → LawfulTest vs q
      → Lawful vs (when_cut so q v)
  when_lawful so q v at h k = lawful_cut_by vs v (when_test so q) (in_list vs v at) (when_lawful_test so q h k)

  pub when_keeps : (so : Sets → Bool) (q : Sets → ℕ → Bool) (v : VarId) → among vs v ≡ true → (s : Sets) (x : List ℕ) → HasVars vs s
      → IsIn x s → (so s ≡ true → q s (get_or x v.0 0) ≡ true) → Kept x (when_cut so q v s)
  when_keeps so q v at s x known there h = cut_by_kept (when_test so q s) v.0 s x (has_among vs v s at known) there
      (not_or (so s) (q s (get_or x v.0 0)) h)

-- what stays passes, where it is so
pub when_passes : (so : Sets → Bool) (q : Sets → ℕ → Bool) (v : VarId) (s : Sets) → v.0 < length s → when_cut so q v s ≡ Some s
    → so s ≡ true → (y : ℕ) → has (set_at s v.0) y ≡ true → q s y ≡ true
when_passes so q v s within e is y there = or_not (so s) (q s y) (passes_all (when_test so q s) v.0 s within e y there) is

-- the cut where it is not so, where it is, and where all pass
pub when_not : (so : Sets → Bool) (q : Sets → ℕ → Bool) (v : VarId) (s : Sets) → v.0 < length s → NoneEmpty s → so s ≡ false
    → when_cut so q v s ≡ Some s
when_not so q v s within full unsure = cut_all (when_test so q s) v.0 s within full (λ y there. ap (λ (b : Bool). not b || q s y) unsure)

pub when_so : (so : Sets → Bool) (q : Sets → ℕ → Bool) (p : ℕ → Bool) (v : VarId) (s : Sets) → so s ≡ true → ((y : ℕ) → q s y ≡ p y)
    → when_cut so q v s ≡ cut_by p v.0 s
when_so so q p v s is same = cut_same (when_test so q s) p v.0 s (λ y there. ap (λ (b : Bool). not b || q s y) is ∙ same y)

pub when_all : (so : Sets → Bool) (q : Sets → ℕ → Bool) (v : VarId) (s : Sets) → v.0 < length s → NoneEmpty s
    → ((y : ℕ) → has (set_at s v.0) y ≡ true → q s y ≡ true) → when_cut so q v s ≡ Some s
when_all so q v s within full h = cut_all (when_test so q s) v.0 s within full (λ y there. not_or (so s) (q s y) (λ is. h y there))
