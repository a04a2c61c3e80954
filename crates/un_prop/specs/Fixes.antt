-- Rounds end at the greatest store that every cut leaves as it is; so any fair order does, and from any store between.
use Rattle.std.proofs.Common.{ℕ, zero, suc, ◌≡◌, ◌≢◌, ◌<◌, ◌≤◌, Bool, true, false, cond, List, [], ◌∷◌, length, nat_eq, None, Some}
use Rattle.std.proofs.Common.{option_and_then, MatchOption, refl, ap, ◌∙◌, subst, arith}
use Rattle.std.specs.declared.option.Option.{Option}
use Rattle.std.specs.Bool.{⊤}
use Rattle.std.specs.List.{AllByRecursion, Contains}
use Rattle.std.proofs.lemmas.List.Elements.{All-contains, All-from_recursion}
use Rattle.std.proofs.lemmas.Bool.Decides.{nat_tests}
use Rattle.un_base.specs.declared.ids.VarId.{VarId}
use Rattle.un_domains.specs.Sets.{Sets, NoneEmpty, total}
use Rattle.un_prop.specs.Rounds.{round, rounds, fix_of, HasVars}
use Rattle.un_domains.specs.Order.{Below}
use Rattle.un_prop.specs.Lawful.{BelowOption, Lawful}
use Rattle.un_domains.specs.OrderLaws.{Below-refl, Below-trans, Below-same, total_below, total_same}

-- every cut leaves the store as it is
abbrev pub Stable : {P : Type 0} → (P → Sets → Option Sets) → List P → Sets → Type 0
Stable cut ps s = AllByRecursion (λ p. cut p s ≡ Some s) ps

-- a stable store below s, and above each other
pub record IsGreatest {P : Type 0} (cut : P → Sets → Option Sets) (ps : List P) (s t : Sets) : Type 0 where
  pub below : Below t s
  pub full : NoneEmpty t
  pub stable : Stable cut ps t
  pub greatest : (u : Sets) → Below u s → NoneEmpty u → Stable cut ps u → Below u t

-- the greatest stable store below s, or none where there is none
abbrev pub IsFixOf : {P : Type 0} → (P → Sets → Option Sets) → List P → Sets → Option Sets → Type 0
IsFixOf cut ps s None = (u : Sets) → Below u s → NoneEmpty u → Stable cut ps u → ⊥
IsFixOf cut ps s (Some t) = IsGreatest cut ps s t

abbrev pub Shrunk : Sets → Option Sets → Type 0
Shrunk s c = MatchOption c ⊤ (λ t. Below t s × NoneEmpty t)

-- there is one
pub fix_unique : {P : Type 0} (cut : P → Sets → Option Sets) (ps : List P) (s : Sets) (c d : Option Sets) → IsFixOf cut ps s c
    → IsFixOf cut ps s d → c ≡ d
fix_unique cut ps s None None h k = refl
fix_unique cut ps s None (Some t) h k = absurd (h t k.below k.full k.stable)
fix_unique cut ps s (Some t) None h k = absurd (k t h.below h.full h.stable)
fix_unique cut ps s (Some t) (Some u) h k = ap (λ (x : Sets). Some x)
    (Below-same t u (k.greatest t h.below h.full h.stable) (h.greatest u k.below k.full k.stable))

module _ {P : Type 0} (scope : P → List VarId) (cut : P → Sets → Option Sets) (lawful : (p : P) → Lawful (scope p) (cut p)) where
  abbrev pub Known : List P → Sets → Type 0
  Known ps s = AllByRecursion (λ p. HasVars (scope p) s) ps

  pub known_long : (ps : List P) (s t : Sets) → length t ≡ length s → Known ps s → Known ps t
  known_long [] s t e k = tt
  known_long (p ∷ ps) s t e k = (λ i d lt. rw e (k.0 i d lt), known_long ps s t e k.1)

  wider : (s t : Sets) (c : Option Sets) → Below t s → Shrunk t c → Shrunk s c
  wider s t None w h = tt
  wider s t (Some u) w h = (Below-trans u t s h.0 w, h.1)

  then_shrunk : (f : Sets → Option Sets) (s : Sets) (c : Option Sets) → Shrunk s c
      → ((t : Sets) → length t ≡ length s → NoneEmpty t → Shrunk t (f t)) → Shrunk s (option_and_then f c)
  then_shrunk f s None h g = tt
  then_shrunk f s (Some t) h g = wider s t (f t) h.0 (g t h.0.long h.1)

  pub round_shrunk : (ps : List P) (s : Sets) → Known ps s → NoneEmpty s → Shrunk s (round cut ps s)
  round_shrunk [] s k f = (Below-refl s, f)
  round_shrunk (p ∷ ps) s k f = then_shrunk (round cut ps) s (cut p s) ((lawful p).shrinks s k.0 f)
      (λ t e full. round_shrunk ps t (known_long ps s t e k.1) full)

  -- a cut before a round that ends with as many values leaves the sets as they are
  first_stable : (p : P) (ps : List P) (s u : Sets) (c : Option Sets) → Known (p ∷ ps) s → cut p s ≡ c → Shrunk s c
      → option_and_then (round cut ps) c ≡ Some u → total s ≤ total u
      → (cut p s ≡ Some s) × (round cut ps s ≡ Some u)
  first_stable p ps s u None k is h e less = absurd (cc e)
  first_stable p ps s u (Some t) k is h e less =
      let rest : Shrunk t (Some u) = subst (Shrunk t) e (round_shrunk ps t (known_long ps s t h.0.long k.1) h.1) in
      let same : t ≡ s = total_same t s h.0 (omega (arith, total_below t s h.0, total_below u t rest.0, less)) in
      (is ∙ ap (λ (x : Sets). Some x) same, subst (λ (x : Sets). round cut ps x ≡ Some u) same e)

  pub round_stable : (ps : List P) (s u : Sets) → Known ps s → NoneEmpty s → round cut ps s ≡ Some u → total s ≤ total u → Stable cut ps s
  round_stable [] s u k f e less = tt
  round_stable (p ∷ ps) s u k f e less =
      let h = first_stable p ps s u (cut p s) k refl ((lawful p).shrinks s k.0 f) e less in
      (h.0, round_stable ps s u k.1 f h.1 less)

  -- a stable store below s stays below what a cut leaves of s
  pub stays_below : (p : P) (u s : Sets) → HasVars (scope p) s → NoneEmpty u → NoneEmpty s → Below u s → cut p u ≡ Some u
      → BelowOption (Some u) (cut p s)
  stays_below p u s k fu fs b e = subst (λ (c : Option Sets). BelowOption c (cut p s)) e ((lawful p).monotone u s k fu fs b)

  then_below : (f : Sets → Option Sets) (u s : Sets) (c : Option Sets) → Shrunk s c → BelowOption (Some u) c
      → ((t : Sets) → length t ≡ length s → NoneEmpty t → Below u t → BelowOption (Some u) (f t))
      → BelowOption (Some u) (option_and_then f c)
  then_below f u s None h b g = b
  then_below f u s (Some t) h b g = g t h.0.long h.1 b

  pub round_below : (ps : List P) (u s : Sets) → Known ps s → NoneEmpty u → NoneEmpty s → Below u s → Stable cut ps u
      → BelowOption (Some u) (round cut ps s)
  round_below [] u s k fu fs b e = b
  round_below (p ∷ ps) u s k fu fs b e =
      then_below (round cut ps) u s (cut p s) ((lawful p).shrinks s k.0 fs) (stays_below p u s k.0 fu fs b e.0)
      (λ t long full below. round_below ps u t (known_long ps s t long k.1) fu full below e.1)

  rounds_below : (n : ℕ) (ps : List P) (u s : Sets) → Known ps s → NoneEmpty u → NoneEmpty s → Below u s → Stable cut ps u
      → BelowOption (Some u) (rounds cut n ps s)
  rounds_below zero ps u s k fu fs b e = b
  rounds_below (suc n) ps u s k fu fs b e =
      then_below (λ t. cond (nat_eq (total t) (total s)) (Some s) (rounds cut n ps t)) u s (round cut ps s) (round_shrunk ps s k fs)
      (round_below ps u s k fu fs b e)
      (λ t long full below. by t (nat_eq (total t) (total s)) (rounds_below n ps u t (known_long ps s t long k) fu full below e))
    where
      by : (t : Sets) (c : Bool) → BelowOption (Some u) (rounds cut n ps t) → BelowOption (Some u) (cond c (Some s) (rounds cut n ps t))
      by t true h = b
      by t false h = h

  -- what rounds with enough fuel leave is below, and stable
  abbrev pub Ends : List P → Sets → Option Sets → Type 0
  Ends ps s c = MatchOption c ⊤ (λ t. Below t s × NoneEmpty t × Stable cut ps t)

  ends_wider : (ps : List P) (s t : Sets) (c : Option Sets) → Below t s → Ends ps t c → Ends ps s c
  ends_wider ps s t None b h = tt
  ends_wider ps s t (Some u) b h = (Below-trans u t s h.0 b, h.1, h.2)

  after_round : (n : ℕ) (ps : List P) (s : Sets) (c : Option Sets) → Known ps s → NoneEmpty s → round cut ps s ≡ c → Shrunk s c
      → ((t : Sets) → total t < total s → length t ≡ length s → NoneEmpty t → Ends ps t (rounds cut n ps t))
      → Ends ps s (option_and_then (λ t. cond (nat_eq (total t) (total s)) (Some s) (rounds cut n ps t)) c)
  after_round n ps s None k f is h next = tt
  after_round n ps s (Some t) k f is h next = by (nat_eq (total t) (total s)) refl
    where
      by : (b : Bool) → nat_eq (total t) (total s) ≡ b → Ends ps s (cond b (Some s) (rounds cut n ps t))
      by true e = (
        Below-refl s,
        f,
        round_stable ps s t k f is (let same : total t ≡ total s = grind (arith, nat_tests) in
            omega (arith, same)),
      )
      by false e = ends_wider ps s t (rounds cut n ps t) h.0 (next t
          (let apart : total t ≢ total s = grind (arith, nat_tests) in omega (arith, total_below t s h.0, apart)) h.0.long h.1)

  rounds_ends : (n : ℕ) (ps : List P) (s : Sets) → total s < n → Known ps s → NoneEmpty s → Ends ps s (rounds cut n ps s)
  rounds_ends zero ps s enough k f = absurd (omega arith)
  rounds_ends (suc n) ps s enough k f =
      after_round n ps s (round cut ps s) k f refl (round_shrunk ps s k f)
      (λ t fewer e full. rounds_ends n ps t (omega (arith, fewer, enough)) (known_long ps s t e k) full)

  -- **rounds end at the greatest stable store**
  pub fix_greatest : (ps : List P) (s : Sets) → Known ps s → NoneEmpty s → IsFixOf cut ps s (fix_of cut ps s)
  fix_greatest ps s k f = by (fix_of cut ps s) (rounds_ends (suc (total s)) ps s (omega arith) k f)
      (λ u fu b e. rounds_below (suc (total s)) ps u s k fu f b e)
    where
      by : (c : Option Sets) → Ends ps s c → ((u : Sets) → NoneEmpty u → Below u s → Stable cut ps u → BelowOption (Some u) c)
          → IsFixOf cut ps s c
      by None h g = λ u b fu e. g u fu b e
      by (Some t) h g = record { below = h.0; full = h.1; stable = h.2; greatest = λ u b fu e. g u fu b e }

  -- **any way to the greatest stable store, or to none, gives what the rounds give**
  pub order_free : (ps : List P) (s : Sets) (c : Option Sets) → Known ps s → NoneEmpty s → IsFixOf cut ps s c → fix_of cut ps s ≡ c
  order_free ps s c k f h = fix_unique cut ps s (fix_of cut ps s) c (fix_greatest ps s k f) h

  lower : (ps : List P) (t s : Sets) (c : Option Sets) → Below t s → BelowOption c (Some t) → IsFixOf cut ps s c → IsFixOf cut ps t c
  lower ps t s None b h g = λ u below. g u (Below-trans u t s below b)
  lower ps t s (Some r) b h g = record {
    below = h;
    full = g.full;
    stable = g.stable;
    greatest =
        λ u below. g.greatest u (Below-trans u t s below b);
  }

  -- **from any store between, the same end**
  pub fix_between : (ps : List P) (t s : Sets) → Known ps s → NoneEmpty t → NoneEmpty s → Below t s → BelowOption (fix_of cut ps s) (Some t)
      → fix_of cut ps t ≡ fix_of cut ps s
  fix_between ps t s k ft fs b h = order_free ps t (fix_of cut ps s) (known_long ps s t b.long k) ft
      (lower ps t s (fix_of cut ps s) b h (fix_greatest ps s k fs))

  -- a round leaves a store that ends alike
  pub round_next : (ps : List P) (s t : Sets) → Known ps s → NoneEmpty s → round cut ps s ≡ Some t → fix_of cut ps t ≡ fix_of cut ps s
  round_next ps s t k f e =
      let less : Below t s × NoneEmpty t = subst (Shrunk s) e (round_shrunk ps s k f) in
      fix_between ps t s k less.1 f less.0 (by (fix_of cut ps s) (fix_greatest ps s k f))
    where
      by : (c : Option Sets) → IsFixOf cut ps s c → BelowOption c (Some t)
      by None g = tt
      by (Some u) g = subst (BelowOption (Some u)) e (round_below ps u s k g.full f g.below g.stable)

  -- a round that changes nothing is the end
  pub round_ends : (ps : List P) (s : Sets) → Known ps s → NoneEmpty s → round cut ps s ≡ Some s → fix_of cut ps s ≡ Some s
  round_ends ps s k f e = order_free ps s (Some s) k f (record {
    below = Below-refl s;
    full = f;
    stable = round_stable ps s s k f e (omega arith);
    greatest = λ u b fu stable. b;
  })

  -- a round that fails is the end
  pub round_fails : (ps : List P) (s : Sets) → round cut ps s ≡ None → fix_of cut ps s ≡ None
  round_fails ps s e = ap (option_and_then (λ t. cond (nat_eq (total t) (total s)) (Some s) (rounds cut (total s) ps t))) e

  stable_in : (ps qs : List P) (u : Sets) → AllByRecursion (Contains ps) qs → Stable cut ps u → Stable cut qs u
  stable_in ps [] u all stable = tt
  stable_in ps (q ∷ qs) u all stable = (
    All-contains (λ p. cut p u ≡ Some u) ps q (All-from_recursion (λ p. cut p u ≡ Some u) ps stable) all.0,
    stable_in ps qs u all.1 stable,
  )

  -- **lists of the same propagators, in whatever order, end alike**
  pub same_ends : (ps qs : List P) (s : Sets) → Known ps s → Known qs s → NoneEmpty s → AllByRecursion (Contains ps) qs
      → AllByRecursion (Contains qs) ps
      → fix_of cut ps s ≡ fix_of cut qs s
  same_ends ps qs s kp kq f to from = order_free ps s (fix_of cut qs s) kp f (by (fix_of cut qs s) (fix_greatest qs s kq f))
    where
      by : (c : Option Sets) → IsFixOf cut qs s c → IsFixOf cut ps s c
      by None g = λ u below fu stable. g u below fu (stable_in ps qs u to stable)
      by (Some t) g = record {
        below = g.below;
        full = g.full;
        stable = stable_in qs ps t from g.stable;
        greatest = λ u below fu stable. g.greatest u below fu (stable_in ps qs u to stable);
      }
