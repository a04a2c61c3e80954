-- Laws of cuts for each two places of a list.
use Rattle.std.proofs.Common.{ℕ, zero, suc, ◌≡◌, ◌≢◌, ◌<◌, ◌≤◌, Bool, true, List, [], ◌∷◌, length, get_or, None, Some, option_and_then}
use Rattle.std.proofs.Common.{MatchOption, All, refl, sym, ap, ◌∙◌, subst, arith, inl, inr}
use Rattle.std.specs.declared.option.Option.{Option}
use Rattle.std.specs.Bool.{⊤}
use Rattle.std.specs.List.{AllByRecursion}
use Rattle.std.proofs.lemmas.Bool.{cases_lt}
use Rattle.un_base.specs.declared.ids.VarId.{VarId}
use Rattle.un_domains.specs.Sets.{Sets, set_at, IsIn, NoneEmpty, Kept}
use Rattle.un_domains.specs.Order.{Below}
use Rattle.un_domains.specs.OrderLaws.{single_below, has_below}
use Rattle.un_prop.specs.Rounds.{HasVars}
use Rattle.un_prop.specs.Lawful.{Lawful}
use Rattle.un_prop.specs.Steps.{lawful_some}
use Rattle.un_prop.specs.Places.{each_place}
use Rattle.un_prop.specs.ChainLaws.{then_kept, known_in, each_lawful, each_stable}
use Rattle.un_prop.specs.declared.act.Temp.{Temp}
use Rattle.un_rect.specs.Pairs.{at_place, each_before, each_pair}

-- The place of a list

pub at_is : {A : Type 0} (f : A → Sets → Option Sets) (xs : List A) (i : ℕ) (d : A) (s : Sets) → i < length xs → at_place f xs i s ≡ f
    (get_or xs i d) s
at_is f [] i d s lt = absurd (omega (arith, lt))
at_is f (a ∷ rest) zero d s lt = refl
at_is f (a ∷ rest) (suc i) d s lt = at_is f rest i d s (omega (arith, lt))

-- where no place cuts, nothing is cut
pub each_same : (f : ℕ → Sets → Option Sets) (n : ℕ) (s : Sets) → ((i : ℕ) → f i s ≡ Some s) → each_place f n s ≡ Some s
each_same f zero s h = refl
each_same f (suc n) s h = ap (option_and_then (f n)) (each_same f n s h) ∙ h n

pub at_same : {A : Type 0} (P : A → Type 0) (f : A → Sets → Option Sets) (xs : List A) (s : Sets) → AllByRecursion P xs
    → ((a : A) → P a → f a s ≡ Some s) → (i : ℕ) → at_place f xs i s ≡ Some s
at_same P f [] s all h i = refl
at_same P f (a ∷ rest) s all h zero = h a all.0
at_same P f (a ∷ rest) s all h (suc i) = at_same P f rest s all.1 h i

pub in_below : (u m : Sets) (x : List ℕ) → Below u m → IsIn x u → IsIn x m
in_below u m x below there = record {
  long = there.long ∙ below.long;
  each = λ i lt. has_below u m i (get_or x i 0) below (there.each i (omega (arith, lt, below.long)));
}

module _ (vs : List VarId) where
  pub at_lawful : {A : Type 0} (P : A → Type 0) (f : A → Sets → Option Sets) → ((a : A) → P a → Lawful vs (f a)) → (xs : List A)
      → AllByRecursion P xs → (i : ℕ) → Lawful vs (at_place f xs i)
  at_lawful P f h [] all i = lawful_some vs
  at_lawful P f h (a ∷ rest) all zero = h a all.0
  at_lawful P f h (a ∷ rest) all (suc i) = at_lawful P f h rest all.1 i

  -- an assignment that stays through each cut stays
  keeps_below : (f : ℕ → Sets → Option Sets) (x : List ℕ) (n : ℕ) → ((i : ℕ) (m : Sets) → i < n → HasVars vs m → IsIn x m → Kept x (f i m))
      → (s : Sets) → HasVars vs s → IsIn x s → Kept x (each_place f n s)
  keeps_below f x zero h s k there = there
  keeps_below f x (suc n) h s k there = then_kept (f n) x (each_place f n s) (keeps_below f x n (λ i m lt. h i m (omega (arith, lt))) s k
      there)
      (λ m in_m. h n m (omega arith) (known_in vs s m x there in_m k) in_m)

  -- where all of some variables but v have one value, x meets a test if it is left after a cut
  abbrev pub Checks : List VarId → ℕ → List ℕ → Bool → (Sets → Option Sets) → Type 0
  Checks us v x b f = (s u : Sets) → HasVars vs s → NoneEmpty s → All (λ w. w.0 ≢ v → length (set_at s w.0) ≡ 1) us → f s ≡ Some u
      → IsIn x u → b ≡ true

  module _ (us : List VarId) (known : (s : Sets) → HasVars vs s → HasVars us s) (v : ℕ) (x : List ℕ) (b : Bool) where
    pub checks_first : (f g : Sets → Option Sets) → Lawful vs f → Lawful vs g → Checks us v x b f
        → Checks us v x b (λ s. option_and_then g (f s))
    checks_first f g hf hg h s u k full one is there = by (f s) refl (hf.shrinks s k full) is
      where
        by : (c : Option Sets) → f s ≡ c → MatchOption c ⊤ (λ m. Below m s × NoneEmpty m) → option_and_then g c ≡ Some u → b ≡ true
        by None e less end = absurd (cc end)
        by (Some m) e less end =
            let km : HasVars vs m = λ i d lt. rw less.0.long (k i d lt) in
            let down : Below u m × NoneEmpty u = subst (λ (c : Option Sets). MatchOption c ⊤ (λ t. Below t m × NoneEmpty t)) end
            (hg.shrinks m km less.1) in
            h s m k full one e (in_below u m x down.0 there)

    pub checks_second : (f g : Sets → Option Sets) → Lawful vs f → Checks us v x b g → Checks us v x b (λ s. option_and_then g (f s))
    checks_second f g hf h s u k full one is there = by (f s) (hf.shrinks s k full) is
      where
        by : (c : Option Sets) → MatchOption c ⊤ (λ m. Below m s × NoneEmpty m) → option_and_then g c ≡ Some u → b ≡ true
        by None less end = absurd (cc end)
        by (Some m) less end =
            let km : HasVars vs m = λ i d lt. rw less.0.long (k i d lt) in
            h m u km less.1 (λ i d lt ne. (
            let w = (get_or us i d).0 in
            ap length (single_below m s w less.0 (less.1 w (known m km i d lt)) (one i d lt ne)) ∙ one i d lt ne)) end there

    pub checks_each : (f : ℕ → Sets → Option Sets) → ((i : ℕ) → Lawful vs (f i)) → (n i : ℕ) → i < n → Checks us v x b (f i)
        → Checks us v x b (each_place f n)
    checks_each f hf zero i lt h = absurd (omega (arith, lt))
    checks_each f hf (suc n) i lt h = elim (cases_lt i n) [
      | inl below ↦ checks_first (each_place f n) (f n) (each_lawful vs f hf n) (hf n) (checks_each f hf n i below h)
      | inr above ↦ (let is : i ≡ n = omega (arith, lt, above) in
          checks_second (each_place f n) (f n) (each_lawful vs f hf n) (subst (λ (j : ℕ). Checks us v x b (f j)) is h))
    ]

    checks_at : (f : Temp → Sets → Option Sets) (xs : List Temp) (i : ℕ) (d : Temp) → i < length xs → Checks us v x b (f (get_or xs i d))
        → Checks us v x b (at_place f xs i)
    checks_at f xs i d lt h s u k full one is there = h s u k full one (sym (at_is f xs i d s lt) ∙ is) there

    module _ (P : Temp → Type 0) (f : Temp → Temp → Sets → Option Sets) (hf : (a b : Temp) → P a → P b → Lawful vs (f a b))
        (temps : List Temp) (all : AllByRecursion P temps) where
      pub pairs_check : (n i j : ℕ) (d : Temp) → n ≤ length temps → i < j → j < n → P (get_or temps j d)
          → Checks us v x b (f (get_or temps i d) (get_or temps j d)) → Checks us v x b (each_pair f temps n)
      pairs_check n i j d few lt below of_j h =
          let later = get_or temps j d in
          let row = λ (k : ℕ) (c : Temp). each_place (at_place (λ a. f a c) temps) k in
          checks_each (λ k. at_place (row k) temps k)
          (λ k. at_lawful P (row k) (λ c pc. each_lawful vs (at_place (λ a. f a c) temps) (at_lawful P (λ a. f a c) (λ a pa. hf a c pa pc)
          temps all) k) temps all k)
          n j below
          (checks_at (row j) temps j d (omega (arith, below, few))
          (checks_each (at_place (λ a. f a later) temps) (at_lawful P (λ a. f a later) (λ a pa. hf a later pa of_j) temps all) j i lt
          (checks_at (λ a. f a later) temps i d (omega (arith, lt, below, few)) h)))

  module _ (P : Temp → Type 0) (f : Temp → Temp → Sets → Option Sets) (temps : List Temp) where
    pub pairs_keep : (x : List ℕ) (n : ℕ) (d : Temp) → n ≤ length temps
        → ((i j : ℕ) (m : Sets) → i < j → j < length temps → HasVars vs m → IsIn x m → Kept x (f (get_or temps i d) (get_or temps j d) m))
        → (s : Sets) → HasVars vs s → IsIn x s → Kept x (each_pair f temps n s)
    pairs_keep x n d few h s k there = keeps_below (λ j. at_place (λ b. each_place (at_place (λ a. f a b) temps) j) temps j) x n
        (λ j m lt km in_m. subst (Kept x) (sym (at_is (λ b. each_place (at_place (λ a. f a b) temps) j) temps j d m
        (omega (arith, lt, few))))
        (keeps_below (at_place (λ a. f a (get_or temps j d)) temps) x j
        (λ i t below kt in_t. subst (Kept x) (sym (at_is (λ a. f a (get_or temps j d)) temps i d t (omega (arith, below, lt, few))))
        (h i j t below (omega (arith, lt, few)) kt in_t)) m km in_m)) s k there

    module _ (hf : (a b : Temp) → P a → P b → Lawful vs (f a b)) (all : AllByRecursion P temps) where
      pub row_lawful : (b : Temp) → P b → (n : ℕ) → Lawful vs (each_before f temps b n)
      row_lawful b pb n = each_lawful vs (at_place (λ a. f a b) temps) (at_lawful P (λ a. f a b) (λ a pa. hf a b pa pb) temps all) n

      pub pairs_lawful : (n : ℕ) → Lawful vs (each_pair f temps n)
      pairs_lawful n = each_lawful vs (λ j. at_place (λ b. each_before f temps b j) temps j)
          (λ j. at_lawful P (λ b. each_before f temps b j) (λ b pb. row_lawful b pb j) temps all j) n

      -- a store that stays through all stays through each
      pub pairs_stable : (n : ℕ) (s : Sets) → n ≤ length temps → HasVars vs s → NoneEmpty s → each_pair f temps n s ≡ Some s
          → (i j : ℕ) (d : Temp) → i < j → j < n → P (get_or temps j d) → f (get_or temps i d) (get_or temps j d) s ≡ Some s
      pairs_stable n s few k full e i j d lt below of_j =
          let b = get_or temps j d in
          let row = each_stable vs (λ j. at_place (λ b. each_before f temps b j) temps j)
          (λ j. at_lawful P (λ b. each_before f temps b j) (λ b pb. row_lawful b pb j) temps all j) n s k full e j below in
          let here : each_before f temps b j s ≡ Some s = sym (at_is (λ b. each_before f temps b j) temps j d s (omega (arith, below, few)))
          ∙ row in
          let one = each_stable vs (at_place (λ a. f a b) temps) (at_lawful P (λ a. f a b) (λ a pa. hf a b pa of_j) temps all) j s k full
          here i lt in
          sym (at_is (λ a. f a b) temps i d s (omega (arith, lt, below, few))) ∙ one
