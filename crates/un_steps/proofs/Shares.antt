-- The least of a function over a set of numbers, number after number, and what operations take, one after another.
use Rattle.std.proofs.Common.{ℕ, ◌≡◌, ◌<◌, ◌≤◌, ◌+◌, ◌↔◌, Bool, true, false, List, [], ◌∷◌, length, map, drop, inl, inr, ◌⊎◌, refl}
use Rattle.std.proofs.Common.{sym, ap, ◌∙◌, subst, arith}
use Rattle.std.specs.Prelude.{Option, Some, None, IsTrue, unwrap_or, sum_by, slice_get}
use Rattle.std.proofs.lemmas.List.Sums.{sum_by-cons}
use Rattle.un_isa.specs.declared.packet_counts.Resource.{Resource}
use Rattle.un_isa.specs.declared.packet_counts.Resource.TheVariants.{Instructions, Memory, Stores, MultiplyOrControl, Control}
use Rattle.un_domains.specs.Sets.{Sets, has, least}
use Rattle.un_domains.specs.SetLaws.{has-cons}
use Rattle.un_model.specs.declared.model.Model.{Model}
use Rattle.un_lists.proofs.Lists.{get_below}
use Rattle.un_model.proofs.Steps.{drop_at, drop_past}
use Rattle.un_steps.specs.Full.{less, IsLeastTo, takes_by}
use Rattle.un_steps.specs.Rules.{takes_in}
use Rattle.un_steps.specs.Words.{Operation}
use Rattle.un_steps.proofs.Looks.{less_or, has_first, has_later, least_known}
use Rattle.un_steps.proofs.Narrowing.{least_is}
use Rattle.un_steps.proofs.TooFull.{has_map}

-- the number before the next one, or one before that
before : (i n : ℕ) → i < n + 1 → (i ≡ n) ⊎ (i < n)
before i n lt = elim (less_or i n) [ inl l ↦ inr l | inr le ↦ inl (omega (arith, lt, le)) ]

pub not_left : (f : ℕ → ℕ) (xs : List ℕ) (n : ℕ) (known : Option ℕ) → has xs n ≡ false → IsLeastTo f xs n known
    → IsLeastTo f xs (n + 1) known
not_left f xs n None out h = λ i lt t. elim (before i n lt) [
  | inl e ↦ cc (sym out ∙ subst (λ k. has xs k ≡ true) e t)
  | inr l ↦ h i l t
]
not_left f xs n (Some k) out h = (
  h.0,
  λ i lt t. elim (before i n lt) [
    | inl e ↦ absurd (cc (sym out ∙ subst (λ k. has xs k ≡ true) e t))
    | inr l ↦ h.1 i l t
  ],
)

pub one_left : (f : ℕ → ℕ) (xs : List ℕ) (n : ℕ) (known : Option ℕ) → has xs n ≡ true → IsLeastTo f xs n known
    → IsLeastTo f xs (n + 1) (Some (less known (f n)))
one_left f xs n None left h = (
  (n, left, refl),
  λ i lt t. elim (before i n lt) [ inl e ↦ (let z = ap f e in omega (arith, z)) | inr l ↦ absurd (h i l t) ],
)
one_left f xs n (Some k) left h = (
  elim (less_or k (f n)) [
    | inl lt ↦ ((h.0).0, (h.0).1, (let z = (h.0).2 in omega (arith, z, lt)))
    | inr le ↦ (n, left, omega (arith, le))
  ],
  λ i lt t. elim (before i n lt) [
    | inl e ↦ (let z = ap f e in omega (arith, z))
    | inr l ↦ (let z = h.1 i l t in omega (arith, z))
  ],
)

map_has : (f : ℕ → ℕ) (xs : List ℕ) (y : ℕ) → has (map f xs) y ≡ true → (i : ℕ) × (has xs i ≡ true) × (f i ≡ y)
map_has f [] y h = absurd (cc h)
map_has f (x ∷ xs) y h = elim (has-cons (f x) y (map f xs) h) [
  | inl e ↦ (x, has_first x xs, sym e)
  | inr t ↦ let r = map_has f xs y t in (r.0, has_later x r.0 xs r.1, r.2)
]

-- over the numbers up to one that none of the set reaches
pub the_least : (f : ℕ → ℕ) (xs : List ℕ) (n : ℕ) (known : Option ℕ) → ((i : ℕ) → has xs i ≡ true → i < n) → IsLeastTo f xs n known
    → unwrap_or known 0 ≡ least (map f xs)
the_least f [] n None above h = refl
the_least f (x ∷ xs) n None above h = absurd (h x (above x (has_first x xs)) (has_first x xs))
the_least f xs n (Some k) above h =
    sym (least_is (map f xs) k (least_known (map f xs) k
    (subst (λ (y : ℕ). has (map f xs) y ≡ true) ((h.0).2) (has_map f xs (h.0).0 (h.0).1))
    (λ y t. let r = map_has f xs y t in let le = h.1 r.0 (above r.0 r.1) r.1 in let e = r.2 in omega (arith, le, e))))

-- ---- operation after operation

pub taken_step : (m : Model) (s : Sets) (r : Resource) (a n : ℕ) (ps : List Operation) (i : ℕ) → i < length ps
    → sum_by (takes_in m s r a n) (drop i ps) ≡ takes_by m s r a n (slice_get ps i) + sum_by (takes_in m s r a n) (drop (i + 1) ps)
taken_step m s r a n ps i lt =
    let p = get_below ps i lt in
    ap (sum_by (takes_in m s r a n)) (drop_at ps i p.0 p.1) ∙ sum_by-cons (takes_in m s r a n) p.0 (drop (i + 1) ps)
    ∙ ap (λ (o : Option Operation). takes_by m s r a n o + sum_by (takes_in m s r a n) (drop (i + 1) ps)) (sym p.1)

pub taken_all : (m : Model) (s : Sets) (r : Resource) (a n : ℕ) (ps : List Operation) (i : ℕ) → length ps ≤ i
    → sum_by (takes_in m s r a n) (drop i ps) ≡ 0
taken_all m s r a n ps i le = ap (sum_by (takes_in m s r a n)) (drop_past i ps le)

-- ---- resources

-- of none of the first four, so the last tells
pub last_of_five : (P : Resource → Type 0) → (P Instructions → ⊥) → (P Memory → ⊥) → (P Stores → ⊥) → (P MultiplyOrControl → ⊥) → (b : Bool)
    → IsTrue b ↔ P Control → IsTrue b ↔ ((r : Resource) × P r)
last_of_five P n1 n2 n3 n4 b iff = (λ t. (Control, iff.0 t), λ some. by some.0 some.1)
  where
    by : (r : Resource) → P r → IsTrue b
    by Instructions h = absurd (n1 h)
    by Memory h = absurd (n2 h)
    by Stores h = absurd (n3 h)
    by MultiplyOrControl h = absurd (n4 h)
    by Control h = iff.1 h
