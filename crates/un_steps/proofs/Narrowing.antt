-- Where operations take too much in some cycles, they do from the least cycle of one of them, and up to the greatest cycle of one.
use Rattle.std.proofs.Common.{ℕ, suc, ◌≡◌, ◌<◌, ◌≤◌, ◌+◌, ◌*◌, ◌-◌, ◌⊎◌, Bool, true, false, List, [], ◌∷◌, length, inl, inr, refl, sym}
use Rattle.std.proofs.Common.{ap, ◌∙◌, subst, arith}
use Rattle.std.specs.Prelude.{Option, Some, None, IsSomeAnd, ◌&&◌, ◌==◌, nat_le, nat_lt, sum_by, slice_get, if◌then◌else◌}
use Rattle.std.proofs.lemmas.Bool.{cases_lt}
use Rattle.std.proofs.lemmas.Bool.Decides.{nat_tests}
use Rattle.std.proofs.lemmas.List.Sums.{sum_by-cons}
use Rattle.std.proofs.lemmas.Nat.{mul-le}
use Rattle.un_isa.specs.PacketCounts.{places_of}
use Rattle.un_isa.specs.declared.packet_counts.Resource.{Resource}
use Rattle.un_domains.specs.Sets.{Sets, least, greatest}
use Rattle.un_model.specs.declared.model.Model.{Model}
use Rattle.un_lists.proofs.Lists.{Each, Member, each_member}
use Rattle.un_steps.specs.Full.{IsFullTo, IsFullFrom}
use Rattle.un_steps.specs.Rules.{are_among, issues_in, least_share, takes_in, IsFullIn}
use Rattle.un_steps.specs.Words.{Operation, cycles, least_of, greatest_of, is_sure}
use Rattle.un_steps.proofs.Boxes.{some_of}
use Rattle.un_steps.proofs.Filled.{sum_less}
use Rattle.un_steps.proofs.Looks.{both}
use Rattle.un_steps.proofs.TooFull.{sure_of}

-- ---- the first of what passes, by an order of numbers

-- at a place of a list stands what passes, and nothing that passes is before it
record First {X : Type 0} (R : ℕ → ℕ → Type 0) (t : X → Bool) (k : X → ℕ) (xs : List X) : Type 0 where
  pub place : ℕ
  pub item : X
  pub at : slice_get xs place ≡ Some item
  pub passes : t item ≡ true
  pub rest : (y : X) → Member y xs → t y ≡ true → R (k item) (k y)

first_of : {X : Type 0} (R : ℕ → ℕ → Type 0) → ((a b : ℕ) → R a b ⊎ R b a) → ((a b c : ℕ) → R a b → R b c → R a c)
    → (t : X → Bool) (k : X → ℕ) (xs : List X) → Each (λ x. t x ≡ false) xs ⊎ First R t k xs
first_of R total trans t k [] = inl tt
first_of R total trans t k (x ∷ xs) = by (t x) refl (first_of R total trans t k xs)
  where
    same : R (k x) (k x)
    same = elim (total (k x) (k x)) [ inl a ↦ a | inr a ↦ a ]

    later : First R t k xs → (t x ≡ true → (f : First R t k xs) → R (k f.item) (k x)) → First R t k (x ∷ xs)
    later f before = record {
      place = suc f.place;
      item = f.item;
      at = f.at;
      passes = f.passes;
      rest = λ y m p. elim m [ inl e ↦ subst (λ z. R (k f.item) (k z)) e (before (ap t e ∙ p) f) | inr n ↦ f.rest y n p ];
    }

    by : (b : Bool) → t x ≡ b → Each (λ x. t x ≡ false) xs ⊎ First R t k xs → Each (λ x. t x ≡ false) (x ∷ xs) ⊎ First R t k (x ∷ xs)
    by false e (inl none) = inl (e, none)
    by false e (inr f) = inr (later f (λ p f. absurd (cc (sym e ∙ p))))
    by true e (inl none) = inr (record {
      place = 0;
      item = x;
      at = refl;
      passes = e;
      rest = λ y m p. elim m [
        | inl g ↦ subst (λ z. R (k x) (k z)) g same
        | inr n ↦ absurd (cc (sym (each_member (λ x. t x ≡ false) xs y none n) ∙ p))
      ];
    })
    by true e (inr f) = elim (total (k x) (k f.item)) [
      | inl lo ↦ inr (record {
        place = 0;
        item = x;
        at = refl;
        passes = e;
        rest = λ y m p. elim m [
          | inl g ↦ subst (λ z. R (k x) (k z)) g same
          | inr n ↦ trans (k x) (k f.item) (k y) lo (f.rest y n p)
        ];
      })
      | inr hi ↦ inr (record {
        place = suc f.place;
        item = f.item;
        at = f.at;
        passes = f.passes;
        rest = λ y m p. elim m [ inl g ↦ subst (λ z. R (k f.item) (k z)) g hi | inr n ↦ f.rest y n p ];
      })
    ]

up : (a b : ℕ) → (a ≤ b) ⊎ (b ≤ a)
up a b = elim (cases_lt a b) [ inl lt ↦ inl (omega (arith, lt)) | inr le ↦ inr le ]

-- ---- an operation that issues in some cycles

pub least_is : (xs : List ℕ) (a : ℕ) → least_of xs ≡ Some a → least xs ≡ a
least_is xs a e = by (length xs == 0) refl
  where
    by : (b : Bool) → (length xs == 0) ≡ b → least xs ≡ a
    by true f = let z : None ≡ Some a = sym (ap (λ (b : Bool). if b then None else Some (least xs)) f) ∙ e in absurd (cc z)
    by false f = let z : Some (least xs) ≡ Some a = sym (ap (λ (b : Bool). if b then None else Some (least xs)) f) ∙ e in cc z

greatest_is : (xs : List ℕ) (a : ℕ) → greatest_of xs ≡ Some a → greatest xs ≡ a
greatest_is xs a e = by (length xs == 0) refl
  where
    by : (b : Bool) → (length xs == 0) ≡ b → greatest xs ≡ a
    by true f = let z : None ≡ Some a = sym (ap (λ (b : Bool). if b then None else Some (greatest xs)) f) ∙ e in absurd (cc z)
    by false f = let z : Some (greatest xs) ≡ Some a = sym (ap (λ (b : Bool). if b then None else Some (greatest xs)) f) ∙ e in cc z

record Counted (s : Sets) (a n : ℕ) (p : Operation) : Type 0 where
  pub sure : is_sure s p ≡ true
  pub first : ℕ
  pub last : ℕ
  pub is_first : least_of (cycles s p) ≡ Some first
  pub is_last : greatest_of (cycles s p) ≡ Some last
  pub from : a ≤ first
  pub to : last < a + n

counted : (s : Sets) (a n : ℕ) (p : Operation) → issues_in s a n p ≡ true → Counted s a n p
counted s a n p h = let two = both (is_sure s p) _ h in by (least_of (cycles s p)) (greatest_of (cycles s p)) refl refl two.0 two.1
  where
    by : (first last : Option ℕ) → least_of (cycles s p) ≡ first → greatest_of (cycles s p) ≡ last → is_sure s p ≡ true
        → are_among a n first last ≡ true → Counted s a n p
    by (Some f) (Some l) e g sure t =
        let two = both (nat_le a f) (nat_lt l (a + n)) t in
        let lo = two.0 in let hi = two.1 in
        record {
          sure = sure;
          first = f;
          last = l;
          is_first = e;
          is_last = g;
          from = grind (arith, nat_tests, lo);
          to = grind (arith, nat_tests, hi);
        }
    by (Some f) None e g sure t = absurd (cc t)
    by None last e g sure t = absurd (cc t)

-- it issues in other cycles that have its least and its greatest
also : (s : Sets) (a n b k : ℕ) (p : Operation) (c : Counted s a n p) → b ≤ c.first → c.last < b + k → issues_in s b k p ≡ true
also s a n b k p c from to =
    let lo : nat_le b c.first ≡ true = grind (arith, nat_tests, from) in
    let hi : nat_lt c.last (b + k) ≡ true = grind (arith, nat_tests, to) in
    ap (λ (t : Bool). t && are_among b k (least_of (cycles s p)) (greatest_of (cycles s p))) c.sure
    ∙ ap (λ (f : Option ℕ). are_among b k f (greatest_of (cycles s p))) c.is_first
    ∙ ap (λ (l : Option ℕ). are_among b k (Some c.first) l) c.is_last
    ∙ ap (λ (t : Bool). t && nat_lt c.last (b + k)) lo ∙ hi

none_taken : (m : Model) (s : Sets) (r : Resource) (a n : ℕ) (ps : List Operation) → Each (λ p. issues_in s a n p ≡ false) ps
    → sum_by (takes_in m s r a n) ps ≡ 0
none_taken m s r a n [] h = refl
none_taken m s r a n (p ∷ ps) h =
    let here : takes_in m s r a n p ≡ 0 = ap (λ (c : Bool). if c then least_share m s r p else 0) h.0 in
    let cons = sum_by-cons (takes_in m s r a n) p ps in
    let rest = none_taken m s r a n ps h.1 in
    omega (arith, here, cons, rest)

-- fewer cycles in which all that issue in these do, too, are too few
narrower : (m : Model) (s : Sets) (r : Resource) (a n b k : ℕ) (ps : List Operation)
    → ((p : Operation) → Member p ps → issues_in s a n p ≡ true → issues_in s b k p ≡ true) → k ≤ n
    → n * places_of r < sum_by (takes_in m s r a n) ps → k * places_of r < sum_by (takes_in m s r b k) ps
narrower m s r a n b k ps kept le over =
    let less = sum_less (takes_in m s r a n) (takes_in m s r b k) ps (λ p mem. by p mem (issues_in s a n p) refl) in
    let fewer = mul-le k (places_of r) n (places_of r) le (omega arith) in
    omega (arith, over, less, fewer)
  where
    by : (p : Operation) → Member p ps → (c : Bool) → issues_in s a n p ≡ c → takes_in m s r a n p ≤ takes_in m s r b k p
    by p mem false e =
        let none : takes_in m s r a n p ≡ 0 = ap (λ (c : Bool). if c then least_share m s r p else 0) e in
        omega (arith, none)
    by p mem true e =
        let old : takes_in m s r a n p ≡ least_share m s r p = ap (λ (c : Bool). if c then least_share m s r p else 0) e in
        let new : takes_in m s r b k p ≡ least_share m s r p = ap (λ (c : Bool). if c then least_share m s r p else 0) (kept p mem e) in
        omega (arith, old, new)

-- ---- up to the greatest cycle of one, and from the least of one

pub to_one : (m : Model) (s : Sets) (ps : List Operation) (a n : ℕ) → IsFullIn m s ps a n
    → (j : ℕ) × (q : Operation) × (slice_get ps j ≡ Some q) × IsFullTo m s ps a q
to_one m s ps a n (r, over) = by (first_of (λ a b. b ≤ a) (λ a b. up b a) (λ a b c p q. omega (arith, p, q)) (issues_in s a n)
    (λ p. greatest (cycles s p)) ps)
  where
    by : Each (λ p. issues_in s a n p ≡ false) ps ⊎ First (λ a b. b ≤ a) (issues_in s a n) (λ p. greatest (cycles s p)) ps
        → (j : ℕ) × (q : Operation) × (slice_get ps j ≡ Some q) × IsFullTo m s ps a q
    by (inl none) = let z = none_taken m s r a n ps none in absurd (omega (arith, z, over))
    by (inr f) =
        let c = counted s a n f.item f.passes in
        let vars = let q = f.item in q.vars in
        let to = c.to in
        let over2 = narrower m s r a n a (c.last + 1 - a) ps (λ p mem e. kept p mem e c) (omega (arith, to)) over in (
          f.place,
          f.item,
          f.at,
          (
            sure_of s vars.instr c.sure,
            subst (λ (l : Option ℕ). IsSomeAnd l (λ (last : ℕ). IsFullIn m s ps a (last + 1 - a))) (sym c.is_last) (r, over2),
          ),
        )
      where
        kept : (p : Operation) → Member p ps → issues_in s a n p ≡ true → (c : Counted s a n f.item)
            → issues_in s a (c.last + 1 - a) p ≡ true
        kept p mem e c =
            let d = counted s a n p e in
            let le = f.rest p mem e in
            let l1 = greatest_is (cycles s p) d.last d.is_last in
            let l2 = greatest_is (let q = f.item in cycles s q) c.last c.is_last in
            also s a n a (c.last + 1 - a) p d d.from (omega (arith, le, l1, l2))

pub from_one : (m : Model) (s : Sets) (ps : List Operation) (a n : ℕ) → IsFullIn m s ps a n
    → (i : ℕ) × (p : Operation) × (slice_get ps i ≡ Some p) × IsFullFrom m s ps p
from_one m s ps a n (r, over) = by (first_of (λ a b. a ≤ b) up (λ a b c p q. omega (arith, p, q)) (issues_in s a n)
    (λ p. least (cycles s p)) ps)
  where
    by : Each (λ p. issues_in s a n p ≡ false) ps ⊎ First (λ a b. a ≤ b) (issues_in s a n) (λ p. least (cycles s p)) ps
        → (i : ℕ) × (p : Operation) × (slice_get ps i ≡ Some p) × IsFullFrom m s ps p
    by (inl none) = let z = none_taken m s r a n ps none in absurd (omega (arith, z, over))
    by (inr f) =
        let c = counted s a n f.item f.passes in
        let vars = let q = f.item in q.vars in
        let from = c.from in
        let over2 = narrower m s r a n c.first (a + n - c.first) ps (λ p mem e. kept p mem e c) (omega (arith, from)) over in (
          f.place,
          f.item,
          f.at,
          (
            sure_of s vars.instr c.sure,
            subst (λ (l : Option ℕ). IsSomeAnd l (λ (b : ℕ). (n : ℕ) × IsFullIn m s ps b n)) (sym c.is_first)
                (a + n - c.first, (r, over2)),
          ),
        )
      where
        kept : (p : Operation) → Member p ps → issues_in s a n p ≡ true → (c : Counted s a n f.item)
            → issues_in s c.first (a + n - c.first) p ≡ true
        kept p mem e c =
            let d = counted s a n p e in
            let le = f.rest p mem e in
            let l1 = least_is (cycles s p) d.first d.is_first in
            let l2 = least_is (let q = f.item in cycles s q) c.first c.is_first in
            let to = d.to in
            also s a n c.first (a + n - c.first) p d (omega (arith, le, l1, l2)) (omega (arith, to))

-- ---- what is found at a place

pub some_place : {A : Type 0} (xs : List A) (i : ℕ) (a : A) (P : A → Type 0) → slice_get xs i ≡ Some a → P a → IsSomeAnd (slice_get xs i) P
some_place xs i a P e h = subst (λ (o : Option _). IsSomeAnd o P) (sym e) h

pub up_to : (m : Model) (s : Sets) (ps : List Operation) (a j : ℕ) → IsSomeAnd (slice_get ps j) (IsFullTo m s ps a)
    → (n : ℕ) × IsFullIn m s ps a n
up_to m s ps a j h =
    let q = some_of (slice_get ps j) (IsFullTo m s ps a) h in
    let last = some_of (greatest_of (cycles s q.0)) (λ (last : ℕ). IsFullIn m s ps a (last + 1 - a)) (q.2).1 in
    (last.0 + 1 - a, last.2)

pub on_from : (m : Model) (s : Sets) (ps : List Operation) (i : ℕ) → IsSomeAnd (slice_get ps i) (IsFullFrom m s ps)
    → (a : ℕ) × (n : ℕ) × IsFullIn m s ps a n
on_from m s ps i h =
    let p = some_of (slice_get ps i) (IsFullFrom m s ps) h in
    let first = some_of (least_of (cycles s p.0)) (λ (a : ℕ). (n : ℕ) × IsFullIn m s ps a n) (p.2).1 in
    (first.0, (first.2).0, (first.2).1)
