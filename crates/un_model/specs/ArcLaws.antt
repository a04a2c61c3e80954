-- The list of a block's arcs has each arc of the block and no other, and rises.
use Rattle.std.proofs.Common.{◌≡◌, ℕ, zero, suc, ◌+◌, ◌<◌, ◌≤◌, ◌⊎◌, inl, inr, Bool, true, false, List, [], ◌∷◌, ◌++◌, length, map, max}
use Rattle.std.proofs.Common.{take, get_or, Option, Some, None, slice_get, refl, ap, subst, ◌∙◌, sym, arith}
use Rattle.std.specs.Prelude.{◌&&◌, All, AllPairs, Contains}
use Rattle.std.specs.Option.{option_to_list}
use Rattle.std.proofs.lemmas.Bool.{cases_lt}
use Rattle.std.proofs.lemmas.List.Elements.{All-append, All-head, All-tail, Contains-get_or, Contains-append_left, Contains-append_right}
use Rattle.std.proofs.lemmas.List.Elements.{Contains-append_cases}
use Rattle.std.proofs.lemmas.List.Kept.{AllPairs-cons}
use Rattle.un_isa.specs.declared.table.Table.{Table}
use Rattle.un_ir.specs.declared.extended.ExtOp.{ExtOp}
use Rattle.un_ir.specs.declared.extended.ExtBlock.{ExtBlock}
use Rattle.un_model.specs.declared.model.Arc.{Arc}
use Rattle.un_model.specs.declared.model.TempVars.{TempVars}
use Rattle.un_ir.specs.Kinds.{is_mandatory}
use Rattle.un_model.specs.Arcs.{reads_from, data_gap, memory_gap, NeedsGap, larger, largest_gap, arc, arcs_between, arcs_into}
use Rattle.un_model.specs.Arcs.{arcs_at, block_arcs, blocks_arcs, IsLargest, IsArcOf, RisesTo}
use Rattle.un_model.specs.Arcs.NeedsGap.{ByData, ByMemory}
use Rattle.un_model.specs.Pairs.{places_from, joined}

-- ---- the largest gap

abbrev OneOf : Option ℕ → Option ℕ → ℕ → Type 0
OneOf a b g = (a ≡ Some g) ⊎ (b ≡ Some g)

larger_asked : (a b : Option ℕ) (g : ℕ) → larger a b ≡ Some g → OneOf a b g
larger_asked None b g h = inr h
larger_asked (Some x) None g h = inl h
larger_asked (Some x) (Some y) g h =
    let e : max x y ≡ g = cc in
    elim (cases_lt x y) [ inl a ↦ inr (ap Some (omega (arith, a, e))) | inr b ↦ inl (ap Some (omega (arith, b, e))) ]

larger_most : (a b : Option ℕ) (g h : ℕ) → larger a b ≡ Some g → OneOf a b h → h ≤ g
larger_most None b g h e (inl p) = absurd (cc p)
larger_most None b g h e (inr p) = let same : h ≡ g = cc in omega (arith, same)
larger_most (Some x) None g h e (inl p) = let same : h ≡ g = cc in omega (arith, same)
larger_most (Some x) None g h e (inr p) = absurd (cc p)
larger_most (Some x) (Some y) g h e (inl p) = let same : x ≡ h = cc in let top : max x y ≡ g = cc in omega (arith, same, top)
larger_most (Some x) (Some y) g h e (inr p) = let same : y ≡ h = cc in let top : max x y ≡ g = cc in omega (arith, same, top)

nothing_asked : (a b : Option ℕ) (g : ℕ) → larger a b ≡ None → OneOf a b g → ⊥
nothing_asked None b g e (inl p) = cc p
nothing_asked None b g e (inr p) = let no : Some g ≡ None = sym p ∙ e in cc no
nothing_asked (Some x) None g e o = cc e
nothing_asked (Some x) (Some y) g e o = cc e

larger_known : (a b : Option ℕ) (g : ℕ) → OneOf a b g → ((h : ℕ) → OneOf a b h → h ≤ g) → larger a b ≡ Some g
larger_known a b g o most = by (larger a b) refl
  where
    by : (r : Option ℕ) → larger a b ≡ r → larger a b ≡ Some g
    by None e = absurd (nothing_asked a b g e o)
    by (Some k) e =
        let low : g ≤ k = larger_most a b k g e o in
        let high : k ≤ g = most k (larger_asked a b k e) in
        e ∙ ap Some (omega (arith, low, high))

module _ (t : Table) (reads : Bool) (from to : ExtOp) where
  as_one : (g : ℕ) → NeedsGap t reads from to g → OneOf (data_gap t reads from to) (memory_gap from to) g
  as_one g (ByData h) = inl h
  as_one g (ByMemory h) = inr h

  as_need : (g : ℕ) → OneOf (data_gap t reads from to) (memory_gap from to) g → NeedsGap t reads from to g
  as_need g (inl h) = ByData h
  as_need g (inr h) = ByMemory h

  both : (a b : Bool) → (a && b) ≡ true → (a ≡ true) × (b ≡ true)
  both true b h = (refl, h)
  both false b h = absurd (cc h)

  -- a largest gap is one that the precedences between two mandatory operations ask for
  pub gap_told : (g : ℕ) → largest_gap t reads from to ≡ Some g
      → ((is_mandatory from.kind ≡ true) × (is_mandatory to.kind ≡ true)) × IsLargest t reads from to g
  gap_told g h = by (is_mandatory from.kind && is_mandatory to.kind) refl
    where
      by : (b : Bool) → (is_mandatory from.kind && is_mandatory to.kind) ≡ b
          → ((is_mandatory from.kind ≡ true) × (is_mandatory to.kind ≡ true)) × IsLargest t reads from to g
      by true e =
          let k : larger (data_gap t reads from to) (memory_gap from to) ≡ Some g = rw e at h in (
            both _ _ e,
            record {
              asked = as_need g (larger_asked _ _ g k);
              most = λ m n. larger_most _ _ g m k (as_one m n);
            },
          )
      by false e = let no : None ≡ Some g = rw e at h in absurd (cc no)

  pub gap_known : (g : ℕ) → is_mandatory from.kind ≡ true → is_mandatory to.kind ≡ true → IsLargest t reads from to g
      → largest_gap t reads from to ≡ Some g
  gap_known g a b l = rw (a, b) (larger_known _ _ g (as_one g l.asked) (λ m o. l.most m (as_need m o)))

-- ---- lists that are joined

-- an item of what is joined comes from a place
record ComesFrom {A B : Type 0} (f : ℕ → A → List B) (n : ℕ) (xs : List A) (b : B) : Type 0 where
  place : ℕ
  item : A
  at : slice_get xs place ≡ Some item
  holds : Contains (f (n + place) item) b

from_joined : {A B : Type 0} (f : ℕ → A → List B) (n : ℕ) (xs : List A) (b : B) → Contains (joined (places_from f n xs)) b
    → ComesFrom f n xs b
from_joined f n [] b c = let lt = c.1 in absurd (omega (arith, lt))
from_joined {A} {B} f n (x ∷ xs) b c =
    elim (Contains-append_cases (f n x) (joined (places_from f (n + 1) xs)) b c) [
      | inl h ↦ record { place = 0; item = x; at = refl; holds = subst (λ m. Contains (f m x) b) (omega arith) h }
      | inr h ↦ later (from_joined f (n + 1) xs b h)
    ]
  where
    later : ComesFrom f (n + 1) xs b → ComesFrom f n (x ∷ xs) b
    later w = record {
      place = suc w.place;
      item = w.item;
      at = w.at;
      holds = subst (λ m. Contains (f m w.item) b) (omega arith) w.holds;
    }

in_joined : {A B : Type 0} (f : ℕ → A → List B) (n : ℕ) (xs : List A) (i : ℕ) (x : A) (b : B) → slice_get xs i ≡ Some x
    → Contains (f (n + i) x) b → Contains (joined (places_from f n xs)) b
in_joined f n [] i x b h c = absurd (cc h)
in_joined f n (y ∷ xs) zero x b h c =
    let same : x ≡ y = cc in
    let here : Contains (f n y) b = subst (λ z. Contains (f n z) b) same (subst (λ m. Contains (f m x) b) (omega arith) c) in
    Contains-append_left (f n y) (joined (places_from f (n + 1) xs)) b here
in_joined f n (y ∷ xs) (suc i) x b h c =
    Contains-append_right (f n y) (joined (places_from f (n + 1) xs)) b
    (in_joined f (n + 1) xs i x b h (subst (λ m. Contains (f m x) b) (omega arith) c))

-- ---- the first operations of a block

in_taken : (j i : ℕ) (xs : List ExtOp) (x : ExtOp) → slice_get (take j xs) i ≡ Some x → (i < j) × (slice_get xs i ≡ Some x)
in_taken zero i xs x h = absurd (cc h)
in_taken (suc j) i [] x h = absurd (cc h)
in_taken (suc j) zero (y ∷ xs) x h = (omega arith, h)
in_taken (suc j) (suc i) (y ∷ xs) x h = let r = in_taken j i xs x h in (omega (arith, r.0), r.1)

taken_at : (j i : ℕ) (xs : List ExtOp) (x : ExtOp) → i < j → slice_get xs i ≡ Some x → slice_get (take j xs) i ≡ Some x
taken_at zero i xs x lt h = absurd (omega (arith, lt))
taken_at (suc j) i [] x lt h = h
taken_at (suc j) zero (y ∷ xs) x lt h = h
taken_at (suc j) (suc i) (y ∷ xs) x lt h = taken_at j i xs x (omega (arith, lt)) h

-- ---- arcs

alone : (x a : Arc) → Contains (x ∷ []) a → x ≡ a
alone x a (zero, lt, e) = e
alone x a (suc k, lt, e) = absurd (omega (arith, lt))

-- the arc that a gap between two operations makes
record IsMadeOf (n m : ℕ) (given : Option ℕ) (a : Arc) : Type 0 where
  from : a.from.0 ≡ n
  to : a.to.0 ≡ m
  gap : given ≡ Some a.gap

made_of : (n m : ℕ) (gap : Option ℕ) (a : Arc) → Contains (map (arc n m) (option_to_list gap)) a → IsMadeOf n m gap a
made_of n m None a c = let lt = c.1 in absurd (omega (arith, lt))
made_of n m (Some g) a c =
    let e = alone (arc n m g) a c in
    record {
      from = sym (ap (λ (z : Arc). z.from.0) e);
      to = sym (ap (λ (z : Arc). z.to.0) e);
      gap = ap (λ (z : Arc). Some z.gap) e;
    }

makes : (a : Arc) → Contains (map (arc a.from.0 a.to.0) (option_to_list (Some a.gap))) a
makes a = (0, omega arith, refl)

module _ (t : Table) (temps : List TempVars) (first : ℕ) (ops : List ExtOp) where
  -- each arc of the list is one of the block
  pub arc_told : (a : Arc) → Contains (block_arcs t temps first ops) a → IsArcOf t temps first ops a
  arc_told a c =
      let into = from_joined (arcs_at t temps first ops) 0 ops a c in
      let m = first + (0 + into.place) in
      let out = from_joined (arcs_between t temps m into.item) first (take (0 + into.place) ops) a into.holds in
      let made = made_of (first + out.place) m (largest_gap t (reads_from temps (first + out.place) into.item) out.item into.item) a
      out.holds in
      let old = in_taken (0 + into.place) out.place ops out.item out.at in
      let told = gap_told t (reads_from temps (first + out.place) into.item) out.item into.item a.gap made.gap in
      record {
        earlier = out.place;
        later = into.place;
        from = out.item;
        to = into.item;
        order = omega (arith, old.0);
        from_at = old.1;
        to_at = into.at;
        numbers = (made.from, made.to ∙ omega arith);
        mandatory = told.0;
        gap = subst (λ n. IsLargest t (reads_from temps n into.item) out.item into.item a.gap) (sym made.from) told.1;
      }

  -- each arc of the block is in the list
  pub arc_known : (a : Arc) → IsArcOf t temps first ops a → Contains (block_arcs t temps first ops) a
  arc_known a w =
      let g : largest_gap t (reads_from temps a.from.0 w.to) w.from w.to ≡ Some a.gap =
      gap_known t (reads_from temps a.from.0 w.to) w.from w.to a.gap w.mandatory.0 w.mandatory.1 w.gap in
      let made : Contains (arcs_between t temps a.to.0 w.to a.from.0 w.from) a = subst
      (λ (o : Option ℕ). Contains (map (arc a.from.0 a.to.0) (option_to_list o)) a) (sym g) (makes a) in
      let to : a.to.0 ≡ first + (0 + w.later) = w.numbers.1 ∙ omega arith in
      let near : Contains (arcs_between t temps (first + (0 + w.later)) w.to (first + w.earlier) w.from) a = subst
      (λ m. Contains (arcs_between t temps m w.to (first + w.earlier) w.from) a) to (subst
      (λ n. Contains (arcs_between t temps a.to.0 w.to n w.from) a) w.numbers.0 made) in
      let order : w.earlier < 0 + w.later = let o = w.order in omega (arith, o) in
      in_joined (arcs_at t temps first ops) 0 ops w.later w.to a w.to_at
      (in_joined (arcs_between t temps (first + (0 + w.later)) w.to) first (take (0 + w.later) ops) w.earlier w.from a
      (taken_at (0 + w.later) w.earlier ops w.from order w.from_at) near)

-- ---- the order

pairs_nil : {A : Type 0} (R : A → A → Type 0) → AllPairs R []
pairs_nil R i j d lt within = absurd (omega arith)

pairs_append : {A : Type 0} (R : A → A → Type 0) (xs ys : List A) → AllPairs R xs → AllPairs R ys
    → All (λ (x : A). All (R x) ys) xs → AllPairs R (xs ++ ys)
pairs_append R [] ys h g cross = g
pairs_append {A} R (x ∷ xs) ys h g cross =
    AllPairs-cons R x (xs ++ ys)
    (All-append (R x) xs ys (λ k d lt. h 0 (suc k) d (omega arith) (omega arith)) (All-head (λ (z : A). All (R z) ys) x xs cross))
    (pairs_append R xs ys (λ i j d lt within. h (suc i) (suc j) d (omega arith) (omega arith)) g (All-tail (λ (z : A). All
    (R z) ys) x xs cross))

joined_rise : {A B : Type 0} (R : B → B → Type 0) (f : ℕ → A → List B) (n : ℕ) (xs : List A) → ((i : ℕ) (x : A) → AllPairs R (f i x))
    → ((i j : ℕ) (x y : A) (b c : B) → i < j → Contains (f i x) b → Contains (f j y) c → R b c)
    → AllPairs R (joined (places_from f n xs))
joined_rise R f n [] own cross = pairs_nil R
joined_rise {A} {B} R f n (x ∷ xs) own cross =
    pairs_append R (f n x) (joined (places_from f (n + 1) xs)) (own n x) (joined_rise R f (n + 1) xs own cross)
    (λ k d lt l e less. apart (get_or (f n x) k d) (get_or (joined (places_from f (n + 1) xs)) l e) (Contains-get_or (f n x) k d lt)
    (from_joined f (n + 1) xs (get_or (joined (places_from f (n + 1) xs)) l e)
    (Contains-get_or (joined (places_from f (n + 1) xs)) l e less)))
  where
    apart : (b c : B) → Contains (f n x) b → ComesFrom f (n + 1) xs c → R b c
    apart b c h w = cross n (n + 1 + w.place) x w.item b c (omega arith) h w.holds

alone_rises : (n m : ℕ) (gap : Option ℕ) → AllPairs RisesTo (map (arc n m) (option_to_list gap))
alone_rises n m None i j d lt within = absurd (omega (arith, within))
alone_rises n m (Some g) i j d lt within = absurd (omega (arith, lt, within))

module _ (t : Table) (temps : List TempVars) where
  into_rises : (n : ℕ) (before : List ExtOp) (m : ℕ) (to : ExtOp) → AllPairs RisesTo (arcs_into t temps n before m to)
  into_rises n before m to =
      joined_rise RisesTo (arcs_between t temps m to) n before
      (λ i x. alone_rises i m (largest_gap t (reads_from temps i to) x to))
      (λ i j x y b c lt p q.
      (let u = made_of i m (largest_gap t (reads_from temps i to) x to) b p in
      let v = made_of j m (largest_gap t (reads_from temps j to) y to) c q in
      inr (u.to ∙ sym v.to, (let k = u.from in let l = v.from in omega (arith, k, l, lt)))))

  into_to : (n : ℕ) (before : List ExtOp) (m : ℕ) (to : ExtOp) (a : Arc) → Contains (arcs_into t temps n before m to) a → a.to.0 ≡ m
  into_to n before m to a c =
      let w = from_joined (arcs_between t temps m to) n before a c in
      let made = made_of (n + w.place) m (largest_gap t (reads_from temps (n + w.place) to) w.item to) a w.holds in
      made.to

  -- the arcs of a block rise
  pub arcs_rise : (first : ℕ) (ops : List ExtOp) → AllPairs RisesTo (block_arcs t temps first ops)
  arcs_rise first ops =
      joined_rise RisesTo (arcs_at t temps first ops) 0 ops (λ i x. into_rises first (take i ops) (first + i) x)
      (λ i j x y b c lt p q.
      (let u = into_to first (take i ops) (first + i) x b p in
      let v = into_to first (take j ops) (first + j) y c q in
      inl (omega (arith, u, v, lt))))

-- ---- there is a list of each block

pub length-blocks_arcs : (t : Table) (temps : List TempVars) (n : ℕ) (blocks : List ExtBlock)
    → length (blocks_arcs t temps n blocks) ≡ length blocks
length-blocks_arcs t temps n [] = refl
length-blocks_arcs t temps n (block ∷ blocks) = ap suc (length-blocks_arcs t temps (n + length block.ops) blocks)
