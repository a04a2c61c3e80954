-- Open nodes go in and come out: the slab and the heap agree.
use Rattle.std.proofs.Common.{◌≡◌, ◌≢◌, ℕ, ◌+◌, false, List, [], ◌∷◌, map, Option, Some, None, is_some, IsSome, cond}
use Rattle.std.proofs.Common.{refl, sym, ap, subst, ◌∙◌, inl, inr, arith}
use Rattle.std.specs.List.Sorted.{IsPermutation}
use Rattle.std.specs.BinaryHeap.{IsHeap, IsUpperBound}
use Rattle.std.specs.declared.cmp.Ordering.{Ordering}
use Rattle.std.specs.declared.cmp.Ordering.TheVariants.{Less, Equal, Greater}
use Rattle.std.specs.Ordering.{nat_cmp, is_lt, ordering_then}
use Rattle.std.proofs.lemmas.Bool.{cases_eq}
use Rattle.std.proofs.lemmas.List.Sorted.{IsPermutation-map, sum_by_pushed, sum_by_popped}
use Rattle.std.proofs.lemmas.List.Sums.{sum_by-cons}
use Rattle.slab.specs.Slab.{Slab, get, Updates}
use Rattle.un_branching.specs.declared.growth.Link.{Link}
use Rattle.un_branching.specs.declared.open_nodes.OpenNode.{OpenNode}
use Rattle.un_branching.specs.declared.open_nodes.Name.{Name}
use Rattle.un_branching.specs.Growths.{one}
use Rattle.un_branching.specs.Queues.{order, name_order, kept_link, named, times_named, IsQueue}
use Rattle.un_branching.proofs.ListedLemmas.{one_same, one_other}

-- names without a key name the same, whatever happens at that key
same_named : (old new : Slab (Option Link)) (key : ℕ) (names : List Name) → ((j : ℕ) → j ≢ key → get new j ≡ get old j)
    → times_named key names ≡ 0 → map (named new) names ≡ map (named old) names
same_named old new key [] others none = refl
same_named old new key (x ∷ xs) others none =
    let sum = sum_by-cons (λ (n : Name). one key n.key) x xs in
    let apart : key ≢ x.key = λ e. (let is : one key x.key ≡ 1 = subst (λ (j : ℕ). one key j ≡ 1) e (one_same key) in
    omega (arith, none, sum, is)) in
    let at : get new x.key ≡ get old x.key = others x.key (λ e. apart (sym e)) in
    let rest = same_named old new key xs others (omega (arith, none, sum)) in
    ap (λ (o : Option (Option Link)). record { least = x.least.0; place = x.place; link = kept_link o } ∷ map (named new) xs) at
    ∙ ap (λ (ws : List OpenNode). named old x ∷ ws) rest

module _ (old new : Slab (Option Link)) (names : List Name) (q : IsQueue old names) (x : Name) (link : Option Link)
    (vacant : get old x.key ≡ None) (updates : Updates old new x.key (Some link)) (names' : List Name)
    (perm : IsPermutation (x ∷ names) names') where
  none : times_named x.key names ≡ 0
  none = q.once x.key ∙ ap (λ (o : Option (Option Link)). cond (is_some o) 1 0) vacant

  pub pushed_queue : IsHeap name_order names' → IsQueue new names'
  pushed_queue heap = record {
    ordered = heap;
    once = λ key. (let sum = sum_by_pushed (λ (n : Name). one key n.key) x names names' perm in elim (cases_eq key x.key) [
      | inl same ↦ (let is : one key x.key ≡ 1 = subst (λ (j : ℕ). one j x.key ≡ 1) (sym same) (one_same x.key) in
          let no : times_named key names ≡ 0 = ap (λ (j : ℕ). times_named j names) same ∙ none in
          let h : times_named key names' ≡ 1 = omega (arith, sum, is, no) in
          h ∙ sym (ap (λ (o : Option (Option Link)). cond (is_some o) 1 0) (ap (get new) same ∙ updates.changed)))
      | inr apart ↦ (let no : one key x.key ≡ 0 = one_other key x.key apart in
          let h : times_named key names' ≡ times_named key names = omega (arith, sum, no) in
          h ∙ (q.once key ∙ sym (ap (λ (o : Option (Option Link)). cond (is_some o) 1 0) (updates.others key apart))))
    ]);
  }

  pub pushed_view : (seen : List OpenNode) → map (named old) names ≡ seen
      → IsPermutation (record { least = x.least.0; place = x.place; link = link } ∷ seen) (map (named new) names')
  pushed_view seen is =
      let here : named new x ≡ record { least = x.least.0; place = x.place; link = link }
      = ap (λ (o : Option (Option Link)). record { least = x.least.0; place = x.place; link = kept_link o }) updates.changed in
      let all : map (named new) (x ∷ names) ≡ record { least = x.least.0; place = x.place; link = link } ∷ seen
      = ap (λ (w : OpenNode). w ∷ map (named new) names) here
      ∙ ap (λ (ws : List OpenNode). record { least = x.least.0; place = x.place; link = link } ∷ ws)
      (same_named old new x.key names updates.others none ∙ is) in
      subst (λ (ws : List OpenNode). IsPermutation ws (map (named new) names')) all (IsPermutation-map (named new) (x ∷ names) names' perm)

not_less : (o p : Ordering) → is_lt (ordering_then o p) ≡ false → is_lt o ≡ false
not_less Less p h = h
not_less Equal p h = refl
not_less Greater p h = refl

not_less_named : (o p r : Ordering) → is_lt (ordering_then o (ordering_then p r)) ≡ false → is_lt (ordering_then o p) ≡ false
not_less_named Less p r h = h
not_less_named Equal p r h = not_less p r h
not_less_named Greater p r h = refl

module _ (old : Slab (Option Link)) (names : List Name) (q : IsQueue old names) (x : Name) (names' : List Name)
    (perm : IsPermutation names (x ∷ names')) where
  both : times_named x.key names' + 1 ≡ cond (is_some (get old x.key)) 1 0
  both = (let sum = sum_by_popped (λ (n : Name). one x.key n.key) x names names' perm in
      let is = one_same x.key in
      let h : times_named x.key names' + 1 ≡ times_named x.key names = omega (arith, sum, is) in h ∙ q.once x.key)

  some_from : (o : Option (Option Link)) (n : ℕ) → n + 1 ≡ cond (is_some o) 1 0 → IsSome o × (n ≡ 0)
  some_from None n h = absurd (omega (arith, h))
  some_from (Some link) n h = (refl, omega (arith, h))

  pub popped_there : IsSome (get old x.key)
  popped_there = (some_from (get old x.key) (times_named x.key names') both).0

  gone : times_named x.key names' ≡ 0
  gone = (some_from (get old x.key) (times_named x.key names') both).1

  pub popped_queue : (new : Slab (Option Link)) → Updates old new x.key None → IsHeap name_order names' → IsQueue new names'
  popped_queue new updates heap = record {
    ordered = heap;
    once = λ key. (let sum = sum_by_popped (λ (n : Name). one key n.key) x names names' perm in elim (cases_eq key x.key) [
      | inl same ↦ (ap (λ (j : ℕ). times_named j names') same ∙ gone)
          ∙ sym (ap (λ (o : Option (Option Link)). cond (is_some o) 1 0) (ap (get new) same ∙ updates.changed))
      | inr apart ↦ (let no : one key x.key ≡ 0 = one_other key x.key apart in
          let h : times_named key names' ≡ times_named key names = omega (arith, sum, no) in
          h ∙ (q.once key ∙ sym (ap (λ (o : Option (Option Link)). cond (is_some o) 1 0) (updates.others key apart))))
    ]);
  }

  pub popped_view : (new : Slab (Option Link)) → Updates old new x.key None → (link : Option Link) → get old x.key ≡ Some link
      → (seen : List OpenNode) → map (named old) names ≡ seen
      → IsPermutation seen (record { least = x.least.0; place = x.place; link = link } ∷ map (named new) names')
  popped_view new updates link is seen was =
      let here : named old x ≡ record { least = x.least.0; place = x.place; link = link }
      = ap (λ (o : Option (Option Link)). record { least = x.least.0; place = x.place; link = kept_link o }) is in
      let all : map (named old) (x ∷ names') ≡ record { least = x.least.0; place = x.place; link = link } ∷ map (named new) names'
      = ap (λ (w : OpenNode). w ∷ map (named old) names') here
      ∙ ap (λ (ws : List OpenNode). record { least = x.least.0; place = x.place; link = link } ∷ ws)
      (sym (same_named old new x.key names' updates.others gone)) in
      subst (λ (ws : List OpenNode). IsPermutation ws (record { least = x.least.0; place = x.place; link = link } ∷ map (named new) names'))
      was (subst (IsPermutation (map (named old) names)) all (IsPermutation-map (named old) names (x ∷ names') perm))

best_named : (old : Slab (Option Link)) (x : Name) (link : Option Link) (names : List Name) → IsUpperBound name_order x names
    → IsUpperBound order (record { least = x.least.0; place = x.place; link = link }) (map (named old) names)
best_named old x link [] h = h
best_named old x link (y ∷ ys) h = (
  not_less_named (nat_cmp y.least.0 x.least.0) (nat_cmp x.place y.place) (nat_cmp x.key y.key) h.0,
  best_named old x link ys h.1,
)

pub popped_best : (old : Slab (Option Link)) (x : Name) (link : Option Link) (names : List Name) (seen : List OpenNode)
    → map (named old) names ≡ seen → IsUpperBound name_order x names
    → IsUpperBound order (record { least = x.least.0; place = x.place; link = link }) seen
popped_best old x link names seen was h =
    subst (IsUpperBound order (record { least = x.least.0; place = x.place; link = link })) was (best_named old x link names h)

-- room that was made changes nothing
pub reserved_queue : (old new : Slab (Option Link)) (names : List Name) (n : ℕ) → new ≡ record old { capacity = n } → IsQueue old names
    → IsQueue new names
reserved_queue old new names n is q =
    subst (λ (links : Slab (Option Link)). IsQueue links names) (sym is) (record { once = q.once; ordered = q.ordered })

pub reserved_view : (old new : Slab (Option Link)) (names : List Name) (n : ℕ) → new ≡ record old { capacity = n }
    → map (named new) names ≡ map (named old) names
reserved_view old new names n is = ap (λ (links : Slab (Option Link)). map (named links) names) is
