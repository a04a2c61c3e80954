-- Marks of the operations of a block, as loops over its arcs set them.
use Rattle.std.proofs.Common.{ℕ, zero, suc, ◌≡◌, ◌≢◌, ◌<◌, ◌≤◌, ◌+◌, ◌-◌, nat_lt, nat_eq}
use Rattle.std.proofs.Common.{Bool, true, false, inl, inr, refl, sym, ap, subst, ◌∙◌, arith}
use Rattle.std.proofs.Common.{List, [], ◌∷◌, length, take, drop, set, get_or, get_or-set_same, get_or-set_other, fold, replicate, All}
use Rattle.std.specs.Prelude.{◌||◌, ◌&&◌, if◌then◌else◌, Some, slice_get}
use Rattle.std.specs.List.{list_any}
use Rattle.std.proofs.lemmas.List.{length-replicate}
use Rattle.std.proofs.lemmas.Bool.{cases_lt}
use Rattle.std.proofs.lemmas.Bool.Decides.{nat_tests}
use Rattle.un_domains.specs.Sets.{has}
use Rattle.un_model.specs.declared.model.Arc.{Arc}
use Rattle.un_ir.proofs.NameBounds.{at_all}
use Rattle.un_model.proofs.Steps.{drop_at}
use Rattle.un_rooms.specs.Reach.{mark_at, Marks, IsWithin, IsArcWithin, back_by, leading}
use Rattle.un_sites.specs.Rooms.{led_by, reached as reached_from, waits_by}

-- ---- one mark more

module _ (low n : ℕ) (marks : List Bool) (ns : List ℕ) (within : IsWithin low (length marks) n) (h : Marks low marks ns) where
  abbrev after : List Bool
  after = set marks (n - low) true

  at_it : mark_at low after n ≡ has (n ∷ ns) n
  at_it =
      let lt : n - low < length marks = omega arith in
      let t : nat_lt n low ≡ false = grind (arith, nat_tests) in
      let q : nat_eq n n ≡ true = grind (arith, nat_tests) in
      ap (λ (b : Bool). if b then false else get_or after (n - low) false) t ∙ get_or-set_same marks (n - low) true false lt
      ∙ sym (ap (λ (b : Bool). b || has ns n) q)

  as_before : (m : ℕ) → m ≢ n → mark_at low after m ≡ mark_at low marks m → mark_at low after m ≡ has (n ∷ ns) m
  as_before m other same =
      let q : nat_eq m n ≡ false = grind (arith, nat_tests) in
      same ∙ h m ∙ sym (ap (λ (b : Bool). b || has ns m) q)

  below : (m : ℕ) → m < low → mark_at low after m ≡ mark_at low marks m
  below m lt =
      let t : nat_lt m low ≡ true = grind (arith, nat_tests) in
      ap (λ (b : Bool). if b then false else get_or after (m - low) false) t
      ∙ sym (ap (λ (b : Bool). if b then false else get_or marks (m - low) false) t)

  above : (m : ℕ) → low ≤ m → m ≢ n → mark_at low after m ≡ mark_at low marks m
  above m le other =
      let t : nat_lt m low ≡ false = grind (arith, nat_tests) in
      let k : m - low ≢ n - low = λ e. other (omega arith) in
      ap (λ (b : Bool). if b then false else get_or after (m - low) false) t ∙ get_or-set_other marks (n - low) (m - low) true false k
      ∙ sym (ap (λ (b : Bool). if b then false else get_or marks (m - low) false) t)

  elsewhere : (m : ℕ) → m ≢ n → mark_at low after m ≡ has (n ∷ ns) m
  elsewhere m other =
      as_before m other (elim (cases_lt m low) [ inl lt ↦ below m lt | inr le ↦ above m le other ])

  pub marks_more : Marks low (set marks (n - low) true) (n ∷ ns)
  marks_more m =
      elim (cases_lt m n) [
        | inl a ↦ elsewhere m (λ e. omega arith)
        | inr a ↦ elim (cases_lt n m) [
          | inl b ↦ elsewhere m (λ e. omega arith)
          | inr b ↦ let e : n ≡ m = omega arith in subst (λ (k : ℕ). mark_at low (set marks (n - low) true) k ≡ has (n ∷ ns) k) e at_it
        ]
      ]

-- ---- an arc

pub on_yes : (low : ℕ) (marks next : List Bool) (a : Arc) (ns : List ℕ) → IsArcWithin low (length marks) a → Marks low marks ns
    → mark_at low marks a.from.0 ≡ true → next ≡ set marks (a.to.0 - low) true → Marks low next (led_by ns a)
on_yes low marks next a ns w h t g =
    let led : led_by ns a ≡ a.to.0 ∷ ns = ap (λ (b : Bool). if b then a.to.0 ∷ ns else ns) (sym (h a.from.0) ∙ t) in
    subst (λ (ms : List Bool). Marks low ms (led_by ns a)) (sym g)
    (subst (Marks low (set marks (a.to.0 - low) true)) (sym led) (marks_more low a.to.0 marks ns w.1 h))

pub on_no : (low : ℕ) (marks : List Bool) (a : Arc) (ns : List ℕ) → Marks low marks ns → mark_at low marks a.from.0 ≡ false
    → Marks low marks (led_by ns a)
on_no low marks a ns h t =
    let led : led_by ns a ≡ ns = ap (λ (b : Bool). if b then a.to.0 ∷ ns else ns) (sym (h a.from.0) ∙ t) in
    subst (Marks low marks) (sym led) h

pub back_yes : (low : ℕ) (marks next : List Bool) (a : Arc) (ns : List ℕ) → IsArcWithin low (length marks) a → Marks low marks ns
    → mark_at low marks a.to.0 ≡ true → next ≡ set marks (a.from.0 - low) true → Marks low next (back_by a ns)
back_yes low marks next a ns w h t g =
    let led : back_by a ns ≡ a.from.0 ∷ ns = ap (λ (b : Bool). if b then a.from.0 ∷ ns else ns) (sym (h a.to.0) ∙ t) in
    subst (λ (ms : List Bool). Marks low ms (back_by a ns)) (sym g)
    (subst (Marks low (set marks (a.from.0 - low) true)) (sym led) (marks_more low a.from.0 marks ns w.0 h))

pub back_no : (low : ℕ) (marks : List Bool) (a : Arc) (ns : List ℕ) → Marks low marks ns → mark_at low marks a.to.0 ≡ false
    → Marks low marks (back_by a ns)
back_no low marks a ns h t =
    let led : back_by a ns ≡ ns = ap (λ (b : Bool). if b then a.from.0 ∷ ns else ns) (sym (h a.to.0) ∙ t) in
    subst (Marks low marks) (sym led) h

-- an arc to what waits, of what is reached and what waits so far
module _ (low : ℕ) (reached late : List Bool) (a : Arc) (ns ms : List ℕ) (r : Marks low reached ns) (h : Marks low late ms) where
  asked : (mark_at low late a.from.0 || (nat_lt 0 a.gap && mark_at low reached a.from.0))
      ≡ (has ms a.from.0 || (nat_lt 0 a.gap && has ns a.from.0))
  asked = ap (λ (b : Bool). b || (nat_lt 0 a.gap && mark_at low reached a.from.0)) (h a.from.0)
      ∙ ap (λ (b : Bool). has ms a.from.0 || (nat_lt 0 a.gap && b)) (r a.from.0)

  pub waits_yes : (next : List Bool) → IsArcWithin low (length late) a
      → (mark_at low late a.from.0 || (nat_lt 0 a.gap && mark_at low reached a.from.0)) ≡ true → next ≡ set late (a.to.0 - low) true
      → Marks low next (waits_by ns ms a)
  waits_yes next w t g =
      let led : waits_by ns ms a ≡ a.to.0 ∷ ms = ap (λ (b : Bool). if b then a.to.0 ∷ ms else ms) (sym asked ∙ t) in
      subst (λ (marks : List Bool). Marks low marks (waits_by ns ms a)) (sym g)
      (subst (Marks low (set late (a.to.0 - low) true)) (sym led) (marks_more low a.to.0 late ms w.1 h))

  pub waits_no : (mark_at low late a.from.0 || (nat_lt 0 a.gap && mark_at low reached a.from.0)) ≡ false
      → Marks low late (waits_by ns ms a)
  waits_no t =
      let led : waits_by ns ms a ≡ ms = ap (λ (b : Bool). if b then a.to.0 ∷ ms else ms) (sym asked ∙ t) in
      subst (Marks low late) (sym led) h

-- ---- arcs, one after another

pub fold_next : {A B : Type 0} (f : B → A → B) (start : B) (i : ℕ) (xs : List A) (x : A) → slice_get xs i ≡ Some x
    → fold f start (take (i + 1) xs) ≡ f (fold f start (take i xs)) x
fold_next f start i [] x h = absurd (cc h)
fold_next f start zero (y ∷ xs) x h = let e : y ≡ x = cc h in ap (λ z. f start z) e
fold_next f start (suc i) (y ∷ xs) x h =
    let next : suc i + 1 ≡ suc (i + 1) = omega arith in
    ap (λ k. fold f start (take k (y ∷ xs))) next ∙ fold_next f (f start y) i xs x h

pub leading_next : (i : ℕ) (arcs : List Arc) (a : Arc) (ns : List ℕ) → slice_get arcs i ≡ Some a
    → leading (drop i arcs) ns ≡ back_by a (leading (drop (i + 1) arcs) ns)
leading_next i arcs a ns h = ap (λ rest. leading rest ns) (drop_at arcs i a h)

-- ---- what arcs lead on to is what leads to it

or_mixed : (b m s t : Bool) → ((b || m) || (s || t)) ≡ ((b || s) || (m || t))
or_mixed true m s t = refl
or_mixed false true true t = refl
or_mixed false true false t = refl
or_mixed false false s t = refl

or_four : (a b m s t u : Bool) → a ≡ b → u ≡ (s || t) → ((a || m) || u) ≡ ((b || s) || (m || t))
or_four a b m s t u e h = ap (λ (x : Bool). (x || m) || u) e ∙ ap (λ (x : Bool). (b || m) || x) h ∙ or_mixed b m s t

any_cons : (f : ℕ) (ms ns : List ℕ) → list_any (has (f ∷ ms)) ns ≡ (has ns f || list_any (has ms) ns)
any_cons f ms [] = refl
any_cons f ms (n ∷ ns) =
    let e : nat_eq n f ≡ nat_eq f n = grind (arith, nat_tests) in
    or_four (nat_eq n f) (nat_eq f n) (has ms n) (has ns f) (list_any (has ms) ns) (list_any (has (f ∷ ms)) ns) e (any_cons f ms ns)

-- with an arc from what is reached to what leads on, or with none
any_has_swap : (ms ns : List ℕ) (x y : Bool) (a : Arc) → has ns a.from.0 ≡ x → has ms a.to.0 ≡ y
    → list_any (has ms) (led_by ns a) ≡ list_any (has (back_by a ms)) ns
any_has_swap ms ns true true a p q =
    ap (λ (b : Bool). list_any (has ms) (if b then a.to.0 ∷ ns else ns)) p ∙ ap (λ (b : Bool). b || list_any (has ms) ns) q
    ∙ sym (ap (λ (b : Bool). list_any (has (if b then a.from.0 ∷ ms else ms)) ns) q ∙ any_cons a.from.0 ms ns
    ∙ ap (λ (b : Bool). b || list_any (has ms) ns) p)
any_has_swap ms ns true false a p q =
    ap (λ (b : Bool). list_any (has ms) (if b then a.to.0 ∷ ns else ns)) p ∙ ap (λ (b : Bool). b || list_any (has ms) ns) q
    ∙ sym (ap (λ (b : Bool). list_any (has (if b then a.from.0 ∷ ms else ms)) ns) q)
any_has_swap ms ns false true a p q =
    ap (λ (b : Bool). list_any (has ms) (if b then a.to.0 ∷ ns else ns)) p
    ∙ sym (ap (λ (b : Bool). list_any (has (if b then a.from.0 ∷ ms else ms)) ns) q ∙ any_cons a.from.0 ms ns
    ∙ ap (λ (b : Bool). b || list_any (has ms) ns) p)
any_has_swap ms ns false false a p q =
    ap (λ (b : Bool). list_any (has ms) (if b then a.to.0 ∷ ns else ns)) p
    ∙ sym (ap (λ (b : Bool). list_any (has (if b then a.from.0 ∷ ms else ms)) ns) q)

or_none : (b : Bool) → (b || false) ≡ b
or_none true = refl
or_none false = refl

one_step : (a b s t : Bool) → a ≡ b → s ≡ t → (a || s) ≡ ((b || false) || t)
one_step a b s t e h = ap (λ (x : Bool). x || s) e ∙ ap (λ (x : Bool). b || x) h ∙ ap (λ (x : Bool). x || t) (sym (or_none b))

any_one : (c : ℕ) (ns : List ℕ) → has ns c ≡ list_any (has (c ∷ [])) ns
any_one c [] = refl
any_one c (n ∷ ns) =
    let e : nat_eq c n ≡ nat_eq n c = grind (arith, nat_tests) in
    one_step (nat_eq c n) (nat_eq n c) (has ns c) (list_any (has (c ∷ [])) ns) e (any_one c ns)

pub meets_both : (arcs : List Arc) (ns : List ℕ) (c : ℕ) → has (fold led_by ns arcs) c ≡ list_any (has (leading arcs (c ∷ []))) ns
meets_both [] ns c = any_one c ns
meets_both (a ∷ arcs) ns c =
    let ms : List ℕ = leading arcs (c ∷ []) in
    meets_both arcs (led_by ns a) c ∙ any_has_swap ms ns (has ns a.from.0) (has ms a.to.0) a refl refl

pub reached_is_leading : (arcs : List Arc) (d c : ℕ) → has (reached_from arcs d) c ≡ has (leading arcs (c ∷ [])) d
reached_is_leading arcs d c = meets_both arcs (d ∷ []) c ∙ or_none (has (leading arcs (c ∷ [])) d)

-- ---- a loop over the arcs from the last one back

get_some : {A : Type 0} (xs : List A) (i : ℕ) (d : A) → i < length xs → slice_get xs i ≡ Some (get_or xs i d)
get_some [] i d h = absurd (omega arith)
get_some (x ∷ xs) zero d h = refl
get_some (x ∷ xs) (suc i) d h = get_some xs i d (omega arith)

module _ (low k : ℕ) (first marks : List Bool) (arcs : List Arc) (d : Arc) (ns : List ℕ)
    (within : All (IsArcWithin low (length first)) arcs)
    (long : length marks ≡ length first) (more : k < length arcs) (h : Marks low marks (leading (drop (length arcs - k) arcs) ns)) where
  abbrev at : ℕ
  at = length arcs - 1 - k

  abbrev it : Arc
  it = get_or arcs at d

  there : slice_get arcs at ≡ Some it
  there = get_some arcs at d (omega arith)

  inside : IsArcWithin low (length marks) it
  inside = subst (λ (n : ℕ). IsArcWithin low n it) (sym long) (at_all (IsArcWithin low (length first)) arcs at it within there)

  so_far : Marks low marks (leading (drop (at + 1) arcs) ns)
  so_far =
      let e : length arcs - k ≡ at + 1 = omega arith in
      subst (λ (n : ℕ). Marks low marks (leading (drop n arcs) ns)) e h

  ends : (next : List Bool) → Marks low next (back_by it (leading (drop (at + 1) arcs) ns))
      → Marks low next (leading (drop (length arcs - (k + 1)) arcs) ns)
  ends next m =
      let e : at ≡ length arcs - (k + 1) = omega arith in
      subst (λ (n : ℕ). Marks low next (leading (drop n arcs) ns)) e
      (subst (Marks low next) (sym (leading_next at arcs it ns there)) m)

  pub back_at_yes : (next : List Bool) → mark_at low marks it.to.0 ≡ true → next ≡ set marks (it.from.0 - low) true
      → Marks low next (leading (drop (length arcs - (k + 1)) arcs) ns)
  back_at_yes next t g = ends next (back_yes low marks next it (leading (drop (at + 1) arcs) ns) inside so_far t g)

  pub back_at_no : (next : List Bool) → mark_at low marks it.to.0 ≡ false → next ≡ marks
      → Marks low next (leading (drop (length arcs - (k + 1)) arcs) ns)
  back_at_no next t g =
      subst (λ (ms : List Bool). Marks low ms (leading (drop (length arcs - (k + 1)) arcs) ns)) (sym g)
      (ends marks (back_no low marks it (leading (drop (at + 1) arcs) ns) so_far t))

-- ---- one mark

get_same : {A : Type 0} (n i : ℕ) (x : A) → get_or (replicate n x) i x ≡ x
get_same zero i x = refl
get_same (suc n) zero x = refl
get_same (suc n) (suc i) x = get_same n i x

pub blank : (low n : ℕ) → Marks low (replicate n false) []
blank low n m = elim (nat_lt m low) as (λ (b : Bool). (if b then false else get_or (replicate n false) (m - low) false) ≡ false)
    [ true ↦ refl | false ↦ get_same n (m - low) false ]

pub one_marked : (low count n : ℕ) (marks next : List Bool) → IsWithin low count n → marks ≡ replicate count false
    → next ≡ set marks (n - low) true → Marks low next (n ∷ [])
one_marked low count n marks next w e g =
    let blanks : Marks low marks [] = subst (λ (ms : List Bool). Marks low ms []) (sym e) (blank low count) in
    let long : count ≡ length marks = sym (ap length e ∙ length-replicate count false) in
    subst (λ (ms : List Bool). Marks low ms (n ∷ [])) (sym g)
    (marks_more low n marks [] (subst (λ (k : ℕ). IsWithin low k n) long w) blanks)
