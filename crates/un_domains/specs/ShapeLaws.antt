-- Laws of sets in one list of words.
use Rattle.std.proofs.Common.{ℕ, ◌≡◌, ◌≢◌, ◌<◌, ◌≤◌, ◌+◌, ◌-◌, ◌*◌, ◌/◌, ◌%◌, ◌^◌, zero, suc, replicate, ◌⊎◌, Bool, true, false, cond, not}
use Rattle.std.proofs.Common.{◌||◌, ◌&&◌, List, [], ◌∷◌, ◌++◌, Ok, Err, OnOk, OnErr, length, get_or, set, drop, map, filter, nat_eq, nat_lt}
use Rattle.std.proofs.Common.{nat_le, All, refl, sym, ap, ◌∙◌, subst, arith, inl, inr, length-take-le, length-drop, append_assoc}
use Rattle.std.proofs.Common.{length-append}
use Rattle.std.proofs.lemmas.List.{get_or_append_left, get_or-set_same, get_or-take, get_or-drop, get_or-map, get_or_default, length-map}
use Rattle.std.proofs.lemmas.List.{length-set, length_push, map-append, get_or-set_other, get_or-append-add, get_or-replicate, get_or_past}
use Rattle.std.proofs.lemmas.List.{length-replicate, ext_get_or}
use Rattle.std.proofs.Math.Seq.{get_or-append_seam}
use Rattle.std.proofs.lemmas.Bool.{cases_lt}
use Rattle.std.specs.Int.{bit_at}
use Rattle.std.proofs.lemmas.Nat.Bits.{bit_at_ones}
use Rattle.std.specs.List.{AllByRecursion, list_any, range_with_len}
use Rattle.std.proofs.lemmas.Bool.Decides.{nat_tests}
use Rattle.std.specs.declared.result.Result.{Result}
use Rattle.std.proofs.lemmas.List.Elements.{recursion_from_All, All-from_recursion}
use Rattle.un_domains.specs.declared.domain.Domain.{Domain}
use Rattle.un_domains.specs.Domains.{values_of, value_at, IsDomain}
use Rattle.un_domains.specs.Levels.{MarkedWords}
use Rattle.un_domains.specs.Sets.{Sets, set_at, has, NoneEmpty, least, greatest}
use Rattle.un_domains.specs.CountLaws.{le_width, one_place}
use Rattle.un_domains.specs.CutLaws.{filter_whole}
use Rattle.un_domains.specs.Cuts.{IsCut}
use Rattle.un_domains.specs.declared.cut.Cut.{Cut}
use Rattle.un_domains.specs.declared.cut.Cut.TheVariants.{Same, Changed, Emptied}
use Rattle.un_domains.specs.SetLaws.{same_or_not, has-cons, has-filter, least-le, has-fold_max}
use Rattle.un_domains.specs.OrderLaws.{filter_agree_on, has_here, has_later, same_test, le_least, fold_max-le}
use Rattle.un_domains.specs.DomainLaws.{value_rises, all_values}
use Rattle.un_domains.specs.Bits.{bit, inside, members, IsTight}
use Rattle.un_domains.specs.BitLaws.{Inside, inside_of, of_inside}
use Rattle.un_domains.specs.MemberLaws.{drop_none, drop_inner, has_is, has_members, members_some, some_members, members_has, least_is}
use Rattle.un_domains.specs.MemberLaws.{greatest_is}
use Rattle.un_domains.specs.declared.shape.Shape.{Shape}
use Rattle.un_domains.specs.Shapes.{row_of, places_of, set_of, sets_of, IsLaid, AreApart, IsStore, SameOutside, AnswerOf, IsPlacesCut}
use Rattle.un_domains.specs.Shapes.{BoundsAnswer, IsCleared, SameBut, ClearedAnswer}

pub length-row : (ws : List ℕ) (at n : ℕ) → at + 2 + n ≤ length ws → length (row_of ws at n) ≡ n
length-row ws at n within = length-take-le n (drop (at + 2) ws) (omega (arith, within, length-drop (at + 2) ws))

pub get_row : (ws : List ℕ) (at n i : ℕ) → i < n → get_or (row_of ws at n) i 0 ≡ get_or ws (at + 2 + i) 0
get_row ws at n i lt = get_or-take n (drop (at + 2) ws) i 0 lt ∙ get_or-drop (at + 2) ws i 0

-- words that are the same are one row
pub row_same : (ws us : List ℕ) (at n : ℕ) → length us ≡ length ws → at + 2 + n ≤ length ws
    → ((i : ℕ) → i < n → get_or us (at + 2 + i) 0 ≡ get_or ws (at + 2 + i) 0) → row_of us at n ≡ row_of ws at n
row_same ws us at n e within same =
    let long : length (row_of ws at n) ≡ n = length-row ws at n within in
    let long' : length (row_of us at n) ≡ n = length-row us at n (omega (arith, within, e)) in
    ext_get_or 0 (row_of us at n) (row_of ws at n) (long' ∙ sym long) (λ i lt.
    let below : i < n = omega (arith, lt, long') in
    get_row us at n i below ∙ (same i below ∙ sym (get_row ws at n i below)))

-- a set by its words
set_by : (h : Shape) (ws us : List ℕ) → row_of us h.at h.n ≡ row_of ws h.at h.n → get_or us h.at 0 ≡ get_or ws h.at 0
    → get_or us (h.at + 1) 0 ≡ get_or ws (h.at + 1) 0 → set_of us h ≡ set_of ws h
set_by h ws us row lo end =
    ap (λ (r : List ℕ). map (value_at h.first) (members r (get_or us h.at 0) (get_or us (h.at + 1) 0))) row
    ∙ (ap (λ (a : ℕ). map (value_at h.first) (members (row_of ws h.at h.n) a (get_or us (h.at + 1) 0))) lo
    ∙ ap (λ (b : ℕ). map (value_at h.first) (members (row_of ws h.at h.n) (get_or ws h.at 0) b)) end)

tight_by : (row' row : List ℕ) (lo' lo end' end : ℕ) → row' ≡ row → lo' ≡ lo → end' ≡ end → IsTight row lo end → IsTight row' lo' end'
tight_by row' row lo' lo end' end r l e t =
    subst (λ (x : List ℕ). IsTight x lo' end') (sym r) (subst (λ (x : ℕ). IsTight row x end') (sym l) (subst (IsTight row lo) (sym e) t))

laid_by : (h : Shape) (ws us : List ℕ) → length ws ≤ length us → row_of us h.at h.n ≡ row_of ws h.at h.n
    → get_or us h.at 0 ≡ get_or ws h.at 0 → get_or us (h.at + 1) 0 ≡ get_or ws (h.at + 1) 0 → IsLaid ws h → IsLaid us h
laid_by h ws us long row lo end laid = record {
  small = laid.small;
  within = omega (arith, laid.within, long);
  tight = tight_by (row_of us h.at h.n) (row_of ws h.at h.n) (get_or us h.at 0) (get_or ws h.at 0) (get_or us (h.at + 1) 0)
      (get_or ws (h.at + 1) 0) row lo end laid.tight;
  counted = omega (arith, laid.counted, end);
}

-- a change of one variable's words leaves another's set
module _ (h g : Shape) (ws us : List ℕ) (outside : SameOutside h.at h.n ws us) (laid : IsLaid ws g)
    (apart : (h.at + 2 + h.n ≤ g.at) ⊎ (g.at + 2 + g.n ≤ h.at)) where
  away : (j : ℕ) → g.at ≤ j → j < g.at + 2 + g.n → (j < h.at) ⊎ (h.at + 2 + h.n ≤ j)
  away j low high = elim apart [ inl a ↦ inr (omega (arith, a, low)) | inr b ↦ inl (omega (arith, b, high)) ]

  row : row_of us g.at g.n ≡ row_of ws g.at g.n
  row = row_same ws us g.at g.n outside.long laid.within
      (λ i lt. outside.same (g.at + 2 + i) (away (g.at + 2 + i) (omega arith) (omega (arith, lt))))

  lo : get_or us g.at 0 ≡ get_or ws g.at 0
  lo = outside.same g.at (away g.at (omega arith) (omega arith))

  end : get_or us (g.at + 1) 0 ≡ get_or ws (g.at + 1) 0
  end = outside.same (g.at + 1) (away (g.at + 1) (omega arith) (omega arith))

  set_away : set_of us g ≡ set_of ws g
  set_away = set_by g ws us row lo end

  laid_away : IsLaid us g
  laid_away = laid_by g ws us (omega (arith, outside.long)) row lo end laid

-- a filter of what a function gives
pub filter-map : (p : ℕ → Bool) (f : ℕ → ℕ) (xs : List ℕ) → filter p (map f xs) ≡ map f (filter (λ i. p (f i)) xs)
filter-map p f [] = refl
filter-map p f (x ∷ xs) = by (p (f x)) (filter-map p f xs)
  where
    by : (b : Bool) → filter p (map f xs) ≡ map f (filter (λ i. p (f i)) xs)
        → cond b (f x ∷ filter p (map f xs)) (filter p (map f xs)) ≡ map f
        (cond b (x ∷ filter (λ i. p (f i)) xs) (filter (λ i. p (f i)) xs))
    by true e = ap (λ (ys : List ℕ). f x ∷ ys) e
    by false e = e

-- all variables, after a change of the words of one
pub sets_moved : (hs : List Shape) (ws us : List ℕ) (v : ℕ) (h : Shape) (left : List ℕ) → AreApart hs → All (IsLaid ws) hs → v < length hs
    → h ≡ get_or hs v h → SameOutside h.at h.n ws us → set_of us h ≡ left → IsLaid us h
    → (sets_of hs us ≡ set (sets_of hs ws) v left) × All (IsLaid us) hs
sets_moved hs ws us v h left apart laid below at outside moved there = (
  ext_get_or [] (sets_of hs us) (set (sets_of hs ws) v left)
      (length-map hs (set_of us) ∙ (sym (length-map hs (set_of ws)) ∙ sym (length-set (sets_of hs ws) v left)))
      (λ w lt. let under : w < length hs = omega (arith, lt, length-map hs (set_of us)) in each w under),
  λ w d lt. laid_at w d lt,
)
  where
    far : (w : ℕ) → w < length hs → w ≢ v
        → (h.at + 2 + h.n ≤ (get_or hs w h).at) ⊎ ((get_or hs w h).at + 2 + (get_or hs w h).n ≤ h.at)
    far w lt ne =
        let mine : Shape → Type 0 = λ g. (g.at + 2 + g.n ≤ (get_or hs w h).at) ⊎ ((get_or hs w h).at + 2 + (get_or hs w h).n ≤ g.at) in
        subst mine (sym at) (apart v w h below lt (λ e. ne (sym e)))

    laid_at : (w : ℕ) (d : Shape) → w < length hs → IsLaid us (get_or hs w d)
    laid_at w d lt = subst (IsLaid us) (get_or_default hs w h d lt) (elim (same_or_not w v) [
      | inl e ↦ subst (λ (u : ℕ). IsLaid us (get_or hs u h)) (sym e) (subst (IsLaid us) at there)
      | inr ne ↦ laid_away h (get_or hs w h) ws us outside (laid w h lt) (far w lt ne)
    ])

    each : (w : ℕ) → w < length hs → get_or (sets_of hs us) w [] ≡ get_or (set (sets_of hs ws) v left) w []
    each w lt = get_or-map (set_of us) hs w h [] lt ∙ (elim (same_or_not w v) [
      | inl e ↦ subst (λ (u : ℕ). set_of us (get_or hs u h) ≡ get_or (set (sets_of hs ws) v left) u []) (sym e)
          (ap (set_of us) (sym at)
          ∙ (moved ∙ sym (get_or-set_same (sets_of hs ws) v left [] (omega (arith, below, length-map hs (set_of ws))))))
      | inr ne ↦ set_away h (get_or hs w h) ws us outside (laid w h lt) (far w lt ne)
          ∙ (sym (get_or-map (set_of ws) hs w h [] lt) ∙ sym (get_or-set_other (sets_of hs ws) v w left [] ne))
    ])

-- One variable

module _ (hs : List Shape) (ws : List ℕ) (marked : List (List ℕ)) (store : IsStore hs ws marked) (v : ℕ) (h : Shape)
    (below : v < length hs) (at : h ≡ get_or hs v h) where
  pub laid_at : IsLaid ws h
  laid_at = subst (IsLaid ws) (sym at) (store.now v h below)

  pub domain_at : IsDomain h.first
  domain_at = subst (λ (g : Shape). IsDomain g.first) (sym at) (store.domains v h below)

  pub old_set : set_at (sets_of hs ws) v ≡ set_of ws h
  old_set = get_or-map (set_of ws) hs v h [] below ∙ ap (set_of ws) (sym at)

  pub old_long : length (set_at (sets_of hs ws) v) ≡ length (places_of ws h.at h.n)
  old_long = ap length old_set ∙ length-map (places_of ws h.at h.n) (value_at h.first)

-- a test of places as one of values
pub by_values : (q p : ℕ → Bool) (h : Shape) (ws : List ℕ) → IsLaid ws h
    → ((i : ℕ) → i < length (values_of h.first) → q i ≡ p (value_at h.first i))
    → filter q (places_of ws h.at h.n) ≡ filter (λ i. p (value_at h.first i)) (places_of ws h.at h.n)
by_values q p h ws laid agree = filter_agree_on q (λ i. p (value_at h.first i)) (places_of ws h.at h.n)
    (λ i there. agree i
    (let high = (members_has (row_of ws h.at h.n) (get_or ws h.at 0) (get_or ws (h.at + 1) 0) laid.tight i there).high in
    omega (arith, high, laid.counted)))

-- what the bounds say of the set
pub bounds_empty : (row : List ℕ) (lo end : ℕ) → IsTight row lo end → lo ≡ end → length (members row lo end) ≡ 0
bounds_empty row lo end tight e =
    let none : 0 < length (members row lo end) → ⊥ = λ some. (let lt = members_some row lo end tight some in omega (arith, lt, e)) in
    omega (arith, none)

pub bounds_some : (row : List ℕ) (lo end : ℕ) → IsTight row lo end → lo ≢ end → 0 < length (members row lo end)
bounds_some row lo end tight ne = some_members row lo end tight (let le = tight.order in omega (arith, le, ne))

-- a set has one pair of tight bounds
pub bounds_unique : (row : List ℕ) (lo end lo' end' : ℕ) → IsTight row lo end → IsTight row lo' end' → lo' ≢ end'
    → members row lo' end' ≡ members row lo end → (lo' ≡ lo) × (end' ≡ end)
bounds_unique row lo end lo' end' old new ne same =
    let lt' : lo' < end' = (let le = new.order in omega (arith, le, ne)) in
    let lt : lo < end = members_some row lo end old (subst (λ (xs : List ℕ). 0 < length xs) same (some_members row lo' end' new lt')) in
    let first : lo' ≡ lo = sym (least_is row lo' end' new lt') ∙ (ap least same ∙ least_is row lo end old lt) in
    let last : end' - 1 ≡ end - 1 = sym (greatest_is row lo' end' new lt') ∙ (ap greatest same ∙ greatest_is row lo end old lt) in
    (first, omega (arith, last, lt, lt'))

-- A cut, by what it does to the places of one variable

module _ (hs : List Shape) (ws us : List ℕ) (marked marked' : List (List ℕ)) (store : IsStore hs ws marked) (v : ℕ) (h : Shape)
    (below : v < length hs) (at : h ≡ get_or hs v h) (q p : ℕ → Bool) (answer : Cut)
    (agree : (i : ℕ) → i < length (values_of h.first) → q i ≡ p (value_at h.first i))
    (cut : IsPlacesCut q h.at h.n (record { words = ws; marked = marked }) (record { words = us; marked = marked' }) answer) where
  laid : IsLaid ws h
  laid = laid_at hs ws marked store v h below at

  left : set_of us h ≡ filter p (set_of ws h)
  left = ap (map (value_at h.first)) (cut.left ∙ by_values q p h ws laid agree)
      ∙ sym (filter-map p (value_at h.first) (places_of ws h.at h.n))

  there : IsLaid us h
  there = record {
    small = laid.small;
    within = omega (arith, laid.within, cut.outside.long);
    tight = cut.tight;
    counted = omega (arith, laid.counted, cut.fewer);
  }

  moved : (sets_of hs us ≡ set (sets_of hs ws) v (filter p (set_at (sets_of hs ws) v))) × All (IsLaid us) hs
  moved = sets_moved hs ws us v h (filter p (set_at (sets_of hs ws) v)) store.apart store.now below at cut.outside
      (left ∙ ap (filter p) (sym (old_set hs ws marked store v h below at))) there

  pub cut_store : IsStore hs us marked'
  cut_store = record {
    few = store.few;
    apart = store.apart;
    domains = store.domains;
    now = moved.1;
    before = subst (All (λ us. All (IsLaid us) hs)) (sym cut.marked) store.before;
    full = subst (All (λ us. NoneEmpty (sets_of hs us))) (sym cut.marked) store.full;
    deep = omega (arith, ap length cut.marked, store.deep);
  }

  new_long : length (set_at (sets_of hs us) v) ≡ length (places_of us h.at h.n)
  new_long = old_long hs us marked' cut_store v h below at

  old_size : length (set_at (sets_of hs ws) v) ≡ length (places_of ws h.at h.n)
  old_size = old_long hs ws marked store v h below at

  some : get_or us h.at 0 ≢ get_or us (h.at + 1) 0 → 0 < length (set_at (sets_of hs us) v)
  some ne = let lt = bounds_some (row_of us h.at h.n) (get_or us h.at 0) (get_or us (h.at + 1) 0) cut.tight ne in
      omega (arith, lt, new_long)

  pub cut_is : IsCut p v (record { sets = sets_of hs ws; marked = map (sets_of hs) marked })
      (record { sets = sets_of hs us; marked = map (sets_of hs) marked' }) answer
  cut_is = by answer cut.says
    where
      by : (a : Cut) → AnswerOf (get_or us h.at 0) (get_or us (h.at + 1) 0) (places_of us h.at h.n) (places_of ws h.at h.n) a
          → IsCut p v (record { sets = sets_of hs ws; marked = map (sets_of hs) marked })
          (record { sets = sets_of hs us; marked = map (sets_of hs) marked' }) a
      by Emptied e =
          let none : length (set_at (sets_of hs us) v) ≡ 0 =
          new_long ∙ bounds_empty (row_of us h.at h.n) (get_or us h.at 0) (get_or us (h.at + 1) 0) cut.tight e in
          record {
            sets = moved.0;
            marked = ap (map (sets_of hs)) cut.marked;
            emptied = (λ x. none, λ x. refl);
            same = (λ x. absurd (cc x), λ x. absurd (let more = x.0 in omega (arith, more, none)));
          }
      by Same e =
          let more = some e.0 in
          record {
            sets = moved.0;
            marked = ap (map (sets_of hs)) cut.marked;
            emptied = (λ x. absurd (cc x), λ none. absurd (omega (arith, more, none)));
            same = (λ x. (more, new_long ∙ (ap length e.1 ∙ sym old_size)), λ x. refl);
          }
      by Changed e =
          let more = some e.0 in
          record {
            sets = moved.0;
            marked = ap (map (sets_of hs)) cut.marked;
            emptied = (λ x. absurd (cc x), λ none. absurd (omega (arith, more, none)));
            same = (
              λ x. absurd (cc x),
              λ x. absurd
                  (e.1 (cut.left ∙ filter_whole q (places_of ws h.at h.n) (ap length (sym cut.left) ∙ (sym new_long ∙ (x.1 ∙ old_size))))),
            );
          }

-- the places after the bounds are written
pub bounds_cut : (q : ℕ → Bool) (at n lo end : ℕ) (old new : MarkedWords) (answer : Cut) → at + 2 + n ≤ length old.words
    → IsTight (row_of old.words at n) (get_or old.words at 0) (get_or old.words (at + 1) 0)
    → IsTight (row_of old.words at n) lo end → end ≤ get_or old.words (at + 1) 0
    → members (row_of old.words at n) lo end ≡ filter q (places_of old.words at n)
    → new.words ≡ set (set old.words at lo) (at + 1) end → new.marked ≡ old.marked
    → BoundsAnswer (get_or old.words at 0) (get_or old.words (at + 1) 0) lo end answer → IsPlacesCut q at n old new answer
bounds_cut q at n lo end old new answer within tight tight' fewer left written marked says = record {
  outside = record { long = long; same = λ j away. ap (λ (us : List ℕ). get_or us j 0) written ∙ out j away };
  marked = marked;
  tight = tight_by (row_of new.words at n) (row_of old.words at n) (get_or new.words at 0) lo (get_or new.words (at + 1) 0) end row lo_is
      end_is tight';
  fewer = omega (arith, end_is, fewer);
  left = places ∙ left;
  says = by answer says;
}
  where
    long : length new.words ≡ length old.words
    long = ap length written ∙ (length-set (set old.words at lo) (at + 1) end ∙ length-set old.words at lo)

    out : (j : ℕ) → (j < at) ⊎ (at + 2 + n ≤ j) → get_or (set (set old.words at lo) (at + 1) end) j 0 ≡ get_or old.words j 0
    out j away = get_or-set_other (set old.words at lo) (at + 1) j end 0 (apart j away)
        ∙ get_or-set_other old.words at j lo 0 (apart' j away)
      where
        apart : (j : ℕ) → (j < at) ⊎ (at + 2 + n ≤ j) → j ≢ at + 1
        apart j (inl a) e = omega (arith, a, e)
        apart j (inr b) e = omega (arith, b, e)

        apart' : (j : ℕ) → (j < at) ⊎ (at + 2 + n ≤ j) → j ≢ at
        apart' j (inl a) e = omega (arith, a, e)
        apart' j (inr b) e = omega (arith, b, e)

    row : row_of new.words at n ≡ row_of old.words at n
    row = row_same old.words new.words at n long within (λ i lt. ap (λ (us : List ℕ). get_or us (at + 2 + i) 0) written
        ∙ (get_or-set_other (set old.words at lo) (at + 1) (at + 2 + i) end 0 (λ e. omega (arith, e))
        ∙ get_or-set_other old.words at (at + 2 + i) lo 0 (λ e. omega (arith, e))))

    lo_is : get_or new.words at 0 ≡ lo
    lo_is = ap (λ (us : List ℕ). get_or us at 0) written
        ∙ (get_or-set_other (set old.words at lo) (at + 1) at end 0 (λ e. omega (arith, e))
        ∙ get_or-set_same old.words at lo 0 (omega (arith, within)))

    end_is : get_or new.words (at + 1) 0 ≡ end
    end_is = ap (λ (us : List ℕ). get_or us (at + 1) 0) written
        ∙ get_or-set_same (set old.words at lo) (at + 1) end 0 (omega (arith, within, length-set old.words at lo))

    places : places_of new.words at n ≡ members (row_of old.words at n) lo end
    places = ap (λ (r : List ℕ). members r (get_or new.words at 0) (get_or new.words (at + 1) 0)) row
        ∙ (ap (λ (a : ℕ). members (row_of old.words at n) a (get_or new.words (at + 1) 0)) lo_is
        ∙ ap (members (row_of old.words at n) lo) end_is)

    by : (a : Cut) → BoundsAnswer (get_or old.words at 0) (get_or old.words (at + 1) 0) lo end a
        → AnswerOf (get_or new.words at 0) (get_or new.words (at + 1) 0) (places_of new.words at n) (places_of old.words at n) a
    by Emptied e = lo_is ∙ (e ∙ sym end_is)
    by Same e = (
      λ x. e.0 (sym lo_is ∙ (x ∙ end_is)),
      places ∙ (ap (λ (a : ℕ). members (row_of old.words at n) a end) e.1
          ∙ ap (members (row_of old.words at n) (get_or old.words at 0)) e.2),
    )
    by Changed e = (
      λ x. e.0 (sym lo_is ∙ (x ∙ end_is)),
      λ x. let u = bounds_unique (row_of old.words at n) (get_or old.words at 0) (get_or old.words (at + 1) 0) lo end tight tight' e.0
          (sym places ∙ x) in e.1 u.0 u.1,
    )

-- the same, by what the code reads
pub code_cut : (q : ℕ → Bool) (at n : ℕ) (old new : MarkedWords) (answer : Cut) (all row : List ℕ) (lo0 end0 lo end : ℕ)
    → at + 2 + n ≤ length old.words → IsTight (row_of old.words at n) (get_or old.words at 0) (get_or old.words (at + 1) 0)
    → all ≡ old.words → lo0 ≡ get_or all at 0 → end0 ≡ get_or all (at + 1) 0 → row ≡ row_of all at n
    → members row lo end ≡ filter q (members row lo0 end0) → IsTight row lo end → end ≤ end0
    → new.words ≡ set (set old.words at lo) (at + 1) end → new.marked ≡ old.marked → BoundsAnswer lo0 end0 lo end answer
    → IsPlacesCut q at n old new answer
code_cut q at n old new answer all row lo0 end0 lo end within tight all_is lo_is end_is row_is left tight' fewer written marked says =
    bounds_cut q at n lo end old new answer within tight (subst (λ (r : List ℕ). IsTight r lo end) r tight') (omega (arith, fewer, e))
    (subst (λ (x : ℕ). members (row_of old.words at n) lo end ≡ filter q (members (row_of old.words at n) (get_or old.words at 0) x)) e
    (subst (λ (x : ℕ). members (row_of old.words at n) lo end ≡ filter q (members (row_of old.words at n) x end0)) l
    (subst (λ (x : List ℕ). members x lo end ≡ filter q (members x lo0 end0)) r left))) written marked
    (subst (λ (x : ℕ). BoundsAnswer (get_or old.words at 0) x lo end answer) e
    (subst (λ (x : ℕ). BoundsAnswer x end0 lo end answer) l says))
  where
    r : row ≡ (row_of old.words at n)
    r = row_is ∙ ap (λ (us : List ℕ). row_of us at n) all_is

    l : lo0 ≡ (get_or old.words at 0)
    l = lo_is ∙ ap (λ (us : List ℕ). get_or us at 0) all_is

    e : end0 ≡ get_or old.words (at + 1) 0
    e = end_is ∙ ap (λ (us : List ℕ). get_or us (at + 1) 0) all_is

-- a test of places turned round
pub turned : (a b c d : ℕ) → nat_lt a b ≡ nat_le c d → nat_le b a ≡ nat_lt d c
turned a b c d e = by (nat_lt a b) refl
  where
    by : (t : Bool) → nat_lt a b ≡ t → nat_le b a ≡ nat_lt d c
    by true h = let h' : nat_le c d ≡ true = sym e ∙ h in let x : nat_le b a ≡ false = grind (arith, nat_tests) in
        let y : nat_lt d c ≡ false = grind (arith, nat_tests) in x ∙ sym y
    by false h = let h' : nat_le c d ≡ false = sym e ∙ h in let x : nat_le b a ≡ true = grind (arith, nat_tests) in
        let y : nat_lt d c ≡ true = grind (arith, nat_tests) in x ∙ sym y

-- Look-ups

has-map : (f : ℕ → ℕ) (xs : List ℕ) (i : ℕ) → has xs i ≡ true → has (map f xs) (f i) ≡ true
has-map f [] i h = absurd (cc h)
has-map f (x ∷ xs) i h = elim (has-cons x i xs h) [
  | inl e ↦ subst (λ (y : ℕ). has (y ∷ map f xs) (f i) ≡ true) (ap f e) (has_here (f i) (map f xs))
  | inr t ↦ has_later (f x) (f i) (map f xs) (has-map f xs i t)
]

map-has : (f : ℕ → ℕ) (xs : List ℕ) (y : ℕ) → has (map f xs) y ≡ true → (i : ℕ) × (has xs i ≡ true) × (y ≡ f i)
map-has f [] y h = absurd (cc h)
map-has f (x ∷ xs) y h = elim (has-cons (f x) y (map f xs) h) [
  | inl e ↦ (x, has_here x xs, e)
  | inr t ↦ (let r = map-has f xs y t in (r.0, has_later x r.0 xs r.1, r.2))
]

equal_either : (a b : ℕ) → nat_eq a b ≡ nat_eq b a
equal_either a b = same_test (nat_eq a b) (nat_eq b a) (λ h. (let e : a ≡ b = grind (arith, nat_tests) in grind (arith, nat_tests)))
    (λ h. (let e : b ≡ a = grind (arith, nat_tests) in grind (arith, nat_tests)))

any_agree : (p q : ℕ → Bool) (xs : List ℕ) → ((i : ℕ) → has xs i ≡ true → p i ≡ q i) → list_any p xs ≡ list_any q xs
any_agree p q [] h = refl
any_agree p q (x ∷ xs) h = ap (λ (b : Bool). b || list_any p xs) (h x (has_here x xs))
    ∙ ap (λ (b : Bool). q x || b) (any_agree p q xs (λ i t. h i (has_later x i xs t)))

any_map : (p : ℕ → Bool) (f : ℕ → ℕ) (xs : List ℕ) → list_any p (map f xs) ≡ list_any (λ i. p (f i)) xs
any_map p f [] = refl
any_map p f (x ∷ xs) = ap (λ (b : Bool). p (f x) || b) (any_map p f xs)

module _ (h : Shape) (ws : List ℕ) (laid : IsLaid ws h) (domain : IsDomain h.first) where
  inside_of_has : (i : ℕ) → has (places_of ws h.at h.n) i ≡ true → Inside (row_of ws h.at h.n) (get_or ws h.at 0) (get_or ws (h.at + 1) 0) i
  inside_of_has i t = members_has (row_of ws h.at h.n) (get_or ws h.at 0) (get_or ws (h.at + 1) 0) laid.tight i t

  -- some place is in the set
  pub bounds_lt : 0 < length (set_of ws h) → get_or ws h.at 0 < get_or ws (h.at + 1) 0
  bounds_lt some = members_some (row_of ws h.at h.n) (get_or ws h.at 0) (get_or ws (h.at + 1) 0) laid.tight
      (omega (arith, some, length-map (places_of ws h.at h.n) (value_at h.first)))

  first_has : get_or ws h.at 0 < get_or ws (h.at + 1) 0 → has (places_of ws h.at h.n) (get_or ws h.at 0) ≡ true
  first_has lt = has_members (row_of ws h.at h.n) (get_or ws h.at 0) (get_or ws (h.at + 1) 0) laid.tight (get_or ws h.at 0)
      (record { low = omega arith; high = lt; set_bit = laid.tight.first lt })

  last_has : get_or ws h.at 0 < get_or ws (h.at + 1) 0 → has (places_of ws h.at h.n) (get_or ws (h.at + 1) 0 - 1) ≡ true
  last_has lt = has_members (row_of ws h.at h.n) (get_or ws h.at 0) (get_or ws (h.at + 1) 0) laid.tight (get_or ws (h.at + 1) 0 - 1)
      (record { low = omega (arith, lt); high = omega (arith, lt); set_bit = laid.tight.last lt })

  -- a later place has at least its value
  value_le : (i j : ℕ) → i ≤ j → j < get_or ws (h.at + 1) 0 → value_at h.first i ≤ value_at h.first j
  value_le i j le lt = elim (same_or_not i j) [
    | inl e ↦ (let same = ap (value_at h.first) e in omega (arith, same))
    | inr ne ↦ (let less = value_rises h.first i j domain.rises (omega (arith, le, ne)) (omega (arith, lt, laid.counted)) in
        omega (arith, less))
  ]

  pub least_value : 0 < length (set_of ws h) → least (set_of ws h) ≡ value_at h.first (get_or ws h.at 0)
  least_value some =
      let lt = bounds_lt some in
      let a = least-le (set_of ws h) (value_at h.first (get_or ws h.at 0))
      (has-map (value_at h.first) (places_of ws h.at h.n) (get_or ws h.at 0) (first_has lt)) in
      let b = le_least (value_at h.first (get_or ws h.at 0)) (set_of ws h) some (λ y t.
      let r = map-has (value_at h.first) (places_of ws h.at h.n) y t in
      let i = inside_of_has r.0 r.1 in
      let le = value_le (get_or ws h.at 0) r.0 i.low i.high in
      omega (arith, le, r.2)) in
      omega (arith, a, b)

  pub greatest_value : 0 < length (set_of ws h) → greatest (set_of ws h) ≡ value_at h.first (get_or ws (h.at + 1) 0 - 1)
  greatest_value some =
      let lt = bounds_lt some in
      let a = has-fold_max 0 (set_of ws h) (value_at h.first (get_or ws (h.at + 1) 0 - 1))
      (has-map (value_at h.first) (places_of ws h.at h.n) (get_or ws (h.at + 1) 0 - 1) (last_has lt)) in
      let b = fold_max-le 0 (value_at h.first (get_or ws (h.at + 1) 0 - 1)) (set_of ws h) (omega arith) (λ y t.
      let r = map-has (value_at h.first) (places_of ws h.at h.n) y t in
      let i = inside_of_has r.0 r.1 in
      let high = i.high in
      let le = value_le r.0 (get_or ws (h.at + 1) 0 - 1) (omega (arith, high)) (omega (arith, lt)) in
      omega (arith, le, r.2)) in
      omega (arith, a, b)

  pub has_value : (x k : ℕ) → ((i : ℕ) → i < length (values_of h.first) → nat_eq i k ≡ nat_eq (value_at h.first i) x)
      → has (set_of ws h) x ≡ inside (row_of ws h.at h.n) (get_or ws h.at 0) (get_or ws (h.at + 1) 0) k
  has_value x k agree =
      any_map (nat_eq x) (value_at h.first) (places_of ws h.at h.n)
      ∙ (any_agree (λ i. nat_eq x (value_at h.first i)) (nat_eq k) (places_of ws h.at h.n) (λ i t.
      let high = (inside_of_has i t).high in
      equal_either x (value_at h.first i) ∙ (sym (agree i (omega (arith, high, laid.counted))) ∙ equal_either i k))
      ∙ has_is (row_of ws h.at h.n) (get_or ws h.at 0) (get_or ws (h.at + 1) 0) laid.tight k)

-- a set has one value where its bounds are next to each other
one_bound : (xs : List ℕ) → length xs ≡ 1 → least xs ≡ greatest xs
one_bound [] e = absurd (omega (arith, e))
one_bound (y ∷ []) e = omega arith
one_bound (y ∷ z ∷ xs) e = absurd (omega (arith, e))

pub bounds_single : (row : List ℕ) (lo end : ℕ) → IsTight row lo end → nat_eq (lo + 1) end ≡ nat_eq (length (members row lo end)) 1
bounds_single row lo end tight = same_test (nat_eq (lo + 1) end) (nat_eq (length (members row lo end)) 1)
    (λ h. let e : lo + 1 ≡ end = grind (arith, nat_tests) in
    let one = one_place row lo (omega (arith, e, tight.within)) (tight.first (omega (arith, e))) in
    let all : length (members row lo end) ≡ 1 = subst (λ (n : ℕ). length (members row lo n) ≡ 1) e one in
    grind (arith, nat_tests, all))
    (λ h. let e : length (members row lo end) ≡ 1 = grind (arith, nat_tests) in
    let lt = members_some row lo end tight (omega (arith, e)) in
    let a = least_is row lo end tight lt in
    let b = greatest_is row lo end tight lt in
    let c = one_bound (members row lo end) e in
    let next : lo + 1 ≡ end = omega (arith, a, b, c, lt) in
    grind (arith, nat_tests, next))

-- Look-ups, by what the code reads

module _ (hs : List Shape) (ws : List ℕ) (marked : List (List ℕ)) (store : IsStore hs ws marked) (v : ℕ) (h : Shape)
    (below : v < length hs) (at : h ≡ get_or hs v h) (sets : Sets) (view : sets_of hs ws ≡ sets)
    (words : List ℕ) (words_is : words ≡ ws) (lo end : ℕ) (lo_is : lo ≡ get_or words h.at 0) (end_is : end ≡ get_or words (h.at + 1) 0)
  where
    set_is : set_at sets v ≡ set_of ws h
    set_is = ap (λ (s : Sets). set_at s v) (sym view) ∙ old_set hs ws marked store v h below at

    laid_now : IsLaid ws h
    laid_now = laid_at hs ws marked store v h below at

    domain_now : IsDomain h.first
    domain_now = domain_at hs ws marked store v h below at

    lo_at : lo ≡ get_or ws h.at 0
    lo_at = lo_is ∙ ap (λ (us : List ℕ). get_or us h.at 0) words_is

    end_at : end ≡ get_or ws (h.at + 1) 0
    end_at = end_is ∙ ap (λ (us : List ℕ). get_or us (h.at + 1) 0) words_is

    some_of : 0 < length (set_at sets v) → 0 < length (set_of ws h)
    some_of some = subst (λ (xs : List ℕ). 0 < length xs) set_is some

    pub bounds_in : 0 < length (set_at sets v) → (lo < end) × (end ≤ length (values_of h.first))
    bounds_in some =
        let lt = bounds_lt h ws laid_now domain_now (some_of some) in
        (omega (arith, lt, lo_at, end_at), omega (arith, end_at, laid_now.counted))

    pub min_is : 0 < length (set_at sets v) → value_at h.first lo ≡ least (set_at sets v)
    min_is some = ap (value_at h.first) lo_at ∙ (sym (least_value h ws laid_now domain_now (some_of some)) ∙ ap least (sym set_is))

    pub max_is : 0 < length (set_at sets v) → value_at h.first (end - 1) ≡ greatest (set_at sets v)
    max_is some = ap (λ (n : ℕ). value_at h.first (n - 1)) end_at
        ∙ (sym (greatest_value h ws laid_now domain_now (some_of some)) ∙ ap greatest (sym set_is))

    pub single_is : nat_eq (lo + 1) end ≡ nat_eq (length (set_at sets v)) 1
    single_is =
        ap (λ (n : ℕ). nat_eq (n + 1) end) lo_at ∙ (ap (nat_eq (get_or ws h.at 0 + 1)) end_at
        ∙ (bounds_single (row_of ws h.at h.n) (get_or ws h.at 0) (get_or ws (h.at + 1) 0) laid_now.tight
        ∙ ap (λ (n : ℕ). nat_eq n 1) (sym (length-map (places_of ws h.at h.n) (value_at h.first)) ∙ ap length (sym set_is))))

    pub has_in : (row : List ℕ) (x k : ℕ) → row ≡ row_of words h.at h.n
        → ((i : ℕ) → i < length (values_of h.first) → nat_eq i k ≡ nat_eq (value_at h.first i) x)
        → inside row lo end k ≡ has (set_at sets v) x
    has_in row x k row_is agree =
        ap (λ (r : List ℕ). inside r lo end k) (row_is ∙ ap (λ (us : List ℕ). row_of us h.at h.n) words_is)
        ∙ (ap (λ (a : ℕ). inside (row_of ws h.at h.n) a end k) lo_at
        ∙ (ap (λ (b : ℕ). inside (row_of ws h.at h.n) (get_or ws h.at 0) b k) end_at
        ∙ (sym (has_value h ws laid_now domain_now x k agree) ∙ ap (λ (xs : List ℕ). has xs x) (sym set_is))))

module _ (hs : List Shape) (ws : List ℕ) (marked : List (List ℕ)) (store : IsStore hs ws marked) (v : ℕ) (h : Shape)
    (below : v < length hs) (at : h ≡ get_or hs v h) (sets : Sets) (view : sets_of hs ws ≡ sets) where
  pub places_some : 0 < length (set_at sets v) → 0 < length (places_of ws h.at h.n)
  places_some some =
      let e = ap (λ (s : Sets). length (set_at s v)) view in
      omega (arith, some, e, old_long hs ws marked store v h below at)

  pub size_is : (words : List ℕ) (n : ℕ) → words ≡ ws → n ≡ length (places_of words h.at h.n) → (n ≡ length (set_at sets v)) × (n < 2 ^ 32)
  size_is words n words_is is =
      let laid = laid_at hs ws marked store v h below at in
      let domain = domain_at hs ws marked store v h below at in
      let same : n ≡ length (places_of ws h.at h.n) = is ∙ ap (λ (us : List ℕ). length (places_of us h.at h.n)) words_is in
      let lo = get_or ws h.at 0 in
      let end = get_or ws (h.at + 1) 0 in
      let wide : lo + (end - lo) ≡ end = omega (arith, laid.tight.order) in
      let most : length (members (row_of ws h.at h.n) lo (lo + (end - lo))) ≤ end - lo =
      le_width (row_of ws h.at h.n) lo (end - lo) (omega (arith, wide, laid.tight.within)) in
      let small : length (places_of ws h.at h.n) ≤ end - lo =
      subst (λ (e : ℕ). length (members (row_of ws h.at h.n) lo e) ≤ end - lo) wide most in (
        same ∙ (sym (old_long hs ws marked store v h below at) ∙ ap (λ (s : Sets). length (set_at s v)) view),
        omega (arith, same, small, laid.counted, domain.few),
      )

-- A place taken away

pub row_set : (ws : List ℕ) (at n i x : ℕ) → at + 2 + n ≤ length ws → i < n → row_of (set ws (at + 2 + i) x) at n ≡ set (row_of ws at n) i x
row_set ws at n i x within lt =
    let long : length (row_of ws at n) ≡ n = length-row ws at n within in
    let long' : length (row_of (set ws (at + 2 + i) x) at n) ≡ n =
    length-row (set ws (at + 2 + i) x) at n (omega (arith, within, length-set ws (at + 2 + i) x)) in
    ext_get_or 0 (row_of (set ws (at + 2 + i) x) at n) (set (row_of ws at n) i x)
    (long' ∙ (sym long ∙ sym (length-set (row_of ws at n) i x))) (λ j lt'.
    let below : j < n = omega (arith, lt', long') in
    get_row (set ws (at + 2 + i) x) at n j below ∙ elim (same_or_not j i) [
      | inl e ↦ subst (λ (k : ℕ). get_or (set ws (at + 2 + i) x) (at + 2 + k) 0 ≡ get_or (set (row_of ws at n) i x) k 0) (sym e)
          (get_or-set_same ws (at + 2 + i) x 0 (omega (arith, within, lt))
          ∙ sym (get_or-set_same (row_of ws at n) i x 0 (omega (arith, long, lt))))
      | inr ne ↦ get_or-set_other ws (at + 2 + i) (at + 2 + j) x 0 (λ e. ne (omega (arith, e)))
          ∙ (sym (get_row ws at n j below) ∙ sym (get_or-set_other (row_of ws at n) i j x 0 ne))
    ])

-- the places after one is cleared and the bounds are written
pub cleared_cut : (at n k lo0 end0 lo end : ℕ) (old mid new : MarkedWords) (answer : Cut) → at + 2 + n ≤ length old.words → k < 64 * n
    → IsTight (row_of old.words at n) (get_or old.words at 0) (get_or old.words (at + 1) 0)
    → lo0 ≡ get_or old.words at 0 → end0 ≡ get_or old.words (at + 1) 0
    → inside (row_of old.words at n) lo0 end0 k ≡ true
    → IsCleared k (row_of old.words at n) (row_of mid.words at n) → SameBut (at + 2 + k / 64) old.words mid.words → mid.marked ≡ old.marked
    → IsTight (row_of mid.words at n) lo end → end ≤ end0
    → members (row_of mid.words at n) lo end ≡ members (row_of mid.words at n) lo0 end0
    → new.words ≡ set (set mid.words at lo) (at + 1) end → new.marked ≡ mid.marked → ClearedAnswer lo end answer
    → IsPlacesCut (λ i. not (nat_eq i k)) at n old new answer
cleared_cut at n k lo0 end0 lo end old mid new answer within place tight lo_is end_is there cleared but mid_marked tight' fewer left
    written marked says = record {
      outside = record {
        long = ap length written ∙ (length-set (set mid.words at lo) (at + 1) end ∙ (length-set mid.words at lo ∙ but.long));
        same = λ j away. ap (λ (us : List ℕ). get_or us j 0) written
            ∙ (get_or-set_other (set mid.words at lo) (at + 1) j end 0 (apart j away (at + 1) (omega arith) (omega arith))
            ∙ (get_or-set_other mid.words at j lo 0 (apart j away at (omega arith) (omega arith))
            ∙ but.same j (apart j away (at + 2 + k / 64) (omega arith) (omega (arith, place)))));
      };
      marked = marked ∙ mid_marked;
      tight = tight_by (row_of new.words at n) (row_of mid.words at n) (get_or new.words at 0) lo (get_or new.words (at + 1) 0) end row
          lo_new
          end_new tight';
      fewer = omega (arith, end_new, fewer, end_is);
      left = places ∙ (left ∙ gone);
      says = by answer says;
    }
  where
    apart : (j : ℕ) → (j < at) ⊎ (at + 2 + n ≤ j) → (i : ℕ) → at ≤ i → i < at + 2 + n → j ≢ i
    apart j (inl a) i low high e = omega (arith, a, e, low)
    apart j (inr b) i low high e = omega (arith, b, e, high)

    mid_within : at + 2 + n ≤ length mid.words
    mid_within = omega (arith, within, but.long)

    row : row_of new.words at n ≡ row_of mid.words at n
    row = row_same mid.words new.words at n
        (ap length written ∙ (length-set (set mid.words at lo) (at + 1) end ∙ length-set mid.words at lo)) mid_within
        (λ i lt. ap (λ (us : List ℕ). get_or us (at + 2 + i) 0) written
        ∙ (get_or-set_other (set mid.words at lo) (at + 1) (at + 2 + i) end 0 (λ e. omega (arith, e))
        ∙ get_or-set_other mid.words at (at + 2 + i) lo 0 (λ e. omega (arith, e))))

    lo_new : get_or new.words at 0 ≡ lo
    lo_new = ap (λ (us : List ℕ). get_or us at 0) written
        ∙ (get_or-set_other (set mid.words at lo) (at + 1) at end 0 (λ e. omega (arith, e))
        ∙ get_or-set_same mid.words at lo 0 (omega (arith, mid_within)))

    end_new : get_or new.words (at + 1) 0 ≡ end
    end_new = ap (λ (us : List ℕ). get_or us (at + 1) 0) written
        ∙ get_or-set_same (set mid.words at lo) (at + 1) end 0 (omega (arith, mid_within, length-set mid.words at lo))

    places : places_of new.words at n ≡ members (row_of mid.words at n) lo end
    places = ap (λ (r : List ℕ). members r (get_or new.words at 0) (get_or new.words (at + 1) 0)) row
        ∙ (ap (λ (a : ℕ). members (row_of mid.words at n) a (get_or new.words (at + 1) 0)) lo_new
        ∙ ap (members (row_of mid.words at n) lo) end_new)

    old_tight : IsTight (row_of old.words at n) lo0 end0
    old_tight = tight_by (row_of old.words at n) (row_of old.words at n) lo0 (get_or old.words at 0) end0 (get_or old.words (at + 1) 0)
        refl lo_is end_is tight

    gone : members (row_of mid.words at n) lo0 end0 ≡ filter (λ i. not (nat_eq i k)) (places_of old.words at n)
    gone = drop_inner (row_of old.words at n) lo0 end0 k old_tight (row_of mid.words at n)
        (length-row mid.words at n mid_within ∙ sym (length-row old.words at n within)) cleared.there cleared.others
        ∙ (ap (λ (a : ℕ). filter (λ i. not (nat_eq i k)) (members (row_of old.words at n) a end0)) lo_is
        ∙ ap (λ (b : ℕ). filter (λ i. not (nat_eq i k)) (members (row_of old.words at n) (get_or old.words at 0) b)) end_is)

    had : has (places_of old.words at n) k ≡ true
    had = has_is (row_of old.words at n) (get_or old.words at 0) (get_or old.words (at + 1) 0) tight k
        ∙ (ap (λ (a : ℕ). inside (row_of old.words at n) a (get_or old.words (at + 1) 0) k) (sym lo_is)
        ∙ (ap (λ (b : ℕ). inside (row_of old.words at n) lo0 b k) (sym end_is) ∙ there))

    lost : has (places_of new.words at n) k ≡ true → ⊥
    lost h =
        let e : (not (nat_eq k k) && has (places_of old.words at n) k) ≡ true =
        sym (has-filter (λ i. not (nat_eq i k)) k (places_of old.words at n))
        ∙ subst (λ (xs : List ℕ). has xs k ≡ true) (places ∙ (left ∙ gone)) h in
        let same : nat_eq k k ≡ true = grind (arith, nat_tests) in
        let bad : (not true && has (places_of old.words at n) k) ≡ true =
        subst (λ (b : Bool). (not b && has (places_of old.words at n) k) ≡ true) same e in
        cc bad

    by : (a : Cut) → ClearedAnswer lo end a
        → AnswerOf (get_or new.words at 0) (get_or new.words (at + 1) 0) (places_of new.words at n) (places_of old.words at n) a
    by Emptied e = lo_new ∙ (e ∙ sym end_new)
    by Same e = absurd e
    by Changed e = (λ x. e (sym lo_new ∙ (x ∙ end_new)), λ x. lost (subst (λ (xs : List ℕ). has xs k ≡ true) (sym x) had))

pub inside_code : (at n k lo0 end0 : ℕ) (all row : List ℕ) (words : List ℕ) → all ≡ words → lo0 ≡ get_or all at 0
    → end0 ≡ get_or all (at + 1) 0
    → row ≡ row_of all at n → inside row lo0 end0 k ≡ inside (row_of words at n) (get_or words at 0) (get_or words (at + 1) 0) k
inside_code at n k lo0 end0 all row words all_is lo_is end_is row_is =
    ap (λ (r : List ℕ). inside r lo0 end0 k) (row_is ∙ ap (λ (us : List ℕ). row_of us at n) all_is)
    ∙ (ap (λ (a : ℕ). inside (row_of words at n) a end0 k) (lo_is ∙ ap (λ (us : List ℕ). get_or us at 0) all_is)
    ∙ ap (λ (b : ℕ). inside (row_of words at n) (get_or words at 0) b k) (end_is ∙ ap (λ (us : List ℕ). get_or us (at + 1) 0) all_is))

-- nothing is taken away
pub drop_nothing : (at n k : ℕ) (old : MarkedWords) → IsTight (row_of old.words at n) (get_or old.words at 0) (get_or old.words (at + 1) 0)
    → 0 < length (places_of old.words at n)
    → inside (row_of old.words at n) (get_or old.words at 0) (get_or old.words (at + 1) 0) k ≡ false
    → IsPlacesCut (λ i. not (nat_eq i k)) at n old old Same
drop_nothing at n k old tight some out = record {
  outside = record { long = refl; same = λ j away. refl };
  marked = refl;
  tight = tight;
  fewer = omega arith;
  left = drop_none (row_of old.words at n) (get_or old.words at 0) (get_or old.words (at + 1) 0) k tight out;
  says = (
    λ e. (let none = bounds_empty (row_of old.words at n) (get_or old.words at 0) (get_or old.words (at + 1) 0) tight e in
        omega (arith, some, none)),
    refl,
  );
}

all_one_more : {A : Type 0} (P : A → Type 0) (xs : List A) (x : A) → AllByRecursion P xs → P x → AllByRecursion P (xs ++ x ∷ [])
all_one_more P [] x all h = (h, tt)
all_one_more P (y ∷ ys) x all h = (all.0, all_one_more P ys x all.1 h)

pub full_map : (hs : List Shape) (marked : List (List ℕ)) → All (λ us. NoneEmpty (sets_of hs us)) marked
    → All NoneEmpty (map (sets_of hs) marked)
full_map hs marked full = All-from_recursion _ _ (by marked (recursion_from_All _ _ full))
  where
    by : (ms : List (List ℕ)) → AllByRecursion (λ us. NoneEmpty (sets_of hs us)) ms → AllByRecursion NoneEmpty (map (sets_of hs) ms)
    by [] all = tt
    by (m ∷ ms) all = (all.0, by ms all.1)

-- A variable more

pub record IsAdded (d : Domain) (h : Shape) (old new : List ℕ) : Type 0 where
  pub first : h.first ≡ d
  pub at : h.at ≡ length old
  pub long : length new ≡ length old + 2 + h.n
  pub same : (j : ℕ) → j < length old → get_or new j 0 ≡ get_or old j 0
  pub laid : IsLaid new h
  pub values : set_of new h ≡ values_of d

filter_front : (p : ℕ → Bool) (a k m : ℕ) → ((i : ℕ) → a ≤ i → i < a + k → p i ≡ true) → ((i : ℕ) → a + k ≤ i → p i ≡ false) → k ≤ m
    → filter p (range_with_len a m) ≡ range_with_len a k
filter_front p a zero zero passes fails le = refl
filter_front p a (suc k) zero passes fails le = absurd (omega (arith, le))
filter_front p a zero (suc m) passes fails le =
    ap (λ (b : Bool). cond b (a ∷ filter p (range_with_len (a + 1) m)) (filter p (range_with_len (a + 1) m))) (fails a (omega arith))
    ∙ filter_front p (a + 1) zero m (λ i low high. absurd (omega (arith, low, high))) (λ i low. fails i (omega (arith, low))) (omega arith)
filter_front p a (suc k) (suc m) passes fails le =
    ap (λ (b : Bool). cond b (a ∷ filter p (range_with_len (a + 1) m)) (filter p (range_with_len (a + 1) m)))
    (passes a (omega arith) (omega arith))
    ∙ ap (λ (xs : List ℕ). a ∷ xs)
    (filter_front p (a + 1) k m (λ i low high. passes i (omega (arith, low)) (omega (arith, high)))
    (λ i low. fails i (omega (arith, low))) (omega (arith, le)))

-- the words of a variable more
pub is_added : (d : Domain) (old new : List ℕ) (at end n : ℕ) → IsDomain d → at ≡ length old → end ≡ length (values_of d)
    → n ≡ (end + 63) / 64
    → new ≡ ((old ++ 0 ∷ []) ++ end ∷ []) ++ replicate n (2 ^ 64 - 1) → length new < 2 ^ 64
    → IsAdded d (record { at = at; n = n; first = d }) old new
is_added d old new at end n domain at_is end_is n_is new_is small = record {
  first = refl;
  at = at_is;
  long = long;
  same = λ j lt. ap (λ (us : List ℕ). get_or us j 0) whole ∙ get_or_append_left old (0 ∷ end ∷ replicate n (2 ^ 64 - 1)) 0 j lt;
  laid = record {
    small = omega (arith, small, long, at_is);
    within = omega (arith, long, at_is);
    tight = tight_by (row_of new at n) (row_of new at n) (get_or new at 0) 0 (get_or new (at + 1) 0) end refl lo_is last_is (record {
      small = omega (arith, row_long, n_is, end_is, domain.few);
      within = omega (arith, row_long, n_is);
      order = omega arith;
      first = λ lt. set_at_place 0 (omega (arith, lt, n_is));
      last = λ lt. set_at_place (end - 1) (omega (arith, lt, n_is));
    });
    counted = omega (arith, last_is, end_is);
  };
  values = ap (λ (a : ℕ). map (value_at d) (members (row_of new at n) a (get_or new (at + 1) 0))) lo_is
      ∙ (ap (λ (b : ℕ). map (value_at d) (members (row_of new at n) 0 b)) last_is
      ∙ (ap (map (value_at d)) (filter_front (inside (row_of new at n) 0 end) 0 end (64 * length (row_of new at n))
      (λ i low high. of_inside (row_of new at n) 0 end i low (omega (arith, high)) (set_at_place i (omega (arith, high, n_is))))
      (λ i low. not_inside i low (inside (row_of new at n) 0 end i) refl) (omega (arith, row_long, n_is)))
      ∙ (ap (λ (k : ℕ). map (value_at d) (range_with_len 0 k)) end_is ∙ all_values d)));
}
  where
    whole : new ≡ old ++ (0 ∷ end ∷ replicate n (2 ^ 64 - 1))
    whole = new_is
        ∙ (ap (λ (us : List ℕ). us ++ replicate n (2 ^ 64 - 1)) (append_assoc old (0 ∷ []) (end ∷ []))
        ∙ append_assoc old (0 ∷ end ∷ []) (replicate n (2 ^ 64 - 1)))

    long : length new ≡ length old + 2 + n
    long = let a = ap length whole in let b = length-append old (0 ∷ end ∷ replicate n (2 ^ 64 - 1)) in let c =
        length-replicate n (2 ^ 64 - 1) in omega (arith, a, b, c)

    later : (i : ℕ) → get_or new (at + i) 0 ≡ get_or (0 ∷ end ∷ replicate n (2 ^ 64 - 1)) i 0
    later i = ap (λ (k : ℕ). get_or new (k + i) 0) at_is
        ∙ (ap (λ (us : List ℕ). get_or us (length old + i) 0) whole ∙ get_or-append-add old (0 ∷ end ∷ replicate n (2 ^ 64 - 1)) i 0)

    lo_is : get_or new at 0 ≡ 0
    lo_is = ap (λ (k : ℕ). get_or new k 0) (omega arith) ∙ later 0

    last_is : get_or new (at + 1) 0 ≡ end
    last_is = later 1

    row_long : length (row_of new at n) ≡ n
    row_long = length-row new at n (omega (arith, long, at_is))

    word : (i : ℕ) → i < n → get_or (row_of new at n) i 0 ≡ 2 ^ 64 - 1
    word i lt = get_row new at n i lt
        ∙ (ap (λ (k : ℕ). get_or new k 0) (omega arith) ∙ (later (suc (suc i)) ∙ get_or-replicate n i (2 ^ 64 - 1) 0 lt))

    set_at_place : (i : ℕ) → i < 64 * n → bit (row_of new at n) i ≡ true
    set_at_place i lt =
        let one : bit_at (get_or (row_of new at n) (i / 64) 0) (i % 64) ≡ 1 =
        ap (λ (w : ℕ). bit_at w (i % 64)) (word (i / 64) (omega (arith, lt))) ∙ bit_at_ones 64 (i % 64) (omega arith) in
        rw one refl

    not_inside : (i : ℕ) → 0 + end ≤ i → (b : Bool) → inside (row_of new at n) 0 end i ≡ b → inside (row_of new at n) 0 end i ≡ false
    not_inside i low true h = absurd (let high = (inside_of (row_of new at n) 0 end i h).high in omega (arith, high, low))
    not_inside i low false h = h

grown : (hs : List Shape) (old new : List ℕ) → ((j : ℕ) → j < length old → get_or new j 0 ≡ get_or old j 0) → length old ≤ length new
    → AllByRecursion (IsLaid old) hs → (sets_of hs new ≡ sets_of hs old) × AllByRecursion (IsLaid new) hs
grown [] old new same long all = (refl, tt)
grown (h ∷ hs) old new same long all =
    let laid = all.0 in
    let rest = grown hs old new same long all.1 in
    let lo : get_or new h.at 0 ≡ get_or old h.at 0 = same h.at (omega (arith, laid.within)) in
    let end : get_or new (h.at + 1) 0 ≡ get_or old (h.at + 1) 0 = same (h.at + 1) (omega (arith, laid.within)) in
    let row : row_of new h.at h.n ≡ row_of old h.at h.n = longer h laid in (
      ap (λ (xs : List ℕ). xs ∷ sets_of hs new) (set_by h old new row lo end) ∙ ap (λ (xss : Sets). set_of old h ∷ xss) rest.0,
      (laid_by h old new long row lo end laid, rest.1),
    )
  where
    longer : (h : Shape) → IsLaid old h → row_of new h.at h.n ≡ row_of old h.at h.n
    longer h laid =
        let a : length (row_of old h.at h.n) ≡ h.n = length-row old h.at h.n laid.within in
        let b : length (row_of new h.at h.n) ≡ h.n = length-row new h.at h.n (omega (arith, laid.within, long)) in
        ext_get_or 0 (row_of new h.at h.n) (row_of old h.at h.n) (b ∙ sym a) (λ i lt.
        let below : i < h.n = omega (arith, lt, b) in
        get_row new h.at h.n i below ∙ (same (h.at + 2 + i) (omega (arith, laid.within, below)) ∙ sym (get_row old h.at h.n i below)))

pub add_store : (hs : List Shape) (old new : List ℕ) (d : Domain) (h : Shape) → length hs + 1 < 2 ^ 32 → IsDomain d → IsStore hs old []
    → IsAdded d h old new → IsStore (hs ++ h ∷ []) new [] × (sets_of (hs ++ h ∷ []) new ≡ sets_of hs old ++ values_of d ∷ [])
add_store hs old new d h few domain store added = (
  record {
    few = omega (arith, few, length_push hs h);
    apart = λ v w e lv lw ne. apart v w e (omega (arith, lv, length_push hs h)) (omega (arith, lw, length_push hs h)) ne;
    domains = All-from_recursion _ _
        (all_one_more (λ (g : Shape). IsDomain g.first) hs h (recursion_from_All _ _ store.domains)
        (subst IsDomain (sym added.first) domain));
    now = All-from_recursion _ _ (all_one_more (IsLaid new) hs h more.1 added.laid);
    before = λ i x lt. absurd (omega (arith, lt));
    full = λ i x lt. absurd (omega (arith, lt));
    deep = omega arith;
  },
  map-append (set_of new) hs (h ∷ [])
      ∙ (ap (λ (xss : Sets). xss ++ set_of new h ∷ []) more.0 ∙ ap (λ (xs : List ℕ). sets_of hs old ++ xs ∷ []) added.values),
)
  where
    more : (sets_of hs new ≡ sets_of hs old) × AllByRecursion (IsLaid new) hs
    more = grown hs old new added.same (omega (arith, added.long)) (recursion_from_All _ _ store.now)

    before_at : (v : ℕ) (e : Shape) → v < length hs → get_or (hs ++ h ∷ []) v e ≡ get_or hs v e
    before_at v e lt = get_or_append_left hs (h ∷ []) e v lt

    last_at : (v : ℕ) (e : Shape) → v ≡ length hs → get_or (hs ++ h ∷ []) v e ≡ h
    last_at v e is = rw is (get_or-append_seam hs h [] e)

    apart : (v w : ℕ) (e : Shape) → v < length hs + 1 → w < length hs + 1 → v ≢ w
        → ((get_or (hs ++ h ∷ []) v e).at + 2 + (get_or (hs ++ h ∷ []) v e).n ≤ (get_or (hs ++ h ∷ []) w e).at)
        ⊎ ((get_or (hs ++ h ∷ []) w e).at + 2 + (get_or (hs ++ h ∷ []) w e).n ≤ (get_or (hs ++ h ∷ []) v e).at)
    apart v w e lv lw ne = elim (cases_lt v (length hs)) [
      | inl a ↦ elim (cases_lt w (length hs)) [
        | inl b ↦ rw (before_at v e a, before_at w e b) (store.apart v w e a b ne)
        | inr b ↦ rw (before_at v e a, last_at w e (omega (arith, b, lw)))
            (inl (let l = (store.now v e a).within in omega (arith, l, added.at)))
      ]
      | inr a ↦ rw (last_at v e (omega (arith, a, lv)), before_at w e (omega (arith, a, lv, lw, ne)))
          (inr (let l = (store.now w e (omega (arith, a, lv, lw, ne))).within in omega (arith, l, added.at)))
    ]

-- Marks

all_split : {A : Type 0} (P : A → Type 0) (xs : List A) (x : A) → AllByRecursion P (xs ++ x ∷ []) → AllByRecursion P xs × P x
all_split P [] x all = (tt, all.0)
all_split P (y ∷ ys) x all = let rest = all_split P ys x all.1 in ((all.0, rest.0), rest.1)

pub mark_store : {X E : Type 0} (hs : List Shape) (old new : MarkedWords) (r : Result X E)
    → OnOk r (new.marked ≡ old.marked ++ old.words ∷ [])
    → new.words ≡ old.words → OnErr r (new ≡ old) → NoneEmpty (sets_of hs old.words) → length old.marked + 1 < 2 ^ 32
    → IsStore hs old.words old.marked → IsStore hs new.words new.marked
mark_store hs old new (Ok x) ok words err live few h = record {
  few = h.few;
  apart = h.apart;
  domains = h.domains;
  now = subst (λ (ws : List ℕ). All (IsLaid ws) hs) (sym words) h.now;
  before = subst (All (λ us. All (IsLaid us) hs)) (sym ok)
      (All-from_recursion _ _ (all_one_more (λ us. All (IsLaid us) hs) old.marked old.words (recursion_from_All _ _ h.before) h.now));
  full = subst (All (λ us. NoneEmpty (sets_of hs us))) (sym ok)
      (All-from_recursion _ _ (all_one_more (λ us. NoneEmpty (sets_of hs us)) old.marked old.words (recursion_from_All _ _ h.full) live));
  deep = omega (arith, ap length ok, length_push old.marked old.words, few);
}
mark_store hs old new (Err e) ok words err live few h = subst (λ (c : MarkedWords). IsStore hs c.words c.marked) (sym err) h

pub undo_store : (hs : List Shape) (old new : MarkedWords) → old.marked ≡ new.marked ++ new.words ∷ [] → IsStore hs old.words old.marked
    → IsStore hs new.words new.marked × NoneEmpty (sets_of hs new.words)
undo_store hs old new is h =
    let laid = all_split (λ us. All (IsLaid us) hs) new.marked new.words
    (recursion_from_All _ _ (subst (All (λ us. All (IsLaid us) hs)) is h.before)) in
    let full = all_split (λ us. NoneEmpty (sets_of hs us)) new.marked new.words
    (recursion_from_All _ _ (subst (All (λ us. NoneEmpty (sets_of hs us))) is h.full)) in (
      record {
        few = h.few;
        apart = h.apart;
        domains = h.domains;
        now = laid.1;
        before = All-from_recursion _ _ laid.0;
        full = All-from_recursion _ _ full.0;
        deep = omega (arith, ap length is, length_push new.marked new.words, h.deep);
      },
      full.1,
    )

-- each mark has as many sets
pub long_map : (hs : List Shape) (n : ℕ) (marked : List (List ℕ)) → n ≡ length hs → All (λ m. length m ≡ n) (map (sets_of hs) marked)
long_map hs n marked e = All-from_recursion _ _ (by marked)
  where
    by : (ms : List (List ℕ)) → AllByRecursion (λ m. length m ≡ n) (map (sets_of hs) ms)
    by [] = tt
    by (m ∷ ms) = (length-map hs (set_of m) ∙ sym e, by ms)

some_shape : (hs : List Shape) → 0 < length hs → Shape
some_shape [] lt = absurd (omega (arith, lt))
some_shape (h ∷ hs) lt = h

-- two values are a choice
module _ (hs : List Shape) (ws : List ℕ) (marked : List (List ℕ)) (store : IsStore hs ws marked) where
  spread_at : (v : ℕ) (h : Shape) → v < length hs → h ≡ get_or hs v h → 1 < length (set_at (sets_of hs ws) v)
      → least (set_at (sets_of hs ws) v) < greatest (set_at (sets_of hs ws) v)
  spread_at v h below at two =
      let laid = laid_at hs ws marked store v h below at in
      let domain = domain_at hs ws marked store v h below at in
      let is = old_set hs ws marked store v h below at in
      let lo = get_or ws h.at 0 in
      let end = get_or ws (h.at + 1) 0 in
      let some : 0 < length (set_of ws h) = subst (λ (xs : List ℕ). 0 < length xs) is (omega (arith, two)) in
      let lt : lo < end = bounds_lt h ws laid domain some in
      let wide : lo + (end - lo) ≡ end = omega (arith, lt) in
      let most : length (members (row_of ws h.at h.n) lo (lo + (end - lo))) ≤ end - lo =
      le_width (row_of ws h.at h.n) lo (end - lo) (omega (arith, wide, laid.tight.within)) in
      let small : length (places_of ws h.at h.n) ≤ end - lo =
      subst (λ (e : ℕ). length (members (row_of ws h.at h.n) lo e) ≤ end - lo) wide most in
      let apart : lo < end - 1 = omega (arith, small, two, old_long hs ws marked store v h below at) in
      let rise = value_rises h.first lo (end - 1) domain.rises apart (omega (arith, lt, laid.counted)) in
      let a = ap least is ∙ least_value h ws laid domain some in
      let b = ap greatest is ∙ greatest_value h ws laid domain some in
      omega (arith, rise, a, b)

  pub spread_all : (v : ℕ) → 1 < length (set_at (sets_of hs ws) v) → least (set_at (sets_of hs ws) v) < greatest (set_at (sets_of hs ws) v)
  spread_all v two = elim (cases_lt v (length hs)) [
    | inl lt ↦ (let d = some_shape hs (omega (arith, lt)) in spread_at v (get_or hs v d) lt (get_or_default hs v d (get_or hs v d) lt) two)
    | inr le ↦ absurd (let none = ap length (get_or_past (sets_of hs ws) v [] (omega (arith, le, length-map hs (set_of ws)))) in
        omega (arith, none, two))
  ]
