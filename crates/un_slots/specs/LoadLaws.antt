-- Laws of what is known of packets before all is fixed.
use Rattle.std.proofs.Common.{ℕ, zero, suc, ◌≡◌, ◌<◌, ◌≤◌, ◌+◌, ◌∙◌, Bool, true, false, not, ◌&&◌, ◌||◌, if◌then◌else◌, List, [], ◌∷◌}
use Rattle.std.proofs.Common.{length, get_or, sum_by, nat_eq, nat_le, nat_lt, None, Some, refl, sym, ap, subst, arith, inl, inr}
use Rattle.std.specs.declared.option.Option.{Option}
use Rattle.std.specs.List.{list_any, list_all, AllByRecursion, slice_get}
use Rattle.std.proofs.lemmas.Bool.Decides.{nat_tests}
use Rattle.std.proofs.lemmas.List.Sums.{sum_by-cons}
use Rattle.std.proofs.lemmas.List.Elements.{recursion_from_All}
use Rattle.un_base.specs.declared.ids.VarId.{VarId}
use Rattle.un_domains.specs.Sets.{Sets, set_at, has, least, cut_by, IsIn, NoneEmpty, Kept}
use Rattle.un_domains.specs.SetLaws.{has-cons}
use Rattle.un_domains.specs.CutLaws.{cut_by_kept}
use Rattle.un_domains.specs.Order.{Below}
use Rattle.un_domains.specs.OrderLaws.{single_below, same_test}
use Rattle.un_prop.specs.Rounds.{HasVars}
use Rattle.un_prop.specs.Lawful.{Agree, Lawful, LawfulTest}
use Rattle.un_prop.specs.Steps.{lawful_cut_by, lawful_some}
use Rattle.un_prop.specs.Places.{each_place}
use Rattle.un_prop.specs.ChainLaws.{each_lawful, each_keeps, each_stable}
use Rattle.un_prop.specs.Among.{among, AllAmong}
use Rattle.un_prop.specs.AmongLaws.{in_list, has_among}
use Rattle.un_prop.specs.Acts.{act_vars, act_number, is_active}
use Rattle.un_prop.specs.Looks.{act_set, sure}
use Rattle.un_prop.specs.LookLaws.{both, firsts, not_or, or_not, set_alike, sure_alike, sure_below, sure_active, act_alike, act_below}
use Rattle.un_prop.specs.LookLaws.{number_in}
use Rattle.un_prop.specs.LastLaws.{cut_all, cut_same, passes_all}
use Rattle.un_prop.specs.SomewhereLaws.{any_find, any_has, any_more, any_agree}
use Rattle.un_prop.specs.declared.act.Act.{Act}
use Rattle.un_prop.specs.declared.act.Act.TheVariants.{Always, Var as ActVar}
use Rattle.un_slots.specs.declared.item.Item.{Item}
use Rattle.un_isa.specs.declared.packet_counts.Resource.{Resource}
use Rattle.un_slots.specs.Slots.{share_at, issues_at, taken_by, taken, per_cycle_holds, ItemVars, SlotVars}
use Rattle.un_isa.specs.PacketCounts.{resources, places_of}
use Rattle.un_slots.specs.SlotLaws.{map_each, sum_alike, for_each, of_each, holds_fits}
use Rattle.un_slots.specs.Loads.{is_settled, settled_at, load_by, load, others, fits, can_issue, slot_test, slot_cut_of, slot_cut}
use Rattle.un_slots.specs.Loads.{SlotsStrong}

-- Sums

pub sum_le : (f g : Item → ℕ) (xs : List Item) → AllByRecursion (λ i. f i ≤ g i) xs → sum_by f xs ≤ sum_by g xs
sum_le f g [] all = omega arith
sum_le f g (x ∷ xs) all = (let a = sum_by-cons f x xs in let b = sum_by-cons g x xs in let c = sum_le f g xs all.1 in let d = all.0 in
    omega (arith, a, b, c, d))

-- the sum of all is that of the others, and one
pub sum_others : (f : Item → ℕ) (items : List Item) (k : ℕ) (i : Item) → slice_get items k ≡ Some i
    → sum_by f items ≡ sum_by f (others k items) + f i
sum_others f [] k i e = absurd (cc e)
sum_others f (x ∷ xs) zero i e = let same : x ≡ i = cc e in (let a = sum_by-cons f x xs in let b = ap f same in omega (arith, a, b))
sum_others f (x ∷ xs) (suc k) i e = (let a = sum_by-cons f x xs in let b = sum_by-cons f x (others k xs) in
    let c = sum_others f xs k i e in omega (arith, a, b, c))

pub each_other : (P : Item → Type 0) (items : List Item) (k : ℕ) → AllByRecursion P items → AllByRecursion P (others k items)
each_other P [] k all = tt
each_other P (x ∷ xs) zero all = all.1
each_other P (x ∷ xs) (suc k) all = (all.0, each_other P xs k all.1)

pub one_of : (P : Item → Type 0) (items : List Item) (k : ℕ) (i : Item) → slice_get items k ≡ Some i → AllByRecursion P items → P i
one_of P [] k i e all = absurd (cc e)
one_of P (x ∷ xs) zero i e all = let same : x ≡ i = cc e in subst P same all.0
one_of P (x ∷ xs) (suc k) i e all = one_of P xs k i e all.1

-- Settled items

-- the only value
pub only : (xs : List ℕ) (y : ℕ) → nat_eq (length xs) 1 ≡ true → has xs y ≡ true → least xs ≡ y
only [] y e h = absurd (cc e)
only (z ∷ []) y e h = elim (has-cons z y [] h) [ inl is ↦ sym is | inr more ↦ absurd (cc more) ]
only (z ∷ w ∷ xs) y e h = absurd (let two : suc (suc (length xs)) ≡ 1 = grind (arith, nat_tests, e) in omega (arith, two))

module _ (vs : List VarId) where
  -- what an item takes where it is settled, it takes below
  single_set : (t s : Sets) (v : VarId) → HasVars vs s → NoneEmpty t → Below t s → among vs v ≡ true
      → nat_eq (length (set_at s v.0)) 1 ≡ true → set_at t v.0 ≡ set_at s v.0
  single_set t s v k full le h one = single_below t s v.0 le (full v.0 (let at = has_among vs v s h k in
      omega (arith, at, le.long))) (grind (arith, nat_tests, one))

  single_act : (t s : Sets) (on : Act) → HasVars vs s → NoneEmpty t → Below t s → AllAmong vs (act_vars on)
      → nat_eq (length (act_set on s)) 1 ≡ true → act_set on t ≡ act_set on s
  single_act t s Always k full le h one = refl
  single_act t s (ActVar v) k full le h one = single_set t s v k full le (h 0 v (omega arith)) one

  load_by_below : (r : Resource) (t s : Sets) (c : ℕ) → HasVars vs s → NoneEmpty t → Below t s → (i : Item) → ItemVars vs i
      → load_by r s c i ≤ load_by r t c i
  load_by_below r t s c k full le i h = by (settled_at s c i) refl
    where
      Less : Bool → Type 0
      Less b = (if b then share_at r i.uses (least (act_set i.on s)) else 0) ≤ load_by r t c i

      by : (b : Bool) → settled_at s c i ≡ b → Less b
      by false e = omega arith
      by true e =
          let two = firsts (is_settled s i) (nat_eq (least (set_at s i.at.0)) c) e in
          let settled = firsts (sure i.on s) _ two.0 in
          let ones = firsts (nat_eq (length (set_at s i.at.0)) 1) (nat_eq (length (act_set i.on s)) 1) settled.1 in
          let cycle = single_set t s i.at k full le h.of_at ones.0 in
          let number = single_act t s i.on k full le h.of_on ones.1 in
          let below : settled_at t c i ≡ true = both (is_settled t i) (nat_eq (least (set_at t i.at.0)) c)
          (both (sure i.on t) _ (sure_below vs t s le i.on settled.0) (both (nat_eq (length (set_at t i.at.0)) 1) _
          (ap (λ (xs : List ℕ). nat_eq (length xs) 1) cycle ∙ ones.0) (ap (λ (xs : List ℕ). nat_eq (length xs) 1) number ∙ ones.1)))
          (ap (λ (xs : List ℕ). nat_eq (least xs) c) cycle ∙ two.1) in
          let is : load_by r t c i ≡ share_at r i.uses (least (act_set i.on t)) = ap (λ (b : Bool). if b then share_at r i.uses (least
          (act_set i.on t)) else 0) below in
          let same = ap (λ (xs : List ℕ). share_at r i.uses (least xs)) number in
          omega (arith, is, same)

  -- and that is what it takes in each assignment
  load_by_taken : (r : Resource) (s : Sets) (x : List ℕ) (c : ℕ) → HasVars vs s → IsIn x s → (i : Item) → ItemVars vs i
      → load_by r s c i ≤ taken_by r c x i
  load_by_taken r s x c k there i h = by (settled_at s c i) refl
    where
      by : (b : Bool) → settled_at s c i ≡ b → (if b then share_at r i.uses (least (act_set i.on s)) else 0) ≤ taken_by r c x i
      by false e = omega arith
      by true e =
          let two = firsts (is_settled s i) (nat_eq (least (set_at s i.at.0)) c) e in
          let settled = firsts (sure i.on s) _ two.0 in
          let ones = firsts (nat_eq (length (set_at s i.at.0)) 1) (nat_eq (length (act_set i.on s)) 1) settled.1 in
          let cycle : least (set_at s i.at.0) ≡ get_or x i.at.0 0 = only (set_at s i.at.0) (get_or x i.at.0 0) ones.0 (there.each i.at.0
          (has_among vs i.at s h.of_at k)) in
          let number : least (act_set i.on s) ≡ act_number i.on x = only (act_set i.on s) (act_number i.on x) ones.1
          (number_in vs s x there k i.on h.of_on) in
          let issues : issues_at c x i ≡ true = both (is_active i.on x) (nat_eq (get_or x i.at.0 0) c)
          (sure_active vs s x there k i.on h.of_on settled.0)
          (ap (λ (n : ℕ). nat_eq n c) (sym cycle) ∙ two.1) in
          let is : taken_by r c x i ≡ share_at r i.uses (act_number i.on x) = ap (λ (b : Bool). if b then share_at r i.uses
          (act_number i.on x) else 0) issues in
          let same = ap (share_at r i.uses) number in
          omega (arith, is, same)

  load_by_alike : (r : Resource) (s t : Sets) (c : ℕ) → Agree vs s t → (i : Item) → ItemVars vs i → load_by r s c i ≡ load_by r t c i
  load_by_alike r s t c agree i h =
      let cycle = set_alike vs s t agree i.at h.of_at in
      let number = act_alike vs s t agree i.on h.of_on in
      let is_sure = sure_alike vs s t agree i.on h.of_on in
      ap (λ (b : Bool). if (b && (nat_eq (length (set_at s i.at.0)) 1 && nat_eq (length (act_set i.on s)) 1)) && nat_eq (least
      (set_at s i.at.0)) c then share_at r i.uses (least (act_set i.on s)) else 0) is_sure
      ∙ (ap (λ (xs : List ℕ). if (sure i.on t && (nat_eq (length xs) 1 && nat_eq (length (act_set i.on s)) 1)) && nat_eq
      (least xs) c then share_at r i.uses (least (act_set i.on s)) else 0) cycle
      ∙ ap (λ (xs : List ℕ). if (sure i.on t && (nat_eq (length (set_at t i.at.0)) 1 && nat_eq (length xs) 1)) && nat_eq (least
      (set_at t i.at.0)) c then share_at r i.uses (least xs) else 0) number)

  module _ (items : List Item) (each : AllByRecursion (ItemVars vs) items) where
    pub load_below : (r : Resource) (t s : Sets) (c : ℕ) → HasVars vs s → NoneEmpty t → Below t s → load r items s c ≤ load r items t c
    load_below r t s c k full le = sum_le (load_by r s c) (load_by r t c) items (map_each (ItemVars vs)
        (λ i. load_by r s c i ≤ load_by r t c i) (load_by_below r t s c k full le) items each)

    pub load_taken : (r : Resource) (s : Sets) (x : List ℕ) (c : ℕ) → HasVars vs s → IsIn x s → load r items s c ≤ taken r items x c
    load_taken r s x c k there = sum_le (load_by r s c) (taken_by r c x) items (map_each (ItemVars vs)
        (λ i. load_by r s c i ≤ taken_by r c x i) (load_by_taken r s x c k there) items each)

    pub load_alike : (r : Resource) (s t : Sets) (c : ℕ) → Agree vs s t → load r items s c ≡ load r items t c
    load_alike r s t c agree = sum_alike (load_by r s c) (load_by r t c) items (map_each (ItemVars vs) (λ i. load_by r s c i
        ≡ load_by r t c i) (load_by_alike r s t c agree) items each)

    -- what fits below fits
    fits_below : (i : Item) (t s : Sets) (c n : ℕ) → HasVars vs s → NoneEmpty t → Below t s → fits items i t c n ≡ true
        → fits items i s c n ≡ true
    fits_below i t s c n k full le h =
        let two = firsts (nat_lt n (length i.uses)) _ h in
        both (nat_lt n (length i.uses)) _ two.0 (for_each (λ r. nat_le (load r items s c + share_at r i.uses n) (places_of r))
        (λ r. (let room = of_each (λ r. nat_le (load r items t c + share_at r i.uses n) (places_of r)) two.1 r in
        let room_le : load r items t c + share_at r i.uses n ≤ places_of r = grind (arith, nat_tests, room) in
        let less = load_below r t s c k full le in
        let done : load r items s c + share_at r i.uses n ≤ places_of r = omega (arith, room_le, less) in
        grind (arith, nat_tests, done))))

    fits_alike : (i : Item) (s t : Sets) (c n : ℕ) → Agree vs s t → fits items i s c n ≡ fits items i t c n
    fits_alike i s t c n agree = same_test (fits items i s c n) (fits items i t c n) (go s t (λ r. load_alike r s t c agree)) (go t s
        (λ r. sym (load_alike r s t c agree)))
      where
        go : (a b : Sets) → ((r : Resource) → load r items a c ≡ load r items b c) → fits items i a c n ≡ true → fits items i b c n ≡ true
        go a b same h =
            let two = firsts (nat_lt n (length i.uses)) _ h in
            both (nat_lt n (length i.uses)) _ two.0 (for_each (λ r. nat_le (load r items b c + share_at r i.uses n) (places_of r))
            (λ r. ap (λ (m : ℕ). nat_le (m + share_at r i.uses n) (places_of r)) (sym (same r))
            ∙ of_each (λ r. nat_le (load r items a c + share_at r i.uses n) (places_of r)) two.1 r))

-- One item and the others

pub beside_unsettled : (r : Resource) (items : List Item) (k : ℕ) (i : Item) (s : Sets) (c : ℕ) → slice_get items k ≡ Some i
    → is_settled s i ≡ false
    → load r items s c ≡ load r (others k items) s c
beside_unsettled r items k i s c e off =
    let none : load_by r s c i ≡ 0 =
    ap (λ (b : Bool). if b && nat_eq (least (set_at s i.at.0)) c then share_at r i.uses (least (act_set i.on s)) else 0) off in
    let whole = sum_others (load_by r s c) items k i e in
    omega (arith, none, whole)

beside_settled : (r : Resource) (items : List Item) (k : ℕ) (i : Item) (s : Sets) (c : ℕ) → slice_get items k ≡ Some i
    → is_settled s i ≡ true
    → has (set_at s i.at.0) c ≡ true → load r items s c ≡ load r (others k items) s c + share_at r i.uses (least (act_set i.on s))
beside_settled r items k i s c e on own =
    let single = (firsts (nat_eq (length (set_at s i.at.0)) 1) _ (firsts (sure i.on s) _ on).1).0 in
    let cycle : least (set_at s i.at.0) ≡ c = only (set_at s i.at.0) c single own in
    let here : settled_at s c i ≡ true = both (is_settled s i) _ on (grind (arith, nat_tests, cycle)) in
    let some : load_by r s c i ≡ share_at r i.uses (least (act_set i.on s)) =
    ap (λ (b : Bool). if b then share_at r i.uses (least (act_set i.on s)) else 0) here in
    let whole = sum_others (load_by r s c) items k i e in
    omega (arith, some, whole)

-- one value passes, or none
any_single : (p : ℕ → Bool) (xs : List ℕ) → nat_eq (length xs) 1 ≡ true → list_any p xs ≡ p (least xs)
any_single p [] e = absurd (cc e)
any_single p (x ∷ []) e = by (p x)
  where
    by : (b : Bool) → (b || false) ≡ b
    by true = refl
    by false = refl
any_single p (x ∷ y ∷ xs) e = absurd (let two : suc (suc (length xs)) ≡ 1 = grind (arith, nat_tests, e) in omega (arith, two))

-- a settled item can issue in its cycle where all that is settled there fits
pub settled_fits : (items : List Item) (k : ℕ) (i : Item) (s : Sets) (c : ℕ) → slice_get items k ≡ Some i → is_settled s i ≡ true
    → has (set_at s i.at.0) c ≡ true → least (act_set i.on s) < length i.uses
    → can_issue (others k items) i s c ≡ list_all (λ r. nat_le (load r items s c) (places_of r)) resources
settled_fits items k i s c e on own few =
    let n = least (act_set i.on s) in
    let single = (firsts (nat_eq (length (set_at s i.at.0)) 1) _ (firsts (sure i.on s) _ on).1).1 in
    any_single (fits (others k items) i s c) (act_set i.on s) single ∙ same_test (fits (others k items) i s c n)
    (list_all (λ r. nat_le (load r items s c) (places_of r)) resources)
    (λ fit. for_each (λ r. nat_le (load r items s c) (places_of r))
    (λ r. ap (λ (m : ℕ). nat_le m (places_of r)) (beside_settled r items k i s c e on own)
    ∙ of_each (λ r. nat_le (load r (others k items) s c + share_at r i.uses n) (places_of r)) (firsts (nat_lt n
    (length i.uses)) _ fit).1 r))
    (λ all. both (nat_lt n (length i.uses)) _ (grind (arith, nat_tests, few))
    (for_each (λ r. nat_le (load r (others k items) s c + share_at r i.uses n) (places_of r))
    (λ r. ap (λ (m : ℕ). nat_le m (places_of r)) (sym (beside_settled r items k i s c e on own))
    ∙ of_each (λ r. nat_le (load r items s c) (places_of r)) all r)))

-- What the cut of one item does

pub slot_unsure : (items : List Item) (horizon k : ℕ) (i : Item) (s : Sets) → slice_get items k ≡ Some i → i.at.0 < length s
    → NoneEmpty s → sure i.on s ≡ false
    → slot_cut items horizon k s ≡ Some s
slot_unsure items horizon k i s e within full off = ap (λ (o : Option Item). slot_cut_of items horizon k o s) e
    ∙ cut_all (slot_test items horizon k i s) i.at.0 s within full (λ c own. ap (λ (b : Bool). not b || (nat_lt c horizon && can_issue
    (others k items) i s c)) off)

pub slot_is : (items : List Item) (horizon k : ℕ) (i : Item) (s : Sets) (p : ℕ → Bool) → slice_get items k ≡ Some i → sure i.on s ≡ true
    → ((c : ℕ) → has (set_at s i.at.0) c ≡ true → p c ≡ (nat_lt c horizon && can_issue (others k items) i s c))
    → slot_cut items horizon k s ≡ cut_by p i.at.0 s
slot_is items horizon k i s p e on same = ap (λ (o : Option Item). slot_cut_of items horizon k o s) e
    ∙ cut_same (slot_test items horizon k i s) p i.at.0 s
    (λ c own. ap (λ (b : Bool). not b || (nat_lt c horizon && can_issue (others k items) i s c)) on ∙ sym (same c own))

pub slot_all : (items : List Item) (horizon k : ℕ) (i : Item) (s : Sets) → slice_get items k ≡ Some i → i.at.0 < length s → NoneEmpty s
    → ((c : ℕ) → has (set_at s i.at.0) c ≡ true → (nat_lt c horizon && can_issue (others k items) i s c) ≡ true)
    → slot_cut items horizon k s ≡ Some s
slot_all items horizon k i s e within full all = ap (λ (o : Option Item). slot_cut_of items horizon k o s) e
    ∙ cut_all (slot_test items horizon k i s) i.at.0 s within full (λ c own. not_or (sure i.on s) _ (λ on. all c own))

-- The cut

module _ (vs : List VarId) (items : List Item) (horizon : ℕ) (among_all : SlotVars vs items) where
  each_item : AllByRecursion (ItemVars vs) items
  each_item = recursion_from_All _ _ among_all

  each_but : (k : ℕ) → AllByRecursion (ItemVars vs) (others k items)
  each_but k = each_other (ItemVars vs) items k each_item

  test_lawful : (k : ℕ) (i : Item) → ItemVars vs i → LawfulTest vs (slot_test items horizon k i)
  test_lawful k i h = record {
    monotone = λ t s c known full le pass. not_or (sure i.on s) _ (λ is_sure. (
        let now = firsts (nat_lt c horizon) _ (or_not (sure i.on t) _ pass (sure_below vs t s le i.on is_sure)) in
        both (nat_lt c horizon) _ now.0 (any_more (fits (others k items) i t c) (fits (others k items) i s c) (act_set i.on t)
        (act_set i.on s)
        (λ n here fit. (act_below vs t s n le i.on here, fits_below vs (others k items) (each_but k) i t s c n known full le fit)) now.1)));
    local = λ s t c agree.
        ap (λ (b : Bool). not b || (nat_lt c horizon && can_issue (others k items) i s c)) (sure_alike vs s t agree i.on h.of_on)
        ∙ (ap (λ (xs : List ℕ). not (sure i.on t) || (nat_lt c horizon && list_any (fits (others k items) i s c) xs))
        (act_alike vs s t agree i.on h.of_on)
        ∙ ap (λ (b : Bool). not (sure i.on t) || (nat_lt c horizon && b)) (any_agree (fits (others k items) i s c) (fits
        (others k items) i t c) (act_set i.on t)
        (λ n. fits_alike vs (others k items) (each_but k) i s t c n agree)));
  }

  pub slot_lawful : (k : ℕ) → Lawful vs (slot_cut items horizon k)
  slot_lawful k = by (slice_get items k) refl
    where
      by : (o : Option Item) → slice_get items k ≡ o → Lawful vs (slot_cut_of items horizon k o)
      by None e = lawful_some vs
      by (Some i) e =
          let h = one_of (ItemVars vs) items k i e each_item in
          lawful_cut_by vs i.at (slot_test items horizon k i) (in_list vs i.at h.of_at) (test_lawful k i h)

  -- what an assignment that holds takes fits
  test_holds : (k : ℕ) (i : Item) (s : Sets) (x : List ℕ) → slice_get items k ≡ Some i → HasVars vs s → IsIn x s
      → per_cycle_holds items horizon x ≡ true
      → slot_test items horizon k i s (get_or x i.at.0 0) ≡ true
  test_holds k i s x e known there holds = not_or (sure i.on s) _ (λ is_sure.
      let h = one_of (ItemVars vs) items k i e each_item in
      let f = holds_fits items horizon x holds in
      let on = sure_active vs s x there known i.on h.of_on is_sure in
      let early = one_of (λ j. is_active j.on x ≡ true → get_or x j.at.0 0 < horizon) items k i e (recursion_from_All _ _ f.early) on in
      let has_needs = one_of (λ j. is_active j.on x ≡ true → act_number j.on x < length j.uses) items k i e
      (recursion_from_All _ _ f.known) on in
      let c = get_or x i.at.0 0 in
      let n = act_number i.on x in
      both (nat_lt c horizon) _ (grind (arith, nat_tests, early)) (any_has (fits (others k items) i s c) (act_set i.on s) n
      (number_in vs s x there known i.on h.of_on)
      (both (nat_lt n (length i.uses)) _ (grind (arith, nat_tests, has_needs)) (for_each (λ r. nat_le (load r
      (others k items) s c + share_at r i.uses n) (places_of r))
      (λ r. (let less = load_taken vs (others k items) (each_but k) r s x c known there in
      let whole = sum_others (taken_by r c x) items k i e in
      let here : issues_at c x i ≡ true = both (is_active i.on x) (nat_eq c c) on (grind (arith, nat_tests)) in
      let own : taken_by r c x i ≡ share_at r i.uses n = ap (λ (b : Bool). if b then share_at r i.uses n else 0) here in
      let room = f.room r c in
      let done : load r (others k items) s c + share_at r i.uses n ≤ places_of r = omega (arith, less, whole, own, room) in
      grind (arith, nat_tests, done)))))))

  slot_keeps : (x : List ℕ) → per_cycle_holds items horizon x ≡ true → (k : ℕ) (s : Sets) → HasVars vs s → IsIn x s
      → Kept x (slot_cut items horizon k s)
  slot_keeps x holds k s known there = by (slice_get items k) refl
    where
      by : (o : Option Item) → slice_get items k ≡ o → Kept x (slot_cut_of items horizon k o s)
      by None e = there
      by (Some i) e =
          let h = one_of (ItemVars vs) items k i e each_item in
          cut_by_kept (slot_test items horizon k i s) i.at.0 s x (has_among vs i.at s h.of_at known) there
          (test_holds k i s x e known there holds)

  pub slots_lawful : (n : ℕ) → Lawful vs (each_place (slot_cut items horizon) n)
  slots_lawful n = each_lawful vs (slot_cut items horizon) slot_lawful n

  pub slots_keeps : (n : ℕ) (s : Sets) (x : List ℕ) → HasVars vs s → IsIn x s → per_cycle_holds items horizon x ≡ true
      → Kept x (each_place (slot_cut items horizon) n s)
  slots_keeps n s x known there holds = each_keeps vs (slot_cut items horizon) x
      (λ k m known_m in_m. slot_keeps x holds k m known_m in_m) n s known there

  pub slots_strong : (s : Sets) → HasVars vs s → NoneEmpty s → each_place (slot_cut items horizon) (length items) s ≡ Some s
      → SlotsStrong items s
  slots_strong s known full stable k i e is_sure c left =
      let h = one_of (ItemVars vs) items k i e each_item in
      let cut : slot_cut_of items horizon k (slice_get items k) s
      ≡ Some s = each_stable vs (slot_cut items horizon) slot_lawful (length items) s known full stable k (within items k e) in
      let one : cut_by (slot_test items horizon k i s) i.at.0 s ≡ Some s = subst (λ (o : Option Item). slot_cut_of items horizon k o s
      ≡ Some s) e cut in
      let pass = passes_all (slot_test items horizon k i s) i.at.0 s (has_among vs i.at s h.of_at known) one c left in
      let can = (firsts (nat_lt c horizon) _ (or_not (sure i.on s) _ pass is_sure)).1 in
      let found = any_find (fits (others k items) i s c) (act_set i.on s) can in
      let room = (firsts (nat_lt found.0 (length i.uses)) _ found.2).1 in (
        found.0,
        found.1,
        λ r. (let le = of_each (λ r. nat_le (load r (others k items) s c + share_at r i.uses found.0)
            (places_of r)) room r in grind (arith, nat_tests, le)),
      )
    where
      within : (xs : List Item) (j : ℕ) → slice_get xs j ≡ Some i → j < length xs
      within [] j e = absurd (cc e)
      within (y ∷ ys) zero e = omega arith
      within (y ∷ ys) (suc j) e = (let lt = within ys j e in omega (arith, lt))
