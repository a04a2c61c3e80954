-- Laws of packets.
use Rattle.std.proofs.Common.{ℕ, zero, suc, ◌≡◌, ◌<◌, ◌≤◌, ◌+◌, ◌⊎◌, ◌∙◌, Bool, true, false, not, ◌&&◌, ◌||◌, if◌then◌else◌, List, []}
use Rattle.std.proofs.Common.{◌∷◌, length, get_or, sum_by, nat_eq, nat_le, nat_lt, refl, sym, ap, subst, arith, inl, inr}
use Rattle.std.specs.List.{list_all, AllByRecursion}
use Rattle.std.proofs.lemmas.Bool.Decides.{nat_tests}
use Rattle.std.proofs.lemmas.List.Sums.{sum_by-cons}
use Rattle.std.proofs.lemmas.List.Elements.{recursion_from_All, All-from_recursion}
use Rattle.un_base.specs.declared.ids.VarId.{VarId}
use Rattle.un_isa.specs.declared.table.Needs.{Needs}
use Rattle.un_prop.specs.Parts.{SameAt}
use Rattle.un_prop.specs.AmongLaws.{same_var, same_number, same_active}
use Rattle.un_prop.specs.Acts.{act_number, is_active}
use Rattle.un_prop.specs.LookLaws.{both, firsts, not_or, or_not}
use Rattle.un_slots.specs.declared.item.Item.{Item}
use Rattle.un_isa.specs.declared.packet_counts.Resource.{Resource}
use Rattle.un_isa.specs.declared.packet_counts.Resource.TheVariants.{Instructions, Memory, Stores, MultiplyOrControl, Control}
use Rattle.un_slots.specs.Slots.{share_at, issues_at, taken_by, taken, has_room, item_holds}
use Rattle.un_isa.specs.PacketCounts.{resources, places_of, share_of}
use Rattle.un_slots.specs.Slots.{per_cycle_holds, FitsCycles, ItemVars, SlotVars}

-- Lists

pub each_true : {A : Type 0} (p : A → Bool) (xs : List A) → list_all p xs ≡ true → AllByRecursion (λ a. p a ≡ true) xs
each_true p [] h = tt
each_true p (x ∷ xs) h = (let two = firsts (p x) (list_all p xs) h in (two.0, each_true p xs two.1))

pub all_true : {A : Type 0} (p : A → Bool) (xs : List A) → AllByRecursion (λ a. p a ≡ true) xs → list_all p xs ≡ true
all_true p [] h = refl
all_true p (x ∷ xs) h = both (p x) (list_all p xs) h.0 (all_true p xs h.1)

pub map_each : {A : Type 0} (P Q : A → Type 0) → ((a : A) → P a → Q a) → (xs : List A) → AllByRecursion P xs → AllByRecursion Q xs
map_each P Q h [] all = tt
map_each P Q h (x ∷ xs) all = (h x all.0, map_each P Q h xs all.1)

pub sum_alike : {A : Type 0} (f g : A → ℕ) (xs : List A) → AllByRecursion (λ a. f a ≡ g a) xs → sum_by f xs ≡ sum_by g xs
sum_alike f g [] all = refl
sum_alike f g (x ∷ xs) all = sum_by-cons f x xs ∙ (ap (λ (n : ℕ). n + sum_by f xs) all.0
    ∙ (ap (λ (n : ℕ). g x + n) (sum_alike f g xs all.1) ∙ sym (sum_by-cons g x xs)))

all_alike : {A : Type 0} (p q : A → Bool) (xs : List A) → AllByRecursion (λ a. p a ≡ q a) xs → list_all p xs ≡ list_all q xs
all_alike p q [] all = refl
all_alike p q (x ∷ xs) all = ap (λ (b : Bool). b && list_all p xs) all.0 ∙ ap (λ (b : Bool). q x && b) (all_alike p q xs all.1)

and_alike : (a b c d : Bool) → a ≡ c → b ≡ d → (a && b) ≡ (c && d)
and_alike a b c d h k = ap (λ (x : Bool). x && b) h ∙ ap (λ (x : Bool). c && x) k

-- Resources

pub for_each : (q : Resource → Bool) → ((r : Resource) → q r ≡ true) → list_all q resources ≡ true
for_each q h = all_true q resources (h Instructions, (h Memory, (h Stores, (h MultiplyOrControl, (h Control, tt)))))

pub of_each : (q : Resource → Bool) → list_all q resources ≡ true → (r : Resource) → q r ≡ true
of_each q h Instructions = (each_true q resources h).0
of_each q h Memory = (each_true q resources h).1.0
of_each q h Stores = (each_true q resources h).1.1.0
of_each q h MultiplyOrControl = (each_true q resources h).1.1.1.0
of_each q h Control = (each_true q resources h).1.1.1.1.0

-- what the entry at a place takes
pub share_within : (r : Resource) (us : List Needs) (n : ℕ) (d : Needs) → n < length us → share_at r us n ≡ share_of r (get_or us n d)
share_within r [] n d lt = absurd (omega (arith, lt))
share_within r (u ∷ us) zero d lt = refl
share_within r (u ∷ us) (suc n) d lt = share_within r us n d (omega (arith, lt))

pub share_past : (r : Resource) (us : List Needs) (n : ℕ) → length us ≤ n → share_at r us n ≡ 0
share_past r [] n le = refl
share_past r (u ∷ us) zero le = absurd (omega (arith, le))
share_past r (u ∷ us) (suc n) le = share_past r us n (omega (arith, le))

-- The predicate as relations

-- no item of these issues in cycle c, or the cycle has room
idle_or_room : (items : List Item) (horizon : ℕ) (x : List ℕ) (r : Resource) (c : ℕ) (rest : List Item)
    → AllByRecursion (λ (i : Item). item_holds items horizon x i ≡ true) rest → (taken r rest x c ≡ 0) ⊎ (has_room items x c ≡ true)
idle_or_room items horizon x r c [] all = inl refl
idle_or_room items horizon x r c (i ∷ rest) all = by (issues_at c x i) refl (idle_or_room items horizon x r c rest all.1)
  where
    by : (b : Bool) → issues_at c x i ≡ b → (taken r rest x c ≡ 0) ⊎ (has_room items x c ≡ true)
        → (taken r (i ∷ rest) x c ≡ 0) ⊎ (has_room items x c ≡ true)
    by true e more =
        let two = firsts (is_active i.on x) (nat_eq (get_or x i.at.0 0) c) e in
        let at = two.1 in
        let is : get_or x i.at.0 0 ≡ c = grind (arith, nat_tests, at) in
        let holds = or_not (is_active i.on x) _ all.0 two.0 in
        let known = (firsts (nat_lt (get_or x i.at.0 0) horizon) _ holds).1 in
        let room = (firsts (nat_lt (act_number i.on x) (length i.uses)) _ known).1 in
        inr (subst (λ (n : ℕ). has_room items x n ≡ true) is room)
    by false e (inr room) = inr room
    by false e (inl none) =
        let zero_here : taken_by r c x i ≡ 0 = ap (λ (b : Bool). if b then share_at r i.uses (act_number i.on x) else 0) e in
        inl (let cons = sum_by-cons (taken_by r c x) i rest in omega (arith, cons, zero_here, none))

pub holds_fits : (items : List Item) (horizon : ℕ) (x : List ℕ) → per_cycle_holds items horizon x ≡ true → FitsCycles items horizon x
holds_fits items horizon x h = record {
  room = λ r c. elim (idle_or_room items horizon x r c items each) [
    | inl none ↦ omega (arith, none)
    | inr room ↦ (let le = of_each (λ r. nat_le (taken r items x c) (places_of r)) room r in grind (arith, nat_tests, le))
  ];
  early = All-from_recursion _ _ (map_each (λ i. item_holds items horizon x i ≡ true) (λ i. is_active i.on x ≡ true
      → get_or x i.at.0 0 < horizon)
      (λ i holds on. (let lt = (firsts (nat_lt (get_or x i.at.0 0) horizon) _ (or_not (is_active i.on x) _ holds on)).0 in
      grind (arith, nat_tests, lt)))
      items each);
  known = All-from_recursion _ _ (map_each (λ i. item_holds items horizon x i ≡ true) (λ i. is_active i.on x ≡ true
      → act_number i.on x < length i.uses)
      (λ i holds on. (let rest = (firsts (nat_lt (get_or x i.at.0 0) horizon) _ (or_not (is_active i.on x) _ holds on)).1 in
      let lt = (firsts (nat_lt (act_number i.on x) (length i.uses)) _ rest).0 in grind (arith, nat_tests, lt)))
      items each);
}
  where
    each : AllByRecursion (λ (i : Item). item_holds items horizon x i ≡ true) items
    each = each_true (item_holds items horizon x) items h

pub fits_holds : (items : List Item) (horizon : ℕ) (x : List ℕ) → FitsCycles items horizon x → per_cycle_holds items horizon x ≡ true
fits_holds items horizon x f = all_true (item_holds items horizon x) items (each items (recursion_from_All _ _ f.early)
    (recursion_from_All _ _ f.known))
  where
    room : (c : ℕ) → has_room items x c ≡ true
    room c = for_each (λ r. nat_le (taken r items x c) (places_of r)) (λ r. (let le = f.room r c in grind (arith, nat_tests, le)))

    each : (rest : List Item) → AllByRecursion (λ (i : Item). is_active i.on x ≡ true → get_or x i.at.0 0 < horizon) rest
        → AllByRecursion (λ (i : Item). is_active i.on x ≡ true → act_number i.on x < length i.uses) rest
        → AllByRecursion (λ (i : Item). item_holds items horizon x i ≡ true) rest
    each [] early known = tt
    each (i ∷ rest) early known = (
      not_or (is_active i.on x) _ (λ on. both (nat_lt (get_or x i.at.0 0) horizon) _ (let lt = early.0 on in grind (arith, nat_tests, lt))
          (both (nat_lt (act_number i.on x) (length i.uses)) _ (let lt = known.0 on in
          grind (arith, nat_tests, lt)) (room (get_or x i.at.0 0)))),
      each rest early.1 known.1,
    )

-- It looks at its variables alone

module _ (vs : List VarId) (items : List Item) (horizon : ℕ) (among : SlotVars vs items) (x y : List ℕ) (same : SameAt vs x y) where
  taken_alike : (r : Resource) (c : ℕ) → taken r items x c ≡ taken r items y c
  taken_alike r c = sum_alike (taken_by r c x) (taken_by r c y) items
      (map_each (ItemVars vs) (λ i. taken_by r c x i ≡ taken_by r c y i) one items (recursion_from_All _ _ among))
    where
      one : (i : Item) → ItemVars vs i → taken_by r c x i ≡ taken_by r c y i
      one i h = ap (λ (b : Bool). if b then share_at r i.uses (act_number i.on x) else 0)
          (and_alike (is_active i.on x) (nat_eq (get_or x i.at.0 0) c) (is_active i.on y) (nat_eq (get_or y i.at.0 0) c)
          (same_active vs x y same i.on h.of_on) (ap (λ (n : ℕ). nat_eq n c) (same_var vs x y same i.at h.of_at)))
          ∙ ap (λ (n : ℕ). if issues_at c y i then share_at r i.uses n else 0) (same_number vs x y same i.on h.of_on)

  room_alike : (c : ℕ) → has_room items x c ≡ has_room items y c
  room_alike c = all_alike (λ r. nat_le (taken r items x c) (places_of r)) (λ r. nat_le (taken r items y c) (places_of r)) resources
      (one Instructions, (one Memory, (one Stores, (one MultiplyOrControl, (one Control, tt)))))
    where
      one : (r : Resource) → nat_le (taken r items x c) (places_of r) ≡ nat_le (taken r items y c) (places_of r)
      one r = ap (λ (n : ℕ). nat_le n (places_of r)) (taken_alike r c)

  item_alike : (i : Item) → ItemVars vs i → item_holds items horizon x i ≡ item_holds items horizon y i
  item_alike i h =
      let cycle = same_var vs x y same i.at h.of_at in
      let room = room_alike (get_or x i.at.0 0) ∙ ap (λ (n : ℕ). has_room items y n) cycle in
      let known = ap (λ (n : ℕ). nat_lt n (length i.uses)) (same_number vs x y same i.on h.of_on) in
      let early = ap (λ (n : ℕ). nat_lt n horizon) cycle in
      ap (λ (b : Bool). not b || (nat_lt (get_or x i.at.0 0) horizon && (nat_lt (act_number i.on x) (length i.uses) && has_room items x
      (get_or x i.at.0 0))))
      (same_active vs x y same i.on h.of_on)
      ∙ ap (λ (b : Bool). not (is_active i.on y) || b) (and_alike _ _ _ _ early (and_alike _ _ _ _ known room))

  pub per_cycle_looks : per_cycle_holds items horizon x ≡ per_cycle_holds items horizon y
  per_cycle_looks = all_alike (item_holds items horizon x) (item_holds items horizon y) items
      (map_each (ItemVars vs) (λ i. item_holds items horizon x i
      ≡ item_holds items horizon y i) item_alike items (recursion_from_All _ _ among))
