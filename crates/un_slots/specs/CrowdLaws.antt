-- Laws of crowds.
use Rattle.std.proofs.Common.{ℕ, zero, suc, ◌≡◌, ◌<◌, ◌≤◌, ◌+◌, ◌-◌, ◌*◌, ◌^◌, ◌∙◌, Bool, true, false, not, ◌&&◌, if◌then◌else◌, List, []}
use Rattle.std.proofs.Common.{◌∷◌, get_or, take, sum_by, nat_eq, nat_le, refl, sym, ap, subst, arith, inl, inr}
use Rattle.std.specs.List.{list_any, AllByRecursion}
use Rattle.std.proofs.lemmas.Bool.{cases_lt}
use Rattle.std.proofs.lemmas.Bool.Decides.{nat_tests}
use Rattle.std.proofs.lemmas.List.Sums.{sum_by-cons, sum_by-take-le}
use Rattle.std.proofs.lemmas.List.Elements.{recursion_from_All}
use Rattle.un_base.specs.declared.ids.VarId.{VarId}
use Rattle.un_domains.specs.Sets.{Sets, set_at, least, greatest, IsIn, NoneEmpty, Kept}
use Rattle.un_domains.specs.SetLaws.{least-le, has-fold_max}
use Rattle.un_domains.specs.Order.{Below}
use Rattle.un_domains.specs.OrderLaws.{same_test, least_below, greatest_below}
use Rattle.un_prop.specs.Rounds.{HasVars}
use Rattle.un_prop.specs.Lawful.{Agree, Lawful, LawfulTest}
use Rattle.un_prop.specs.FailLaws.{first_lawful, first_keeps}
use Rattle.un_prop.specs.AmongLaws.{has_among}
use Rattle.un_prop.specs.Acts.{act_number, is_active}
use Rattle.un_prop.specs.Looks.{act_set, sure}
use Rattle.un_prop.specs.LookLaws.{both, firsts, not_true, not_from, set_alike, sure_alike, sure_below, sure_active, act_alike, act_below}
use Rattle.un_prop.specs.LookLaws.{number_in}
use Rattle.un_prop.specs.SomewhereLaws.{any_more, any_has}
use Rattle.un_slots.specs.declared.item.Item.{Item}
use Rattle.un_isa.specs.declared.packet_counts.Resource.{Resource}
use Rattle.un_isa.specs.declared.packet_counts.Resource.TheVariants.{Instructions, Memory, Stores, MultiplyOrControl, Control}
use Rattle.un_slots.specs.Slots.{share_at, issues_at, taken_by, taken, per_cycle_holds, ItemVars, SlotVars}
use Rattle.un_isa.specs.PacketCounts.{places_of}
use Rattle.un_slots.specs.SlotLaws.{map_each, sum_alike, for_each, of_each, holds_fits}
use Rattle.un_slots.specs.LoadLaws.{sum_le}
use Rattle.un_slots.specs.Crowds.{surely_takes, lies_in, crowded, crowd, crowd_fits, all_below, counted, crowds_fit, crowd_cut}

-- Numbers below n

pub below_each : (p : ℕ → Bool) (n : ℕ) → all_below p n ≡ true → (k : ℕ) → k < n → p k ≡ true
below_each p zero h k lt = absurd (omega (arith, lt))
below_each p (suc n) h k lt = elim (cases_lt k n) [
  | inl less ↦ below_each p n (firsts (all_below p n) (p n) h).0 k less
  | inr more ↦ (let is : n ≡ k = omega (arith, lt, more) in subst (λ (m : ℕ). p m ≡ true) is (firsts (all_below p n) (p n) h).1)
]

pub each_below : (p : ℕ → Bool) (n : ℕ) → ((k : ℕ) → k < n → p k ≡ true) → all_below p n ≡ true
each_below p zero h = refl
each_below p (suc n) h = both (all_below p n) (p n) (each_below p n (λ k lt. h k (omega (arith, lt)))) (h n (omega arith))

pub true_le : (a b : ℕ) → nat_le a b ≡ true → a ≤ b
true_le a b h = grind (arith, nat_tests, h)

pub le_true : (a b : ℕ) → a ≤ b → nat_le a b ≡ true
le_true a b le = grind (arith, nat_tests, le)

less_true : (a b c : ℕ) → a ≤ b → nat_le b c ≡ true → nat_le a c ≡ true
less_true a b c le h = (let k = true_le b c h in le_true a c (omega (arith, le, k)))

-- Places

pub places_more : (r : Resource) (n : ℕ) → places_of r * suc n ≡ places_of r * n + places_of r
places_more Instructions n = omega arith
places_more Memory n = omega arith
places_more Stores n = omega arith
places_more MultiplyOrControl n = omega arith
places_more Control n = omega arith

pub places_some : (r : Resource) (n : ℕ) → 0 < n → 1 ≤ places_of r * n
places_some Instructions n lt = omega (arith, lt)
places_some Memory n lt = omega (arith, lt)
places_some Stores n lt = omega (arith, lt)
places_some MultiplyOrControl n lt = omega (arith, lt)
places_some Control n lt = omega (arith, lt)

-- what an item takes in n cycles from low on
abbrev pub taken_in : Resource → ℕ → ℕ → List ℕ → Item → ℕ
taken_in r low zero x i = 0
taken_in r low (suc n) x i = taken_in r low n x i + taken_by r (low + n) x i

pub sum_plus : (f g : Item → ℕ) (xs : List Item) → sum_by (λ i. f i + g i) xs ≡ sum_by f xs + sum_by g xs
sum_plus f g [] = refl
sum_plus f g (x ∷ xs) = (
    let a = sum_by-cons (λ i. f i + g i) x xs in
    let b = sum_by-cons f x xs in
    let c = sum_by-cons g x xs in
    let d = sum_plus f g xs in
    omega (arith, a, b, c, d))

pub sum_none : (xs : List Item) → sum_by (λ (i : Item). 0) xs ≡ 0
sum_none [] = refl
sum_none (x ∷ xs) = (let a = sum_by-cons (λ (i : Item). 0) x xs in let b = sum_none xs in omega (arith, a, b))

taken_at : (r : Resource) (low n m : ℕ) (x : List ℕ) (i : Item) → m < n → taken_by r (low + m) x i ≤ taken_in r low n x i
taken_at r low zero m x i lt = absurd (omega (arith, lt))
taken_at r low (suc n) m x i lt = elim (cases_lt m n) [
  | inl less ↦ (let le = taken_at r low n m x i less in omega (arith, le))
  | inr more ↦ (let is : m ≡ n = omega (arith, lt, more) in let same = ap (λ (k : ℕ). taken_by r (low + k) x i) is in omega (arith, same))
]

pub taken_all : (r : Resource) (low n : ℕ) (x : List ℕ) (items : List Item) → ((c : ℕ) → taken r items x c ≤ places_of r)
    → sum_by (taken_in r low n x) items ≤ places_of r * n
taken_all r low zero x items room = (let none = sum_none items in omega (arith, none))
taken_all r low (suc n) x items room = (
    let plus = sum_plus (taken_in r low n x) (taken_by r (low + n) x) items in
    let rest = taken_all r low n x items room in
    let here = room (low + n) in
    let more = places_more r n in
    omega (arith, plus, rest, here, more))

-- One item

module _ (vs : List VarId) where
  pub takes_below : (r : Resource) (t s : Sets) → Below t s → (i : Item) → surely_takes r s i ≡ true → surely_takes r t i ≡ true
  takes_below r t s le i h =
      let two = firsts (sure i.on s) _ h in
      both (sure i.on t) _ (sure_below vs t s le i.on two.0)
      (not_from (list_any (λ n. nat_eq (share_at r i.uses n) 0) (act_set i.on t)) (λ some. not_true _ two.1
      (any_more (λ n. nat_eq (share_at r i.uses n) 0) (λ n. nat_eq (share_at r i.uses n) 0) (act_set i.on t) (act_set i.on s)
      (λ n here none. (act_below vs t s n le i.on here, none)) some)))

  lies_below : (low high : ℕ) (t s : Sets) → HasVars vs s → NoneEmpty t → Below t s → (i : Item) → ItemVars vs i
      → lies_in low high s i ≡ true
      → lies_in low high t i ≡ true
  lies_below low high t s known full le i h lies =
      let two = firsts (nat_le low (least (set_at s i.at.0))) _ lies in
      let some = full i.at.0 (let at = has_among vs i.at s h.of_at known in omega (arith, at, le.long)) in
      let up = least_below t s i.at.0 le some in
      let down = greatest_below t s i.at.0 le in
      let from : low ≤ least (set_at s i.at.0) = (let a = two.0 in grind (arith, nat_tests, a)) in
      let to : greatest (set_at s i.at.0) ≤ high = (let b = two.1 in grind (arith, nat_tests, b)) in
      let from' : low ≤ least (set_at t i.at.0) = omega (arith, from, up) in
      let to' : greatest (set_at t i.at.0) ≤ high = omega (arith, to, down) in
      both (nat_le low (least (set_at t i.at.0))) _ (grind (arith, nat_tests, from')) (grind (arith, nat_tests, to'))

  pub crowded_below : (r : Resource) (low high : ℕ) (t s : Sets) → HasVars vs s → NoneEmpty t → Below t s → (i : Item) → ItemVars vs i
      → crowded r low high s i ≤ crowded r low high t i
  crowded_below r low high t s known full le i h = by (surely_takes r s i && lies_in low high s i) refl
    where
      by : (b : Bool) → (surely_takes r s i && lies_in low high s i) ≡ b → (if b then 1 else 0) ≤ crowded r low high t i
      by false e = omega arith
      by true e =
          let two = firsts (surely_takes r s i) (lies_in low high s i) e in
          let now : (surely_takes r t i && lies_in low high t i) ≡ true = both (surely_takes r t i) _ (takes_below r t s le i two.0)
          (lies_below low high t s known full le i h two.1) in
          let is : crowded r low high t i ≡ 1 = ap (λ (b : Bool). if b then 1 else 0) now in
          omega (arith, is)

  pub crowded_alike : (r : Resource) (low high : ℕ) (s t : Sets) → Agree vs s t → (i : Item) → ItemVars vs i
      → crowded r low high s i ≡ crowded r low high t i
  crowded_alike r low high s t agree i h =
      ap (λ (b : Bool). if (b && not (list_any (λ n. nat_eq (share_at r i.uses n) 0)
      (act_set i.on s))) && lies_in low high s i then 1 else 0)
      (sure_alike vs s t agree i.on h.of_on)
      ∙ (ap (λ (xs : List ℕ). if (sure i.on t && not (list_any (λ n. nat_eq
      (share_at r i.uses n) 0) xs)) && lies_in low high s i then 1 else 0)
      (act_alike vs s t agree i.on h.of_on)
      ∙ ap (λ (xs : List ℕ). if surely_takes r t i && (nat_le low (least xs) && nat_le (greatest xs) high) then 1 else 0)
      (set_alike vs s t agree i.at h.of_at))

  -- an item that surely takes some takes it in the intervals that have its cycle
  pub takes_some : (r : Resource) (low high : ℕ) (s : Sets) (x : List ℕ) → HasVars vs s → IsIn x s → (i : Item) → ItemVars vs i
      → surely_takes r s i ≡ true → low ≤ get_or x i.at.0 0 → get_or x i.at.0 0 ≤ high → 0 < taken_in r low (high + 1 - low) x i
  takes_some r low high s x known there i h e from to =
      let takes = firsts (sure i.on s) _ e in
      let c = get_or x i.at.0 0 in
      let n = act_number i.on x in
      let on = sure_active vs s x there known i.on h.of_on takes.0 in
      let some : 0 < share_at r i.uses n = positive (share_at r i.uses n) (λ none. not_true _ takes.1
      (any_has (λ m. nat_eq (share_at r i.uses m) 0) (act_set i.on s) n (number_in vs s x there known i.on h.of_on) none)) in
      let here : issues_at c x i ≡ true = both (is_active i.on x) (nat_eq c c) on (grind (arith, nat_tests)) in
      let own_share : taken_by r c x i ≡ share_at r i.uses n = ap (λ (b : Bool). if b then share_at r i.uses n else 0) here in
      let at = taken_at r low (high + 1 - low) (c - low) x i (omega (arith, from, to)) in
      let is : low + (c - low) ≡ c = omega (arith, from) in
      let same = ap (λ (m : ℕ). taken_by r m x i) is in
      omega (arith, some, own_share, at, same)
    where
      positive : (m : ℕ) → (nat_eq m 0 ≡ true → ⊥) → 0 < m
      positive zero other = absurd (other refl)
      positive (suc m) other = omega arith

  -- an item that is counted takes some in the interval
  pub crowded_taken : (r : Resource) (low high : ℕ) (s : Sets) (x : List ℕ) → HasVars vs s → IsIn x s → (i : Item) → ItemVars vs i
      → crowded r low high s i ≤ taken_in r low (high + 1 - low) x i
  crowded_taken r low high s x known there i h = by (surely_takes r s i && lies_in low high s i) refl
    where
      by : (b : Bool) → (surely_takes r s i && lies_in low high s i) ≡ b → (if b then 1 else 0) ≤ taken_in r low (high + 1 - low) x i
      by false e = omega arith
      by true e =
          let two = firsts (surely_takes r s i) (lies_in low high s i) e in
          let lies = firsts (nat_le low (least (set_at s i.at.0))) _ two.1 in
          let from : low ≤ least (set_at s i.at.0) = (let a = lies.0 in grind (arith, nat_tests, a)) in
          let to : greatest (set_at s i.at.0) ≤ high = (let b = lies.1 in grind (arith, nat_tests, b)) in
          let c = get_or x i.at.0 0 in
          let own = there.each i.at.0 (has_among vs i.at s h.of_at known) in
          let least_c = least-le (set_at s i.at.0) c own in
          let most_c = has-fold_max 0 (set_at s i.at.0) c own in
          takes_some r low high s x known there i h two.0 (omega (arith, from, least_c)) (omega (arith, to, most_c))

-- The cut

pub take_each : (P : Item → Type 0) (n : ℕ) (items : List Item) → AllByRecursion P items → AllByRecursion P (take n items)
take_each P zero items all = tt
take_each P (suc n) [] all = tt
take_each P (suc n) (i ∷ rest) all = (all.0, take_each P n rest all.1)

pub each_counted : (vs : List VarId) (items : List Item) → SlotVars vs items → AllByRecursion (ItemVars vs) (counted items)
each_counted vs items among_all = take_each (ItemVars vs) (2 ^ 32 - 1) items (recursion_from_All _ _ among_all)

module _ (vs : List VarId) (items : List Item) (horizon : ℕ) (among_all : SlotVars vs items) where
  fits_all : (s : Sets) → ((r : Resource) (high low : ℕ) → high < horizon → crowd_fits r (counted items) s high low ≡ true)
      → crowds_fit items horizon s ≡ true
  fits_all s h = for_each (λ r. all_below (λ high. all_below (crowd_fits r (counted items) s high) (high + 1)) horizon)
      (λ r. each_below (λ high. all_below (crowd_fits r (counted items) s high) (high + 1)) horizon
      (λ high early. each_below (crowd_fits r (counted items) s high) (high + 1) (λ low less. h r high low early)))

  fits_each : (s : Sets) → crowds_fit items horizon s ≡ true → (r : Resource) (high low : ℕ) → high < horizon → low < high + 1
      → crowd_fits r (counted items) s high low ≡ true
  fits_each s h r high low early less = below_each (crowd_fits r (counted items) s high) (high + 1)
      (below_each (λ high. all_below (crowd_fits r (counted items) s high) (high + 1)) horizon
      (of_each (λ r. all_below (λ high. all_below (crowd_fits r (counted items) s high) (high + 1)) horizon) h r) high early) low less

  crowd_test : LawfulTest vs (λ s c. crowds_fit items horizon s)
  crowd_test = record {
    monotone = λ t s c known full le pass. for_each (λ r. all_below (λ high. all_below (crowd_fits r (counted items) s high)
        (high + 1)) horizon)
        (λ r. each_below (λ high. all_below (crowd_fits r (counted items) s high) (high + 1)) horizon
        (λ high early. each_below (crowd_fits r (counted items) s high) (high + 1) (λ low less. (
        let fewer = sum_le (crowded r low high s) (crowded r low high t) (counted items)
        (map_each (ItemVars vs) (λ i. crowded r low high s i ≤ crowded r low high t i) (crowded_below vs r low high t s known full le)
        (counted items) (each_counted vs items among_all)) in
        less_true (crowd r (counted items) low high s) (crowd r (counted items) low high t) (places_of r * (high + 1 - low)) fewer
        (fits_each t pass r high low early less)))));
    local = λ s t c agree. same_test (crowds_fit items horizon s) (crowds_fit items horizon t) (go s t
        (λ r low high. same s t agree r low high))
        (go t s (λ r low high. sym (same s t agree r low high)));
  }
    where
      same : (s t : Sets) → Agree vs s t → (r : Resource) (low high : ℕ)
          → crowd r (counted items) low high s ≡ crowd r (counted items) low high t
      same s t agree r low high = sum_alike (crowded r low high s) (crowded r low high t) (counted items)
          (map_each (ItemVars vs) (λ i. crowded r low high s i
          ≡ crowded r low high t i) (crowded_alike vs r low high s t agree) (counted items) (each_counted vs items among_all))

      go : (a b : Sets) → ((r : Resource) (low high : ℕ) → crowd r (counted items) low high a ≡ crowd r (counted items) low high b)
          → crowds_fit items horizon a ≡ true → crowds_fit items horizon b ≡ true
      go a b alike h = for_each (λ r. all_below (λ high. all_below (crowd_fits r (counted items) b high) (high + 1)) horizon)
          (λ r. each_below (λ high. all_below (crowd_fits r (counted items) b high) (high + 1)) horizon
          (λ high early. each_below (crowd_fits r (counted items) b high) (high + 1)
          (λ low less. ap (λ (n : ℕ). nat_le n (places_of r * (high + 1 - low))) (sym (alike r low high))
          ∙ fits_each a h r high low early less)))

  pub crowd_lawful : Lawful vs (crowd_cut vs items horizon)
  crowd_lawful = first_lawful (λ s c. crowds_fit items horizon s) vs crowd_test

  pub crowd_keeps : (s : Sets) (x : List ℕ) → HasVars vs s → IsIn x s → per_cycle_holds items horizon x ≡ true
      → Kept x (crowd_cut vs items horizon s)
  crowd_keeps s x known there holds = first_keeps (λ s c. crowds_fit items horizon s) vs s x known there (λ c. fits_all s
      (λ r high low early. (
      let room = (holds_fits items horizon x holds).room r in
      let n = high + 1 - low in
      let each = map_each (ItemVars vs) (λ i. crowded r low high s i ≤ taken_in r low n x i)
      (crowded_taken vs r low high s x known there) (counted items) (each_counted vs items among_all) in
      let less = sum_le (crowded r low high s) (taken_in r low n x) (counted items) each in
      let some = sum_by-take-le (taken_in r low n x) items (2 ^ 32 - 1) in
      let whole = taken_all r low n x items room in
      le_true (crowd r (counted items) low high s) (places_of r * n) (three less some whole))))
    where
      three : {a b c d : ℕ} → a ≤ b → b ≤ c → c ≤ d → a ≤ d
      three h k l = omega (arith, h, k, l)
