-- Laws of lists of items.
use Rattle.std.proofs.Common.{ℕ, zero, suc, ◌≡◌, ◌≢◌, ◌<◌, ◌≤◌, ◌+◌, ◌-◌, ◌^◌, ◌⊎◌, ◌∙◌, Bool, true, false, not, ◌&&◌, if◌then◌else◌}
use Rattle.std.proofs.Common.{List, [], ◌∷◌, length, get_or, take, sum_by, Some, nat_eq, nat_le, nat_lt, refl, sym, ap, subst, arith, inl}
use Rattle.std.proofs.Common.{inr}
use Rattle.std.proofs.lemmas.Bool.Decides.{nat_tests}
use Rattle.std.proofs.lemmas.List.Sums.{sum_by-cons}
use Rattle.un_domains.specs.Sets.{Sets, set_at, least}
use Rattle.un_prop.specs.Looks.{act_set}
use Rattle.un_prop.specs.LookLaws.{both, firsts}
use Rattle.un_prop.specs.Choices.{passes_at}
use Rattle.un_prop.specs.ChoiceLaws.{passes_within}
use Rattle.un_slots.specs.declared.item.Item.{Item}
use Rattle.un_isa.specs.declared.packet_counts.Resource.{Resource}
use Rattle.std.specs.List.{list_any, slice_get}
use Rattle.std.proofs.Math.Seq.{take-length}
use Rattle.un_prop.specs.SomewhereLaws.{any_more}
use Rattle.un_slots.specs.Slots.{share_at}
use Rattle.un_isa.specs.PacketCounts.{places_of}
use Rattle.un_slots.specs.SlotLaws.{for_each, of_each}
use Rattle.un_slots.specs.LoadLaws.{sum_others}
use Rattle.un_slots.specs.Loads.{is_settled, settled_at, load_by, load, others, fits_beside, fits, can_issue}
use Rattle.un_slots.specs.Listings.{last_passing, Listed, is_unmarked}

-- the sum up to one place more
pub sum_more : (f : Item → ℕ) (xs : List Item) (j : ℕ) (d : Item) → j < length xs
    → sum_by f (take (suc j) xs) ≡ sum_by f (take j xs) + f (get_or xs j d)
sum_more f [] j d lt = absurd (omega (arith, lt))
sum_more f (x ∷ xs) zero d lt = (let a = sum_by-cons f x [] in omega (arith, a))
sum_more f (x ∷ xs) (suc j) d lt = (
    let a = sum_by-cons f x (take (suc j) xs) in
    let b = sum_by-cons f x (take j xs) in
    let c = sum_more f xs j d (omega (arith, lt)) in
    omega (arith, a, b, c))

module _ (items : List Item) (p : Item → Bool) where
  pub last_le : (n : ℕ) → last_passing items p n ≤ n
  last_le zero = omega arith
  last_le (suc n) = by (passes_at p items n) (last_le n)
    where
      by : (b : Bool) → last_passing items p n ≤ n → (if b then suc n else last_passing items p n) ≤ suc n
      by true le = omega arith
      by false le = omega (arith, le)

  -- the last is the last up to itself
  pub last_own : (n : ℕ) → last_passing items p (last_passing items p n) ≡ last_passing items p n
  last_own zero = refl
  last_own (suc n) = by (passes_at p items n) refl (last_own n)
    where
      by : (b : Bool) → passes_at p items n ≡ b → last_passing items p (last_passing items p n) ≡ last_passing items p n
          → last_passing items p (if b then suc n else last_passing items p n) ≡ (if b then suc n else last_passing items p n)
      by true e rest = ap (λ (b : Bool). if b then suc n else last_passing items p n) e
      by false e rest = rest

  -- where it is its own last, and not the end, it passes
  pub last_here : (j : ℕ) → suc j ≡ last_passing items p (suc j) → passes_at p items j ≡ true
  last_here j e = by (passes_at p items j) refl e
    where
      by : (b : Bool) → passes_at p items j ≡ b → suc j ≡ (if b then suc j else last_passing items p j) → b ≡ true
      by true is h = refl
      by false is h = absurd (let le = last_le j in omega (arith, le, h))

  -- what is after the last adds nothing to a sum of those that pass
  pub sum_last : (f : Item → ℕ) → ((i : Item) → p i ≡ false → f i ≡ 0) → (n : ℕ) → n ≤ length items
      → sum_by f (take (last_passing items p n) items) ≡ sum_by f (take n items)
  sum_last f none zero le = refl
  sum_last f none (suc n) le = by (passes_at p items n) refl (sum_last f none n (omega (arith, le)))
    where
      by : (b : Bool) → passes_at p items n ≡ b → sum_by f (take (last_passing items p n) items) ≡ sum_by f (take n items)
          → sum_by f (take (if b then suc n else last_passing items p n) items) ≡ sum_by f (take (suc n) items)
      by true e rest = refl
      by false e rest = at items refl
        where
          at : (xs : List Item) → items ≡ xs → sum_by f (take (last_passing items p n) items) ≡ sum_by f (take (suc n) items)
          at [] is = absurd (let none = ap length is in omega (arith, le, none))
          at (x ∷ xs) is =
              let lt : n < length items = omega (arith, le) in
              let off = none (get_or items n x) (sym (passes_within p items n x lt) ∙ e) in
              let more = sum_more f items n x lt in
              omega (arith, rest, more, off)

  -- the sum up to an item that passes
  pub sum_step : (f : Item → ℕ) → ((i : Item) → p i ≡ false → f i ≡ 0) → (j : ℕ) (d : Item) → j < length items
      → sum_by f (take (suc j) items) ≡ sum_by f (take (last_passing items p j) items) + f (get_or items j d)
  sum_step f none j d lt = (
      let more = sum_more f items j d lt in
      let rest = sum_last f none j (omega (arith, lt)) in
      omega (arith, more, rest))

module _ (items : List Item) (s : Sets) (c : ℕ) where
  pub settled_load : (r : Resource) (j : ℕ) (d : Item) → j < length items → passes_at (settled_at s c) items j ≡ true
      → load_by r s c (get_or items j d) ≡ share_at r (get_or items j d).uses (least (act_set (get_or items j d).on s))
  settled_load r j d lt e =
      let i = get_or items j d in
      ap (λ (b : Bool). if b then share_at r i.uses (least (act_set i.on s)) else 0) (sym (passes_within (settled_at s c) items j d lt) ∙ e)

  load_none : (r : Resource) (i : Item) → settled_at s c i ≡ false → load_by r s c i ≡ 0
  load_none r i e = ap (λ (b : Bool). if b then share_at r i.uses (least (act_set i.on s)) else 0) e

  -- what is after the last takes nothing
  pub load_last : (r : Resource) (n : ℕ) → n ≤ length items
      → load r (take (last_passing items (settled_at s c) n) items) s c ≡ load r (take n items) s c
  load_last r n le = sum_last items (settled_at s c) (load_by r s c) (load_none r) n le

  -- what is taken up to an item that is settled here
  pub load_step : (r : Resource) (j : ℕ) (d : Item) → j < length items → suc j ≡ last_passing items (settled_at s c) (suc j)
      → load r (take (suc j) items) s c ≡ load r (take (last_passing items (settled_at s c) j) items) s c
      + share_at r (get_or items j d).uses (least (act_set (get_or items j d).on s))
  load_step r j d lt own = (
      let step = sum_step items (settled_at s c) (load_by r s c) (load_none r) j d lt in
      let here = settled_load r j d lt (last_here items (settled_at s c) j own) in
      omega (arith, step, here))

-- in a cycle that no settled item has, of all, an item can issue that can beside none
pub free_issues : (items : List Item) (s : Sets) (c k : ℕ) (i : Item) → slice_get items k ≡ Some i
    → last_passing items (settled_at s c) (length items) ≡ 0
    → list_any (fits_beside (λ r. 0) i) (act_set i.on s) ≡ true → can_issue (others k items) i s c ≡ true
free_issues items s c k i e none alone = any_more (fits_beside (λ r. 0) i) (fits (others k items) i s c) (act_set i.on s) (act_set i.on s)
    (λ n here fit. (
      here,
      (
          let two = firsts (nat_lt n (length i.uses)) _ fit in
          both (nat_lt n (length i.uses)) _ two.0 (for_each (λ r. nat_le (load r (others k items) s c + share_at r i.uses n) (places_of r))
          (λ r. ap (λ (m : ℕ). nat_le (m + share_at r i.uses n) (places_of r)) (nothing r)
          ∙ of_each (λ r. nat_le (0 + share_at r i.uses n) (places_of r)) two.1 r))),
    )) alone
  where
    nothing : (r : Resource) → load r (others k items) s c ≡ 0
    nothing r = (
        let last = load_last items s c r (length items) (omega arith) in
        let start = ap (λ (m : ℕ). load r (take m items) s c) none in
        let all = ap (λ (xs : List Item). load r xs s c) (take-length items) in
        let whole = sum_others (load_by r s c) items k i e in
        omega (arith, last, start, all, whole))

-- what stands at a cycle is no mark
pub head_unmarked : (items : List Item) (p : Item → Bool) (c n : ℕ) (cycles : List ℕ) → get_or cycles c 0 ≡ last_passing items p n
    → n ≤ 2 ^ 32 - 2
    → is_unmarked cycles c ≡ true
head_unmarked items p c n cycles head small =
    let le = last_le items p n in
    let less : get_or cycles c 0 ≤ 2 ^ 32 - 2 = omega (arith, head, le, small) in
    let no : nat_eq (get_or cycles c 0) (2 ^ 32 - 1) ≡ false = grind (arith, nat_tests, less) in
    ap not no

-- so it is unmarked, and an item that is free can issue there
pub free_unmarked : (items : List Item) (s : Sets) (c k : ℕ) (i : Item) (n : ℕ) (cycles : List ℕ) → slice_get items k ≡ Some i
    → n ≤ 2 ^ 32 - 2 → n ≡ length items → get_or cycles c 0 ≡ last_passing items (settled_at s c) n → get_or cycles c 0 ≡ 0
    → list_any (fits_beside (λ r. 0) i) (act_set i.on s) ≡ true
    → (is_unmarked cycles c ≡ true) × (can_issue (others k items) i s c ≡ true)
free_unmarked items s c k i n cycles e small whole head none alone =
    let last : last_passing items (settled_at s c) (length items) ≡ 0 = ap (last_passing items (settled_at s c)) (sym whole)
    ∙ (sym head ∙ none) in
    (head_unmarked items (settled_at s c) c n cycles head small, free_issues items s c k i e last alone)

-- One item more

-- where an item passes at no cycle before the horizon, nothing changes
pub listed_skip : (items : List Item) (horizon j : ℕ) (p : ℕ → Item → Bool) (cycles before : List ℕ)
    → Listed items horizon j p cycles before
    → ((c : ℕ) → c < horizon → passes_at (p c) items j ≡ false) → Listed items horizon (suc j) p cycles before
listed_skip items horizon j p cycles before h off = record {
  heads = λ c lt. h.heads c lt ∙ sym (ap (λ (b : Bool). if b then suc j else last_passing items (p c) j) (off c lt));
  nexts = λ c lt k less here. elim (cases k less) [
    | inl below ↦ h.nexts c lt k below here
    | inr is ↦ absurd (let on : true ≡ false = sym here ∙ (ap (passes_at (p c) items) is ∙ off c lt) in cc on)
  ];
}
  where
    cases : (k : ℕ) → k < suc j → (k < j) ⊎ (k ≡ j)
    cases k less = grind (arith, less)

-- where it passes at cycle c alone, it becomes the last there
pub listed_link : (items : List Item) (horizon j c : ℕ) (p : ℕ → Item → Bool) (cycles before cycles' before' : List ℕ)
    → Listed items horizon j p cycles before
    → c < horizon → ((e : ℕ) → e < horizon → passes_at (p e) items j ≡ nat_eq c e)
    → get_or cycles' c 0 ≡ suc j → ((e : ℕ) → e ≢ c → get_or cycles' e 0 ≡ get_or cycles e 0)
    → get_or before' j 0 ≡ get_or cycles c 0 → ((k : ℕ) → k ≢ j → get_or before' k 0 ≡ get_or before k 0)
    → Listed items horizon (suc j) p cycles' before'
listed_link items horizon j c p cycles before cycles' before' h early on head rest next others = record {
  heads = λ e lt. elim (same c e) [
    | inl is ↦ subst (λ (n : ℕ). get_or cycles' n 0 ≡ last_passing items (p n) (suc j)) is
        (head ∙ sym (ap (λ (b : Bool). if b then suc j else last_passing items (p c) j) (on c early ∙ yes_same c)))
    | inr ne ↦ rest e (λ is. ne (sym is)) ∙ (h.heads e lt ∙ sym (ap (λ (b : Bool). if b then suc j else last_passing items (p e) j)
        (on e lt ∙ not_same c e ne)))
  ];
  nexts = λ e lt k less here. elim (cases k less) [
    | inl below ↦ others k (λ is. omega (arith, below, is)) ∙ h.nexts e lt k below here
    | inr is ↦ (
        let here_too : nat_eq c e ≡ true = sym (on e lt) ∙ (ap (passes_at (p e) items) (sym is) ∙ here) in
        let at : c ≡ e = grind (arith, nat_tests, here_too) in
        ap (λ (n : ℕ). get_or before' n 0) is ∙ (next ∙ (ap (λ (n : ℕ). get_or cycles n 0) at ∙ (h.heads e lt
        ∙ ap (last_passing items (p e)) (sym is)))))
  ];
}
  where
    cases : (k : ℕ) → k < suc j → (k < j) ⊎ (k ≡ j)
    cases k less = grind (arith, less)

    same : (a b : ℕ) → (a ≡ b) ⊎ (a ≢ b)
    same a b = grind arith

    yes_same : (a : ℕ) → nat_eq a a ≡ true
    yes_same a = grind (arith, nat_tests)

    not_same : (a b : ℕ) → a ≢ b → nat_eq a b ≡ false
    not_same a b ne = grind (arith, nat_tests, ne)

-- whether an item is settled in a cycle, by whether it is settled and its least cycle
pub settled_is : (s : Sets) (c : ℕ) (i : Item) → is_settled s i ≡ true → settled_at s c i ≡ nat_eq (least (set_at s i.at.0)) c
settled_is s c i e = ap (λ (b : Bool). b && nat_eq (least (set_at s i.at.0)) c) e

pub settled_not : (s : Sets) (c : ℕ) (i : Item) → is_settled s i ≡ false → settled_at s c i ≡ false
settled_not s c i e = ap (λ (b : Bool). b && nat_eq (least (set_at s i.at.0)) c) e
