-- Laws of blocks.
use Rattle.std.proofs.Common.{ℕ, zero, suc, ◌≡◌, ◌≤◌, ◌+◌, ◌∙◌, ◌⊎◌, Bool, true, false, ◌&&◌, if◌then◌else◌, List, []}
use Rattle.std.proofs.Common.{◌∷◌, get_or, map, sum_by, nat_eq, nat_le, refl, sym, ap, subst, arith, inl, inr}
use Rattle.std.specs.List.{list_all, AllByRecursion}
use Rattle.std.proofs.lemmas.Bool.Decides.{nat_tests}
use Rattle.std.proofs.lemmas.List.Sums.{sum_by-cons}
use Rattle.std.proofs.lemmas.List.Elements.{recursion_from_All, All-from_recursion}
use Rattle.un_base.specs.declared.ids.VarId.{VarId}
use Rattle.un_isa.specs.declared.packet_counts.Resource.{Resource}
use Rattle.un_isa.specs.PacketCounts.{resources, places_of, share_of}
use Rattle.un_prop.specs.Among.{among}
use Rattle.un_prop.specs.AmongLaws.{same_var}
use Rattle.un_prop.specs.LookLaws.{both, firsts}
use Rattle.un_prop.specs.Parts.{SameAt}
use Rattle.un_slots.specs.SlotLaws.{each_true, all_true, map_each, for_each, of_each}
use Rattle.un_length.specs.declared.block.Task.{Task}
use Rattle.un_length.specs.declared.block.Precedence.{Precedence}
use Rattle.un_length.specs.Places.{at_place}
use Rattle.un_length.specs.Blocks.{cycle_of, arc_holds, taken_by, taken, has_room, task_holds, block_holds, FitsBlock, BlockVars}

-- Places

pub place_alike : (f g : Task → ℕ) (ops : List Task) → AllByRecursion (λ t. f t ≡ g t) ops → map f ops ≡ map g ops
place_alike f g [] all = refl
place_alike f g (t ∷ ts) all = ap (λ (n : ℕ). n ∷ map f ts) all.0 ∙ ap (λ (ns : List ℕ). g t ∷ ns) (place_alike f g ts all.1)

pub place_less : (f g : Task → ℕ) (ops : List Task) → AllByRecursion (λ t. f t ≤ g t) ops → (i : ℕ) → at_place f ops i ≤ at_place g ops i
place_less f g [] all i = omega arith
place_less f g (t ∷ ts) all zero = all.0
place_less f g (t ∷ ts) all (suc i) = place_less f g ts all.1 i

-- two facts of each
pub each_two : (P Q : Task → Type 0) (ops : List Task) → AllByRecursion P ops → AllByRecursion Q ops → AllByRecursion (λ t. P t × Q t) ops
each_two P Q [] a b = tt
each_two P Q (t ∷ ts) a b = ((a.0, b.0), each_two P Q ts a.1 b.1)

-- The predicate as relations

true_le : (a b : ℕ) → nat_le a b ≡ true → a ≤ b
true_le a b h = grind (arith, nat_tests, h)

le_true : (a b : ℕ) → a ≤ b → nat_le a b ≡ true
le_true a b le = grind (arith, nat_tests, le)

-- no operation of these issues in cycle c, or the cycle has room
idle_or_room : (ops : List Task) (end : VarId) (x : List ℕ) (r : Resource) (c : ℕ) (rest : List Task)
    → AllByRecursion (λ (t : Task). task_holds ops end x t ≡ true) rest → (taken r rest x c ≡ 0) ⊎ (has_room ops x c ≡ true)
idle_or_room ops end x r c [] all = inl refl
idle_or_room ops end x r c (t ∷ rest) all = by (nat_eq (cycle_of x t) c) refl (idle_or_room ops end x r c rest all.1)
  where
    by : (b : Bool) → nat_eq (cycle_of x t) c ≡ b → (taken r rest x c ≡ 0) ⊎ (has_room ops x c ≡ true)
        → (taken r (t ∷ rest) x c ≡ 0) ⊎ (has_room ops x c ≡ true)
    by true e more =
        let is : cycle_of x t ≡ c = grind (arith, nat_tests, e) in
        let late = (firsts (nat_le t.head (cycle_of x t)) _ all.0).1 in
        let room = (firsts (nat_le (cycle_of x t + t.tail) (get_or x end.0 0)) _ late).1 in
        inr (subst (λ (n : ℕ). has_room ops x n ≡ true) is room)
    by false e (inr room) = inr room
    by false e (inl none) =
        let here : taken_by r c x t ≡ 0 = ap (λ (b : Bool). if b then share_of r t.needs else 0) e in
        inl (let cons = sum_by-cons (taken_by r c x) t rest in omega (arith, cons, here, none))

pub holds_fits : (ops : List Task) (arcs : List Precedence) (end : VarId) (x : List ℕ) → block_holds ops arcs end x ≡ true
    → FitsBlock ops arcs end x
holds_fits ops arcs end x h = record {
  ordered = All-from_recursion _ _ (map_each (λ a. arc_holds ops x a ≡ true) (λ a. at_place (cycle_of x) ops a.from + a.gap ≤
      at_place (cycle_of x) ops a.to)
      (λ a e. true_le (at_place (cycle_of x) ops a.from + a.gap) (at_place (cycle_of x) ops a.to) e) arcs
      (each_true (arc_holds ops x) arcs two.0));
  begun = All-from_recursion _ _ (map_each (λ t. task_holds ops end x t ≡ true) (λ t. t.head ≤ cycle_of x t)
      (λ t e. true_le t.head (cycle_of x t) (firsts (nat_le t.head (cycle_of x t)) _ e).0) ops each);
  ended = All-from_recursion _ _ (map_each (λ t. task_holds ops end x t ≡ true) (λ t. cycle_of x t + t.tail ≤ get_or x end.0 0)
      (λ t e. true_le (cycle_of x t + t.tail) (get_or x end.0 0)
      (firsts (nat_le (cycle_of x t + t.tail) (get_or x end.0 0)) _ (firsts (nat_le t.head (cycle_of x t)) _ e).1).0) ops each);
  room = λ r c. elim (idle_or_room ops end x r c ops each) [
    | inl none ↦ omega (arith, none)
    | inr room ↦ true_le (taken r ops x c) (places_of r) (of_each (λ r. nat_le (taken r ops x c) (places_of r)) room r)
  ];
}
  where
    two : (list_all (arc_holds ops x) arcs ≡ true) × (list_all (task_holds ops end x) ops ≡ true)
    two = firsts (list_all (arc_holds ops x) arcs) (list_all (task_holds ops end x) ops) h

    each : AllByRecursion (λ (t : Task). task_holds ops end x t ≡ true) ops
    each = each_true (task_holds ops end x) ops two.1

pub fits_holds : (ops : List Task) (arcs : List Precedence) (end : VarId) (x : List ℕ) → FitsBlock ops arcs end x
    → block_holds ops arcs end x ≡ true
fits_holds ops arcs end x f = both (list_all (arc_holds ops x) arcs) (list_all (task_holds ops end x) ops)
    (all_true (arc_holds ops x) arcs (map_each (λ a. at_place (cycle_of x) ops a.from + a.gap ≤ at_place (cycle_of x) ops a.to)
    (λ a. arc_holds ops x a ≡ true)
    (λ a le. le_true (at_place (cycle_of x) ops a.from + a.gap) (at_place (cycle_of x) ops a.to) le) arcs
    (recursion_from_All _ _ f.ordered)))
    (all_true (task_holds ops end x) ops (map_each (λ t. (t.head ≤ cycle_of x t) × (cycle_of x t + t.tail ≤ get_or x end.0 0))
    (λ t. task_holds ops end x t ≡ true)
    (λ t h. both (nat_le t.head (cycle_of x t)) _ (le_true t.head (cycle_of x t) h.0)
    (both (nat_le (cycle_of x t + t.tail) (get_or x end.0 0)) _ (le_true (cycle_of x t + t.tail) (get_or x end.0 0) h.1)
    (for_each (λ r. nat_le (taken r ops x (cycle_of x t)) (places_of r))
    (λ r. le_true (taken r ops x (cycle_of x t)) (places_of r) (f.room r (cycle_of x t)))))) ops
    (each_two (λ t. t.head ≤ cycle_of x t) (λ t. cycle_of x t + t.tail ≤ get_or x end.0 0) ops
    (recursion_from_All _ _ f.begun) (recursion_from_All _ _ f.ended))))

-- It looks at its variables alone

sum_alike : (f g : Task → ℕ) (ops : List Task) → AllByRecursion (λ t. f t ≡ g t) ops → sum_by f ops ≡ sum_by g ops
sum_alike f g [] all = refl
sum_alike f g (t ∷ ts) all = sum_by-cons f t ts ∙ (ap (λ (n : ℕ). n + sum_by f ts) all.0
    ∙ (ap (λ (n : ℕ). g t + n) (sum_alike f g ts all.1) ∙ sym (sum_by-cons g t ts)))

all_alike : {A : Type 0} (p q : A → Bool) (xs : List A) → AllByRecursion (λ a. p a ≡ q a) xs → list_all p xs ≡ list_all q xs
all_alike p q [] all = refl
all_alike p q (x ∷ xs) all = ap (λ (b : Bool). b && list_all p xs) all.0 ∙ ap (λ (b : Bool). q x && b) (all_alike p q xs all.1)

always_alike : {A : Type 0} (p q : A → Bool) (xs : List A) → ((a : A) → p a ≡ q a) → AllByRecursion (λ a. p a ≡ q a) xs
always_alike p q [] h = tt
always_alike p q (x ∷ xs) h = (h x, always_alike p q xs h)

module _ (vs : List VarId) (ops : List Task) (arcs : List Precedence) (end : VarId) (among_all : BlockVars vs ops end) (x y : List ℕ)
    (same : SameAt vs x y) where
  of_ops : AllByRecursion (λ (t : Task). among vs t.at ≡ true) ops
  of_ops = recursion_from_All _ _ among_all.of_ops

  cycle_alike : (t : Task) → among vs t.at ≡ true → cycle_of x t ≡ cycle_of y t
  cycle_alike t h = same_var vs x y same t.at h

  cycles_alike : map (cycle_of x) ops ≡ map (cycle_of y) ops
  cycles_alike = place_alike (cycle_of x) (cycle_of y) ops
      (map_each (λ t. among vs t.at ≡ true) (λ t. cycle_of x t ≡ cycle_of y t) cycle_alike ops of_ops)

  arc_alike : (a : Precedence) → arc_holds ops x a ≡ arc_holds ops y a
  arc_alike a = ap (λ (ns : List ℕ). nat_le (get_or ns a.from 0 + a.gap) (get_or ns a.to 0)) cycles_alike

  taken_alike : (r : Resource) (c : ℕ) → taken r ops x c ≡ taken r ops y c
  taken_alike r c = sum_alike (taken_by r c x) (taken_by r c y) ops (map_each (λ t. among vs t.at ≡ true)
      (λ t. taken_by r c x t ≡ taken_by r c y t)
      (λ t h. ap (λ (n : ℕ). if nat_eq n c then share_of r t.needs else 0) (cycle_alike t h)) ops of_ops)

  room_alike : (c : ℕ) → has_room ops x c ≡ has_room ops y c
  room_alike c = all_alike (λ r. nat_le (taken r ops x c) (places_of r)) (λ r. nat_le (taken r ops y c) (places_of r)) resources
      (always_alike (λ r. nat_le (taken r ops x c) (places_of r)) (λ r. nat_le (taken r ops y c) (places_of r)) resources
      (λ r. ap (λ (n : ℕ). nat_le n (places_of r)) (taken_alike r c)))

  task_alike : (t : Task) → among vs t.at ≡ true → task_holds ops end x t ≡ task_holds ops end y t
  task_alike t h =
      ap (λ (n : ℕ). nat_le t.head n && (nat_le (n + t.tail) (get_or x end.0 0) && has_room ops x n)) (cycle_alike t h)
      ∙ (ap (λ (n : ℕ). nat_le t.head (cycle_of y t) && (nat_le (cycle_of y t + t.tail) n && has_room ops x (cycle_of y t)))
      (same_var vs x y same end among_all.of_end)
      ∙ ap (λ (b : Bool). nat_le t.head (cycle_of y t) && (nat_le (cycle_of y t + t.tail) (get_or y end.0 0) && b))
      (room_alike (cycle_of y t)))

  pub block_looks : block_holds ops arcs end x ≡ block_holds ops arcs end y
  block_looks =
      ap (λ (b : Bool). b && list_all (task_holds ops end x) ops)
      (all_alike (arc_holds ops x) (arc_holds ops y) arcs (always_alike (arc_holds ops x) (arc_holds ops y) arcs arc_alike))
      ∙ ap (λ (b : Bool). list_all (arc_holds ops y) arcs && b)
      (all_alike (task_holds ops end x) (task_holds ops end y) ops (map_each (λ t. among vs t.at ≡ true)
      (λ t. task_holds ops end x t ≡ task_holds ops end y t) task_alike ops of_ops))
