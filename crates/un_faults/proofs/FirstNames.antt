-- Names at their first appearance: their places, and the numbers that follow from these.
use Rattle.std.proofs.Common.{◌≡◌, ◌≢◌, ◌<◌, ◌++◌, ◌||◌, Bool, true, false, List, [], ◌∷◌, Some}
use Rattle.std.proofs.Common.{length, slice_get, if◌then◌else◌, refl, sym, ap, ◌∙◌, arith, subst, append-nil, append_assoc}
use Rattle.std.proofs.Math.Numerals.{one-add}
use Rattle.std.specs.List.{AllByRecursion as Each, list_any, position_or_len}
use Rattle.std.specs.Str.{bytes_eq}
use Rattle.std.proofs.lemmas.Slice.Eq.{bytes_eq-Decides}
use Rattle.std.proofs.lemmas.Bool.{and_parts, or_left, or_right, false_from_ne_true}
use Rattle.std.proofs.lemmas.List.Folds.{list_any-append}
use Rattle.un_faults.specs.Vocabulary.{Kind, General, Pred, Spelled}
use Rattle.un_faults.specs.Before.{same_kind, same_name, add_name, numbered}
use Rattle.un_words.proofs.Each.{Each-weaken, Each-append, EachPair, EachPair-push, Each-none}

-- ---- the test for a name

kind_equal : (a b : Kind) → same_kind a b ≡ true → a ≡ b
kind_equal General General h = refl
kind_equal Pred Pred h = refl
kind_equal _ _ h = absurd (cc h)

kind_itself : (a : Kind) → same_kind a a ≡ true
kind_itself General = refl
kind_itself Pred = refl

pub name_equal : (a b : Spelled) → same_name a b ≡ true → a ≡ b
name_equal (x, k) (y, l) h =
    let both = and_parts (bytes_eq x y) (same_kind k l) h in
    let names : x ≡ y = (bytes_eq-Decides x y).0 both.0 in
    let kinds : k ≡ l = kind_equal k l both.1 in
    cc

pub name_itself : (a : Spelled) → same_name a a ≡ true
name_itself (x, k) = rw ((bytes_eq-Decides x x).1 refl, kind_itself k) refl

pub name_differs : (a b : Spelled) → a ≢ b → same_name a b ≡ false
name_differs a b h = false_from_ne_true (same_name a b) (λ e. h (name_equal a b e))

-- ---- places

-- the place of a name that stands in a list
pub record IsPlaced {X : Type 0} (p : X → Bool) (x : X) (xs : List X) : Type 0 where
  pub below : position_or_len p xs < length xs
  pub got : slice_get xs (position_or_len p xs) ≡ Some x

pub placed : {X : Type 0} (p : X → Bool) (x : X) → ((y : X) → p y ≡ true → x ≡ y) → (xs : List X) → list_any p xs ≡ true → IsPlaced p x xs
placed p x only [] h = absurd (cc h)
placed p x only (y ∷ ys) h = by (λ t. placed p x only ys t) (p y) refl h
  where
    by : (list_any p ys ≡ true → IsPlaced p x ys) → (v : Bool) → p y ≡ v → (v || list_any p ys) ≡ true → IsPlaced p x (y ∷ ys)
    by later true e hyp = record { below = rw e (omega arith); got = rw e (ap Some (sym (only y e))) }
    by later false e hyp = let r = later hyp in record { below = rw e (omega (arith, r.below)); got = rw (e, one-add) r.got }

any_append : {X : Type 0} (p : X → Bool) (xs ys : List X) → list_any p xs ≡ true → list_any p (xs ++ ys) ≡ true
any_append p xs ys h = list_any-append p xs ys ∙ or_left (list_any p xs) (list_any p ys) h

any_last : {X : Type 0} (p : X → Bool) (xs : List X) (y : X) → p y ≡ true → list_any p (xs ++ y ∷ []) ≡ true
any_last p xs y h = list_any-append p xs (y ∷ []) ∙ or_right (list_any p xs) (p y || false) (or_left (p y) false h)

-- ---- numbered names

-- the names so far stand in front
pub record Front (seen xs : List Spelled) : Type 0 where
  pub more : List Spelled
  pub is : numbered seen xs ≡ seen ++ more

pub numbered_front : (seen xs : List Spelled) → Front seen xs
numbered_front seen [] = record { more = []; is = sym (append-nil seen) }
numbered_front seen (x ∷ xs) = by (numbered_front seen xs) (numbered_front (seen ++ x ∷ []) xs) (list_any (same_name x) seen) refl
  where
    by : Front seen xs → Front (seen ++ x ∷ []) xs → (v : Bool) → list_any (same_name x) seen ≡ v → Front seen (x ∷ xs)
    by old new true e = record { more = old.more; is = rw e old.is }
    by old new false e = record { more = x ∷ new.more; is = rw e (new.is ∙ append_assoc seen (x ∷ []) new.more) }

-- each name that was numbered is in the list
pub in_numbered : (seen xs : List Spelled) → Each (λ (x : Spelled). list_any (same_name x) (numbered seen xs) ≡ true) xs
in_numbered seen [] = tt
in_numbered seen (x ∷ xs) = (here, in_numbered (add_name seen x) xs)
  where
    there : list_any (same_name x) (add_name seen x) ≡ true
    there = by (list_any (same_name x) seen) refl
      where
        by : (v : Bool) → list_any (same_name x) seen ≡ v → list_any (same_name x) (if v then seen else seen ++ x ∷ []) ≡ true
        by true e = e
        by false e = any_last (same_name x) seen x (name_itself x)

    here : list_any (same_name x) (numbered (add_name seen x) xs) ≡ true
    here = let r = numbered_front (add_name seen x) xs in rw r.is (any_append (same_name x) (add_name seen x) r.more there)

-- a name that was numbered has its place
pub name_placed : (names : List Spelled) (x : Spelled) → list_any (same_name x) names ≡ true → IsPlaced (same_name x) x names
name_placed names x h = placed (same_name x) x (λ y e. name_equal x y e) names h

-- what holds of names holds of them when they are numbered
pub Each-numbered : (P : Spelled → Type 0) (seen xs : List Spelled) → Each P seen → Each P xs → Each P (numbered seen xs)
Each-numbered P seen [] s e = s
Each-numbered P seen (x ∷ xs) s (here, later) = Each-numbered P (add_name seen x) xs (by (list_any (same_name x) seen)) later
  where
    by : (v : Bool) → Each P (if v then seen else seen ++ x ∷ [])
    by true = s
    by false = Each-append P seen (x ∷ []) s (here, tt)

abbrev pub AreApart : List Spelled → Type 0
AreApart names = EachPair (λ (a b : Spelled). a ≢ b) names

-- no name has two places
pub numbered_apart : (seen xs : List Spelled) → AreApart seen → AreApart (numbered seen xs)
numbered_apart seen [] s = s
numbered_apart seen (x ∷ xs) s = numbered_apart (add_name seen x) xs (by (list_any (same_name x) seen) refl)
  where
    other : (y : Spelled) → same_name x y ≡ false → y ≢ x
    other y un is =
        let has : same_name x y ≡ true = subst (λ (z : Spelled). same_name x z ≡ true) (sym is) (name_itself x) in cc (sym un ∙ has)

    by : (v : Bool) → list_any (same_name x) seen ≡ v → AreApart (if v then seen else seen ++ x ∷ [])
    by true e = s
    by false e = EachPair-push (λ (a b : Spelled). a ≢ b) seen x s
        (Each-weaken (λ (y : Spelled). same_name x y ≡ false) (λ (y : Spelled). y ≢ x) other seen (Each-none (same_name x) seen e))
