-- Lists at whose items equal is identical.
use Rattle.std.proofs.Common.{◌≡◌, Bool, true, false, ◌&&◌, List, [], ◌∷◌, refl}
use Rattle.std.specs.Cmp.Lexicographic.{pointwise}

both : (b c : Bool) → (b && c) ≡ true → (b ≡ true) × (c ≡ true)
both true c h = (refl, h)
both false c h = absurd (cc h)

pub list_exact : {T : Type 0} (eq : T → T → Bool) → ((a b : T) → eq a b ≡ true → a ≡ b) → (xs ys : List T) → pointwise eq xs ys ≡ true
    → xs ≡ ys
list_exact eq f [] [] h = refl
list_exact eq f [] (y ∷ ys) h = absurd (cc h)
list_exact eq f (x ∷ xs) [] h = absurd (cc h)
list_exact eq f (x ∷ xs) (y ∷ ys) h =
    let p = both (eq x y) (pointwise eq xs ys) h in
    let e = f x y p.0 in
    let r = list_exact eq f xs ys p.1 in cc

pub list_reflexive : {T : Type 0} (eq : T → T → Bool) → ((a : T) → eq a a ≡ true) → (xs : List T) → pointwise eq xs xs ≡ true
list_reflexive eq f [] = refl
list_reflexive eq f (x ∷ xs) = rw (f x) (list_reflexive eq f xs)
