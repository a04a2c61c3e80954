-- What holds of each of a list.
use Rattle.std.proofs.Common.{ℕ, ◌≡◌, ◌+◌, List, [], ◌∷◌, ap, ◌∙◌, subst, arith, All}
use Rattle.std.specs.List.{AllZip}
use Rattle.std.specs.Prelude.{Some, slice_get}
use Rattle.std.proofs.lemmas.List.Elements.{All-nil, All-cons}
use Rattle.un_model.specs.Pairs.{places_from}
use Rattle.un_lists.proofs.Lists.{Each, each_of}
use Rattle.un_model.proofs.PlacedSchedules.{places_member}

pub all_each : {X : Type 0} (P : X → Type 0) (xs : List X) → Each P xs → All P xs
all_each P [] h = All-nil P
all_each P (x ∷ xs) h = All-cons P x xs h.0 (all_each P xs h.1)

pub each_places : {X Y : Type 0} (P : Y → Type 0) (f : ℕ → X → Y) (xs : List X)
    → ((j : ℕ) (x : X) → slice_get xs j ≡ Some x → P (f j x)) → Each P (places_from f 0 xs)
each_places P f xs h = each_of P (places_from f 0 xs) (λ y m.
    let r = places_member f 0 xs y m in
    let z : r.0 ≡ 0 + r.0 = omega arith in
    subst P (ap (λ j. f j r.1) z ∙ r.3) (h r.0 r.1 r.2))

pub zip_each : {X Y : Type 0} (R : X → Y → Type 0) (P : X → Type 0) (xs : List X) (ys : List Y) → ((x : X) (y : Y) → R x y → P x)
    → AllZip R xs ys → Each P xs
zip_each R P [] ys f h = tt
zip_each R P (x ∷ xs) [] f h = absurd h
zip_each R P (x ∷ xs) (y ∷ ys) f h = (f x y h.0, zip_each R P xs ys f h.1)
