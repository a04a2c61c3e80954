use Rattle.std.proofs.Common.{ℕ, List, [], ◌∷◌, ◌≡◌, ◌<◌, ◌∙◌, Bool, true, false, length, nat_eq, refl, sym, ap, arith}
use Rattle.std.proofs.lemmas.Bool.Decides.{nat_tests}
use Rattle.std.specs.List.{list_any}
use Rattle.un_domains.specs.Sets.{set_at, has, least}
use Rattle.un_domains.specs.OrderLaws.{has_here, has_later, has_least}
use Rattle.un_prop.specs.LookLaws.{both}
use Rattle.un_prop.specs.SomewhereLaws.{any_has}
use Rattle.un_prop.specs.WhenLaws.{only_value}
use Rattle.un_alt.proofs.same.meet.Goals as goal

-- none passes where none of them does
none_passes : (p : ℕ → Bool) (xs : List ℕ) → ((y : ℕ) → has xs y ≡ true → p y ≡ false) → list_any p xs ≡ false
none_passes p [] h = refl
none_passes p (x ∷ xs) h = rw (h x (has_here x xs)) (none_passes p xs (λ y k. h y (has_later x y xs k)))

-- a value that one list has and another has not is no value of the other
not_there : (xs : List ℕ) (y z : ℕ) (b : Bool) → (b ≡ true → y ≡ z) → has xs z ≡ false → has xs y ≡ true → b ≡ false
not_there xs y z false is gone there = refl
not_there xs y z true is gone there = absurd (let bad : true ≡ false = sym there ∙ (ap (has xs) (is refl) ∙ gone) in cc bad)

pub returns-then-has : goal.returns-then-has
returns-then-has c =
    let s = c.args.w.now.store.now.sets in
    let to = set_at s c.args.to.0 in
    let some : 0 < length to = c.requires.live c.args.to.0 c.requires.to in
    sym (any_has (has to) (set_at s c.args.v.0) c.min-first.result (sym c.has.ensures ∙ c.if-has.true)
    (ap (has to) c.min-first.ensures ∙ has_least to some))

pub returns-then-is_single : goal.returns-then-is_single
returns-then-is_single c =
    let s = c.args.w.now.store.now.sets in
    let to = c.args.to in
    let first = c.min-first.result in
    let one : nat_eq (length (set_at s to.0)) 1 ≡ true = sym c.is_single.ensures ∙ c.if-is_single.true in
    let is : nat_eq (least (set_at s to.0)) first ≡ true = (let e = c.min-first.ensures in grind (arith, nat_tests, e)) in
    sym (none_passes (has (set_at s to.0)) (set_at s c.args.v.0) (λ y there. not_there (set_at s c.args.v.0) y first
    (has (set_at s to.0) y) (λ h. only_value to first s y (both _ _ one is) h) (sym c.has.ensures ∙ c.if-has.false) there))
