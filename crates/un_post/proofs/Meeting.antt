-- Lists of constraints that an assignment meets, and entries of lists at a place.
use Rattle.std.proofs.Common.{ℕ, zero, suc, ◌≡◌, ◌↔◌, Bool, true, false, List, [], ◌∷◌, map, refl, ap, arith}
use Rattle.std.specs.Prelude.{Some, slice_get, slice_index, ◌||◌, not}
use Rattle.un_base.specs.declared.ids.VarId.{VarId}
use Rattle.un_model.specs.Pairs.{places_from, joined}
use Rattle.un_lists.proofs.Lists.{Each, each_all, each_join, each_append, each_member}
use Rattle.un_model.proofs.PlacedSchedules.{member_places}
use Rattle.un_root.proofs.Eaches.{all_each}
use Rattle.un_prop.specs.Choices.{passes_at}
use Rattle.un_alt.specs.Registers.{value_at}
use Rattle.un_kinds.specs.Constraints.{Constraint, meets, AllMet}

-- ---- each of a list

pub each_joined : {X Y : Type 0} (P : Y → Type 0) (f : X → List Y) (xs : List X) → Each P (joined (map f xs)) → Each (λ x. Each P (f x)) xs
each_joined P f [] h = tt
each_joined P f (x ∷ xs) h = let r = each_append P (f x) (joined (map f xs)) h in (r.0, each_joined P f xs r.1)

pub joined_each : {X Y : Type 0} (P : Y → Type 0) (f : X → List Y) (xs : List X) → Each (λ x. Each P (f x)) xs → Each P (joined (map f xs))
joined_each P f [] h = tt
joined_each P f (x ∷ xs) h = each_join P (f x) (joined (map f xs)) h.0 (joined_each P f xs h.1)

pub places_each : {X Y : Type 0} (P : Y → Type 0) (f : ℕ → X → Y) (xs : List X) → Each P (places_from f 0 xs) → (j : ℕ) (x : X)
    → slice_get xs j ≡ Some x → P (f j x)
places_each P f xs h j x e = each_member P (places_from f 0 xs) (f j x) h (member_places f xs 0 j j x (omega arith) e)

-- ---- what an assignment meets

abbrev pub Met : List ℕ → List Constraint → Type 0
Met x cs = Each (λ (c : Constraint). meets c x ≡ true) cs

pub met_all : (x : List ℕ) (cs : List Constraint) → AllMet cs x → Met x cs
met_all x cs h = each_all (λ (c : Constraint). meets c x ≡ true) cs h

pub all_met : (x : List ℕ) (cs : List Constraint) → Met x cs → AllMet cs x
all_met x cs h = all_each (λ (c : Constraint). meets c x ≡ true) cs h

-- ---- entries at a place

pub passes_get : {X : Type 0} (p : X → Bool) (xs : List X) (i : ℕ) (a : X) → slice_get xs i ≡ Some a → passes_at p xs i ≡ p a
passes_get p [] i a e = absurd (cc e)
passes_get p (b ∷ xs) zero a e = let same : b ≡ a = cc e in ap p same
passes_get p (b ∷ xs) (suc i) a e = passes_get p xs i a e

pub value_get : (vs : List VarId) (i : ℕ) (v : VarId) (x : List ℕ) → slice_get vs i ≡ Some v → value_at vs i x ≡ Some (slice_index x v.0)
value_get [] i v x e = absurd (cc e)
value_get (w ∷ vs) zero v x e = let same : w ≡ v = cc e in ap (λ (u : VarId). Some (slice_index x u.0)) same
value_get (w ∷ vs) (suc i) v x e = value_get vs i v x e

-- ---- a test that counts where another passes

pub where_on : (b d : Bool) (A : Type 0) → A ↔ (d ≡ true) → (b ≡ true → A) ↔ ((not b || d) ≡ true)
where_on true d A h = (λ f. h.0 (f refl), λ e t. h.1 e)
where_on false d A h = (λ f. refl, λ e t. absurd (cc t))
