-- The calls of a block, as a loop over its operations comes to see them.
use Rattle.std.proofs.Common.{ℕ, ◌≡◌, ◌+◌, ◌≤◌, Bool, true, false, All, List, [], ◌∷◌, ◌++◌, length, map, take, Some, slice_get, refl, sym}
use Rattle.std.proofs.Common.{ap, subst, ◌∙◌}
use Rattle.std.specs.Prelude.{filter}
use Rattle.std.specs.List.{AllZip}
use Rattle.std.proofs.lemmas.List.Elements.{filter-append, All-push}
use Rattle.std.proofs.lemmas.List.{take_all}
use Rattle.std.proofs.lemmas.List.FromFn.{length-map-range_with_len}
use Rattle.un_base.specs.declared.ids.TempId.{TempId}
use Rattle.un_prop.specs.declared.act.UserOf.{UserOf}
use Rattle.un_ir.specs.Extended.{temp}
use Rattle.un_model.proofs.Steps.{append-nil}
use Rattle.un_rooms.specs.Gathered.{gathered}
use Rattle.un_sites.specs.Places.{Place}
use Rattle.un_ir.specs.Kinds.{is_call_kind}
use Rattle.un_sites.specs.Postings.{with_kind}
use Rattle.un_sites.specs.Sites.{place_of}
use Rattle.un_rooms.specs.declared.call_rows.CallSite.{CallSite}
use Rattle.un_sites.specs.declared.sites.Spot.{Spot}
use Rattle.un_rooms.proofs.Gathering.{mapped_next}

pub long_as : (first count : ℕ) (f : TempId → List UserOf) (lists : List (List UserOf)) → lists ≡ gathered first count f
    → length lists ≡ count
long_as first count f lists e = ap length e ∙ length-map-range_with_len (λ (k : ℕ). f (temp k)) first count

pub long_calls : (first count : ℕ) (f : TempId → List UserOf) (lists : List (List UserOf)) (calls slice : List CallSite)
    → lists ≡ gathered first count f → slice ≡ calls → All (λ (s : CallSite). length s.users ≡ count) calls
    → All (λ (s : CallSite). length s.users ≡ length lists) slice
long_calls first count f lists calls slice e a h =
    subst (λ (n : ℕ). All (λ (s : CallSite). length s.users ≡ n) slice) (sym (long_as first count f lists e))
    (subst (λ (cs : List CallSite). All (λ (s : CallSite). length s.users ≡ count) cs) (sym a) h)

zip_push : {A B : Type 0} (R : A → B → Type 0) (xs : List A) (ys : List B) (x : A) (y : B) → AllZip R xs ys → R x y
    → AllZip R (xs ++ x ∷ []) (ys ++ y ∷ [])
zip_push R [] [] x y h r = (r, tt)
zip_push R [] (z ∷ ys) x y h r = absurd h
zip_push R (w ∷ xs) [] x y h r = absurd h
zip_push R (w ∷ xs) (z ∷ ys) x y h r = (h.0, zip_push R xs ys x y h.1 r)

one_yes : {A : Type 0} (p : A → Bool) (x : A) → p x ≡ true → filter p (x ∷ []) ≡ x ∷ []
one_yes p x h = rw h refl

one_no : {A : Type 0} (p : A → Bool) (x : A) → p x ≡ false → filter p (x ∷ []) ≡ []
one_no p x h = rw h refl

abbrev is_call_at : Place → Bool
is_call_at p = is_call_kind p.it.kind

-- the calls of the first operations
abbrev pub calls_to : ℕ → List Spot → List Place
calls_to i spots = with_kind is_call_kind (map place_of (take i spots))

next_calls : (i : ℕ) (spots : List Spot) (p : Spot) → slice_get spots i ≡ Some p
    → calls_to (i + 1) spots ≡ calls_to i spots ++ filter is_call_at (place_of p ∷ [])
next_calls i spots p g =
    ap (filter is_call_at) (mapped_next place_of i spots p g) ∙ filter-append is_call_at (map place_of (take i spots)) (place_of p ∷ [])

-- so many temporaries have users
abbrev IsLong : ℕ → CallSite → Type 0
IsLong count s = length s.users ≡ count

module _ (R : Place → CallSite → Type 0) (count i : ℕ) (spots : List Spot) (p : Spot) (calls next : List CallSite)
    (h : AllZip R (calls_to i spots) calls) (long : All (IsLong count) calls) (g : slice_get spots i ≡ Some p)
    (b : Bool) (is : b ≡ is_call_at (place_of p)) where
  pub seen_more : b ≡ true → (s : CallSite) → R (place_of p) s → length s.users ≡ count → next ≡ calls ++ s ∷ []
      → AllZip R (calls_to (i + 1) spots) next × All (IsLong count) next
  seen_more t s r l n =
      let to = next_calls i spots p g ∙ ap (λ (ps : List Place). calls_to i spots ++ ps) (one_yes is_call_at (place_of p) (sym is ∙ t)) in (
        subst (λ (ps : List Place). AllZip R ps next) (sym to)
            (subst (AllZip R (calls_to i spots ++ place_of p ∷ [])) (sym n) (zip_push R (calls_to i spots) calls (place_of p) s h r)),
        subst (All (IsLong count)) (sym n) (All-push (IsLong count) calls s long l),
      )

  pub seen_same : b ≡ false → next ≡ calls → AllZip R (calls_to (i + 1) spots) next × All (IsLong count) next
  seen_same t n =
      let to = next_calls i spots p g ∙ ap (λ (ps : List Place). calls_to i spots ++ ps) (one_no is_call_at (place_of p) (sym is ∙ t))
      ∙ append-nil (calls_to i spots) in (
        subst (λ (ps : List Place). AllZip R ps next) (sym to) (subst (AllZip R (calls_to i spots)) (sym n) h),
        subst (All (IsLong count)) (sym n) long,
      )

pub seen_all : (R : Place → CallSite → Type 0) (i : ℕ) (spots : List Spot) (calls : List CallSite) → AllZip R (calls_to i spots) calls
    → length spots ≤ i → AllZip R (with_kind is_call_kind (map place_of spots)) calls
seen_all R i spots calls h le =
    subst (λ (ss : List Spot). AllZip R (with_kind is_call_kind (map place_of ss)) calls) (take_all i spots le) h
