-- What a temporary knows of the calls of its block, as loops over them make it.
use Rattle.std.proofs.Common.{ℕ, zero, suc, ◌≡◌, ◌+◌, ◌-◌, ◌≤◌, ◌<◌, Bool, true, false, List, []}
use Rattle.std.proofs.Common.{◌∷◌, ◌++◌, length, map, drop, Some, slice_get, refl, sym, ap, subst, ◌∙◌, append_assoc, arith}
use Rattle.std.specs.Prelude.{◌==◌, not, ◌||◌, filter}
use Rattle.std.specs.List.{AllZip}
use Rattle.un_base.specs.declared.ids.TempId.{TempId}
use Rattle.un_base.specs.declared.ids.VarId.{VarId}
use Rattle.un_prop.specs.declared.act.UserOf.{UserOf}
use Rattle.un_rect.specs.declared.clobber.ClobberCall.{ClobberCall}
use Rattle.un_ir.specs.Linear.{is_in}
use Rattle.un_model.specs.declared.model.Arc.{Arc}
use Rattle.un_model.proofs.Steps.{drop_at, drop_past, append-nil}
use Rattle.un_rooms.specs.Calls.{SeesCall, before_by}
use Rattle.un_sites.specs.Places.{Place}
use Rattle.un_sites.specs.Postings.{cycle_var}
use Rattle.un_sites.specs.Rooms.{call_at, is_before, is_behind, users_of}
use Rattle.un_rooms.specs.declared.call_rows.CallSite.{CallSite}
use Rattle.un_rooms.proofs.Gathering.{users_at}
use Rattle.un_rooms.proofs.Marking.{reached_is_leading}

module _ (arcs : List Arc) (ps : List Place) (first : ℕ) (q : Place) (s : CallSite) (sees : SeesCall arcs ps first q s) where
  pub before_is : (definer : Place) → before_by definer s ≡ is_before arcs definer q
  before_is definer =
      ap (λ (b : Bool). is_in definer.it.kind || b) (sees.leads definer.op ∙ sym (reached_is_leading arcs definer.op q.op))

  pub call_is : (t : TempId) (definer : Place) (at : VarId) (before : Bool) (behind users : List UserOf) → at ≡ s.at
      → before ≡ before_by definer s → behind ≡ users → slice_get s.users (t.0 - first) ≡ Some users → first ≤ t.0
      → t.0 - first < length s.users
      → record { at = at; before = before; behind = behind } ≡ call_at arcs ps t definer q
  call_is t definer at before behind users e g h k le lt =
      let made : VarId → Bool → List UserOf → ClobberCall = λ a b us. record { at = a; before = b; behind = us } in
      let there : first + (t.0 - first) ≡ t.0 = omega arith in
      let them = users_at first (length s.users) (t.0 - first) (users_of (filter (is_behind arcs q) ps)) s.users t users
      sees.users k there in
      ap (λ (a : VarId). made a before behind) (e ∙ sees.at) ∙ ap (λ (b : Bool). made (cycle_var q) b behind) (g ∙ before_is definer)
      ∙ ap (λ (us : List UserOf). made (cycle_var q) (is_before arcs definer q) us) (h ∙ them)

-- ---- lists that are read together

zip_at : {A B : Type 0} (R : A → B → Type 0) (xs : List A) (ys : List B) (i : ℕ) (y : B) → AllZip R xs ys → slice_get ys i ≡ Some y
    → (x : A) × ((slice_get xs i ≡ Some x) × R x y)
zip_at R [] [] i y h g = absurd (cc g)
zip_at R [] (z ∷ ys) i y h g = absurd h
zip_at R (x ∷ xs) [] i y h g = absurd h
zip_at R (x ∷ xs) (z ∷ ys) zero y h g = let e : z ≡ y = cc g in (x, (refl, subst (R x) e h.0))
zip_at R (x ∷ xs) (z ∷ ys) (suc i) y h g = zip_at R xs ys i y h.1 g

zip_long : {A B : Type 0} (R : A → B → Type 0) (xs : List A) (ys : List B) → AllZip R xs ys → length xs ≡ length ys
zip_long R [] [] h = refl
zip_long R [] (z ∷ ys) h = absurd h
zip_long R (x ∷ xs) [] h = absurd h
zip_long R (x ∷ xs) (z ∷ ys) h = ap (λ n. suc n) (zip_long R xs ys h.1)

-- ---- what passes, one after another

filter_yes : {A : Type 0} (p : A → Bool) (x : A) (xs : List A) → p x ≡ true → filter p (x ∷ xs) ≡ x ∷ filter p xs
filter_yes p x xs h = rw h refl

filter_no : {A : Type 0} (p : A → Bool) (x : A) (xs : List A) → p x ≡ false → filter p (x ∷ xs) ≡ filter p xs
filter_no p x xs h = rw h refl

passing_yes : {A B : Type 0} (p : A → Bool) (f : A → B) (i : ℕ) (xs : List A) (x : A) (made next whole : List B) (y : B)
    → made ++ map f (filter p (drop i xs)) ≡ whole → slice_get xs i ≡ Some x → p x ≡ true → y ≡ f x → next ≡ made ++ y ∷ []
    → next ++ map f (filter p (drop (i + 1) xs)) ≡ whole
passing_yes p f i xs x made next whole y h g t e n =
    let rest = filter p (drop (i + 1) xs) in
    let s = ap (λ zs. map f (filter p zs)) (drop_at xs i x g) ∙ ap (map f) (filter_yes p x (drop (i + 1) xs) t) in
    ap (λ zs. zs ++ map f rest) (n ∙ ap (λ z. made ++ z ∷ []) e) ∙ append_assoc made (f x ∷ []) (map f rest)
    ∙ ap (λ zs. made ++ zs) (sym s) ∙ h

passing_no : {A B : Type 0} (p : A → Bool) (f : A → B) (i : ℕ) (xs : List A) (x : A) (made next whole : List B)
    → made ++ map f (filter p (drop i xs)) ≡ whole → slice_get xs i ≡ Some x → p x ≡ false → next ≡ made
    → next ++ map f (filter p (drop (i + 1) xs)) ≡ whole
passing_no p f i xs x made next whole h g t n =
    let s = ap (λ zs. map f (filter p zs)) (drop_at xs i x g) ∙ ap (map f) (filter_no p x (drop (i + 1) xs) t) in
    ap (λ zs. zs ++ map f (filter p (drop (i + 1) xs))) n ∙ ap (λ zs. made ++ zs) (sym s) ∙ h

-- the calls but the one with the number `own`
abbrev pub but : ℕ → Place → Bool
but own p = not (p.op == own)

module _ (arcs : List Arc) (ps qs : List Place) (first : ℕ) (calls : List CallSite) (zip : AllZip (SeesCall arcs ps first) qs calls)
    (t : TempId) (definer : Place) (i : ℕ) (made whole : List ClobberCall)
    (h : made ++ map (call_at arcs ps t definer) (filter (but definer.op) (drop i qs)) ≡ whole) where
  pub calls_yes : (s : CallSite) (own : ℕ) (next : List ClobberCall) (y : ClobberCall) → slice_get calls i ≡ Some s
      → ((q : Place) → SeesCall arcs ps first q s → y ≡ call_at arcs ps t definer q) → own ≡ definer.op → (s.op == own) ≡ false
      → next ≡ made ++ y ∷ [] → next ++ map (call_at arcs ps t definer) (filter (but definer.op) (drop (i + 1) qs)) ≡ whole
  calls_yes s own next y g each e other n =
      let at = zip_at (SeesCall arcs ps first) qs calls i s zip g in
      let same : (at.0.op == definer.op) ≡ false = ap (λ (m : ℕ). m == definer.op) (sym at.1.1.op)
      ∙ ap (λ (m : ℕ). s.op == m) (sym e) ∙ other in
      passing_yes (but definer.op) (call_at arcs ps t definer) i qs at.0 made next whole y h at.1.0 (ap not same) (each at.0 at.1.1) n

  pub calls_no : (s : CallSite) (own : ℕ) (next : List ClobberCall) → slice_get calls i ≡ Some s → own ≡ definer.op
      → (s.op == own) ≡ true → next ≡ made → next ++ map (call_at arcs ps t definer) (filter (but definer.op) (drop (i + 1) qs)) ≡ whole
  calls_no s own next g e equal n =
      let at = zip_at (SeesCall arcs ps first) qs calls i s zip g in
      let same : (at.0.op == definer.op) ≡ true = ap (λ (m : ℕ). m == definer.op) (sym at.1.1.op)
      ∙ ap (λ (m : ℕ). s.op == m) (sym e) ∙ equal in
      passing_no (but definer.op) (call_at arcs ps t definer) i qs at.0 made next whole h at.1.0 (ap not same) n

  pub calls_all : length calls ≤ i → made ≡ whole
  calls_all le =
      let long = zip_long (SeesCall arcs ps first) qs calls zip in
      let none = ap (λ zs. map (call_at arcs ps t definer) (filter (but definer.op) zs)) (drop_past i qs (omega (arith, long))) in
      sym (append-nil made) ∙ ap (λ zs. made ++ zs) (sym none) ∙ h
