-- What is posted of the edges between blocks, as loops make it.
use Rattle.std.proofs.Common.{ℕ, ◌≡◌, ◌+◌, ◌-◌, List, [], ◌∷◌, ◌++◌, length, map, drop, Some, slice_get, refl, ap, ◌∙◌, sym, append_assoc}
use Rattle.std.proofs.Common.{suc, ◌≤◌, Option, None, arith}
use Rattle.un_base.specs.declared.ids.TempId.{TempId}
use Rattle.un_base.specs.declared.ids.VarId.{VarId}
use Rattle.un_ir.specs.declared.extended.Operand.{Operand}
use Rattle.std.proofs.lemmas.Option.{slice_get_past}
use Rattle.un_ir.specs.declared.extended.ExtBlock.{ExtBlock}
use Rattle.un_model.specs.Pairs.{joined, places_from}
use Rattle.un_model.proofs.Steps.{drop_at, append-nil}
use Rattle.un_kinds.specs.Constraints.{Constraint}
use Rattle.un_sites.specs.Places.{Place, Definer}
use Rattle.un_sites.specs.Postings.{last_place, same_by, over_edge}
use Rattle.un_sites.specs.Sites.{place_of}
use Rattle.un_sites.specs.declared.sites.Spot.{Spot}

pub one_edge : {A B : Type 0} (f : A → List B) (x : A) (old new : List B) → new ≡ old ++ f x → new ≡ old ++ joined (map f (x ∷ []))
one_edge f x old new h = h ∙ ap (λ zs. old ++ zs) (sym (append-nil (f x)))

pub two_edges : {A B : Type 0} (f : A → List B) (x y : A) (old mid new : List B) → mid ≡ old ++ f x → new ≡ mid ++ f y
    → new ≡ old ++ joined (map f (x ∷ y ∷ []))
two_edges f x y old mid new h k =
    k ∙ ap (λ zs. zs ++ f y) h ∙ append_assoc old (f x) (f y) ∙ ap (λ zs. old ++ (f x ++ zs)) (sym (append-nil (f y)))

-- what is added for each place of a list, as far as a loop has come
pub place_added : {A B : Type 0} (g : ℕ → A → List B) (i : ℕ) (xs : List A) (x : A) (made whole next : List B)
    → made ++ joined (places_from g i (drop i xs)) ≡ whole → slice_get xs i ≡ Some x → next ≡ made ++ g i x
    → next ++ joined (places_from g (i + 1) (drop (i + 1) xs)) ≡ whole
place_added {B = B} g i xs x made whole next h q e =
    let rest = joined {A = B} (places_from g (i + 1) (drop (i + 1) xs)) in
    let s = ap (λ zs. joined {A = B} (places_from g i zs)) (drop_at xs i x q) in
    ap (λ zs. zs ++ rest) e ∙ append_assoc made (g i x) rest ∙ ap (λ zs. made ++ zs) (sym s) ∙ h

-- the last of several operations
pub last_is : (spots : List Spot) (p : Spot) → slice_get spots (length spots - 1) ≡ Some p → last_place (map place_of spots) ≡ place_of p
last_is [] p h = absurd (cc h)
last_is (q ∷ []) p h = cc h
last_is (q ∷ r ∷ spots) p h = last_is (r ∷ spots) p (rw (one_less (length spots)) at h)
  where
    one_less : (n : ℕ) → suc (suc n) - 1 ≡ suc (suc n - 1)
    one_less n = omega arith

-- ---- places past the end of a list

unread : (ds : List Definer) (x : TempId) (o : Option Operand) (c : Option VarId) → c ≡ None → same_by ds x o c ≡ []
unread ds x None c e = refl
unread ds x (Some o) None e = refl
unread ds x (Some o) (Some v) e = absurd (cc e)

pub none_handed : (ds : List Definer) (x : TempId) (operands : List Operand) (choices : List VarId) (k : ℕ) (old : List Constraint)
    → length operands ≤ k → old ≡ old ++ same_by ds x (slice_get operands k) (slice_get choices k)
none_handed ds x operands choices k old le =
    sym (append-nil old) ∙ ap (λ (o : Option Operand). old ++ same_by ds x o (slice_get choices k)) (sym (slice_get_past operands k le))

pub none_chosen : (ds : List Definer) (x : TempId) (operands : List Operand) (choices : List VarId) (k : ℕ) (old : List Constraint)
    → length choices ≤ k → old ≡ old ++ same_by ds x (slice_get operands k) (slice_get choices k)
none_chosen ds x operands choices k old le =
    sym (append-nil old) ∙ ap (λ zs. old ++ zs) (sym (unread ds x (slice_get operands k) (slice_get choices k)
    (slice_get_past choices k le)))

pub none_there : (ds : List Definer) (out : Place) (a : ExtBlock) (blocks : List ExtBlock) (l : ℕ) (old : List Constraint)
    → length blocks ≤ l → old ≡ old ++ over_edge ds out a (slice_get blocks l)
none_there ds out a blocks l old le =
    sym (append-nil old) ∙ ap (λ (o : Option ExtBlock). old ++ over_edge ds out a o) (sym (slice_get_past blocks l le))
