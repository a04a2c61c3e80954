-- Tables of operations, definers and ends, as loops make them.
use Rattle.std.proofs.Common.{ℕ, ◌≡◌, ◌+◌, ◌≤◌, ◌⊎◌, inl, inr, List, [], ◌∷◌, ◌++◌, length, drop, min}
use Rattle.std.proofs.Common.{Option, None, Some, slice_get, refl, ap, ◌∙◌, sym, append_assoc}
use Rattle.std.specs.Option.{option_map}
use Rattle.un_ir.specs.declared.extended.ExtBlock.{ExtBlock}
use Rattle.un_model.specs.declared.model.BlockVars.{BlockVars}
use Rattle.un_model.specs.declared.model.TempVars.{TempVars}
use Rattle.un_model.proofs.Steps.{drop_at, drop_past, append-nil, within_min}
use Rattle.un_prec.specs.declared.below.Weighted.{Weighted}
use Rattle.un_sites.specs.Places.{Place, definer_by}
use Rattle.un_sites.specs.Postings.{ends_by, weighted}
use Rattle.un_sites.specs.Sites.{place_of, definer_in}
use Rattle.un_sites.specs.declared.sites.Spot.{Spot}

pub definer_is : (t : TempVars) (o : Option Spot) (p : Option Place) → option_map place_of o ≡ p → definer_in t.reg o ≡ definer_by t p
definer_is t None p h = ap (definer_by t) h
definer_is t (Some s) p h = ap (definer_by t) h

-- ---- ends

pub ends_more : (i : ℕ) (blocks : List ExtBlock) (vars : List BlockVars) (b : ExtBlock) (v : BlockVars) (made whole next : List Weighted)
    → made ++ ends_by (drop i blocks) (drop i vars) ≡ whole → slice_get blocks i ≡ Some b → slice_get vars i ≡ Some v
    → next ≡ made ++ weighted b v ∷ [] → next ++ ends_by (drop (i + 1) blocks) (drop (i + 1) vars) ≡ whole
ends_more i blocks vars b v made whole next h p q e =
    let s : ends_by (drop i blocks) (drop i vars) ≡ weighted b v ∷ ends_by (drop (i + 1) blocks) (drop (i + 1) vars) =
    rw (drop_at blocks i b p, drop_at vars i v q) refl in
    rw (e, append_assoc, ← s) h

ends-nil : (blocks : List ExtBlock) → ends_by blocks [] ≡ []
ends-nil [] = refl
ends-nil (b ∷ blocks) = refl

ends-past : (i : ℕ) (blocks : List ExtBlock) (vars : List BlockVars) → (length blocks ≤ i) ⊎ (length vars ≤ i)
    → ends_by (drop i blocks) (drop i vars) ≡ []
ends-past i blocks vars h = elim h
    [ inl a ↦ rw (drop_past i blocks a) refl | inr c ↦ rw (drop_past i vars c) (ends-nil (drop i blocks)) ]

pub ends_all : (i : ℕ) (blocks : List ExtBlock) (vars : List BlockVars) (made whole : List Weighted)
    → made ++ ends_by (drop i blocks) (drop i vars) ≡ whole → min (length blocks) (length vars) ≤ i → made ≡ whole
ends_all i blocks vars made whole h g =
    sym (append-nil made) ∙ ap (λ zs. made ++ zs) (sym (ends-past i blocks vars (within_min i blocks vars g))) ∙ h
