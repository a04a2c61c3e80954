-- Values in their domains, place by place.
use Rattle.std.proofs.Common.{◌≡◌, ◌↔◌, ℕ, zero, suc, ◌<◌, Bool, true, false, IsTrue, ap, refl, List, [], ◌∷◌, length, get_or, arith}
use Rattle.std.specs.List.{AllZip}
use Rattle.un_domains.specs.declared.domain.Domain.{Domain}
use Rattle.un_model.specs.Solutions.{InDomain, KeepsDomains}

zip_all : {A B : Type 0} (R : A → B → Type 0) (xs : List A) (ys : List B) (c : A) → length xs ≡ length ys
    → ((n : ℕ) (d : B) → n < length xs → R (get_or xs n c) (get_or ys n d)) → AllZip R xs ys
zip_all R [] [] c e h = tt
zip_all R [] (y ∷ ys) c e h = absurd (omega (arith, e))
zip_all R (x ∷ xs) [] c e h = absurd (omega (arith, e))
zip_all R (x ∷ xs) (y ∷ ys) c e h =
    (h zero y (omega arith), zip_all R xs ys c (omega (arith, e)) (λ n d lt. h (suc n) d (omega (arith, lt))))

pub zip_length : {A B : Type 0} (R : A → B → Type 0) (xs : List A) (ys : List B) → AllZip R xs ys → length xs ≡ length ys
zip_length R [] [] h = refl
zip_length R [] (y ∷ ys) h = absurd h
zip_length R (x ∷ xs) [] h = absurd h
zip_length R (x ∷ xs) (y ∷ ys) h = ap suc (zip_length R xs ys h.1)

zip_at : {A B : Type 0} (R : A → B → Type 0) (xs : List A) (ys : List B) (i : ℕ) (c : A) (d : B) → AllZip R xs ys → i < length xs
    → R (get_or xs i c) (get_or ys i d)
zip_at R [] ys i c d h lt = absurd (omega (arith, lt))
zip_at R (x ∷ xs) [] i c d h lt = absurd h
zip_at R (x ∷ xs) (y ∷ ys) zero c d h lt = h.0
zip_at R (x ∷ xs) (y ∷ ys) (suc i) c d h lt = zip_at R xs ys i c d h.1 (omega (arith, lt))

pub kept : (domains : List Domain) (values : List ℕ) → length values ≡ length domains
    → ((n : ℕ) (d : Domain) → n < length values → InDomain (get_or values n 0) (get_or domains n d)) → KeepsDomains domains values
kept domains values e h = zip_all InDomain values domains 0 e h

pub fewer : (domains : List Domain) (values : List ℕ) → (length values ≡ length domains → ⊥) → IsTrue false ↔ KeepsDomains domains values
fewer domains values n = (λ no. absurd (cc no), λ k. absurd (n (zip_length InDomain values domains k)))

pub outside : (domains : List Domain) (values : List ℕ) (i v : ℕ) (d : Domain) (t : Bool) → i < length values → v ≡ get_or values i 0
    → d ≡ get_or domains i d → IsTrue t ↔ InDomain v d → t ≡ false → IsTrue false ↔ KeepsDomains domains values
outside domains values i v d t lt is at h e = (
  λ no. absurd (cc no),
  λ k. let a : InDomain (get_or values i 0) (get_or domains i d) = zip_at InDomain values domains i 0 d k lt in
      let y : t ≡ true = h.1 (rw (is, at) a) in absurd (cc (y, e)),
)
