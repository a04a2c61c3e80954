-- Texts that are cut at a byte.
use Rattle.std.proofs.Common.{◌≡◌, ◌≢◌, ℕ, List, [], ◌∷◌, ◌++◌, All, Option, Some, None, IfNone}
use Rattle.std.proofs.Common.{refl, sym, ap, subst, ◌∙◌}
use Rattle.std.specs.List.{AllByRecursion}
use Rattle.std.proofs.lemmas.List.Elements.{recursion_from_All}
use Rattle.un_base.specs.Lines.{IsCut}

-- two texts that are cut at the first of a byte have the same parts
pub cut_once : (b : ℕ) (first first' rest rest' : List ℕ) → AllByRecursion (λ y. y ≢ b) first → AllByRecursion (λ y. y ≢ b) first'
    → first ++ b ∷ rest ≡ first' ++ b ∷ rest' → (first ≡ first') × (rest ≡ rest')
cut_once b [] [] rest rest' free free' e = (refl, cc e)
cut_once b [] (y ∷ ys) rest rest' free free' e = absurd (free'.0 (sym (cc e)))
cut_once b (x ∷ xs) [] rest rest' free free' e = absurd (free.0 (cc e))
cut_once b (x ∷ xs) (y ∷ ys) rest rest' free free' e =
    let head : x ≡ y = cc e in
    let tail : xs ++ b ∷ rest ≡ ys ++ b ∷ rest' = cc e in
    let next = cut_once b xs ys rest rest' free.1 free'.1 tail in
    (ap (λ (z : ℕ). z ∷ xs) head ∙ ap (λ (zs : List ℕ). y ∷ zs) next.0, next.1)

-- a text without a byte is not cut there
pub not_cut : (b : ℕ) (first rest : List ℕ) → AllByRecursion (λ y. y ≢ b) (first ++ b ∷ rest) → ⊥
not_cut b [] rest free = free.0 refl
not_cut b (x ∷ xs) rest free = not_cut b xs rest free.1

pub if_none : {A : Type 0} {P : Type 0} (answer : Option A) → P → IfNone answer P
if_none None p = p
if_none (Some x) p = tt

-- what stands before a line feed is not in a text without one
pub cut_none : (b : ℕ) (text first rest : List ℕ) → All (λ y. y ≢ b) text → text ≢ first ++ b ∷ rest
cut_none b text first rest free e =
    not_cut b first rest (subst (AllByRecursion (λ y. y ≢ b)) e (recursion_from_All (λ y. y ≢ b) text free))

-- the parts of a text that is cut
pub cut_parts : (text : List ℕ) (b : ℕ) (first rest first' rest' : List ℕ) → IsCut text b first rest → AllByRecursion (λ y. y ≢ b) first'
    → text ≡ first' ++ b ∷ rest' → (first ≡ first') × (rest ≡ rest')
cut_parts text b first rest first' rest' h free e =
    cut_once b first first' rest rest' (recursion_from_All (λ y. y ≢ b) first h.none) free (sym h.whole ∙ e)
