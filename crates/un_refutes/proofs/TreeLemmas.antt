-- The check of a list of nodes, one after another.
use Rattle.std.proofs.Common.{ℕ, zero, suc, ◌≡◌, ◌<◌, ◌≤◌, ◌+◌, List, [], ◌∷◌, length, drop, get_or, None, Some, MatchOption, add-one}
use Rattle.std.proofs.Common.{refl, sym, ap, subst, arith}
use Rattle.std.specs.declared.option.Option.{Option}
use Rattle.std.proofs.Math.Seq.{drop-cons}

-- what is so of the nodes from a place on, by the node there
pub next_node : {N : Type 0} (P : List N → Type 0) (nodes read : List N) (i : ℕ) (d : N) → read ≡ nodes → i < length read
    → P (drop i nodes) → P (get_or read i d ∷ drop (i + 1) nodes)
next_node {N} P nodes read i d same lt h =
    let below : i < length nodes = omega (arith, lt, ap length same) in
    let e : drop i nodes ≡ get_or nodes i d ∷ drop (i + 1) nodes = rw (add-one, drop-cons nodes i d) refl in
    subst (λ (ns : List N). P (get_or ns i d ∷ drop (i + 1) nodes)) (sym same) (subst P e h)

-- behind the last node
pub no_node : {N : Type 0} (P : List N → Type 0) (nodes : List N) (i : ℕ) → length nodes ≤ i → P (drop i nodes) → P []
no_node P nodes i le h = subst P (none i nodes le) h
  where
    none : {N : Type 0} (n : ℕ) (ns : List N) → length ns ≤ n → drop n ns ≡ []
    none zero [] le = refl
    none zero (k ∷ ks) le = absurd (omega (arith, le))
    none (suc n) [] le = refl
    none (suc n) (k ∷ ks) le = none n ks (omega (arith, le))

pub told : {A : Type 0} (P : Type 0) (Q : A → Type 0) (o : Option A) (v : A) → MatchOption o P Q → o ≡ Some v → Q v
told P Q o v h is = subst (λ (k : Option _). MatchOption k P Q) is h

pub silent : {A : Type 0} (P : Type 0) (Q : A → Type 0) (o : Option A) → MatchOption o P Q → o ≡ None → P
silent P Q o h is = subst (λ (k : Option _). MatchOption k P Q) is h
