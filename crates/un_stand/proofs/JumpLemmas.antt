-- Ways up to the first decisions of a path, and down to its end.
use Rattle.std.proofs.Common.{◌≡◌, ℕ, zero, suc, ◌+◌, ◌<◌, ◌≤◌, List, [], ◌∷◌, ◌++◌, length, take, get_or, None, Some, IfNone}
use Rattle.std.proofs.Common.{length-append, refl, sym, ap, subst, ◌∙◌, arith}
use Rattle.std.proofs.lemmas.List.{take_more, take-append-le}
use Rattle.std.specs.declared.option.Option.{Option}
use Rattle.std.specs.Option.{option_to_list}
use Rattle.un_domains.specs.Sets.{Sets}
use Rattle.un_tree.specs.Boxes.{Splits, decided, reached}
use Rattle.un_tree.specs.declared.node.Decision.{Decision}
use Rattle.un_walk.specs.Stands.{AllSplit}

-- one decision less, behind those that are kept
pub up_kept : (old new : List Decision) (r : Option Decision) (keep : ℕ) → keep < length old → old ≡ new ++ option_to_list r
    → IfNone r (old ≡ []) → (take keep new ≡ take keep old) × (length new < length old)
up_kept old new None keep lt is none = absurd (omega (arith, lt, ap length none))
up_kept old new (Some d) keep lt is none =
    let long = ap length is in
    let one = length-append new (d ∷ []) in (
      sym (take-append-le keep new (d ∷ []) (omega (arith, lt, long, one))) ∙ ap (take keep) (sym is),
      omega (arith, long, one),
    )

pub taken_whole : (keep : ℕ) (ds old : List Decision) → length ds ≤ keep → take keep ds ≡ take keep old → ds ≡ take keep old
taken_whole keep ds old le e = sym (take_all keep ds le) ∙ e
  where
    take_all : (n : ℕ) (xs : List Decision) → length xs ≤ n → take n xs ≡ xs
    take_all zero [] le = refl
    take_all zero (x ∷ xs) le = absurd (omega (arith, le))
    take_all (suc n) [] le = refl
    take_all (suc n) (x ∷ xs) le = ap (λ (ys : List Decision). x ∷ ys) (take_all n xs (omega (arith, le)))

pub further : (ds ps qs : List Decision) (n : ℕ) (d : Decision) → n < length ds → ps ≡ take n ds → qs ≡ ps ++ get_or ds n d ∷ []
    → qs ≡ take (n + 1) ds
further ds ps qs n d lt is next = next ∙ (ap (λ (es : List Decision). es ++ get_or ds n d ∷ []) is ∙ sym (take_more ds n d lt))

-- each decision of a path splits the box of those before it
split_here : (b : Sets) (ds : List Decision) (n : ℕ) (d : Decision) → AllSplit b ds → n < length ds
    → Splits (reached b (take n ds)) (get_or ds n d).var (get_or ds n d).val
split_here b [] n d all lt = absurd (omega (arith, lt))
split_here b (x ∷ ds) zero d all lt = all.0
split_here b (x ∷ ds) (suc n) d all lt = split_here (decided x b) ds n d all.1 (omega (arith, lt))

pub split_next : (b : Sets) (ds ps : List Decision) (n : ℕ) (d : Decision) → AllSplit b ds → n < length ds → ps ≡ take n ds
    → Splits (reached b ps) (get_or ds n d).var (get_or ds n d).val
split_next b ds ps n d all lt is =
    subst (λ (es : List Decision). Splits (reached b es) (get_or ds n d).var (get_or ds n d).val) (sym is) (split_here b ds n d all lt)

-- where a store has the box of those before it
pub split_at : (s b : Sets) (ds ps : List Decision) (n : ℕ) (d : Decision) → s ≡ reached b ps → AllSplit b ds → n < length ds → ps ≡ take n ds
    → Splits s (get_or ds n d).var (get_or ds n d).val
split_at s b ds ps n d same all lt is =
    subst (λ (c : Sets). Splits c (get_or ds n d).var (get_or ds n d).val) (sym same) (split_next b ds ps n d all lt is)
