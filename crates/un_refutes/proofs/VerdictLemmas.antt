-- A list of nodes has one verdict.
use Rattle.std.proofs.Common.{ℕ, ◌≡◌, ◌⊎◌, inl, inr, List, [], ◌∷◌, ◌++◌, length, All, refl, sym, ap, subst, ◌∙◌, length-append, arith}
use Rattle.std.specs.declared.option.Option.{Option}
use Rattle.std.specs.List.{AllByRecursion}
use Rattle.std.proofs.lemmas.List.{get_or_at}
use Rattle.std.proofs.lemmas.List.Elements.{recursion_from_All}
use Rattle.un_model.specs.declared.model.Model.{Model}
use Rattle.un_symtree.specs.declared.node.SymNode.{SymNode}
use Rattle.un_walk.specs.Routes.{Route}
use Rattle.un_refutes.specs.SymVerdicts.{IsFirstBreak, IsShort, IsVerdict, IsYes, Keeps, point_of, routes_of}
use Rattle.un_refutes.specs.declared.verdict.SymVerdict.{SymVerdict}
use Rattle.un_refutes.specs.declared.verdict.SymVerdict.TheVariants.{Yes, NotStrict, NotClosed, NotMirror, Short}

module _ (m : Model) (limit : Option ℕ) where
  -- the first that breaks its point stands at one place
  split_one : (xs ys : List (Route SymNode)) (a b : Route SymNode) (vs bs : List (Route SymNode)) → xs ++ a ∷ vs ≡ ys ++ b ∷ bs
      → AllByRecursion (Keeps m limit) xs → AllByRecursion (Keeps m limit) ys → (Keeps m limit a → ⊥) → (Keeps m limit b → ⊥) → a ≡ b
  split_one [] [] a b vs bs e p q f g = cc e
  split_one [] (y ∷ ys) a b vs bs e p q f g = let same : y ≡ a = cc e in absurd (f (subst (Keeps m limit) same q.0))
  split_one (x ∷ xs) [] a b vs bs e p q f g = let same : x ≡ b = cc e in absurd (g (subst (Keeps m limit) same p.0))
  split_one (x ∷ xs) (y ∷ ys) a b vs bs e p q f g =
      let rest : xs ++ a ∷ vs ≡ ys ++ b ∷ bs = cc e in split_one xs ys a b vs bs rest p.1 q.1 f g

  -- a list has one first node that breaks its point
  first_one : (rs : List (Route SymNode)) (u v : SymVerdict) → IsFirstBreak m limit rs u → IsFirstBreak m limit rs v → u ≡ v
  first_one rs u v x y =
      let same : x.at ≡ y.at = split_one x.before y.before x.at y.at x.behind y.behind (sym x.split ∙ y.split)
      (recursion_from_All (Keeps m limit) x.before x.kept) (recursion_from_All (Keeps m limit) y.before y.kept) x.breaks.1 y.breaks.1 in
      x.breaks.0 ∙ (ap (λ (r : Route SymNode). point_of r.node r.place) same ∙ sym y.breaks.0)

  -- no node breaks its point where all keep theirs
  pub first_not : (rs : List (Route SymNode)) (v : SymVerdict) → IsFirstBreak m limit rs v → All (Keeps m limit) rs → ⊥
  first_not rs v x kept = x.breaks.1 (subst (Keeps m limit) (get_or_at x.before x.at x.behind x.at (length x.before) refl)
      (subst (All (Keeps m limit)) x.split kept (length x.before) x.at
      (omega (arith, length-append x.before (x.at ∷ x.behind)))))

  -- the three kinds of verdicts
  kinds : (nodes : List SymNode) (v : SymVerdict) → IsVerdict m limit nodes v
      → ((v ≡ Yes) × IsYes m limit nodes) ⊎ ((v ≡ Short) × IsShort m limit nodes) ⊎ IsFirstBreak m limit (routes_of nodes) v
  kinds nodes Yes h = inl (refl, h)
  kinds nodes Short h = inr (inl (refl, h))
  kinds nodes (NotStrict i) h = inr (inr h)
  kinds nodes (NotClosed i) h = inr (inr h)
  kinds nodes (NotMirror i) h = inr (inr h)

  pub verdict_one : (nodes : List SymNode) (u v : SymVerdict) → IsVerdict m limit nodes u → IsVerdict m limit nodes v → u ≡ v
  verdict_one nodes u v x y = by (kinds nodes u x) (kinds nodes v y)
    where
      by : ((u ≡ Yes) × IsYes m limit nodes) ⊎ ((u ≡ Short) × IsShort m limit nodes) ⊎ IsFirstBreak m limit (routes_of nodes) u
          → ((v ≡ Yes) × IsYes m limit nodes) ⊎ ((v ≡ Short) × IsShort m limit nodes) ⊎ IsFirstBreak m limit (routes_of nodes) v
          → u ≡ v
      by (inl p) (inl q) = p.0 ∙ sym q.0
      by (inl p) (inr (inl q)) = absurd (q.1.torn p.1.whole)
      by (inl p) (inr (inr q)) = absurd (first_not (routes_of nodes) v q p.1.kept)
      by (inr (inl p)) (inl q) = absurd (p.1.torn q.1.whole)
      by (inr (inl p)) (inr (inl q)) = p.0 ∙ sym q.0
      by (inr (inl p)) (inr (inr q)) = absurd (first_not (routes_of nodes) v q p.1.kept)
      by (inr (inr p)) (inl q) = absurd (first_not (routes_of nodes) u p q.1.kept)
      by (inr (inr p)) (inr (inl q)) = absurd (first_not (routes_of nodes) u p q.1.kept)
      by (inr (inr p)) (inr (inr q)) = first_one (routes_of nodes) u v p q
