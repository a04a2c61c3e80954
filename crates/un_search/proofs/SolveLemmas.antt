-- What the tree of a last attempt says of the best solution.
use Rattle.std.proofs.Common.{ℕ, ◌≡◌, ◌≢◌, ◌+◌, List, [], ◌∷◌, Option, None, Some, All, max, inl, inr, refl, subst, arith}
use Rattle.std.specs.List.{AllByRecursion, Contains}
use Rattle.std.proofs.lemmas.List.Elements.{All-contains, recursion_from_All, All-from_recursion}
use Rattle.un_ir.specs.Extended.{IsExtended}
use Rattle.un_isa.specs.Fit.{IsFit}
use Rattle.un_model.specs.declared.model.Model.{Model}
use Rattle.un_model.specs.declared.model.Solution.{Solution}
use Rattle.un_model.specs.Options.{AreOptions}
use Rattle.un_model.specs.Solutions.{IsSolution}
use Rattle.un_model.specs.Variables.{IsModel}
use Rattle.un_bound.proofs.Plains.{plain_below}
use Rattle.un_tree.specs.Waits.{Waiting, Whole, Visit, after, visits}
use Rattle.un_tree.specs.declared.node.Node.{Node}
use Rattle.un_tree.specs.declared.node.Node.TheVariants.{Open}
use Rattle.un_certificate.proofs.Lowest.{bound_one, lowest_none}
use Rattle.un_certificate.proofs.Lows.{bound_below, refuted, standing}
use Rattle.un_certificate.specs.Bounds.{IsBound}
use Rattle.un_certificate.specs.Joints.{blocks_of, visits_in}
use Rattle.un_model.specs.Boxes.{root_of}
use Rattle.un_search.specs.Answers.{IsLeftOfRoot, IsRefuted, IsCutOff}
use Rattle.un_search.specs.Solved.{IsBest, IsByRounds, IsCode, IsEnded, OnCode, OnInfeasible}
use Rattle.un_search.specs.declared.best.Best.{Best}
use Rattle.un_search.specs.declared.solve.Answer.{Answer}
use Rattle.un_search.specs.declared.solve.Answer.TheVariants.{Code, Infeasible, Spent}

-- no leaf is open where no node is
closed_not_open : (t : List Node) → All (λ (n : Node). n ≢ Open) t → Contains t Open → ⊥
closed_not_open t closed some = All-contains (λ (n : Node). n ≢ Open) t Open closed some refl

-- ---- how an attempt ended

pub refuted_ended : (m : Model) (limit : Option ℕ) (n : ℕ) (t : List Node) → IsRefuted m limit n t → IsEnded m limit n t
refuted_ended m limit n t h = record {
  certificate = h.certificate;
  few = h.few;
  used = λ some. absurd (closed_not_open t h.closed some);
}

pub cut_ended : (m : Model) (limit : Option ℕ) (n : ℕ) (t : List Node) (low : ℕ) → IsCutOff m limit n t low → IsEnded m limit n t
cut_ended m limit n t low h = record { certificate = h.certificate; few = h.many.within; used = λ some. h.many }

-- ---- the least of the limit and of the open leaves

closed_at : (blocks i : ℕ) (ns : List Node) (ws : List Waiting) → AllByRecursion (λ (n : Node). n ≡ Open → ⊥) ns
    → AllByRecursion (λ (p : Visit). p.node ≡ Open → ⊥) (visits blocks i ns ws)
closed_at blocks i [] ws closed = tt
closed_at blocks i (n ∷ ns) [] closed = tt
closed_at blocks i (n ∷ ns) (w ∷ ws) closed = (closed.0, closed_at blocks (i + 1) ns (after blocks n w ws) closed.1)

-- no leaf is open where no node is
pub closed_visits : (m : Model) (t : List Node) → All (λ (n : Node). n ≢ Open) t → All (λ (p : Visit). p.node ≢ Open) (visits_in m t)
closed_visits m t closed = All-from_recursion (λ (p : Visit). p.node ≢ Open) (visits_in m t)
    (closed_at (blocks_of m) 0 t (Whole (root_of m) ∷ []) (recursion_from_All (λ (n : Node). n ≡ Open → ⊥) t closed))

-- ---- the best solution with a bound

module _ (m : Model) (own : IsModel m) (extended : IsExtended m.ext) (fit : IsFit m.ext.table) (options : AreOptions m.options) (n : ℕ) where
  -- a bound is the cost where no leaf is open
  bound_equal : (b : Best) (t : List Node) (bound : ℕ) → IsBest m n b → IsBound m b.cost (visits_in m t) bound
      → All (λ (k : Node). k ≢ Open) t → bound ≡ b.cost
  bound_equal b t bound best shown closed =
      let le = plain_below m b.solution shown.plain own extended fit options best.solution shown.is_plain in
      let e = best.cost in
      let top : IsBound m b.cost (visits_in m t) (max shown.plain b.cost) = record {
        plain = shown.plain;
        low = b.cost;
        is_plain = shown.is_plain;
        is_lowest = lowest_none m b.cost (visits_in m t) (closed_visits m t closed);
        greatest = refl;
      } in
      let one = bound_one m b.cost (visits_in m t) bound (max shown.plain b.cost) shown top in
      omega (arith, le, e, one)

  pub best_code : (b : Best) (t : List Node) (bound : ℕ) → IsBest m n b → IsEnded m (Some b.cost) n t
      → IsBound m b.cost (visits_in m t) bound → IsCode m n b.solution b.cost bound t
  best_code b t bound best ended shown = record {
    solution = best.solution;
    priced = best.cost;
    tight = best.tight;
    tree = ended;
    shown = shown;
    least = bound_below m b.cost t own extended fit options (standing m (Some b.cost) t ended.certificate) bound shown;
    equal = bound_equal b t bound best shown;
  }

-- ---- answers

-- what follows of the tree that shows that there is none
pub on_infeasible : (P Q : List Node → Type 0) → ((t : List Node) → P t → Q t) → (a : Answer) → OnInfeasible P a → OnInfeasible Q a
on_infeasible P Q so (Code s cost bound t) h = tt
on_infeasible P Q so (Infeasible t) h = so t.nodes.items h
on_infeasible P Q so (Spent t) h = tt

-- there is no solution where the tree without a limit has no open leaf
pub none_left : (m : Model) (n : ℕ) (t : List Node) → IsModel m → IsExtended m.ext → IsFit m.ext.table → AreOptions m.options
    → IsRefuted m None n t → (x : Solution) → IsSolution m x → ⊥
none_left m n t own extended fit options h x is =
    refuted m None t own extended fit options (standing m None t h.certificate) h.closed x.values (is, tt)

-- what follows of the solution of code
pub on_code : (P Q : Solution → Type 0) → ((s : Solution) → P s → Q s) → (a : Answer) → OnCode (λ s cost bound t. P s) a
    → OnCode (λ s cost bound t. Q s) a
on_code P Q so (Code s cost bound t) h = so s h
on_code P Q so (Infeasible t) h = tt
on_code P Q so (Spent t) h = tt

-- ---- with one node or two

-- what is found from a solution on that the rounds left is such a solution too
pub rounds_from : (m : Model) (limit : Option ℕ) (start : Option Solution) (s t : Solution) → IsLeftOfRoot m limit s
    → IsByRounds m (Some s) t → IsByRounds m start t
rounds_from m limit start s t left (inl same) = (let e : s ≡ t = cc same in inr (limit, subst (IsLeftOfRoot m limit) e left))
rounds_from m limit start s t left (inr by) = inr by

-- nor is what is found from no solution on the start
pub rounds_alone : (m : Model) (start : Option Solution) (s : Solution) → IsByRounds m None s → IsByRounds m start s
rounds_alone m start s (inl same) = absurd (cc same)
rounds_alone m start s (inr by) = inr by
