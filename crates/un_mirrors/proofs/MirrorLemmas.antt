-- What a mirror's third need comes to: the values of few variables, exchanged, pass few decisions.
use Rattle.std.proofs.Common.{ℕ, suc, ◌≡◌, true, List, [], ◌∷◌, ◌++◌, take, drop, Some, None, All}
use Rattle.std.proofs.Common.{refl, sym, ap, subst, ◌∙◌}
use Rattle.std.specs.Prelude.{slice_get}
use Rattle.std.specs.List.{AllByRecursion}
use Rattle.std.proofs.Math.Seq.{take-append_seam}
use Rattle.std.proofs.lemmas.List.Elements.{All-from_recursion, recursion_from_All}
use Rattle.un_domains.specs.Sets.{Sets, set_at, has}
use Rattle.un_domains.specs.Sides.{side_test}
use Rattle.un_domains.specs.declared.side.Side.TheVariants.{AtMost, Above}
use Rattle.un_model.specs.Boxes.{root_of}
use Rattle.un_model.specs.declared.model.Model.{Model}
use Rattle.un_model.specs.declared.model.TempVars.{TempVars}
use Rattle.un_tree.specs.Boxes.{half, reached}
use Rattle.un_tree.specs.declared.node.Decision.{Decision}
use Rattle.un_symm.specs.Exchanges.{exchanged_at}
use Rattle.un_symm.specs.Interchangeable.{AreInterchangeable}
use Rattle.un_symm.proofs.Exchanging.{closed}
use Rattle.un_mirrors.specs.Exchanged.{Passes, PassesExchanged, left_of}
use Rattle.un_mirrors.specs.Mirrors.{MirrorsInto, IsMirror}
use Rattle.un_mirrors.proofs.NearestLemmas.{get_here, parted}
use Rattle.un_mirrors.proofs.Kept.{PassesAt, has_there, kept_to, kept_from, reached_to, reached_from}

-- ---- decisions that the values of a box pass

-- what each value passes, by the decisions
by_decision : (box : Sets) (f : ℕ → ℕ → ℕ) (ds : List Decision)
    → ((v x : ℕ) → has (set_at box v) x ≡ true → AllByRecursion (PassesAt v (f v x)) ds)
    → AllByRecursion (λ (d : Decision). (x : ℕ) → has (set_at box d.var.0) x ≡ true → side_test d.side d.val (f d.var.0 x) ≡ true) ds
by_decision box f [] all = tt
by_decision box f (d ∷ ds) all = (λ x h. (all d.var.0 x h).0 refl, by_decision box f ds (λ v x h. (all v x h).1))

-- the values of the box at the end of a path pass each decision there
pub path_passes : (root : Sets) (path : List Decision) → AllByRecursion (Passes (reached root path)) path
path_passes root path = by_decision (reached root path) (λ v x. x) path (λ v x h. (reached_to root path v x h).1)

module _ (temps : List TempVars) (a b : ℕ) (box : Sets) (v x : ℕ) (h : has (set_at box v) x ≡ true) where
  pass_at : (d : Decision) → PassesExchanged temps a b box d → PassesAt v (exchanged_at temps a b v x) d
  pass_at d p e = subst (λ (u : ℕ). side_test d.side d.val (exchanged_at temps a b u x) ≡ true) e
      (p x (subst (λ (u : ℕ). has (set_at box u) x ≡ true) (sym e) h))

  pass_all : (ds : List Decision) → AllByRecursion (PassesExchanged temps a b box) ds
      → AllByRecursion (PassesAt v (exchanged_at temps a b v x)) ds
  pass_all [] all = tt
  pass_all (d ∷ ds) all = (pass_at d all.0, pass_all ds all.1)

-- ---- the third need

module _ (m : Model) (a b : ℕ) (path above : List Decision) (at : Decision) where
  abbrev box : Sets
  box = reached (root_of m) path

  abbrev left : Sets
  left = half (reached (root_of m) above) at.var at.val AtMost

  pub within_from : AreInterchangeable m a b → AllByRecursion (PassesExchanged m.temps a b box) above
      → PassesExchanged m.temps a b box (left_of at) → MirrorsInto m a b box left
  within_from alike each last v x there h =
      let y = exchanged_at m.temps a b v x in
      let first : has (set_at (root_of m) v) y ≡ true = closed m a b alike v x ∙ (reached_to (root_of m) path v x h).0 in
      kept_from (side_test AtMost at.val) (reached (root_of m) above) at.var.0 v y
      (reached_from (root_of m) above v y first (pass_all m.temps a b box v x h above each))
      (pass_at m.temps a b box v x h (left_of at) last)

  pub within_to : MirrorsInto m a b box left
      → AllByRecursion (PassesExchanged m.temps a b box) above × PassesExchanged m.temps a b box (left_of at)
  within_to within = (
    by_decision box (exchanged_at m.temps a b) above (λ v x h.
        (reached_to (root_of m) above v (exchanged_at m.temps a b v x) (passed v x h).0).1),
    λ x h. (passed at.var.0 x h).1 refl,
  )
    where
      passed : (v x : ℕ) → has (set_at box v) x ≡ true
          → (has (set_at (reached (root_of m) above) v) (exchanged_at m.temps a b v x) ≡ true)
          × (at.var.0 ≡ v → side_test AtMost at.val (exchanged_at m.temps a b v x) ≡ true)
      passed v x h = kept_to (side_test AtMost at.val) (reached (root_of m) above) at.var.0 v (exchanged_at m.temps a b v x)
          (within v x (has_there box v x h) h)

-- ---- the three needs

module _ (m : Model) (a b depth : ℕ) (path : List Decision) where
  mirror_here : (h : IsMirror m a b depth path) → slice_get path depth ≡ Some h.at
  mirror_here h = ap (λ (ds : List Decision). slice_get ds depth) h.split
      ∙ (ap (slice_get (h.above ++ h.at ∷ h.below)) (sym h.deep) ∙ get_here h.above h.below h.at)

  mirror_above : (h : IsMirror m a b depth path) → take depth path ≡ h.above
  mirror_above h = ap (take depth) h.split
      ∙ (ap (λ (k : ℕ). take k (h.above ++ h.at ∷ h.below)) (sym h.deep) ∙ take-append_seam h.above (h.at ∷ h.below))

  -- there is no such decision
  pub no_decision : slice_get path depth ≡ None → IsMirror m a b depth path → ⊥
  no_decision none h = let e = mirror_here h in cc (e, none)

  module _ (at : Decision) (here : slice_get path depth ≡ Some at) where
    same_at : (h : IsMirror m a b depth path) → h.at ≡ at
    same_at h = let e = mirror_here h in cc (e, here)

    -- the path goes to its left side
    pub left_decision : at.side ≡ AtMost → IsMirror m a b depth path → ⊥
    left_decision left h = let e = ap (λ (d : Decision). d.side) (same_at h) in let r = h.right in cc (e, left, r)

    pub mirror_from : at.side ≡ Above → All (PassesExchanged m.temps a b (reached (root_of m) path)) (take depth path)
        → PassesExchanged m.temps a b (reached (root_of m) path) (left_of at) → AreInterchangeable m a b → IsMirror m a b depth path
    mirror_from right each last alike = let parts = parted path depth at here in record {
      alike = alike;
      above = take depth path;
      at = at;
      below = drop (suc depth) path;
      split = parts.split;
      deep = parts.deep;
      right = right;
      within = within_from m a b path (take depth path) at alike (recursion_from_All _ _ each) last;
    }

    pub mirror_to : (h : IsMirror m a b depth path) → All (PassesExchanged m.temps a b (reached (root_of m) path)) (take depth path)
        × PassesExchanged m.temps a b (reached (root_of m) path) (left_of at)
    mirror_to h = let both = within_to m a b path h.above h.at h.within in (
      subst (All (PassesExchanged m.temps a b (reached (root_of m) path))) (sym (mirror_above h)) (All-from_recursion _ h.above both.0),
      subst (λ (d : Decision). PassesExchanged m.temps a b (reached (root_of m) path) (left_of d)) (same_at h) both.1,
    )
