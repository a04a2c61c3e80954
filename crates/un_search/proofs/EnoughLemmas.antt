-- A search with more than twice as many nodes as the first box has assignments leaves no leaf open.
use Rattle.std.proofs.Common.{ℕ, ◌≡◌, ◌≢◌, ◌+◌, ◌*◌, List, [], ◌∷◌, Option, None, Some, All, length, ap, subst, arith}
use Rattle.std.specs.List.{AllByRecursion, Contains}
use Rattle.std.proofs.lemmas.List.Elements.{Contains-get_or, recursion_from_All}
use Rattle.un_domains.specs.Sets.{NoneEmpty}
use Rattle.un_domains.specs.declared.side.Side.TheVariants.{AtMost, Above}
use Rattle.un_model.specs.declared.model.Model.{Model}
use Rattle.un_tree.proofs.Volumes.{leaves_room}
use Rattle.un_tree.proofs.PlainLaws.{AllWhole}
use Rattle.un_tree.specs.Boxes.{half}
use Rattle.un_tree.specs.Waits.{Waiting, Whole, Begins, Inside, HasSides, IsOdd, IsPlain, IsWhole, leaves, visits}
use Rattle.un_tree.specs.declared.node.Node.{Node}
use Rattle.un_tree.specs.declared.node.Node.TheVariants.{Branch, Closed, Open, Split, Part}
use Rattle.un_certificate.specs.Certificates.{IsCertificate}
use Rattle.un_certificate.specs.Joints.{blocks_of, visits_in}
use Rattle.un_model.specs.Boxes.{root_of}
use Rattle.un_search.specs.Answers.{AreEnough, IsCutOff, IsRefuted, OnCut}
use Rattle.un_search.specs.Solved.{HasNoOpenLeaf, IsCode, IsEnded, OnCode, OnInfeasible, OnOther, OnSpent}
use Rattle.un_search.specs.declared.attempt.Tried.{Tried}
use Rattle.un_search.specs.declared.attempt.Tried.TheVariants.{Found, Refuted, Cut}
use Rattle.un_search.specs.declared.solve.Answer.{Answer}
use Rattle.un_search.specs.declared.solve.Answer.TheVariants.{Code, Infeasible, Spent}

-- half of what is there and of what waits are leaves, in a tree without parts
leaf_count : (blocks i : ℕ) (ns : List Node) (ws : List Waiting) → AllByRecursion IsPlain ns → AllWhole ws → IsWhole blocks ns ws
    → length ns + length ws ≡ 2 * leaves (visits blocks i ns ws)
leaf_count blocks i [] ws plain outer whole = let e = ap length whole in omega (arith, e)
leaf_count blocks i (n ∷ ns) [] plain outer whole = absurd whole
leaf_count blocks i (n ∷ ns) (Begins k b ∷ ws) plain outer whole = absurd outer
leaf_count blocks i (n ∷ ns) (Inside k number b ∷ ws) plain outer whole = absurd outer
leaf_count blocks i (Branch v x ∷ ns) (Whole b ∷ ws) plain outer whole =
    let h = leaf_count blocks (i + 1) ns (Whole (half b v x AtMost) ∷ Whole (half b v x Above) ∷ ws) plain.1 outer whole in omega (arith, h)
leaf_count blocks i (Closed ∷ ns) (Whole b ∷ ws) plain outer whole =
    let h = leaf_count blocks (i + 1) ns ws plain.1 outer whole in omega (arith, h)
leaf_count blocks i (Open ∷ ns) (Whole b ∷ ws) plain outer whole =
    let h = leaf_count blocks (i + 1) ns ws plain.1 outer whole in omega (arith, h)
leaf_count blocks i (Split ∷ ns) (Whole b ∷ ws) plain outer whole = absurd plain.0
leaf_count blocks i (Part number ∷ ns) (Whole b ∷ ws) plain outer whole = absurd plain.0

module _ (m : Model) (full : NoneEmpty (root_of m)) (n : ℕ) (enough : AreEnough m n) where
  never_used : (limit : Option ℕ) (t : List Node) → IsCertificate m limit t → IsOdd (length t) n → ⊥
  never_used limit t h used =
      let few = leaves_room (blocks_of m) t (Whole (root_of m) ∷ []) 0
      (recursion_from_All HasSides (visits_in m t) h.tree.strict) (full, tt) in
      let count = leaf_count (blocks_of m) 0 t (Whole (root_of m) ∷ []) (recursion_from_All IsPlain t h.tree.plain) tt h.tree.whole in
      let most = used.greatest in
      omega (arith, few, count, most, enough)

  pub not_cut : (limit : Option ℕ) (r : Tried) → OnCut (IsCutOff m limit n) r → OnCut (λ (t : List Node) (low : ℕ). ⊥) r
  not_cut limit (Found s) h = tt
  not_cut limit (Refuted t) h = tt
  not_cut limit (Cut t low) h = never_used limit t.nodes.items h.certificate h.many

  none_open : (limit : Option ℕ) (t : List Node) → IsEnded m limit n t → All (λ (k : Node). k ≢ Open) t
  none_open limit t h k d lt =
      λ is. never_used limit t h.certificate (h.used (subst (Contains t) is (Contains-get_or t k d lt)))

  -- of an answer from no solution on
  pub none_left_open : (a : Answer) → OnCode (IsCode m n) a → OnInfeasible (IsRefuted m None n) a
      → OnSpent (λ (t : List Node). IsEnded m None n t × Contains t Open) a → HasNoOpenLeaf a
  none_left_open (Code s cost bound t) code refuted spent = none_open (Some cost) t.nodes.items code.tree
  none_left_open (Infeasible t) code refuted spent = refuted.closed
  none_left_open (Spent t) code refuted spent = never_used None t.nodes.items spent.0.certificate (spent.0.used spent.1)

  -- of one from a solution on
  pub code_left_open : (a : Answer) → OnCode (IsCode m n) a → OnOther ⊥ a → HasNoOpenLeaf a
  code_left_open (Code s cost bound t) code found = none_open (Some cost) t.nodes.items code.tree
  code_left_open (Infeasible t) code found = absurd found
  code_left_open (Spent t) code found = absurd found
