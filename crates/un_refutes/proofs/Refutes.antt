-- Where the verdict is Yes, no solution costs less than the limit: what a mirror leaves out has an equal in a finished left side.
use Rattle.std.proofs.Common.{ℕ, ◌≡◌, ◌<◌, ◌≤◌, true, List, length, get_or, None, Some, IfSome, inl, inr, refl, sym, subst, ◌∙◌, arith}
use Rattle.std.specs.declared.option.Option.{Option}
use Rattle.std.proofs.lemmas.Bool.{cases_lt}
use Rattle.std.proofs.lemmas.List.{length-set}
use Rattle.std.proofs.lemmas.List.Elements.{recursion_from_All}
use Rattle.un_base.specs.declared.ids.VarId.{VarId}
use Rattle.un_domains.specs.Sets.{Sets, IsIn, NoneEmpty, has, set_at}
use Rattle.un_domains.specs.declared.side.Side.TheVariants.{AtMost}
use Rattle.un_model.specs.Boxes.{IsBelow, root_of}
use Rattle.un_model.specs.Cost.{cost_of}
use Rattle.un_model.specs.Solutions.{IsSolution}
use Rattle.un_model.specs.Variables.{IsModel}
use Rattle.un_model.specs.declared.model.Model.{Model}
use Rattle.un_model.specs.declared.model.Solution.{Solution}
use Rattle.un_post.proofs.Exact.{of_domains}
use Rattle.un_certificate.specs.ModelLaws.{posted_keeps}
use Rattle.un_certificate.specs.Posted.{IsPosted}
use Rattle.un_tree.specs.Boxes.{Splits, half, reached}
use Rattle.un_tree.specs.declared.node.Decision.{Decision}
use Rattle.un_symtree.specs.declared.node.SymNode.{SymNode}
use Rattle.un_symtree.specs.declared.node.SymNode.TheVariants.{Branch, Closed, Mirror}
use Rattle.un_walk.proofs.FinishLemmas.{finished_at, refuted}
use Rattle.un_walk.proofs.Paths.{box_by, reached_long}
use Rattle.un_walk.specs.Finished.{AreFinished, NoneIn}
use Rattle.un_walk.specs.Stands.{AllSplit}
use Rattle.un_symm.proofs.Exchanging.{is_solution, costs_same}
use Rattle.un_symm.proofs.Values.{length-exchange, value_exchanged}
use Rattle.un_symm.specs.Exchanges.{exchange_of}
use Rattle.un_mirrors.specs.Mirrors.{IsMirror, MirrorsInto, sym_branch_at}
use Rattle.un_refutes.specs.SymVerdicts.{IsVerdict, IsYes, KeepsAt, OnYes, Keeps, routes_of}
use Rattle.un_refutes.specs.declared.verdict.SymVerdict.{SymVerdict}
use Rattle.un_refutes.specs.declared.verdict.SymVerdict.TheVariants.{Yes, NotStrict, NotClosed, NotMirror, Short}

module _ (m : Model) (a b : ℕ) (first : 0 < a) (second : 0 < b) where
  -- with the registers exchanged, what is in a box that mirrors into another is in that
  exchanged_in : (box left : Sets) (x : List ℕ) → MirrorsInto m a b box left → length left ≡ length box → IsIn x box
      → IsIn (exchange_of m a b (record { values = x })).values left
  exchanged_in box left x within long is = record {
    long = length-exchange m a b (record { values = x }) ∙ (is.long ∙ sym long);
    each = λ v lt. (let there : v < length box = omega (arith, lt, long) in
        subst (λ (y : ℕ). has (set_at left v) y ≡ true) (sym (value_exchanged m a b (record { values = x }) v first second))
        (within v (get_or x v 0) there (is.each v there)));
  }

-- they are a solution below the limit too
exchanged_below : (m : Model) (limit : Option ℕ) (a b depth : ℕ) (path : List Decision) (x : List ℕ) → IsModel m
    → IsMirror m a b depth path → IsBelow m limit x → IsBelow m limit (exchange_of m a b (record { values = x })).values
exchanged_below m limit a b depth path x own h is = (
  is_solution m own a b h.alike (record { values = x }) is.0,
  by limit is.1,
)
  where
    by : (o : Option ℕ) → IfSome o (λ (n : ℕ). cost_of m (record { values = x }) < n)
        → IfSome o (λ (n : ℕ). cost_of m (exchange_of m a b (record { values = x })) < n)
    by None lt = tt
    by (Some n) lt = subst (λ (k : ℕ). k < n) (sym (costs_same m own a b h.alike (record { values = x }))) lt

module _ (m : Model) (limit : Option ℕ) (own : IsModel m) (full : NoneEmpty (root_of m)) (p : IsPosted m limit) where
  -- no solution below the limit is in the box of a mirror of a finished left side
  mirror_none : (a b depth : ℕ) (path : List Decision) → IsMirror m a b depth path → AreFinished (IsBelow m limit) (root_of m) path
      → NoneIn (IsBelow m limit) (reached (root_of m) path)
  mirror_none a b depth path h done x is below =
      let left = half (reached (root_of m) h.above) h.at.var h.at.val AtMost in
      let long : length left ≡ length (reached (root_of m) path) =
      length-set (reached (root_of m) h.above) h.at.var.0 _
      ∙ (reached_long (root_of m) h.above ∙ sym (reached_long (root_of m) path)) in
      finished_at (IsBelow m limit) (root_of m) h.above h.at h.below (subst (AreFinished (IsBelow m limit) (root_of m)) h.split done)
      h.right
      (exchange_of m a b (record { values = x })).values
      (exchanged_in m a b h.alike.nonzero.0 h.alike.nonzero.1 (reached (root_of m) path) left x h.within long is)
      (exchanged_below m limit a b depth path x own h below)

  -- nor in that of any leaf that keeps its point
  leaf_none : (n : SymNode) (path : List Decision) → KeepsAt m limit n path → sym_branch_at n ≡ None → AllSplit (root_of m) path
      → AreFinished (IsBelow m limit) (root_of m) path → NoneIn (IsBelow m limit) (reached (root_of m) path)
  leaf_none (Branch v x) path keeps is split done = absurd (cc is)
  leaf_none Closed path keeps is split done = λ x there below. posted_keeps m limit p.props p.are (reached (root_of m) path) x
      (box_by (root_of m) path full split) there below keeps
  leaf_none (Mirror a b depth) path keeps is split done = mirror_none a.0 b.0 depth path keeps done

  branch_strict : (n : SymNode) (path : List Decision) (b : VarId × ℕ) → KeepsAt m limit n path → sym_branch_at n ≡ Some b
      → Splits (reached (root_of m) path) b.0 b.1
  branch_strict (Branch v x) path b keeps is =
      let same : (v, x) ≡ b = cc is in subst (λ (c : VarId × ℕ). Splits (reached (root_of m) path) c.0 c.1) same keeps
  branch_strict Closed path b keeps is = absurd (cc is)
  branch_strict (Mirror c d depth) path b keeps is = absurd (cc is)

  -- so none is in the first box
  yes_refutes : (nodes : List SymNode) → IsYes m limit nodes → NoneIn (IsBelow m limit) (root_of m)
  yes_refutes nodes y = refuted (IsBelow m limit) sym_branch_at (root_of m) (Keeps m limit)
      (λ r b keeps is. branch_strict r.node r.path b keeps is) (λ r keeps is split done. leaf_none r.node r.path keeps is split done)
      nodes y.whole (recursion_from_All (Keeps m limit) (routes_of nodes) y.kept)

-- where all is well, no solution costs less than the limit
pub yes_sound : (m : Model) (limit : ℕ) → IsModel m → NoneEmpty (root_of m) → IsPosted m (Some limit) → (nodes : List SymNode)
    (v : SymVerdict) → IsVerdict m (Some limit) nodes v → OnYes ((x : Solution) → IsSolution m x → limit ≤ cost_of m x) v
yes_sound m limit own full p nodes Yes y = λ x is. elim (cases_lt (cost_of m x) limit) [
  | inr ge ↦ ge
  | inl less ↦ absurd (yes_refutes m (Some limit) own full p nodes y x.values
      ((of_domains m.domains (root_of m) x.values refl).1 is.in_domains) (is, less))
]
yes_sound m limit own full p nodes (NotStrict i) y = tt
yes_sound m limit own full p nodes (NotClosed i) y = tt
yes_sound m limit own full p nodes (NotMirror i) y = tt
yes_sound m limit own full p nodes Short y = tt
