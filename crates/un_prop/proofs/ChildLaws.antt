-- A child of a node of a search.
use Rattle.std.proofs.Common.{ℕ, zero, suc, ◌≡◌, ◌≢◌, ◌<◌, ◌⊎◌, Bool, List, [], ◌∷◌, length, get_or, Some, MatchOption, option_and_then}
use Rattle.std.proofs.Common.{All, sym, ap, ◌∙◌, subst, arith, inl, inr}
use Rattle.std.specs.declared.option.Option.{Option}
use Rattle.std.specs.Bool.{⊤}
use Rattle.std.proofs.lemmas.List.Elements.{recursion_from_All, All-from_recursion, All-contains}
use Rattle.un_base.specs.declared.ids.VarId.{VarId}
use Rattle.un_domains.specs.Sets.{Sets, set_at, cut_by, NoneEmpty}
use Rattle.un_prop.specs.Rounds.{HasVars, fix_of}
use Rattle.un_prop.specs.Pruning.{IsFix}
use Rattle.un_prop.specs.declared.run.Fix.{Fix}
use Rattle.un_domains.specs.Order.{Below}
use Rattle.un_prop.specs.Lawful.{Lawful}
use Rattle.un_domains.specs.OrderLaws.{Below-refl, set_same}
use Rattle.un_prop.specs.Steps.{find_var}
use Rattle.un_prop.specs.Fixes.{order_free}
use Rattle.un_prop.specs.Nodes.{decide_by, fix_child}
use Rattle.un_prop.specs.Queues.{IsTable, IsReady, IsSizes, Grows, AllWait}
use Rattle.un_prop.specs.QueueLaws.{ready_after}

pub has_one : (v : VarId) (s : Sets) → v.0 < length s → HasVars (v ∷ []) s
has_one v s lt zero d below = lt
has_one v s lt (suc i) d below = absurd (omega (arith, below))

-- a lawful cut of some variables, and the queue after it
module _ (vs : List VarId) (d : Sets → Option Sets) (h : Lawful vs d) (s t : Sets) (k : HasVars vs s) (full : NoneEmpty s)
    (is : d s ≡ Some t) (sizes sizes' : List ℕ) (counted : IsSizes sizes s) where
  less : Below t s × NoneEmpty t
  less = subst (λ (c : Option Sets). MatchOption c ⊤ (λ x. Below x s × NoneEmpty x)) is (h.shrinks s k full)

  pub sizes_after : length sizes' ≡ length sizes → All (λ v. get_or sizes' v.0 0 ≡ length (set_at t v.0)) vs
      → ((w : ℕ) → All (λ v. (w ≡ v.0) → ⊥) vs → get_or sizes' w 0 ≡ get_or sizes w 0) → IsSizes sizes' t
  sizes_after long noted others = record {
    long = long ∙ (counted.long ∙ sym less.0.long);
    each = λ v below. elim (find_var vs v) [
      | inl there ↦ subst (λ (w : ℕ). get_or sizes' w 0 ≡ length (set_at t w)) (sym there.2)
          (All-contains (λ u. get_or sizes' u.0 0 ≡ length (set_at t u.0)) vs there.0 noted there.1)
      | inr all ↦ (let out = All-from_recursion (λ u. v ≢ u.0) vs all in others v out
          ∙ (counted.each v (omega (arith, below, less.0.long)) ∙
          ap length (sym (subst (λ (c : Option Sets). MatchOption c ⊤ (λ x. set_at x v ≡ set_at s v)) is (h.outside s v out)))))
    ];
  }

  pub ready_next : {P : Type 0} (scope : P → List VarId) (cut : P → Sets → Option Sets) → ((p : P) → Lawful (scope p) (cut p))
      → (ps : List P) (vars : ℕ) (table : Sets) (ws ws' : List Bool) → IsTable scope ps vars table → All (λ p. HasVars (scope p) s) ps
      → IsSizes sizes' t → Grows ws ws' → ((w : ℕ) → (get_or sizes' w 0 ≡ get_or sizes w 0) ⊎ AllWait table ws' w) → IsReady cut ps ws s
      → IsReady cut ps ws' t
  ready_next scope cut lawful ps vars table ws ws' tab known after grows woken ready =
      ready_after scope cut lawful ps vars table ws ws' s t tab known full less.1 less.0.long
      (λ v below. elim (woken v) [
        | inl same ↦ inl (sym (set_same t s v less.0 (sym (after.each v (omega (arith, below, less.0.long)))
            ∙ (same ∙ counted.each v below))))
        | inr all ↦ inr all
      ]) grows ready

module _ {P : Type 0} (scope : P → List VarId) (cut : P → Sets → Option Sets) (lawful : (p : P) → Lawful (scope p) (cut p))
    (ps : List P) where
  -- a stable store is its own end
  pub fix_stable : (f : Sets) → All (λ p. HasVars (scope p) f) ps → NoneEmpty f → All (λ p. cut p f ≡ Some f) ps → fix_of cut ps f ≡ Some f
  fix_stable f known full stable = order_free scope cut lawful ps f (Some f) (recursion_from_All _ _ known) full
      (record { below = Below-refl f; full = full; stable = recursion_from_All _ _ stable; greatest = λ u b fu e. b })

  pub child_fix : (v : VarId) (q : ℕ → Bool) (box f : Sets) (c : Option Sets) (new : Sets) (answer : Fix) → v.0 < length box
      → All (λ p. HasVars (scope p) box) ps → NoneEmpty box → fix_of cut ps box ≡ Some f → cut_by q v.0 f ≡ c
      → IsFix (option_and_then (fix_of cut ps) c) new answer → IsFix (option_and_then (fix_of cut ps) (cut_by q v.0 box)) new answer
  child_fix v q box f c new answer there known full end is h =
      let same = fix_child scope cut lawful ps box f (v ∷ []) (cut_by q v.0) (decide_by v q) (has_one v box there)
      (recursion_from_All _ _ known) full end in
      subst (λ (o : Option Sets). IsFix o new answer) (sym (ap (option_and_then (fix_of cut ps)) is) ∙ same) h
