-- The laws of the rounds of what is posted for a model, or for a block of it.
use Rattle.std.proofs.Common.{ℕ, ◌≡◌, ◌<◌, ◌≤◌, true, All, List, [], ◌∷◌, length, get_or, Option, None, Some, refl, sym, ◌∙◌, subst, arith}
use Rattle.std.proofs.Math.Logic.{∥∥₁_elim}
use Rattle.std.proofs.Props.{props}
use Rattle.std.specs.List.{AllByRecursion}
use Rattle.std.proofs.lemmas.List.Elements.{recursion_from_All, All-from_recursion}
use Rattle.un_domains.specs.Order.{Below}
use Rattle.un_domains.specs.OrderLaws.{Below-trans, has_below, has_here}
use Rattle.un_domains.specs.Sets.{Sets, IsIn, IsSingle, NoneEmpty, has}
use Rattle.un_prop.specs.Fixes.{IsFixOf, IsGreatest, Known, Stable, fix_greatest, known_long}
use Rattle.un_prop.specs.KeepLaws.{fix_refutes}
use Rattle.un_prop.specs.Nodes.{fix_part_fails}
use Rattle.un_prop.specs.Rounds.{HasVars}
use Rattle.un_prop.specs.SingleLaws.{single_holds}
use Rattle.un_kinds.specs.AnyProps.{scope_of, holds_of, cut_of, parts_of, any_lawful, any_keeps, any_whole, any_within, any_forward}
use Rattle.un_kinds.specs.declared.any.AnyProp.{AnyProp}
use Rattle.un_model.specs.declared.model.Model.{Model}
use Rattle.un_bound.specs.Relaxations.{IsLeast}
use Rattle.un_bound.proofs.Boxes.{least_rises}
use Rattle.un_post.specs.PartPosts.{IsPartBelow, IsPartExact, fix_part}
use Rattle.un_post.specs.Posts.{IsExact, IsGrounded, FailsWhereEmpty, fix_at}
use Rattle.un_tree.specs.Boxes.{IsBox}
use Rattle.un_certificate.specs.Certificates.{IsEmptyUnder}
use Rattle.un_model.specs.Boxes.{IsBelow, root_of}
use Rattle.un_certificate.specs.Posted.{AreRounds, ArePosted, IsPosted, ArePartPosted}

single_in : (f root : Sets) (x : List ℕ) → IsSingle x f → Below f root → IsIn x root
single_in f root x single below = record {
  long = single.long ∙ below.long;
  each = λ v lt. (let there : v < length f = omega (arith, lt, below.long) in
      has_below f root v (get_or x v 0) below
      (subst (λ (xs : List ℕ). has xs (get_or x v 0) ≡ true) (sym (single.each v there)) (has_here (get_or x v 0) [])));
}

-- propagators that leave single values as they are hold
each_holds : (ps : List AnyProp) (f : Sets) (x : List ℕ) → IsSingle x f → Known scope_of cut_of any_lawful ps f
    → AllByRecursion IsGrounded ps → Stable cut_of ps f → AllByRecursion (λ (p : AnyProp). holds_of p x ≡ true) ps
each_holds [] f x single known grounded stable = tt
each_holds (p ∷ ps) f x single known grounded stable = (
  single_holds (scope_of p) (holds_of p) (cut_of p) (parts_of p) (any_whole p) (any_within p) (any_forward p) (any_lawful p) (any_keeps p)
      f x known.0 single (λ none. grounded.0 none x) stable.0,
  each_holds ps f x single known.1 grounded.1 stable.1,
)

-- the laws of rounds, from propagators of which only that is known
module _ (root : Sets) (fix : Sets → Option Sets) (ps : List AnyProp) (h : AreRounds root fix ps) where
  pub rounds_known : (b : Sets) → length b ≡ length root → Known scope_of cut_of any_lawful ps b
  rounds_known b long = known_long scope_of cut_of any_lawful ps root b long
      (recursion_from_All (λ (p : AnyProp). HasVars (scope_of p) root) ps h.reads)

  rounds_end : (b f : Sets) → IsBox root b → fix b ≡ Some f → IsGreatest cut_of ps b f
  rounds_end b f i e = subst (IsFixOf cut_of ps b) (h.fixed b ∙ e) (fix_greatest scope_of cut_of any_lawful ps b (rounds_known b i.0.long) i.1)

  pub rounds_stable : (b f : Sets) → IsBox root b → fix b ≡ Some f → Stable cut_of ps f
  rounds_stable b f i e = (rounds_end b f i e).stable

  pub rounds_inside : (b f : Sets) → IsBox root b → fix b ≡ Some f → Below f b × NoneEmpty f
  rounds_inside b f i e = let g = rounds_end b f i e in (g.below, g.full)

  -- an assignment for which all hold is never lost
  pub rounds_keep : (b : Sets) (x : List ℕ) → IsBox root b → IsIn x b → All (λ (p : AnyProp). holds_of p x ≡ true) ps → fix b ≡ None → ⊥
  rounds_keep b x i there holds none =
      fix_refutes scope_of cut_of any_lawful holds_of any_keeps ps b x (rounds_known b i.0.long) there
      (recursion_from_All (λ (p : AnyProp). holds_of p x ≡ true) ps holds) (h.fixed b ∙ none)

  pub rounds_parts : (b c : Sets) → IsBox root b → IsBox root c → Below c b → fix b ≡ None → fix c ≡ None
  rounds_parts b c i j le none =
      sym (h.fixed c) ∙ fix_part_fails scope_of cut_of any_lawful ps b c (rounds_known b i.0.long) i.1 j.1 le (h.fixed b ∙ none)

module _ (m : Model) (limit : Option ℕ) (ps : List AnyProp) (h : ArePosted m limit ps) where
  pub posted_inside : (b f : Sets) → IsBox (root_of m) b → fix_at m limit b ≡ Some f → Below f b × NoneEmpty f
  posted_inside b f i e = rounds_inside (root_of m) (fix_at m limit) ps h.rounds b f i e

  pub posted_keeps : (b : Sets) (x : List ℕ) → IsBox (root_of m) b → IsIn x b → IsBelow m limit x → fix_at m limit b ≡ None → ⊥
  unfolding IsExact
  posted_keeps b x i there good none = rounds_keep (root_of m) (fix_at m limit) ps h.rounds b x i there ((h.exact x).0 good).1 none

  pub posted_parts : (b c : Sets) → IsBox (root_of m) b → IsBox (root_of m) c → Below c b → fix_at m limit b ≡ None → fix_at m limit c ≡ None
  posted_parts b c i j le none = rounds_parts (root_of m) (fix_at m limit) ps h.rounds b c i j le none

  -- single values that the rounds leave are a solution
  pub posted_single : (b f : Sets) (x : List ℕ) → IsBox (root_of m) b → fix_at m limit b ≡ Some f → IsSingle x f → IsBelow m limit x
  unfolding IsExact
  posted_single b f x i e single =
      let within = posted_inside b f i e in
      let below = Below-trans f b (root_of m) within.0 i.0 in
      (h.exact x).1 (
        single_in f (root_of m) x single below,
        All-from_recursion (λ (p : AnyProp). holds_of p x ≡ true) ps (each_holds ps f x single
            (rounds_known (root_of m) (fix_at m limit) ps h.rounds f below.long)
            (recursion_from_All IsGrounded ps h.grounded) (rounds_stable (root_of m) (fix_at m limit) ps h.rounds b f i e)),
      )

  -- the rounds fail where the relaxation has no member
  pub posted_empty : (b : Sets) → IsBox (root_of m) b → IsEmptyUnder m limit b → fix_at m limit b ≡ None
  unfolding FailsWhereEmpty
  posted_empty b i empty = sym (h.rounds.fixed b) ∙ h.fails b i.0 i.1 empty

-- the laws of the rounds of a search, from propagators of which only that they were posted is known
module _ (m : Model) (limit : Option ℕ) (h : ∥ IsPosted m limit ∥₁) where
  pub model_inside : (b f : Sets) → IsBox (root_of m) b → fix_at m limit b ≡ Some f → Below f b × NoneEmpty f
  model_inside b f i e = (
    record {
      long = ∥∥₁_elim h (hlevel props) (λ k. (posted_inside m limit k.props k.are b f i e).0.long);
      each = λ v. ∥∥₁_elim h (hlevel props) (λ k. (posted_inside m limit k.props k.are b f i e).0.each v);
    },
    λ v lt. ∥∥₁_elim h (hlevel props) (λ k. (posted_inside m limit k.props k.are b f i e).1 v lt),
  )

  pub model_keeps : (b : Sets) (x : List ℕ) → IsBox (root_of m) b → IsIn x b → IsBelow m limit x → fix_at m limit b ≡ None → ⊥
  model_keeps b x i there good none = ∥∥₁_elim h (λ (y z : ⊥). absurd y) (λ k. posted_keeps m limit k.props k.are b x i there good none)

  pub model_parts : (b c : Sets) → IsBox (root_of m) b → IsBox (root_of m) c → Below c b → fix_at m limit b ≡ None → fix_at m limit c ≡ None
  model_parts b c i j le none = by (fix_at m limit c) (λ f e. ∥∥₁_elim h (λ (y z : ⊥). absurd y)
      (λ k. cc (sym e ∙ posted_parts m limit k.props k.are b c i j le none)))
    where
      by : (c : Option Sets) → ((f : Sets) → c ≡ Some f → ⊥) → c ≡ None
      by None never = refl
      by (Some f) never = absurd (never f refl)

pub model_rises : (m : Model) (b c : Sets) (k n : ℕ) → Below c b → IsLeast m b k → IsLeast m c n → k ≤ n
model_rises m b c k n le large small = least_rises c b le m n k small large

-- an assignment of a block's part below a number is never lost by the rounds of what is posted for the block under that number
pub part_keeps : (m : Model) (k : ℕ) (limit : Option ℕ) (ps : List AnyProp) → ArePartPosted m k limit ps → (b : Sets) (x : List ℕ)
    → IsBox (root_of m) b → IsIn x b → IsPartBelow m k limit x → fix_part m k limit b ≡ None → ⊥
unfolding IsPartExact
part_keeps m k limit ps h b x i there good none =
    rounds_keep (root_of m) (fix_part m k limit) ps h.rounds b x i there ((h.exact x).0 good).1 none
