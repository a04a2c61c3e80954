-- Steps of the rounds of a model.
use Rattle.std.proofs.Common.{ℕ, ◌≡◌, ◌<◌, ◌≤◌, ◌+◌, true, List, [], ◌∷◌, ◌++◌, length, get_or}
use Rattle.std.proofs.Common.{Option, Some, MatchOption, All, map, refl, sym, ap, ◌∙◌, subst, arith, inl, inr}
use Rattle.std.proofs.lemmas.Bool.{cases_lt}
use Rattle.std.proofs.lemmas.List.{get_or_append_left, get_or_at}
use Rattle.std.specs.List.{AllByRecursion}
use Rattle.std.proofs.lemmas.List.Elements.{All-from_recursion}
use Rattle.un_domains.specs.OrderLaws.{has_here, has_later}
use Rattle.un_domains.specs.SetLaws.{has-fold_max}
use Rattle.un_ir.specs.declared.extended.ExtBlock.{ExtBlock}
use Rattle.un_model.specs.Variables.{own_horizon}
use Rattle.un_post.specs.Posts.{largest_horizon}
use Rattle.un_prop.specs.Pruning.{HasRoom}
use Rattle.un_prop.specs.declared.propagator.Scratch.{Scratch}
use Rattle.un_domains.specs.Sets.{Sets, set_at, has, least, IsSingle}
use Rattle.un_kinds.specs.declared.any.AnyProp.{AnyProp}
use Rattle.un_model.specs.declared.model.Model.{Model}
use Rattle.un_post.specs.Posts.{fix_at}
use Rattle.un_tree.specs.Boxes.{IsBox}
use Rattle.un_model.specs.Boxes.{root_of}
use Rattle.un_bound.specs.declared.relax.RelaxAnswer.{RelaxAnswer}
use Rattle.un_bound.specs.declared.relax.RelaxAnswer.TheVariants.{Empty, Least}
use Rattle.un_bound.specs.Relaxations.{IsLeast, IsRelaxation}
use Rattle.un_branching.specs.Searched.{IsLook}
use Rattle.un_branching.specs.declared.problem.Look.{Look}
use Rattle.un_branching.specs.declared.problem.Look.TheVariants.{Failed, Found, Open}
use Rattle.un_tree.specs.Searched.{HasTwo}
use Rattle.un_model.specs.Boxes.{IsBelow}
use Rattle.un_search.specs.Looks.{IsLookOf}
use Rattle.un_certificate.specs.ModelLaws.{posted_single, posted_empty}
use Rattle.un_certificate.specs.Posted.{ArePosted}

-- the first variables have these values alone
pub record HasValues (s : Sets) (n : ℕ) (x : List ℕ) : Type 0 where
  pub long : length x ≡ n
  pub each : (k : ℕ) → k < n → set_at s k ≡ get_or x k 0 ∷ []

one_is : (xs : List ℕ) → 0 < length xs → length xs ≤ 1 → xs ≡ least xs ∷ []
one_is [] some few = absurd (omega (arith, some))
one_is (x ∷ []) some few = refl
one_is (x ∷ y ∷ ys) some few = absurd (omega (arith, few))

-- and one more
pub value_more : (s : Sets) (n v : ℕ) (x : List ℕ) → HasValues s n x → v ≡ least (set_at s n) → 0 < length (set_at s n)
    → length (set_at s n) ≤ 1 → HasValues s (n + 1) (x ++ v ∷ [])
value_more s n v x h is some few = record {
  long = omega (arith, h.long, length_push x v);
  each = λ k lt. elim (cases_lt k n) [
    | inl less ↦ h.each k less ∙ ap (λ (y : ℕ). y ∷ []) (sym (get_or_append_left x (v ∷ []) 0 k (omega (arith, less, h.long))))
    | inr ge ↦ (let same : k ≡ n = omega (arith, lt, ge) in
        subst (λ (i : ℕ). set_at s i ≡ get_or (x ++ v ∷ []) i 0 ∷ []) (sym same)
        (one_is (set_at s n) some few
        ∙ ap (λ (y : ℕ). y ∷ []) (sym is ∙ sym (get_or_at x v [] 0 n h.long))))
  ];
}
  where
    length_push : (xs : List ℕ) (y : ℕ) → length (xs ++ y ∷ []) ≡ length xs + 1
    length_push [] y = omega arith
    length_push (z ∷ xs) y = (let e = length_push xs y in omega (arith, e))

pub values_single : (s : Sets) (x : List ℕ) → HasValues s (length s) x → IsSingle x s
values_single s x h = record { long = h.long; each = h.each }

module _ (m : Model) (limit : Option ℕ) (ps : List AnyProp) (h : ArePosted m limit ps) (b f : Sets) (i : IsBox (root_of m) b)
    (e : fix_at m limit b ≡ Some f) where
  at_end : (P : Sets → Type 0) → P f → MatchOption (fix_at m limit b) ⊥ P
  at_end P p = subst (λ (c : Option Sets). MatchOption c ⊥ P) (sym e) p

  -- single values that the rounds leave are found
  pub found_look : (x : List ℕ) → IsSingle x f → MatchOption (fix_at m limit b) ⊥ (IsSingle x) × IsBelow m limit x
  found_look x single = (at_end (IsSingle x) single, posted_single m limit ps h b f x i e single)

  -- a box with a choice left has the least cost of its relaxation
  pub open_look : (answer : RelaxAnswer) (look : Look) → HasTwo f → IsRelaxation m b answer → IsLookOf answer look
      → IsLook (fix_at m limit) (IsLeast m) (IsBelow m limit) b look
  open_look Empty Failed two none is = posted_empty m limit ps h b i (λ times member. none times member.0)
  open_look Empty (Found x) two none is = absurd is
  open_look Empty (Open n) two none is = absurd is
  open_look (Least cost) Failed two least is = absurd is
  open_look (Least cost) (Found x) two least is = absurd is
  open_look (Least cost) (Open n) two least is = (at_end HasTwo two, subst (IsLeast m b) (sym is) least)

-- room for the largest horizon is room for each block's
each_room : (n top : ℕ) (scratch : Scratch) (blocks : List ExtBlock) → HasRoom n (top + 1) scratch
    → ((x : ℕ) → has (map own_horizon blocks) x ≡ true → x ≤ top)
    → AllByRecursion (λ (block : ExtBlock). HasRoom n (block.horizon + 1) scratch) blocks
each_room n top scratch [] room under = tt
each_room n top scratch (b ∷ bs) room under = (
  record {
    fixed = room.fixed;
    cycles = (let le = under b.horizon (has_here b.horizon (map own_horizon bs)) in omega (arith, le, room.cycles));
  },
  each_room n top scratch bs room (λ x there. under x (has_later b.horizon x (map own_horizon bs) there)),
)

pub all_room : (n vars : ℕ) (scratch : Scratch) (blocks : List ExtBlock) → HasRoom vars (largest_horizon blocks + 1) scratch → n ≡ vars
    → All (λ (block : ExtBlock). HasRoom n (block.horizon + 1) scratch) blocks
all_room n vars scratch blocks room same =
    All-from_recursion (λ (block : ExtBlock). HasRoom n (block.horizon + 1) scratch) blocks
    (each_room n (largest_horizon blocks) scratch blocks (subst (λ (k : ℕ). HasRoom k (largest_horizon blocks + 1) scratch) (sym same) room)
    (λ x there. has-fold_max 0 (map own_horizon blocks) x there))
