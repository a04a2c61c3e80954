-- Where the values lie that a rule lets go.
use Rattle.std.proofs.Common.{ℕ, ◌≡◌, ◌-◌, ◌<◌, ◌≤◌, Bool, true, false, List, [], ◌∷◌, Some, None}
use Rattle.std.proofs.Common.{length, refl, sym, ap, ◌∙◌, subst, arith}
use Rattle.std.specs.Prelude.{⊤, Option, IsSomeAnd, slice_get, if◌then◌else◌, ◌==◌}
use Rattle.std.proofs.Math.Nat.{mul-le-mul_left}
use Rattle.std.proofs.lemmas.Bool.Decides.{nat_tests}
use Rattle.un_domains.specs.OrderLaws.{has_greatest}
use Rattle.un_domains.specs.Sets.{Sets, set_at, has, greatest}
use Rattle.un_ir.specs.declared.extended.ExtBlock.{ExtBlock}
use Rattle.un_model.specs.declared.model.BlockVars.{BlockVars}
use Rattle.un_model.specs.declared.model.Model.{Model}
use Rattle.un_steps.specs.Allowed.{MayGo}
use Rattle.un_steps.specs.Rules.{IsTooDear, end_with, cost_at, cost_with}
use Rattle.un_steps.specs.Words.{least_of, greatest_of}
use Rattle.un_steps.specs.declared.step.Rule.TheVariants.{TooDear}

-- ---- what blocks cost rises with their ends

-- where there is a number, there is one that is at least as great
abbrev Under : Option ℕ → Option ℕ → Type 0
Under None b = ⊤
Under (Some a) None = ⊥
Under (Some a) (Some b) = a ≤ b

under_same : (a : Option ℕ) → Under a a
under_same None = tt
under_same (Some a) = omega arith

under_end : (y z : ℕ) (a : Option ℕ) → y ≤ z → (b : Bool) → Under (if b then Some y else a) (if b then Some z else a)
under_end y z a le true = le
under_end y z a le false = under_same a

under_cost : (block : ExtBlock) (a b c d : Option ℕ) → Under a b → Under c d → Under (cost_at block a c) (cost_at block b d)
under_cost block None b c d h k = tt
under_cost block (Some a) None c d h k = absurd h
under_cost block (Some a) (Some b) None d h k = tt
under_cost block (Some a) (Some b) (Some c) None h k = absurd k
under_cost block (Some a) (Some b) (Some c) (Some d) h k =
    let ends : a - 1 ≤ b - 1 = omega (arith, h) in
    let times = mul-le-mul_left block.freq ends in
    omega (arith, times, k)

under_all : (s : Sets) (v y z : ℕ) → y ≤ z → (blocks : List ExtBlock) (vars : List BlockVars)
    → Under (cost_with s v y blocks vars) (cost_with s v z blocks vars)
under_all s v y z le [] vars = omega arith
under_all s v y z le (block ∷ blocks) [] = omega arith
under_all s v y z le (block ∷ blocks) (x ∷ more) =
    under_cost block (end_with s v y x) (end_with s v z x) (cost_with s v y blocks more) (cost_with s v z blocks more)
    (under_end y z (least_of (set_at s x.end.0)) le (x.end.0 == v)) (under_all s v y z le blocks more)

under_some : (c : ℕ) (a b : Option ℕ) → Under a b → IsSomeAnd a (λ (n : ℕ). c ≤ n) → IsSomeAnd b (λ (n : ℕ). c ≤ n)
under_some c None b h k = absurd k
under_some c (Some a) None h k = absurd h
under_some c (Some a) (Some b) h k = omega (arith, h, k)

-- where an end may go, each later one may
pub dear_later : (m : Model) (limit : Option ℕ) (s : Sets) (n v y z : ℕ) → y ≤ z → MayGo TooDear m limit s n v y → MayGo TooDear m limit s n v z
dear_later m limit s n v y z le h = by (slice_get m.blocks n) h
  where
    by_limit : (l : Option ℕ) → IsSomeAnd l (λ (c : ℕ). IsSomeAnd (cost_with s v y m.ext.blocks m.blocks) (λ (k : ℕ). c ≤ k))
        → IsSomeAnd l (λ (c : ℕ). IsSomeAnd (cost_with s v z m.ext.blocks m.blocks) (λ (k : ℕ). c ≤ k))
    by_limit None k = absurd k
    by_limit (Some c) k =
        under_some c (cost_with s v y m.ext.blocks m.blocks) (cost_with s v z m.ext.blocks m.blocks)
        (under_all s v y z le m.ext.blocks m.blocks) k

    by : (b : Option BlockVars) → IsSomeAnd b (λ (vars : BlockVars). IsTooDear m limit s vars v y)
        → IsSomeAnd b (λ (vars : BlockVars). IsTooDear m limit s vars v z)
    by None k = absurd k
    by (Some vars) k = (k.0, by_limit limit k.1)

pub some_map : {A : Type 0} (o : Option A) (P Q : A → Type 0) → ((a : A) → P a → Q a) → IsSomeAnd o P → IsSomeAnd o Q
some_map None P Q f h = absurd h
some_map (Some a) P Q f h = f a h

-- ---- the greatest value that is left

pub greatest_left : (xs : List ℕ) (a : ℕ) → greatest_of xs ≡ Some a → has xs a ≡ true
greatest_left xs a e = by (length xs == 0) refl
  where
    by : (b : Bool) → (length xs == 0) ≡ b → has xs a ≡ true
    by true f = let z : None ≡ Some a = sym (ap (λ (b : Bool). if b then None else Some (greatest xs)) f) ∙ e in absurd (cc z)
    by false f =
        let z : Some (greatest xs) ≡ Some a = sym (ap (λ (b : Bool). if b then None else Some (greatest xs)) f) ∙ e in
        let same : greatest xs ≡ a = cc z in
        let some : 0 < length xs = grind (arith, nat_tests, f) in
        subst (λ (n : ℕ). has xs n ≡ true) same (has_greatest xs some)

none_left : (xs : List ℕ) (y : ℕ) → length xs ≡ 0 → has xs y ≡ true → ⊥
none_left [] y e h = cc h
none_left (x ∷ xs) y e h = omega (arith, e)

pub greatest_none : (xs : List ℕ) (y : ℕ) → greatest_of xs ≡ None → has xs y ≡ true → ⊥
greatest_none xs y e h = by (length xs == 0) refl
  where
    by : (b : Bool) → (length xs == 0) ≡ b → ⊥
    by true f = none_left xs y (grind (arith, nat_tests, f)) h
    by false f =
        let z : Some (greatest xs) ≡ None = sym (ap (λ (b : Bool). if b then None else Some (greatest xs)) f) ∙ e in cc z
