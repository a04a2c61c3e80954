-- The check of a list of nodes, one after another.
use Rattle.std.proofs.Common.{ℕ, zero, suc, arith, ◌≡◌, ◌<◌, ◌≤◌, ◌+◌, List, [], ◌∷◌, length, drop, get_or, None, Some, MatchOption, add-one, refl, sym, ap, subst, ◌∙◌}
use Rattle.std.specs.declared.option.Option.{Option}
use Rattle.std.proofs.Math.Seq.{drop-cons}
use Rattle.un_model.specs.declared.model.Model.{Model}
use Rattle.un_tree.specs.Parts.{part_numbers, told as told_parts}
use Rattle.un_tree.specs.declared.node.Node.{Node}
use Rattle.un_tree.specs.declared.node.Node.TheVariants.{Split}
use Rattle.un_tree.specs.declared.parts.Parts.{Parts}
use Rattle.un_certificate.specs.Joints.{blocks_of}
use Rattle.un_check.specs.Judging.{IsBehind}
use Rattle.un_check.specs.Walks.{IsWalk}
use Rattle.un_check.specs.declared.walk.Walk.{Walk}

pub next_walk : (m : Model) (limit : Option ℕ) (nodes read : List Node) (i : ℕ) (d : Node) (w : Walk) → read ≡ nodes → i < length read
    → IsWalk m limit nodes (drop i nodes) w → IsWalk m limit nodes (get_or read i d ∷ drop (i + 1) nodes) w
next_walk m limit nodes read i d w same lt h =
    let below : i < length nodes = omega (arith, lt, ap length same) in
    let e : drop i nodes ≡ get_or nodes i d ∷ drop (i + 1) nodes = rw (add-one, drop-cons nodes i d) refl in
    subst (λ (ns : List Node). IsWalk m limit nodes (get_or ns i d ∷ drop (i + 1) nodes) w) (sym same)
    (subst (λ (ns : List Node). IsWalk m limit nodes ns w) e h)

pub told : {A : Type 0} (P : Type 0) (Q : A → Type 0) (o : Option A) (v : A) → MatchOption o P Q → o ≡ Some v → Q v
told P Q o v h is = subst (λ (k : Option _). MatchOption k P Q) is h

pub silent : {A : Type 0} (P : Type 0) (Q : A → Type 0) (o : Option A) → MatchOption o P Q → o ≡ None → P
silent P Q o h is = subst (λ (k : Option _). MatchOption k P Q) is h

-- behind the last node
pub end_walk : (m : Model) (limit : Option ℕ) (nodes : List Node) (i : ℕ) (w : Walk) → length nodes ≤ i
    → IsWalk m limit nodes (drop i nodes) w → IsWalk m limit nodes [] w
end_walk m limit nodes i w le h = subst (λ (ns : List Node). IsWalk m limit nodes ns w) (none i nodes le) h
  where
    none : (n : ℕ) (ns : List Node) → length ns ≤ n → drop n ns ≡ []
    none zero [] le = refl
    none zero (k ∷ ks) le = absurd (omega (arith, le))
    none (suc n) [] le = refl
    none (suc n) (k ∷ ks) le = none n ks (omega (arith, le))

-- what is told of the parts behind the node at a place
pub behind_nodes : (m : Model) (n : Node) (nodes rest : List Node) (i blocks : ℕ) (parts : Parts) → blocks ≡ blocks_of m
    → rest ≡ drop (i + 1) nodes → (n ≡ Split → parts ≡ told_parts (part_numbers blocks rest)) → IsBehind m n (drop (i + 1) nodes) parts
behind_nodes m n nodes rest i blocks parts same e h is =
    h is ∙ (ap (λ (k : ℕ). told_parts (part_numbers k rest)) same ∙ ap (λ (ns : List Node). told_parts (part_numbers (blocks_of m) ns)) e)
