-- The sides of a box that rounds left with a choice.
use Rattle.std.proofs.Common.{◌≡◌, ℕ, zero, suc, ◌<◌, ◌≤◌, Bool, false, cond, nat_eq, nat_le, nat_lt, [], ◌∷◌, length}
use Rattle.std.proofs.Common.{filter, None, Some, MatchOption, refl, ap, subst, arith}
use Rattle.std.specs.declared.option.Option.{Option}
use Rattle.std.specs.Bool.{⊤}
use Rattle.std.proofs.lemmas.Bool.Decides.{nat_tests}
use Rattle.un_base.specs.declared.ids.VarId.{VarId}
use Rattle.un_domains.specs.Sets.{Sets, set_at, kept, cut_by, NoneEmpty}
use Rattle.un_prop.specs.Rounds.{HasVars}
use Rattle.un_domains.specs.Order.{Below}
use Rattle.un_domains.specs.OrderLaws.{has_below, least_below, greatest_below}
use Rattle.un_prop.specs.Nodes.{decide_by}
use Rattle.un_domains.specs.declared.side.Side.{Side}
use Rattle.un_domains.specs.declared.side.Side.TheVariants.{AtMost, Above}
use Rattle.un_tree.specs.Boxes.{half, Splits}
use Rattle.un_tree.proofs.BoxLaws.{left_value, right_value, passes_some}

pub some_of : {P : Sets → Type 0} (c : Option Sets) → MatchOption c ⊥ P → (f : Sets) × (c ≡ Some f) × P f
some_of None h = absurd h
some_of (Some f) h = (f, refl, h)

kept_box : (q : ℕ → Bool) (b : Sets) (v : VarId) → v.0 < length b → NoneEmpty b → 0 < length (filter q (set_at b v.0))
    → Below (kept q b v.0) b × NoneEmpty (kept q b v.0)
kept_box q b v there full some =
    let known : HasVars (v ∷ []) b = one_var v b there in
    let no : nat_eq (length (filter q (set_at b v.0))) 0 ≡ false = grind (arith, nat_tests, some) in
    let is : cut_by q v.0 b ≡ Some (kept q b v.0) = ap (λ (c : Bool). cond c None (Some (kept q b v.0))) no in
    subst (λ (c : Option Sets). MatchOption c ⊤ (λ t. Below t b × NoneEmpty t)) is ((decide_by v q).lawful.shrinks b known full)
  where
    one_var : (v : VarId) (b : Sets) → v.0 < length b → HasVars (v ∷ []) b
    one_var v b lt zero d below = lt
    one_var v b lt (suc i) d below = absurd (omega (arith, below))

-- a side of the box of a branch is a smaller box with no empty set
pub half_box : (b f : Sets) (v : VarId) (x : ℕ) (side : Side) → NoneEmpty b → Below f b → NoneEmpty f → Splits f v x
    → Below (half b v x side) b × NoneEmpty (half b v x side)
half_box b f v x AtMost full le ff s =
    let there : v.0 < length b = omega (arith, s.0, le.long) in
    let y = left_value x (set_at f v.0) (ff v.0 s.0) s.1 in
    kept_box (λ z. nat_le z x) b v there full (passes_some (λ z. nat_le z x) (set_at b v.0) y.0 (has_below f b v.0 y.0 le y.1)
    (let h : y.0 ≤ x = y.2 in grind (arith, nat_tests)))
half_box b f v x Above full le ff s =
    let there : v.0 < length b = omega (arith, s.0, le.long) in
    let y = right_value x (set_at f v.0) s.2 in
    kept_box (λ z. nat_lt x z) b v there full (passes_some (λ z. nat_lt x z) (set_at b v.0) y.0 (has_below f b v.0 y.0 le y.1)
    (let h : x < y.0 = y.2 in grind (arith, nat_tests)))

-- what splits what is left splits the box
pub splits_box : (b f : Sets) (v : VarId) (x : ℕ) → Below f b → NoneEmpty f → Splits f v x → Splits b v x
splits_box b f v x le ff s =
    let l = least_below f b v.0 le (ff v.0 s.0) in
    let g = greatest_below f b v.0 le in
    (omega (arith, s.0, le.long), omega (arith, l, s.1), omega (arith, g, s.2))
