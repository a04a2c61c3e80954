-- Equality of names as the index of names has it.
use Rattle.std.proofs.Common.{◌≡◌, ℕ, ◌+◌, ◌≤◌, ◌++◌, ◌&&◌, ◌||◌, not, Bool, true, false, nat_lt, cond, if◌then◌else◌, List}
use Rattle.std.proofs.Common.{[], ◌∷◌, Some, None, length, arith, refl, ap, ◌∙◌}
use Rattle.std.specs.List.{list_any, position_or_len, position}
use Rattle.std.proofs.lemmas.Bool.Decides.{nat_tests}
use Rattle.std.proofs.lemmas.List.Sums.{prefix_len-le-length}
use Rattle.std.specs.Str.{bytes_eq}
use Rattle.un_base.specs.contracts.name.NamePartialEq.TheImpl.{ghosts as name_ghosts}
use Rattle.un_ir.specs.contracts.function.KindPartialEq.TheImpl.{ghosts as kind_ghosts}
use Rattle.un_words.proofs.NameBytes.{padded_eq}
use Rattle.un_faults.specs.Vocabulary.{Kind, General, Pred, Spelled}
use Rattle.un_faults.specs.Before.{same_kind, same_name, add_name}

kind_eq : (a b : Kind) → kind_ghosts.eq a b ≡ same_kind a b
kind_eq General General = refl
kind_eq General Pred = refl
kind_eq Pred General = refl
kind_eq Pred Pred = refl

pub spelled_eq : (a b : Spelled) → (name_ghosts.eq a.0 b.0 && kind_ghosts.eq a.1 b.1) ≡ same_name a b
spelled_eq a b =
    ap (λ (x : Bool). x && kind_ghosts.eq a.1 b.1) (padded_eq a.0 b.0) ∙ ap (λ (x : Bool). bytes_eq a.0 b.0 && x) (kind_eq a.1 b.1)

-- the set's test of a name
abbrev set_eq : Spelled → Spelled → Bool
set_eq name y = name_ghosts.eq name.0 y.0 && kind_ghosts.eq name.1 y.1

pub any_same : (name : Spelled) (names : List Spelled)
    → list_any (λ (y : Spelled). name_ghosts.eq name.0 y.0 && kind_ghosts.eq name.1 y.1) names ≡ list_any (same_name name) names
any_same name [] = refl
any_same name (n ∷ names) =
    ap (λ (x : Bool). x || list_any (set_eq name) names) (spelled_eq name n)
    ∙ ap (λ (x : Bool). same_name name n || x) (any_same name names)

pub add_same : (names : List Spelled) (name : Spelled)
    → (if list_any (λ (y : Spelled). name_ghosts.eq name.0 y.0 && kind_ghosts.eq name.1 y.1) names then names else names ++ name ∷ [])
    ≡ add_name names name
add_same names name = ap (λ (b : Bool). if b then names else names ++ name ∷ []) (any_same name names)

place_same : (name : Spelled) (names : List Spelled) → position_or_len (set_eq name) names ≡ position_or_len (same_name name) names
place_same name [] = refl
place_same name (n ∷ names) =
    ap (λ (b : Bool). cond (not b) (1 + position_or_len (set_eq name) names) 0) (spelled_eq name n)
    ∙ ap (λ (k : ℕ). cond (not (same_name name n)) (1 + k) 0) (place_same name names)

pub place_found : (name : Spelled) (names : List Spelled) (i : ℕ)
    → Some i ≡ position (λ (y : Spelled). name_ghosts.eq name.0 y.0 && kind_ghosts.eq name.1 y.1) names
    → i ≡ position_or_len (same_name name) names
place_found name names i found = by (nat_lt (position_or_len (set_eq name) names) (length names)) found ∙ place_same name names
  where
    by : (v : Bool) → Some i ≡ cond v (Some (position_or_len (set_eq name) names)) None → i ≡ position_or_len (set_eq name) names
    by true e = cc
    by false e = absurd (cc e)

pub place_missing : (name : Spelled) (names : List Spelled)
    → None ≡ position (λ (y : Spelled). name_ghosts.eq name.0 y.0 && kind_ghosts.eq name.1 y.1) names
    → length names ≡ position_or_len (same_name name) names
place_missing name names none = by (nat_lt (position_or_len (set_eq name) names) (length names)) refl none ∙ place_same name names
  where
    by : (v : Bool) → nat_lt (position_or_len (set_eq name) names) (length names) ≡ v
        → None ≡ cond v (Some (position_or_len (set_eq name) names)) None → length names ≡ position_or_len (set_eq name) names
    by true e f = absurd (cc f)
    by false e f =
        let bound : position_or_len (set_eq name) names ≤ length names =
        prefix_len-le-length (λ (b : Spelled). not (set_eq name b)) names in grind (arith, nat_tests)
