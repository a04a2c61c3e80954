-- Two registers exchanged in the values of a variable, and the side of a decision on which they are then.
use Rattle.std.proofs.Common.{ℕ, ◌≡◌, ◌≢◌, ◌+◌, ◌<◌, ◌≤◌, ◌⊎◌, Bool, true, false, List, length, nat_le, inl, inr}
use Rattle.std.proofs.Common.{refl, sym, ap, subst, ◌∙◌, arith}
use Rattle.std.proofs.lemmas.Bool.Decides.{nat_tests}
use Rattle.un_domains.specs.Sets.{Sets, set_at, has, least, greatest}
use Rattle.un_domains.specs.SetLaws.{least-le}
use Rattle.un_domains.specs.OrderLaws.{has_least, has_greatest}
use Rattle.un_domains.specs.SetLaws.{has-fold_max}
use Rattle.un_domains.specs.Sides.{side_test}
use Rattle.un_model.specs.declared.model.TempVars.{TempVars}
use Rattle.un_tree.specs.declared.node.Decision.{Decision}
use Rattle.un_symm.specs.Exchanges.{exchanged, exchanged_at, is_register_of}
use Rattle.un_symm.proofs.Values.{exchanged_cases, exchanged_first, exchanged_second, register_moves, other_stays}
use Rattle.un_mirrors.specs.Exchanged.{Passes, PassesExchanged, left_of}

-- ---- a decision that the values pass as they are

-- each value that decision d's variable has is on its side, with a and b exchanged
abbrev pub PassesWith : ℕ → ℕ → Sets → Decision → Type 0
PassesWith a b box d = (x : ℕ) → has (set_at box d.var.0) x ≡ true → side_test d.side d.val (exchanged a b x) ≡ true

module _ (a b : ℕ) (box : Sets) (d : Decision) where
  pub pass_by : Passes box d → (has (set_at box d.var.0) a ≡ true → side_test d.side d.val b ≡ true)
      → (has (set_at box d.var.0) b ≡ true → side_test d.side d.val a ≡ true) → PassesWith a b box d
  pass_by alone first second x h = by (exchanged_cases a b x)
    where
      by : ((x ≡ a) × (exchanged a b x ≡ b)) ⊎ ((x ≡ b) × (exchanged a b x ≡ a)) ⊎ ((x ≢ a) × (x ≢ b) × (exchanged a b x ≡ x))
          → side_test d.side d.val (exchanged a b x) ≡ true
      by (inl (q, e)) = ap (side_test d.side d.val) e ∙ first (subst (λ (y : ℕ). has (set_at box d.var.0) y ≡ true) q h)
      by (inr (inl (q, e))) = ap (side_test d.side d.val) e ∙ second (subst (λ (y : ℕ). has (set_at box d.var.0) y ≡ true) q h)
      by (inr (inr (p, q, e))) = ap (side_test d.side d.val) e ∙ alone x h

  pub first_passes : PassesWith a b box d → has (set_at box d.var.0) a ≡ true → side_test d.side d.val b ≡ true
  first_passes all h = ap (side_test d.side d.val) (sym (exchanged_first a b)) ∙ all a h

  pub second_passes : PassesWith a b box d → has (set_at box d.var.0) b ≡ true → side_test d.side d.val a ≡ true
  second_passes all h = ap (side_test d.side d.val) (sym (exchanged_second a b)) ∙ all b h

  -- a variable that is a register
  pub register_passes : (temps : List TempVars) → is_register_of temps d.var.0 ≡ true → PassesWith a b box d → PassesExchanged temps a b box d
  register_passes temps is all x h = ap (side_test d.side d.val) (register_moves temps a b d.var.0 x is) ∙ all x h

  pub register_passed : (temps : List TempVars) → is_register_of temps d.var.0 ≡ true → PassesExchanged temps a b box d → PassesWith a b box d
  register_passed temps is all x h = ap (side_test d.side d.val) (sym (register_moves temps a b d.var.0 x is)) ∙ all x h

  -- another one
  pub other_passes : (temps : List TempVars) → is_register_of temps d.var.0 ≡ false → Passes box d → PassesExchanged temps a b box d
  other_passes temps is alone x h = ap (side_test d.side d.val) (other_stays temps a b d.var.0 x is) ∙ alone x h

-- ---- a value that moves from above a number to at most it

module _ (a b x val : ℕ) where
  pub moves_by : ((x ≡ a) × (b ≤ val)) ⊎ ((x ≡ b) × (a ≤ val)) → exchanged a b x ≤ val
  moves_by (inl (e, le)) = subst (λ (y : ℕ). y ≤ val) (sym (ap (exchanged a b) e ∙ exchanged_first a b)) le
  moves_by (inr (e, le)) = subst (λ (y : ℕ). y ≤ val) (sym (ap (exchanged a b) e ∙ exchanged_second a b)) le

  pub moved_by : val < x → exchanged a b x ≤ val → ((x ≡ a) × (b ≤ val)) ⊎ ((x ≡ b) × (a ≤ val))
  moved_by lt le = by (exchanged_cases a b x)
    where
      by : ((x ≡ a) × (exchanged a b x ≡ b)) ⊎ ((x ≡ b) × (exchanged a b x ≡ a)) ⊎ ((x ≢ a) × (x ≢ b) × (exchanged a b x ≡ x))
          → ((x ≡ a) × (b ≤ val)) ⊎ ((x ≡ b) × (a ≤ val))
      by (inl (q, e)) = inl (q, omega (arith, e, le))
      by (inr (inl (q, e))) = inr (q, omega (arith, e, le))
      by (inr (inr (p, q, e))) = absurd (omega (arith, e, le, lt))

-- two values of which each moves are one
same_value : (a b x y val : ℕ) → val < x → val < y → exchanged a b x ≤ val → exchanged a b y ≤ val → x ≡ y
same_value a b x y val lx ly mx my = by (moved_by a b x val lx mx) (moved_by a b y val ly my)
  where
    by : ((x ≡ a) × (b ≤ val)) ⊎ ((x ≡ b) × (a ≤ val)) → ((y ≡ a) × (b ≤ val)) ⊎ ((y ≡ b) × (a ≤ val)) → x ≡ y
    by (inl (e, le)) (inl (f, lf)) = e ∙ sym f
    by (inl (e, le)) (inr (f, lf)) = absurd (omega (arith, f, le, ly))
    by (inr (e, le)) (inl (f, lf)) = absurd (omega (arith, e, lf, lx))
    by (inr (e, le)) (inr (f, lf)) = e ∙ sym f

-- ---- a decision for the right side, all of whose values move to the left one

module _ (temps : List TempVars) (a b : ℕ) (box : Sets) (at : Decision) where
  abbrev xs : List ℕ
  xs = set_at box at.var.0

  pub turns_by : is_register_of temps at.var.0 ≡ true → least xs ≡ greatest xs → exchanged a b (least xs) ≤ at.val
      → PassesExchanged temps a b box (left_of at)
  turns_by is one moves x h =
      let low = least-le xs x h in
      let high = has-fold_max 0 xs x h in
      let same : x ≡ least xs = omega (arith, low, high, one) in
      let to : exchanged_at temps a b at.var.0 x ≡ exchanged a b (least xs) = register_moves temps a b at.var.0 x is
      ∙ ap (exchanged a b) same in
      let le : exchanged_at temps a b at.var.0 x ≤ at.val = omega (arith, to, moves) in
      at_most (exchanged_at temps a b at.var.0 x) le
    where
      at_most : (y : ℕ) → y ≤ at.val → nat_le y at.val ≡ true
      at_most y le = grind (arith, nat_tests)

  module _ (some : 0 < length xs) (above : (x : ℕ) → has xs x ≡ true → at.val < x) (all : PassesExchanged temps a b box (left_of at)) where
    below : (x : ℕ) → has xs x ≡ true → exchanged_at temps a b at.var.0 x ≤ at.val
    below x h = by (exchanged_at temps a b at.var.0 x) (all x h)
      where
        by : (y : ℕ) → nat_le y at.val ≡ true → y ≤ at.val
        by y e = grind (arith, nat_tests)

    pub turned_register : is_register_of temps at.var.0 ≡ true
    turned_register = by (is_register_of temps at.var.0) refl
      where
        by : (k : Bool) → is_register_of temps at.var.0 ≡ k → k ≡ true
        by true e = refl
        by false e =
            let h = has_least xs some in
            let stays = other_stays temps a b at.var.0 (least xs) e in
            let le = below (least xs) h in
            let lt = above (least xs) h in
            absurd (omega (arith, stays, le, lt))

    moved : (x : ℕ) → has xs x ≡ true → exchanged a b x ≤ at.val
    moved x h = subst (λ (y : ℕ). y ≤ at.val) (register_moves temps a b at.var.0 x turned_register) (below x h)

    pub turned_one : least xs ≡ greatest xs
    turned_one =
        let h = has_least xs some in
        let k = has_greatest xs some in
        same_value a b (least xs) (greatest xs) at.val (above (least xs) h) (above (greatest xs) k) (moved (least xs) h) (moved (greatest xs) k)

    pub turned_moves : exchanged a b (least xs) ≤ at.val
    turned_moves = moved (least xs) (has_least xs some)

-- where a register and the next one mirror a right side, the first one is the greatest value of the left side, and the second one is
-- the only value of the right one
pub only_neighbour : (temps : List TempVars) (a : ℕ) (box : Sets) (at : Decision) → 0 < length (set_at box at.var.0)
    → ((x : ℕ) → has (set_at box at.var.0) x ≡ true → at.val < x) → PassesExchanged temps a (a + 1) box (left_of at)
    → (a ≡ at.val) × (least (set_at box at.var.0) ≡ at.val + 1)
only_neighbour temps a box at some above all =
    by (least (set_at box at.var.0)) (above _ (has_least (set_at box at.var.0) some))
    (turned_moves temps a (a + 1) box at some above all)
  where
    by : (x : ℕ) → at.val < x → exchanged a (a + 1) x ≤ at.val → (a ≡ at.val) × (x ≡ at.val + 1)
    by x lt le = cases (moved_by a (a + 1) x at.val lt le)
      where
        cases : ((x ≡ a) × (a + 1 ≤ at.val)) ⊎ ((x ≡ a + 1) × (a ≤ at.val)) → (a ≡ at.val) × (x ≡ at.val + 1)
        cases (inl (e, low)) = absurd (omega (arith, e, low, lt))
        cases (inr (e, low)) = (omega (arith, e, low, lt), omega (arith, e, low, lt))
