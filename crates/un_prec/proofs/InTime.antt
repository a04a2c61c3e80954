-- Definers that are in time, as the code has them.
use Rattle.std.proofs.Common.{ℕ, zero, suc, ◌≡◌, ◌<◌, ◌≤◌, ◌+◌, ◌-◌, ◌∙◌, Bool, true, false, not, ◌&&◌, ◌||◌, List, [], ◌∷◌, length}
use Rattle.std.proofs.Common.{get_or, nat_le}
use Rattle.std.proofs.Common.{None, Some, All, refl, sym, ap, subst, arith}
use Rattle.std.specs.declared.option.Option.{Option}
use Rattle.std.specs.List.{AllByRecursion, list_any, slice_get}
use Rattle.std.proofs.lemmas.Bool.Decides.{nat_tests}
use Rattle.std.proofs.lemmas.List.Elements.{recursion_from_All}
use Rattle.un_base.specs.declared.ids.VarId.{VarId}
use Rattle.un_domains.specs.Sets.{Sets, NoneEmpty}
use Rattle.un_domains.specs.OrderLaws.{same_test}
use Rattle.un_prop.specs.Rounds.{HasVars}
use Rattle.un_prop.specs.Choices.{passes_at}
use Rattle.un_prop.specs.ChoiceLaws.{passes_agree, passes_find, map_all, always}
use Rattle.un_prop.specs.Somewhere.{is_by}
use Rattle.un_prop.specs.SomewhereLaws.{any_agree, any_find}
use Rattle.un_prop.specs.When.{when_test}
use Rattle.un_prop.specs.declared.act.Act.{Act}
use Rattle.un_prop.specs.declared.act.At.{At}
use Rattle.un_prec.specs.LinkLaws.{at_same}
use Rattle.un_prec.specs.declared.reads.ReadAlt.{ReadAlt}
use Rattle.un_prec.specs.Reads.{is_in_time, must_read, early_of, early_cut, ends_by, ReadAltVars}

-- what ends by a time from 0, and what ends by a later time from y
pub in_time_is : (gaps ns : List ℕ) (gap : Option ℕ) (high y : ℕ)
    → ((t : ℕ) → is_by gap t ≡ list_any (λ n. passes_at (λ g. nat_le (0 + g) t) gaps n) ns)
    → list_any (λ n. passes_at (λ g. nat_le (y + g) high) gaps n) ns ≡ ends_by gap high y
in_time_is gaps ns gap high y h = by (nat_le y high) refl
  where
    one : nat_le y high ≡ true → (g : ℕ) → nat_le (y + g) high ≡ nat_le (0 + g) (high - y)
    one e g =
        let le : y ≤ high = grind (arith, nat_tests, e) in
        same_test (nat_le (y + g) high) (nat_le (0 + g) (high - y))
        (λ t. (let small : y + g ≤ high = grind (arith, nat_tests, t) in let less : 0 + g ≤ high - y = omega (arith, small) in
        grind (arith, nat_tests, less)))
        (λ t. (let small : 0 + g ≤ high - y = grind (arith, nat_tests, t) in let less : y + g ≤ high = omega (arith, small, le) in
        grind (arith, nat_tests, less)))

    gap_is : (o : Option ℕ) → nat_le y high ≡ true → is_by o (high - y) ≡ ends_by o high y
    gap_is None e = refl
    gap_is (Some g) e = let zero_on : 0 + g ≡ g = omega arith in
        sym (one e g ∙ ap (λ (n : ℕ). nat_le n (high - y)) zero_on)

    late : (o : Option ℕ) → nat_le y high ≡ false → ends_by o high y ≡ false
    late None e = refl
    late (Some g) e = grind (arith, nat_tests, e)

    none_late : nat_le y high ≡ false → (b : Bool) → list_any (λ n. passes_at (λ g. nat_le (y + g) high) gaps n) ns ≡ b → b ≡ false
    none_late e false is = refl
    none_late e true is =
        let r = any_find (λ n. passes_at (λ g. nat_le (y + g) high) gaps n) ns is in
        let q = passes_find (λ g. nat_le (y + g) high) gaps r.0 r.2 in
        let t = q.2 in
        absurd (let small : y + q.0 ≤ high = grind (arith, nat_tests, t) in let far : high < y = grind (arith, nat_tests, e) in
        omega (arith, small, far))

    by : (b : Bool) → nat_le y high ≡ b → list_any (λ n. passes_at (λ g. nat_le (y + g) high) gaps n) ns ≡ ends_by gap high y
    by true e = any_agree (λ n. passes_at (λ g. nat_le (y + g) high) gaps n) (λ n. passes_at (λ g. nat_le (0 + g) (high - y)) gaps n) ns
        (λ n. passes_agree (λ g. nat_le (y + g) high) (λ g. nat_le (0 + g) (high - y)) gaps n
        (map_all (λ (g : ℕ). Unit {0}) (λ g. nat_le (y + g) high ≡ nat_le (0 + g) (high - y)) (λ g u. one e g) gaps (always gaps)))
        ∙ (sym (h (high - y)) ∙ gap_is gap e)
    by false e = none_late e (list_any (λ n. passes_at (λ g. nat_le (y + g) high) gaps n) ns) refl ∙ sym (late gap e)

-- the entry at a place
pub got_at : (xs : List ReadAlt) (i : ℕ) (a : ReadAlt) → i < length xs → a ≡ get_or xs i a → slice_get xs i ≡ Some a
got_at [] i a lt e = absurd (omega (arith, lt))
got_at (x ∷ xs) zero a lt e = ap (λ (b : ReadAlt). Some b) (sym e)
got_at (x ∷ xs) (suc i) a lt e = got_at xs i a (omega (arith, lt)) e

entry_vars : (vs : List VarId) (rest : List ReadAlt) (i : ℕ) (a : ReadAlt) → AllByRecursion (ReadAltVars vs) rest
    → slice_get rest i ≡ Some a → ReadAltVars vs a
entry_vars vs [] i a all e = absurd (cc e)
entry_vars vs (b ∷ rest) zero a all e = let same : b ≡ a = cc e in subst (ReadAltVars vs) same all.0
entry_vars vs (b ∷ rest) (suc i) a all e = entry_vars vs rest i a all.1 e

-- where it is not so, nothing is cut
pub early_idle : (vs : List VarId) (user : At) (on : Act) (choice : VarId) (alts : List ReadAlt) (i : ℕ) (s : Sets)
    → All (ReadAltVars vs) alts → HasVars vs s → NoneEmpty s → must_read on choice i s ≡ false → early_cut user on choice alts i s ≡ Some s
early_idle vs user on choice alts i s all k full unsure = by (slice_get alts i) refl
  where
    by : (o : Option ReadAlt) → slice_get alts i ≡ o → early_of user (must_read on choice i) o s ≡ Some s
    by None e = refl
    by (Some a) e = at_same vs (when_test (must_read on choice i) (is_in_time user a)) a.at s
        (entry_vars vs alts i a (recursion_from_All _ _ all) e).of_at k full
        (λ y. ap (λ (b : Bool). not b || is_in_time user a s y) unsure)

pub first_false : (b c : Bool) → b ≡ false → (b && c) ≡ false
first_false true c e = absurd (cc e)
first_false false c e = refl

pub second_false : (b c : Bool) → c ≡ false → (b && c) ≡ false
second_false true c e = e
second_false false c e = refl
