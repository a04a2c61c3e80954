-- What rows leave as it is below a limit, they leave as it is below a greater limit.
use Rattle.std.proofs.Common.{ℕ, ◌≡◌, ◌<◌, ◌≤◌, ◌∙◌, Bool, true, false, ◌||◌, List, [], ◌∷◌, length, nat_lt, slice_set, None, Some, option_and_then}
use Rattle.std.proofs.Common.{refl, sym, ap, arith}
use Rattle.std.specs.List.{list_all, list_any}
use Rattle.std.specs.declared.option.Option.{Option}
use Rattle.std.proofs.lemmas.Bool.Decides.{nat_tests}
use Rattle.un_base.specs.declared.ids.VarId.{VarId}
use Rattle.un_domains.specs.Sets.{Sets, NoneEmpty, cut_by}
use Rattle.un_prop.specs.Failing.{first_cut}
use Rattle.un_prop.specs.Last.{last_cut, last_cut_at, last_of, point}
use Rattle.un_prop.specs.LastLaws.{Ascend, cut_all, passes_all, last_single}
use Rattle.un_prop.specs.LookLaws.{both, firsts}
use Rattle.un_prop.specs.PartLaws.{stable_first}
use Rattle.un_prop.specs.Rounds.{HasVars}
use Rattle.un_prop.specs.Steps.{has_var}
use Rattle.un_counted.specs.declared.counted.LeastEnd.{LeastEnd}
use Rattle.un_counted.specs.Counted.{value_at, lowest, highest, reaches, cost_of, row_holds, counted_holds, counted_test, counted_cut, RowsVars}
use Rattle.un_counted.specs.CountedLaws.{counted_looks, counted_lawful}

-- a test that passes more
passes_more : (p q : ℕ → Bool) (v : ℕ) (s : Sets) → ((y : ℕ) → p y ≡ true → q y ≡ true) → v < length s → NoneEmpty s
    → cut_by p v s ≡ Some s → cut_by q v s ≡ Some s
passes_more p q v s more there full e = cut_all q v s there full (λ y has. more y (passes_all p v s there e y has))

module _ (low high : ℕ) (le : low ≤ high) where
  less : (n : ℕ) → nat_lt n low ≡ true → nat_lt n high ≡ true
  less n t = grind (arith, nat_tests, t, le)

  row_looser : (f g : VarId → ℕ) (row : List LeastEnd) → row_holds low f g row ≡ true → row_holds high f g row ≡ true
  row_looser f g row t =
      let two = firsts (list_all (reaches g) row) (nat_lt (cost_of row f) low) t in
      both (list_all (reaches g) row) (nat_lt (cost_of row f) high) two.0 (less (cost_of row f) two.1)

  any_looser : (f g : VarId → ℕ) (rows : List (List LeastEnd)) → list_any (row_holds low f g) rows ≡ true
      → list_any (row_holds high f g) rows ≡ true
  any_looser f g [] t = absurd (cc t)
  any_looser f g (row ∷ rows) t = by (row_holds low f g row) refl t (any_looser f g rows)
    where
      later : list_any (row_holds high f g) rows ≡ true → (b : Bool) → (b || list_any (row_holds high f g) rows) ≡ true
      later e true = refl
      later e false = e

      by : (b : Bool) → row_holds low f g row ≡ b → (b || list_any (row_holds low f g) rows) ≡ true
          → (list_any (row_holds low f g) rows ≡ true → list_any (row_holds high f g) rows ≡ true)
          → list_any (row_holds high f g) (row ∷ rows) ≡ true
      by true is t rest = ap (λ (b : Bool). b || list_any (row_holds high f g) rows) (row_looser f g row is)
      by false is t rest = later (rest t) (row_holds high f g row)

module _ (vs : List VarId) (rows : List (List LeastEnd)) (low high : ℕ) (le : low ≤ high) (h : RowsVars vs rows) (ascend : Ascend vs)
    (s : Sets) (k : HasVars vs s) (full : NoneEmpty s) where
  first_stays : (us : List VarId) → HasVars us s → first_cut (λ t y. counted_test rows low t) us s ≡ Some s
      → first_cut (λ t y. counted_test rows high t) us s ≡ Some s
  first_stays [] known e = refl
  first_stays (u ∷ us) known e =
      passes_more (λ y. counted_test rows low s) (λ y. counted_test rows high s) u.0 s
      (λ y t. any_looser low high le (lowest s) (highest s) rows t) (known 0 u (omega arith)) full e

  last_stays : (o : Option VarId) → last_of vs s ≡ o → last_cut_at (counted_holds rows low) s o ≡ Some s
      → last_cut_at (counted_holds rows high) s o ≡ Some s
  last_stays None is e = refl
  last_stays (Some v) is e =
      passes_more (λ y. counted_holds rows low (slice_set (point s) v.0 y)) (λ y. counted_holds rows high (slice_set (point s) v.0 y)) v.0 s
      (λ y t. (let x = slice_set (point s) v.0 y in any_looser low high le (value_at x) (value_at x) rows t))
      (has_var vs v s (last_single vs s v is).0 k) full e

  pub stays_counted_more : option_and_then (last_cut vs (counted_holds rows low)) (counted_cut vs rows low s) ≡ Some s
      → option_and_then (last_cut vs (counted_holds rows high)) (counted_cut vs rows high s) ≡ Some s
  stays_counted_more e =
      let first = stable_first vs (counted_holds rows low) (counted_looks vs rows low h) ascend (counted_cut vs rows low)
      (counted_lawful vs rows low h) s k full e in
      let last : last_cut vs (counted_holds rows low) s ≡ Some s = ap (option_and_then (last_cut vs (counted_holds rows low))) (sym first) ∙ e in
      ap (option_and_then (last_cut vs (counted_holds rows high))) (first_stays vs k first) ∙ last_stays (last_of vs s) refl last
