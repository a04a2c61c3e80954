-- What a limit on the cost leaves as it is, a greater limit leaves as it is.
use Rattle.std.proofs.Common.{ℕ, ◌≡◌, ◌<◌, ◌≤◌, ◌+◌, ◌∙◌, Bool, true, List, [], ◌∷◌, length, nat_lt, slice_set, None, Some, option_and_then, Contains}
use Rattle.std.proofs.Common.{refl, sym, ap, arith}
use Rattle.std.specs.declared.option.Option.{Option}
use Rattle.std.proofs.lemmas.Bool.Decides.{nat_tests}
use Rattle.std.specs.List.{AllByRecursion}
use Rattle.un_base.specs.declared.ids.VarId.{VarId}
use Rattle.un_domains.specs.Sets.{Sets, NoneEmpty, cut_by}
use Rattle.un_prop.specs.AmongLaws.{has_among}
use Rattle.un_prop.specs.ChainLaws.{stable_then}
use Rattle.un_prop.specs.EachLaws.{members}
use Rattle.un_prop.specs.Failing.{first_cut}
use Rattle.un_prop.specs.Last.{last_cut, last_cut_at, last_of, point}
use Rattle.un_prop.specs.LastLaws.{Ascend, cut_all, passes_all, last_single}
use Rattle.un_prop.specs.PartLaws.{stable_first}
use Rattle.un_prop.specs.Rounds.{HasVars, round}
use Rattle.un_prop.specs.Steps.{lawful_each, has_var}
use Rattle.un_prec.specs.declared.below.Weighted.{Weighted}
use Rattle.un_prec.specs.Below.{cost_at, least_cost, below_holds, below_test, more_cost, end_test, end_cut, below_steps, BelowVars}
use Rattle.un_prec.specs.BelowLaws.{below_looks, below_lawful, fails_lawful, ends_lawful, end_lawful, each_lawful_end, among_end}

-- a test that passes more
passes_more : (p q : ℕ → Bool) (v : ℕ) (s : Sets) → ((y : ℕ) → p y ≡ true → q y ≡ true) → v < length s → NoneEmpty s
    → cut_by p v s ≡ Some s → cut_by q v s ≡ Some s
passes_more p q v s more there full e = cut_all q v s there full (λ y has. more y (passes_all p v s there e y has))

module _ (vs : List VarId) (es : List Weighted) (low high : ℕ) (le : low ≤ high) (h : BelowVars vs es) (ascend : Ascend vs) (s : Sets)
    (k : HasVars vs s) (full : NoneEmpty s) where
  less : (n : ℕ) → nat_lt n low ≡ true → nat_lt n high ≡ true
  less n t = grind (arith, nat_tests, t, le)

  first_stays : (us : List VarId) → HasVars us s → first_cut (below_test es low) us s ≡ Some s → first_cut (below_test es high) us s ≡ Some s
  first_stays [] known e = refl
  first_stays (u ∷ us) known e =
      passes_more (below_test es low s) (below_test es high s) u.0 s (λ y t. less (least_cost es s) t) (known 0 u (omega arith)) full e

  ends_stay : (ds : List Weighted) → AllByRecursion (Contains es) ds → round (end_cut es low) ds s ≡ Some s
      → round (end_cut es high) ds s ≡ Some s
  ends_stay [] all e = refl
  ends_stay (d ∷ ds) all e =
      let two = stable_then vs (end_cut es low d) (round (end_cut es low) ds) (end_lawful vs es low h d all.0)
      (lawful_each vs (end_cut es low) ds (each_lawful_end vs es low h ds all.1)) s k full e in
      let one = passes_more (end_test es low d s) (end_test es high d s) d.end.0 s (λ y t. less (least_cost es s + more_cost d s y) t)
      (has_among vs d.end s (among_end vs es low h d all.0) k) full two.0 in
      ap (option_and_then (round (end_cut es high) ds)) one ∙ ends_stay ds all.1 two.1

  last_stays : (o : Option VarId) → last_of vs s ≡ o → last_cut_at (below_holds es low) s o ≡ Some s
      → last_cut_at (below_holds es high) s o ≡ Some s
  last_stays None is e = refl
  last_stays (Some v) is e =
      passes_more (λ y. below_holds es low (slice_set (point s) v.0 y)) (λ y. below_holds es high (slice_set (point s) v.0 y)) v.0 s
      (λ y t. less (cost_at es (slice_set (point s) v.0 y)) t) (has_var vs v s (last_single vs s v is).0 k) full e

  pub stays_below_more : option_and_then (last_cut vs (below_holds es low)) (below_steps vs es low s) ≡ Some s
      → option_and_then (last_cut vs (below_holds es high)) (below_steps vs es high s) ≡ Some s
  stays_below_more e =
      let steps = stable_first vs (below_holds es low) (below_looks vs es low h) ascend (below_steps vs es low) (below_lawful vs es low h) s k
      full e in
      let last : last_cut vs (below_holds es low) s ≡ Some s = ap (option_and_then (last_cut vs (below_holds es low))) (sym steps) ∙ e in
      let two = stable_then vs (first_cut (below_test es low) vs) (round (end_cut es low) es) (fails_lawful vs es low h)
      (ends_lawful vs es low h) s k full steps in
      let again : below_steps vs es high s ≡ Some s =
      ap (option_and_then (round (end_cut es high) es)) (first_stays vs k two.0) ∙ ends_stay es (members es) two.1 in
      ap (option_and_then (last_cut vs (below_holds es high))) again ∙ last_stays (last_of vs s) refl last
