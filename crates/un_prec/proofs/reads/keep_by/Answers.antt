use Rattle.std.proofs.Common.{ℕ, ◌≡◌, ◌≤◌, ◌<◌, ◌+◌, ◌-◌, ◌^◌, ◌∙◌, true, false, nat_le, nat_lt, sym, ap, arith}
use Rattle.std.proofs.lemmas.Bool.Decides.{nat_tests}
use Rattle.un_domains.specs.Sets.{cut_by, set_at}
use Rattle.un_domains.specs.SetLaws.{has-fold_max}
use Rattle.un_domains.specs.OrderLaws.{same_test}
use Rattle.un_prop.specs.GoingLaws.{stepped_by}
use Rattle.un_prop.specs.LastLaws.{cut_same}
use Rattle.un_prec.specs.Reads.{ends_by}
use Rattle.un_prec.proofs.reads.keep_by.Goals as goal

-- what ends by a time, and what is up to the time less the gap
up_to_end : (y least high : ℕ) → least ≤ high → nat_le (y + least) high ≡ nat_le y (high - least)
up_to_end y least high le = same_test (nat_le (y + least) high) (nat_le y (high - least))
    (λ t. (let small : y + least ≤ high = grind (arith, nat_tests, t) in let less : y ≤ high - least = omega (arith, small) in
    grind (arith, nat_tests, less)))
    (λ t. (let small : y ≤ high - least = grind (arith, nat_tests, t) in let less : y + least ≤ high = omega (arith, small, le) in
    grind (arith, nat_tests, less)))

pub returns-then-least-last-clause-step : goal.returns-then-least-last-clause-step
returns-then-least-last-clause-step c =
    let s = c.args.w.now.store.now in
    let v = c.args.v in
    let high = c.args.high in
    let least = c.or_never-least.result in
    let last = c.from-last.result in
    let le : least ≤ high = omega (arith, c.if-least-last.true, c.from-last.ensures) in
    let small : high < 2 ^ 64 - 1 = omega (arith, c.ranges.high) in
    let end : last - least ≡ high - least = ap (λ (n : ℕ). n - least) c.from-last.ensures in
    stepped_by c.args.w.now.vars.now (cut_by (ends_by c.args.gap high) v.0) (cut_by (λ y. nat_le y (last - least)) v.0) s
    c.keep_le.new.w.store.now c.args.before c.keep_le.result
    (λ live. cut_same (ends_by c.args.gap high) (λ y. nat_le y (last - least)) v.0 s.sets
    (λ y there. c.or_never-least.ensures high y small ∙ (up_to_end y least high le ∙ ap (nat_le y) (sym end))))
    c.keep_le.ensures.step

pub returns-else-least-last-clause-step : goal.returns-else-least-last-clause-step
returns-else-least-last-clause-step c =
    let s = c.args.w.now.store.now in
    let v = c.args.v in
    let high = c.args.high in
    let least = c.or_never-least.result in
    let top = c.max-top.result in
    let more : high < least = omega (arith, c.if-least-last.false, c.from-last.ensures) in
    let small : high < 2 ^ 64 - 1 = omega (arith, c.ranges.high) in
    let top_is = c.max-top.ensures in
    stepped_by c.args.w.now.vars.now (cut_by (ends_by c.args.gap high) v.0) (cut_by (λ y. nat_lt top y) v.0) s
    c.keep_gt.new.w.store.now c.args.before c.keep_gt.result
    (λ live. cut_same (ends_by c.args.gap high) (λ y. nat_lt top y) v.0 s.sets
    (λ y there. (let never : nat_le (y + least) high ≡ false = grind (arith, nat_tests, more) in
    let up = has-fold_max 0 (set_at s.sets v.0) y there in
    let past : nat_lt top y ≡ false = grind (arith, nat_tests, up, top_is) in
    c.or_never-least.ensures high y small ∙ (never ∙ sym past))))
    c.keep_gt.ensures.step
