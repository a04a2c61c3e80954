use Rattle.std.proofs.Common.{ℕ, ◌+◌, ◌∙◌, nat_le, get_or, sym, ap}
use Rattle.un_prop.specs.Acts.{at_value}
use Rattle.un_prop.specs.Choices.{passes_at}
use Rattle.un_prop.specs.ChoiceLaws.{passes_within, passes_past}
use Rattle.un_prec.proofs.reads.is_late.Goals as goal

pub returns-then-n-gaps : goal.returns-then-n-gaps
returns-then-n-gaps c =
    let a = c.args.a.now in
    let x = c.args.fixed.now in
    let gaps = c.as_slice-gaps.result.now in
    let t = c.args.t in
    ap (λ (n : ℕ). nat_le (n + c.from.result) c.from-then-n-gaps.result) (c.from-at.ensures ∙ c.time.ensures) ∙
    (ap (λ (n : ℕ). nat_le (at_value a.at x + n) c.from-then-n-gaps.result) c.from.ensures
    ∙ (ap (nat_le (at_value a.at x + get_or gaps c.number-n.result 0)) c.from-then-n-gaps.ensures
    ∙ (sym (passes_within (λ g. nat_le (at_value a.at x + g) t) gaps c.number-n.result 0 c.if-n-gaps.true)
    ∙ (ap (λ gs. passes_at (λ g. nat_le (at_value a.at x + g) t) gs c.number-n.result) c.as_slice-gaps.ensures
    ∙ ap (λ (n : ℕ). passes_at (λ g. nat_le (at_value a.at x + g) t) a.gaps n) c.number-n.ensures))))

pub returns-else-n-gaps : goal.returns-else-n-gaps
returns-else-n-gaps c =
    let a = c.args.a.now in
    let x = c.args.fixed.now in
    let t = c.args.t in
    sym (passes_past (λ g. nat_le (at_value a.at x + g) t) c.as_slice-gaps.result.now c.number-n.result c.if-n-gaps.false)
    ∙ (ap (λ gs. passes_at (λ g. nat_le (at_value a.at x + g) t) gs c.number-n.result) c.as_slice-gaps.ensures
    ∙ ap (λ (n : ℕ). passes_at (λ g. nat_le (at_value a.at x + g) t) a.gaps n) c.number-n.ensures)
