use Rattle.std.proofs.Common.{ℕ, ◌+◌, ◌∙◌, nat_le, sym, ap}
use Rattle.un_prop.specs.ChoiceLaws.{passes_within, passes_past}
use Rattle.un_prec.proofs.reads.end_of_gap.Goals as goal

pub returns-then-n-gaps : goal.returns-then-n-gaps
returns-then-n-gaps c t =
    ap (λ (n : ℕ). nat_le (n + c.from-then-n-gaps.result) t) c.from.ensures ∙
    (ap (λ (n : ℕ). nat_le (c.args.least + n) t) c.from-then-n-gaps.ensures
    ∙ sym (passes_within (λ g. nat_le (c.args.least + g) t) c.args.gaps.now c.args.n 0 c.if-n-gaps.true))

pub returns-else-n-gaps : goal.returns-else-n-gaps
returns-else-n-gaps c t = sym (passes_past (λ g. nat_le (c.args.least + g) t) c.args.gaps.now c.args.n c.if-n-gaps.false)
