use Rattle.std.proofs.Common.{ℕ, ◌<◌, ◌+◌, ◌∙◌, nat_le, sym, ap, arith}
use Rattle.un_domains.specs.Sets.{set_at, greatest}
use Rattle.un_prop.specs.Choices.{passes_at}
use Rattle.un_prop.specs.Somewhere.{is_by}
use Rattle.un_prop.specs.SomewhereLaws.{any_none, any_whole, next_there, next_absent}
use Rattle.un_prec.proofs.reads.first_end.Goals as goal
use Rattle.un_prec.proofs.reads.first_end.Goals.{then-has, else-has}

pub loop-n-init : goal.loop-n-init
loop-n-init c t =
    sym (any_none (λ n. passes_at (λ g. nat_le (c.args.least + g) t) c.args.gaps.now n) (set_at c.args.w.now.store.now.sets c.args.v.0)
    c.from-low.result (omega (arith, c.from-low.ensures, c.min.ensures)))

pub loop-n-preserved : goal.loop-n-preserved
loop-n-preserved c t =
    let p = λ (n : ℕ). passes_at (λ g. nat_le (c.args.least + g) t) c.args.gaps.now n in
    let xs = set_at c.args.w.now.store.now.sets c.args.v.0 in
    let n = c.loop-n.n in
    elim c.if-has.branch [
      | then-has w ↦ next_there p xs n _ (is_by c.loop-n.first t) (is_by w.end_of_gap-next.result t)
          (sym c.has.ensures ∙ w.if-has.true) (ap (λ f. is_by f t) w.first-is ∙ w.sooner-first.ensures t) (c.loop-n.invariant t)
          (w.end_of_gap-next.ensures t)
      | else-has w ↦ next_absent p xs n _ (sym c.has.ensures ∙ w.if-has.false) (ap (λ f. is_by f t) w.first-is ∙ c.loop-n.invariant t)
    ]

pub returns : goal.returns
returns c t =
    let xs = set_at c.args.w.now.store.now.sets c.args.v.0 in
    let high : greatest xs < c.loop-n.n = omega (arith, c.loop-n-test.false, c.from-end.ensures, c.max.ensures) in
    c.loop-n.invariant t ∙ any_whole (λ n. passes_at (λ g. nat_le (c.args.least + g) t) c.args.gaps.now n) xs c.loop-n.n high
