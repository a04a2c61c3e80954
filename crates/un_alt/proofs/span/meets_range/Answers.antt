use Rattle.std.proofs.Common.{ℕ, Bool, true, false, ◌≡◌, ◌+◌, ◌-◌, ◌∙◌, ◌||◌, sym, ap, arith}
use Rattle.std.specs.List.{list_any, range_with_len}
use Rattle.un_domains.specs.Sets.{set_at, has}
use Rattle.un_alt.proofs.Ranges.{range_rest, range_over}
use Rattle.un_alt.proofs.span.meets_range.Goals as goal

pub loop-r-init : goal.loop-r-init
loop-r-init c =
    let p = has (set_at c.args.w.now.store.now.sets c.args.v.0) in
    let all : c.args.first + c.args.count - c.args.first ≡ c.args.count = omega arith in
    ap (λ (n : ℕ). list_any p (range_with_len c.args.first n)) all

pub returns-then-has : goal.returns-then-has
returns-then-has c =
    let p = has (set_at c.args.w.now.store.now.sets c.args.v.0) in
    let r = c.loop-r.r in
    let end = c.args.first + c.args.count in
    sym (sym c.loop-r.invariant ∙ (range_rest p r end (omega (arith, c.loop-r-test.true))
    ∙ ap (λ (b : Bool). b || list_any p (range_with_len (r + 1) (end - (r + 1)))) (sym c.has.ensures ∙ c.if-has.true)))

pub loop-r-preserved : goal.loop-r-preserved
loop-r-preserved c =
    let p = has (set_at c.args.w.now.store.now.sets c.args.v.0) in
    let r = c.loop-r.r in
    let end = c.args.first + c.args.count in
    sym (range_rest p r end (omega (arith, c.loop-r-test.true))
    ∙ ap (λ (b : Bool). b || list_any p (range_with_len (r + 1) (end - (r + 1)))) (sym c.has.ensures ∙ c.if-has.false))
    ∙ c.loop-r.invariant

pub returns : goal.returns
returns c =
    let p = has (set_at c.args.w.now.store.now.sets c.args.v.0) in
    let end = c.args.first + c.args.count in
    sym (range_over p c.loop-r.r end (omega (arith, c.loop-r-test.false))) ∙ c.loop-r.invariant
