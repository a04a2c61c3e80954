use Rattle.std.proofs.Common.{◌<◌, ◌∙◌, sym, arith, inl, inr}
use Rattle.std.specs.List.{list_any}
use Rattle.un_domains.specs.Sets.{set_at, has, greatest}
use Rattle.un_prop.specs.Choices.{passes_at}
use Rattle.un_prop.specs.SomewhereLaws.{any_none, any_whole, any_has, none_next}
use Rattle.un_alt.proofs.spaces.meets_left.Goals as goal
use Rattle.un_alt.proofs.spaces.meets_left.Goals.{then-has+else-meets_at, else-has}

pub loop-n-init : goal.loop-n-init
loop-n-init c =
    let s = c.args.w.now.store.now.sets in
    any_none (passes_at (list_any (has (set_at s c.args.v.0))) c.args.sets.now) (set_at s c.args.u.0) c.from-low.result
    (omega (arith, c.from-low.ensures, c.min.ensures))

pub returns-then-meets_at : goal.returns-then-meets_at
returns-then-meets_at c =
    let s = c.args.w.now.store.now.sets in
    sym (any_has (passes_at (list_any (has (set_at s c.args.v.0))) c.args.sets.now) (set_at s c.args.u.0) c.loop-n.n
    (sym c.has.ensures ∙ c.if-has.true) (sym c.meets_at.ensures ∙ c.if-meets_at.true))

pub loop-n-preserved : goal.loop-n-preserved
loop-n-preserved c =
    let s = c.args.w.now.store.now.sets in
    none_next (passes_at (list_any (has (set_at s c.args.v.0))) c.args.sets.now) (set_at s c.args.u.0) c.loop-n.n c.loop-n.invariant
    (elim c.if-has.branch [
      | then-has+else-meets_at w ↦ inr (sym w.meets_at.ensures ∙ w.if-meets_at.false)
      | else-has w ↦ inl (sym c.has.ensures ∙ w.if-has.false)
    ])

pub returns : goal.returns
returns c =
    let s = c.args.w.now.store.now.sets in
    let xs = set_at s c.args.u.0 in
    let high : greatest xs < c.loop-n.n = omega (arith, c.loop-n-test.false, c.from-end.ensures, c.max.ensures) in
    sym (sym (any_whole (passes_at (list_any (has (set_at s c.args.v.0))) c.args.sets.now) xs c.loop-n.n high) ∙ c.loop-n.invariant)
