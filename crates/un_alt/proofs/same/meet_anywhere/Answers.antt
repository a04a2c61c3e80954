use Rattle.std.proofs.Common.{◌<◌, ◌∙◌, sym, arith, inl, inr}
use Rattle.un_domains.specs.Sets.{set_at, has, greatest}
use Rattle.un_prop.specs.SomewhereLaws.{any_none, any_whole, any_has, none_next}
use Rattle.un_alt.proofs.same.meet_anywhere.Goals as goal
use Rattle.un_alt.proofs.same.meet_anywhere.Goals.{then-has+else-has-2, else-has}

pub loop-y-init : goal.loop-y-init
loop-y-init c =
    let s = c.args.w.now.store.now.sets in
    any_none (has (set_at s c.args.to.0)) (set_at s c.args.v.0) c.from-low.result (omega (arith, c.from-low.ensures, c.min.ensures))

pub returns-then-has-2 : goal.returns-then-has-2
returns-then-has-2 c =
    let s = c.args.w.now.store.now.sets in
    sym (any_has (has (set_at s c.args.to.0)) (set_at s c.args.v.0) c.loop-y.y (sym c.has.ensures ∙ c.if-has.true)
    (sym c.has-then-has.ensures ∙ c.if-has-2.true))

pub loop-y-preserved : goal.loop-y-preserved
loop-y-preserved c =
    let s = c.args.w.now.store.now.sets in
    none_next (has (set_at s c.args.to.0)) (set_at s c.args.v.0) c.loop-y.y c.loop-y.invariant (elim c.if-has.branch [
      | then-has+else-has-2 w ↦ inr (sym w.has-then-has.ensures ∙ w.if-has-2.false)
      | else-has w ↦ inl (sym c.has.ensures ∙ w.if-has.false)
    ])

pub returns : goal.returns
returns c =
    let s = c.args.w.now.store.now.sets in
    let xs = set_at s c.args.v.0 in
    let high : greatest xs < c.loop-y.y = omega (arith, c.loop-y-test.false, c.from-end.ensures, c.max.ensures) in
    sym (sym (any_whole (has (set_at s c.args.to.0)) xs c.loop-y.y high) ∙ c.loop-y.invariant)
