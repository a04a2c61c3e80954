use Rattle.std.proofs.Common.{◌<◌, ◌∙◌, sym, arith, inl, inr}
use Rattle.un_domains.specs.Sets.{set_at, greatest}
use Rattle.un_prop.specs.SomewhereLaws.{any_none, any_whole, any_has, none_next}
use Rattle.un_slots.specs.Loads.{fits_beside}
use Rattle.un_slots.proofs.issue.fits_left.Goals as goal
use Rattle.un_slots.proofs.issue.fits_left.Goals.{then-has+else-fits, else-has}

pub loop-n-init : goal.loop-n-init
loop-n-init c f is = any_none (fits_beside f c.args.item.now) (set_at c.args.w.now.store.now.sets c.args.v.0) c.from-low.result
    (omega (arith, c.from-low.ensures, c.min.ensures))

pub returns-then-fits : goal.returns-then-fits
returns-then-fits c f is = sym (any_has (fits_beside f c.args.item.now) (set_at c.args.w.now.store.now.sets c.args.v.0) c.loop-n.n
    (sym c.has.ensures ∙ c.if-has.true) (sym (c.fits.ensures f is) ∙ c.if-fits.true))

pub loop-n-preserved : goal.loop-n-preserved
loop-n-preserved c f is = none_next (fits_beside f c.args.item.now) (set_at c.args.w.now.store.now.sets c.args.v.0) c.loop-n.n
    (c.loop-n.invariant f is) (elim c.if-has.branch [
      | then-has+else-fits w ↦ inr (sym (w.fits.ensures f is) ∙ w.if-fits.false)
      | else-has w ↦ inl (sym c.has.ensures ∙ w.if-has.false)
    ])

pub returns : goal.returns
returns c f is =
    let xs = set_at c.args.w.now.store.now.sets c.args.v.0 in
    let high : greatest xs < c.loop-n.n = omega (arith, c.loop-n-test.false, c.from-end.ensures, c.max.ensures) in
    sym (sym (any_whole (fits_beside f c.args.item.now) xs c.loop-n.n high) ∙ c.loop-n.invariant f is)
