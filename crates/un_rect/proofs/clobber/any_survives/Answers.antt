use Rattle.std.proofs.Common.{◌<◌, ◌∙◌, not, sym, ap, arith, inl, inr}
use Rattle.un_domains.specs.Sets.{set_at, greatest}
use Rattle.un_isa.specs.Tables.{in_mask}
use Rattle.un_prop.specs.SomewhereLaws.{any_none, any_whole, any_has, none_next}
use Rattle.un_rect.proofs.clobber.any_survives.Goals as goal
use Rattle.un_rect.proofs.clobber.any_survives.Goals.{then-has+else-not-is_in_mask, else-has}

pub loop-r-init : goal.loop-r-init
loop-r-init c =
    let s = c.args.w.now.store.now.sets in
    any_none (λ r. not (in_mask c.args.mask r)) (set_at s c.args.a.now.reg.0) c.from-low.result
    (omega (arith, c.from-low.ensures, c.min.ensures))

pub returns-then-not-is_in_mask : goal.returns-then-not-is_in_mask
returns-then-not-is_in_mask c =
    let s = c.args.w.now.store.now.sets in
    sym (any_has (λ r. not (in_mask c.args.mask r)) (set_at s c.args.a.now.reg.0) c.loop-r.r (sym c.has.ensures ∙ c.if-has.true)
    (ap not (sym c.is_in_mask.ensures ∙ c.if-not-is_in_mask.true)))

pub loop-r-preserved : goal.loop-r-preserved
loop-r-preserved c =
    let s = c.args.w.now.store.now.sets in
    none_next (λ r. not (in_mask c.args.mask r)) (set_at s c.args.a.now.reg.0) c.loop-r.r c.loop-r.invariant (elim c.if-has.branch [
      | then-has+else-not-is_in_mask w ↦ inr (ap not (sym w.is_in_mask.ensures ∙ w.if-not-is_in_mask.false))
      | else-has w ↦ inl (sym c.has.ensures ∙ w.if-has.false)
    ])

pub returns : goal.returns
returns c =
    let s = c.args.w.now.store.now.sets in
    let xs = set_at s c.args.a.now.reg.0 in
    let top : greatest xs < c.loop-r.r = omega (arith, c.loop-r-test.false, c.from-high.ensures, c.max.ensures) in
    sym (sym (any_whole (λ r. not (in_mask c.args.mask r)) xs c.loop-r.r top) ∙ c.loop-r.invariant)
