use Rattle.std.proofs.Common.{◌+◌, ◌≤◌, ◌∙◌, min, sym, arith, inl, inr}
use Rattle.un_domains.specs.Sets.{set_at, greatest}
use Rattle.un_isa.specs.Tables.{in_mask}
use Rattle.un_prop.specs.SomewhereLaws.{any_none, any_has, none_next}
use Rattle.un_rect.proofs.Masks.{mask_whole}
use Rattle.un_rect.proofs.clobber.may_be_hit.Goals as goal
use Rattle.un_rect.proofs.clobber.may_be_hit.Goals.{then-has+else-is_in_mask, else-has}

pub loop-r-init : goal.loop-r-init
loop-r-init c =
    let s = c.args.w.now.store.now.sets in
    any_none (in_mask c.args.mask) (set_at s c.args.a.now.reg.0) c.from-low.result (omega (arith, c.from-low.ensures, c.min.ensures))

pub returns-then-is_in_mask : goal.returns-then-is_in_mask
returns-then-is_in_mask c =
    let s = c.args.w.now.store.now.sets in
    sym (any_has (in_mask c.args.mask) (set_at s c.args.a.now.reg.0) c.loop-r.r (sym c.has.ensures ∙ c.if-has.true)
    (sym c.is_in_mask.ensures ∙ c.if-is_in_mask.true))

pub loop-r-preserved : goal.loop-r-preserved
loop-r-preserved c =
    let s = c.args.w.now.store.now.sets in
    none_next (in_mask c.args.mask) (set_at s c.args.a.now.reg.0) c.loop-r.r c.loop-r.invariant (elim c.if-has.branch [
      | then-has+else-is_in_mask w ↦ inr (sym w.is_in_mask.ensures ∙ w.if-is_in_mask.false)
      | else-has w ↦ inl (sym c.has.ensures ∙ w.if-has.false)
    ])

pub returns : goal.returns
returns c =
    let s = c.args.w.now.store.now.sets in
    let xs = set_at s c.args.a.now.reg.0 in
    let end : min (greatest xs + 1) 64 ≤ c.loop-r.r = omega (arith, c.loop-r-test.false, c.mask_end-high.ensures, c.max.ensures) in
    sym (sym (mask_whole c.args.mask xs c.loop-r.r c.ranges.mask.fits end) ∙ c.loop-r.invariant)
