use Rattle.std.proofs.Common.{get_or, refl, ap, length, take, arith}
use Rattle.std.proofs.lemmas.List.{get_or_default}
use Rattle.un_violations.proofs.Apartness.{kept_none, kept_more, not_late, all_kept}
use Rattle.un_violations.proofs.Zeros.{zero_issue}
use Rattle.un_violations.proofs.bounds.keeps_order.Goals as goal

pub is_late_enough-requires : goal.is_late_enough-requires
is_late_enough-requires c =
    let below = c.requires c.loop-i.i-index zero_issue c.loop-i-test.true in
    let e = ap length c.as_slice.ensures.value in
    let h = c.loop-i.invariant.bounds.0 in
    omega (arith, below, e, h)

pub add_issue-requires : goal.add_issue-requires
add_issue-requires c =
    let below = c.requires c.loop-i.i-index zero_issue c.loop-i-test.true in
    let h = c.loop-i.invariant.bounds.0 in
    omega (arith, below, h)

pub loop-i-init : goal.loop-i-init
loop-i-init c = kept_none c.args.rule c.args.issues.now c.args.n c.in_ok-table.table.items (c.in_ok-table.ensures c.args.rule)

pub returns-then-not-is_late_enough : goal.returns-then-not-is_late_enough
returns-then-not-is_late_enough c =
    let x = get_or c.args.issues.now c.loop-i.i-index zero_issue in
    let at = get_or_default c.args.issues.now c.loop-i.i-index zero_issue x c.loop-i-test.true in
    let told = rw c.as_slice.ensures.value at c.is_late_enough.ensures in
    not_late c.args.rule c.args.issues.now c.args.n c.loop-i.i-index c.loop-i.table.items x c.is_late_enough.result c.loop-i.invariant
    c.loop-i-test.true at (c.requires c.loop-i.i-index zero_issue c.loop-i-test.true) told c.if-not-is_late_enough.true

pub loop-i-preserved : goal.loop-i-preserved
loop-i-preserved c =
    let x = get_or c.args.issues.now c.loop-i.i-index zero_issue in
    let at = get_or_default c.args.issues.now c.loop-i.i-index zero_issue x c.loop-i-test.true in
    let told = rw c.as_slice.ensures.value at c.is_late_enough.ensures in
    kept_more c.args.rule c.args.issues.now c.args.n c.loop-i.i-index c.loop-i.table.items c.add_issue.new.table.items x
    c.loop-i.invariant c.loop-i-test.true at (c.requires c.loop-i.i-index zero_issue c.loop-i-test.true)
    (told.0 c.if-not-is_late_enough.false)
    (c.add_issue.ensures (take c.loop-i.i-index c.args.issues.now) c.args.n c.loop-i.invariant.bounds)

pub returns : goal.returns
returns c = (
  λ t. all_kept c.args.rule c.args.issues.now c.args.n c.loop-i.i-index c.loop-i.table.items c.loop-i.invariant
      c.loop-i-test.false,
  λ all. refl,
)
