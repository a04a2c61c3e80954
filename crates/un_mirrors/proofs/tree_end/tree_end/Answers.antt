use Rattle.std.proofs.Common.{◌≡◌, ◌+◌, sym, subst, arith}
use Rattle.un_mirrors.proofs.TreeEnds.{IsOwed, none_owed, one_owed, owed_branch, owed_inside, owed_leaf}
use Rattle.un_mirrors.proofs.tree_end.tree_end.Goals as goal
use Rattle.un_mirrors.proofs.tree_end.tree_end.Goals.{in-Branch, in_default}

pub bounds : goal.bounds
bounds c = owed_inside c.args.nodes.now c.args.from c.loop-owed.to c.loop-owed.owed c.loop-owed.invariant.at c.loop-owed-test.true

pub loop-owed-init : goal.loop-owed-init
loop-owed-init c =
    let one = one_owed c.args.nodes.now c.args.from c.requires in
    let lt = owed_inside c.args.nodes.now c.args.from c.args.from 1 one (omega arith) in
    record { at = one; within = omega (arith, lt); few = omega arith; later = omega arith }

pub loop-owed-preserved : goal.loop-owed-preserved
loop-owed-preserved c =
    let inv = c.loop-owed.invariant in
    let lt = owed_inside c.args.nodes.now c.args.from c.loop-owed.to c.loop-owed.owed inv.at c.loop-owed-test.true in
    elim c.match-nodes-to.branch [
      | in-Branch w ↦ record {
        at = subst (IsOwed c.args.nodes.now c.args.from (c.loop-owed.to + 1)) (sym w.owed-is)
            (owed_branch c.args.nodes.now c.args.from c.loop-owed.to c.loop-owed.owed _ lt inv.at c.loop-owed-test.true w.in-Branch.var
            w.in-Branch.val w.in-Branch.is);
        within = omega (arith, lt);
        few = omega (arith, inv.few, w.owed-is);
        later = omega (arith, inv.later, w.owed-is);
      }
      | in_default w ↦ record {
        at = subst (IsOwed c.args.nodes.now c.args.from (c.loop-owed.to + 1)) (sym w.owed-is)
            (owed_leaf c.args.nodes.now c.args.from c.loop-owed.to c.loop-owed.owed _ lt inv.at c.loop-owed-test.true
            (λ v x e. w.in_default.not-Branch v x e));
        within = omega (arith, lt);
        few = omega (arith, inv.few, w.owed-is);
        later = omega (arith, inv.later, w.owed-is, c.loop-owed-test.true);
      }
    ]

pub loop-owed-smaller : goal.loop-owed-smaller
loop-owed-smaller c =
    let lt = owed_inside c.args.nodes.now c.args.from c.loop-owed.to c.loop-owed.owed c.loop-owed.invariant.at c.loop-owed-test.true in
    omega (arith, lt)

pub returns : goal.returns
returns c =
    let e : c.loop-owed.owed ≡ 0 = omega (arith, c.loop-owed-test.false) in
    let inv = c.loop-owed.invariant in
    record {
      tree = none_owed c.args.nodes.now c.args.from c.loop-owed.to
          (subst (IsOwed c.args.nodes.now c.args.from c.loop-owed.to) e inv.at);
      later = omega (arith, e, inv.later);
      within = inv.within;
    }
