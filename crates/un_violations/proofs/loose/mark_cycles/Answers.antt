use Rattle.std.proofs.Common.{◌+◌, Bool, List, eqb, take, sym, subst, arith}
use Rattle.std.specs.Prelude.{◌||◌}
use Rattle.std.proofs.lemmas.List.{take_all}
use Rattle.un_model.specs.declared.model.OpVars.{OpVars}
use Rattle.un_violations.specs.Loose.{is_cycle}
use Rattle.un_violations.specs.Marks.{AreMarked}
use Rattle.un_violations.proofs.Marking.{skip_op, mark_op}
use Rattle.un_violations.proofs.loose.mark_cycles.Goals as goal
use Rattle.un_violations.proofs.loose.mark_cycles.Goals.{in-Some, in-None}

pub loop-op-preserved : goal.loop-op-preserved
loop-op-preserved c = λ p n start.
    let ops = c.args.ops.now in
    let i = c.loop-op.op-index in
    let so_far = c.loop-op.invariant p n start in
    elim c.match-op.branch [
      | in-Some w ↦ mark_op p ops i n c.op-item.result w.in-Some.v c.match-op.times c.loop-op-test.true c.op-item.is w.in-Some.is
          (subst (λ (ms : List Bool). AreMarked (λ k. (p k || is_cycle (take i ops) k) || eqb k w.in-Some.v.0) ms n) (sym w.times-is)
          (w.mark.ensures (λ k. p k || is_cycle (take i ops) k) n so_far))
      | in-None w ↦ subst (λ (ms : List Bool). AreMarked (λ k. p k || is_cycle (take (i + 1) ops) k) ms n) (sym w.times-is)
          (skip_op p ops i n c.op-item.result c.loop-op.times c.loop-op-test.true c.op-item.is w.in-None.is so_far)
    ]

pub returns : goal.returns
returns c = λ p n start.
    let whole = take_all c.loop-op.op-index c.args.ops.now (omega (arith, c.loop-op-test.false)) in
    subst (λ (ops : List OpVars). AreMarked (λ k. p k || is_cycle ops k) c.loop-op.times n) whole (c.loop-op.invariant p n start)
