use Rattle.std.proofs.Common.{◌≡◌, ℕ, ◌+◌, true, List, Option, eqb, take, sym, subst, arith}
use Rattle.std.specs.Prelude.{◌||◌}
use Rattle.std.proofs.lemmas.List.{take_all}
use Rattle.un_base.specs.declared.ids.VarId.{VarId}
use Rattle.un_model.specs.declared.model.OpVars.{OpVars}
use Rattle.un_model.specs.Schedules.{value_by}
use Rattle.un_violations.specs.Loose.{is_cycle}
use Rattle.un_compact.specs.Squeezes.{is_in, squeezed}
use Rattle.un_compact.specs.Retimed.{AreMoved}
use Rattle.un_compact.proofs.Retiming.{no_ops, skip_op, move_op}
use Rattle.un_compact.proofs.compact.move_cycles.Goals as goal
use Rattle.un_compact.proofs.compact.move_cycles.Goals.{in-Some, in-None}

pub loop-op-init : goal.loop-op-init
loop-op-init c = λ p before start. no_ops (squeezed (is_in c.args.times.now)) c.args.old.now before p c.args.new.now start

pub loop-op-preserved : goal.loop-op-preserved
loop-op-preserved c = λ p before start.
    let ops = c.args.ops.now in
    let i = c.loop-op.op-index in
    let f = squeezed (is_in c.args.times.now) in
    let old = c.args.old.now in
    let so_far = c.loop-op.invariant p before start in
    elim c.match-op.branch [
      | in-Some w ↦ move_op f old before p ops i c.op-item.result w.in-Some.v c.match-op.new c.loop-op-test.true c.op-item.is w.in-Some.is
          (subst (λ (xs : List ℕ). AreMoved (λ k. (p k || is_cycle (take i ops) k) || eqb k w.in-Some.v.0) f old before xs) (sym w.new-is)
          (w.move_time.ensures (λ k. p k || is_cycle (take i ops) k) before so_far))
      | in-None w ↦ subst (λ (xs : List ℕ). AreMoved (λ k. p k || is_cycle (take (i + 1) ops) k) f old before xs) (sym w.new-is)
          (skip_op f old before p ops i c.op-item.result c.loop-op.new c.loop-op-test.true c.op-item.is w.in-None.is so_far)
    ]

pub move_time-requires-clause-inside : goal.move_time-requires-clause-inside
move_time-requires-clause-inside c =
    let times = c.args.times.now in
    let old = c.args.old.now in
    subst (λ (x : Option VarId). is_in times (value_by old x) ≡ true) c.in-Some.is
    (subst (λ (o : OpVars). is_in times (value_by old o.cycle) ≡ true) (sym c.op-item.is)
    (c.requires.inside c.loop-op.op-index c.op-item.result c.loop-op-test.true))

pub returns : goal.returns
returns c = λ p before start.
    let whole = take_all c.loop-op.op-index c.args.ops.now (omega (arith, c.loop-op-test.false)) in
    subst (λ (ops : List OpVars). AreMoved (λ k. p k || is_cycle ops k) (squeezed (is_in c.args.times.now)) c.args.old.now before
    c.loop-op.new)
    whole (c.loop-op.invariant p before start)
