use Rattle.std.proofs.Common.{ℕ, ◌+◌, List, [], length, take, sym, ap, ◌∙◌, subst}
use Rattle.un_merges.specs.Lowered.{AreLowered}
use Rattle.un_merges.proofs.Lowering.{none_lowered, skip_op, lower_op, lowered_long}
use Rattle.un_merges.proofs.merges.lower_cycles.Goals as goal
use Rattle.un_merges.proofs.merges.lower_cycles.Goals.{in-Some, in-None}

pub loop-op-init : goal.loop-op-init
loop-op-init c = (
  ap length c.requires,
  subst (λ (xs : List ℕ). AreLowered [] c.args.t c.args.old.now xs) (sym c.requires) (none_lowered c.args.ops.now c.args.t c.args.old.now),
)

pub loop-op-preserved : goal.loop-op-preserved
loop-op-preserved c =
    let ops = c.args.ops.now in
    let i = c.loop-op.op-index in
    let t = c.args.t in
    let old = c.args.old.now in
    let all : AreLowered (take (i + 1) ops) t old c.match-op.new = elim c.match-op.branch [
      | in-Some w ↦ lower_op ops i t c.op-item.result w.in-Some.v old c.loop-op.new c.match-op.new c.loop-op-test.true c.op-item.is
          w.in-Some.is (λ h. w.new-is ∙ w.lower.ensures.lower h) (λ h. w.new-is ∙ w.lower.ensures.same h) c.loop-op.invariant.1
      | in-None w ↦ subst (λ (xs : List ℕ). AreLowered (take (i + 1) ops) t old xs) (sym w.new-is)
          (skip_op ops i t c.op-item.result old c.loop-op.new c.loop-op-test.true c.op-item.is w.in-None.is c.loop-op.invariant.1)
    ] in
    (lowered_long (take (i + 1) ops) t old c.match-op.new all, all)
