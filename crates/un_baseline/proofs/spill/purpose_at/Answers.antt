use Rattle.std.proofs.Common.{◌∙◌, sym, arith}
use Rattle.un_baseline.proofs.Purposes.{purpose_behind, purpose_here, purpose_past}
use Rattle.un_baseline.proofs.spill.purpose_at.Goals as goal

pub loop-i-preserved : goal.loop-i-preserved
loop-i-preserved c =
    purpose_behind c.args.term c.args.ops.now c.loop-i.i c.get-op.result.now c.get-op.ensures (sym c.is_copy.ensures
    ∙ c.if-not-is_copy.false) ∙ c.loop-i.invariant

pub returns-then-not-is_copy : goal.returns-then-not-is_copy
returns-then-not-is_copy c =
    purpose_here c.args.term c.args.ops.now c.loop-i.i c.get-op.result.now c.purpose_of.result c.get-op.ensures (sym c.is_copy.ensures
    ∙ c.if-not-is_copy.true) c.purpose_of.ensures
    ∙ c.loop-i.invariant

pub returns : goal.returns
returns c = purpose_past c.args.term c.args.ops.now c.loop-i.i (omega arith) ∙ c.loop-i.invariant
