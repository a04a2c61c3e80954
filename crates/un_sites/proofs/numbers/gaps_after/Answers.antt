use Rattle.std.proofs.Common.{ℕ, ◌∙◌, ap}
use Rattle.un_model.specs.Instructions.{instruction_of}
use Rattle.un_model.specs.Solutions.{latency_gap}
use Rattle.un_sites.proofs.Parts.{range_added}
use Rattle.un_sites.proofs.numbers.gaps_after.Goals as goal

pub loop-n-preserved : goal.loop-n-preserved
loop-n-preserved c =
    range_added (λ (k : ℕ). latency_gap c.args.t.now (instruction_of c.args.kind.now k) c.args.user) _ _ _ c.loop-n.n c.loop-n.invariant
    (c.gap.ensures ∙ ap (λ i. latency_gap c.args.t.now i c.args.user) c.instruction.ensures) c.in_ok-push.ensures.ok
