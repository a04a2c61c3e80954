use Rattle.std.proofs.Common.{ℕ, ◌∙◌, ap}
use Rattle.un_model.specs.Instructions.{instruction_of, space_read}
use Rattle.un_sites.specs.Postings.{registers_in}
use Rattle.un_sites.proofs.Parts.{range_added}
use Rattle.un_single.proofs.post_spaces.operand_sets.Goals as goal

pub loop-n-preserved : goal.loop-n-preserved
loop-n-preserved c =
    range_added (λ (k : ℕ). registers_in c.args.slots (space_read (instruction_of c.args.kind.now k) c.args.j)) _ _ _ c.loop-n.n
    c.loop-n.invariant
    (c.in_ok-set.ensures ∙ ap (registers_in c.args.slots) (c.space_read.ensures ∙ ap (λ o. space_read o c.args.j) c.instruction.ensures))
    c.in_ok-push.ensures.ok
