use Rattle.std.proofs.Common.{List, subst}
use Rattle.std.specs.Prelude.{◌||◌}
use Rattle.un_model.specs.declared.model.OpVars.{OpVars}
use Rattle.un_violations.specs.Loose.{is_cycle}
use Rattle.un_violations.specs.Marks.{AreMarked}
use Rattle.un_violations.proofs.Marking.{mark_more}
use Rattle.un_violations.proofs.loose.mark_block.Goals as goal

pub returns : goal.returns
returns c = λ p n start.
    let vars = c.args.vars.now in
    let cycles = subst (λ (ops : List OpVars). AreMarked (λ k. p k || is_cycle ops k) c.mark_cycles.new.times n) c.as_slice.ensures
    (c.mark_cycles.ensures p n start) in
    mark_more p vars c.mark.new.times n (c.mark.ensures (λ k. p k || is_cycle vars.ops k) n cycles)
