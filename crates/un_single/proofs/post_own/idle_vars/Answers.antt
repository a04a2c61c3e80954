use Rattle.std.proofs.Common.{◌∙◌}
use Rattle.un_sites.proofs.Parts.{idle_vars}
use Rattle.un_single.proofs.post_own.idle_vars.Goals as goal

pub returns : goal.returns
returns c =
    c.from_vec.ensures ∙ idle_vars c.args.p.now.vars.now.cycle c.args.p.now.vars.now.choices _ _ _ _ _ _
    c.new-vars.ensures.items c.in_ok-add_to.ensures c.in_ok-add_to-2.ensures c.in_ok-add_to-3.ensures
    (rw c.as_slice.ensures at c.in_ok-regs.ensures)
