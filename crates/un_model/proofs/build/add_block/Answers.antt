use Rattle.std.proofs.Common.{refl}
use Rattle.un_model.proofs.Numbering.{end_at}
use Rattle.un_model.proofs.build.add_block.Goals as goal

pub returns-clause-vars : goal.returns-clause-vars
returns-clause-vars c =
    let s = c.args.scope.now in
    end_at s.ext.now s.options.now s.is_entry s.block.now c.args.domains.now c.add_ops.new.domains c.in_ok-ops.ops c.in_ok-end.end _
    c.in_ok-ops.ensures.domains c.in_ok-ops.ensures.vars c.in_ok-end.ensures.var refl
