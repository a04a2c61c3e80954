use Rattle.std.proofs.Common.{length}
use Rattle.un_model.proofs.Numbering.{ops_domains_more, ops_temps_more, ops_vars_more, op_longer}
use Rattle.un_model.proofs.build.add_ops.Goals as goal

pub loop-i-preserved : goal.loop-i-preserved
loop-i-preserved c =
    let s = c.args.scope.now in
    let b = s.block.now in
    let k = op_longer s.ext.now s.options.now s.is_entry b b.horizon c.get.result.now c.loop-i.domains c.add_op.new.domains
    c.in_ok-v.ensures.domains in
    record {
      domains = ops_domains_more s.ext.now s.options.now s.is_entry b b.horizon c.loop-i.i b.ops c.get.result.now c.loop-i.domains _
          c.add_op.new.domains c.loop-i.invariant.domains c.get.ensures c.in_ok-v.ensures.domains;
      temps = ops_temps_more c.loop-i.n c.in_ok-n.n c.loop-i.i (length c.loop-i.domains) (length c.add_op.new.domains) b.ops
          c.get.result.now c.loop-i.temps _ c.add_op.new.temps c.loop-i.invariant.temps c.get.ensures c.in_ok-v.ensures.temps
          c.in_ok-n.ensures.later k;
      vars = ops_vars_more c.loop-i.i (length c.loop-i.domains) (length c.add_op.new.domains) b.ops c.get.result.now c.loop-i.vars _
          c.push.new.self c.in_ok-v.v c.loop-i.invariant.vars c.get.ensures c.in_ok-v.ensures.vars c.in_ok-push.ensures.ok k;
    }
