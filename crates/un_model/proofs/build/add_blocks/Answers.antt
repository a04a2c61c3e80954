use Rattle.std.proofs.Common.{length, nat_eq}
use Rattle.un_model.proofs.Numbering.{blocks_domains_more, blocks_temps_more, blocks_vars_more, block_longer}
use Rattle.un_model.proofs.build.add_blocks.Goals as goal

pub loop-k-preserved : goal.loop-k-preserved
loop-k-preserved c =
    let e = c.args.e.now in
    let o = c.args.o.now in
    let k = block_longer e o (nat_eq c.loop-k.k 0) c.get-block.result.now c.loop-k.domains c.add_scoped.new.domains
    c.in_ok-v.ensures.domains in
    let n = rw c.len.ensures at c.in_ok-n.ensures.later in
    record {
      domains = blocks_domains_more e o c.loop-k.k e.blocks c.get-block.result.now c.loop-k.domains _ c.add_scoped.new.domains
          c.loop-k.invariant.domains c.get-block.ensures c.in_ok-v.ensures.domains;
      temps = blocks_temps_more c.loop-k.n c.in_ok-n.n c.loop-k.k (length c.loop-k.domains) (length c.add_scoped.new.domains) e.blocks
          c.get-block.result.now c.loop-k.temps _ c.add_scoped.new.temps c.loop-k.invariant.temps c.get-block.ensures
          c.in_ok-v.ensures.temps n k;
      vars = blocks_vars_more c.loop-k.k (length c.loop-k.domains) (length c.add_scoped.new.domains) e.blocks c.get-block.result.now
          c.loop-k.vars _ c.push.new.self c.in_ok-v.v c.loop-k.invariant.vars c.get-block.ensures c.in_ok-v.ensures.vars
          c.in_ok-push.ensures.ok k;
    }
