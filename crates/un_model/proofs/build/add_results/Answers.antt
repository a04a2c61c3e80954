use Rattle.std.proofs.Common.{length, refl, ◌+◌, ◌≡◌, arith}
use Rattle.un_model.specs.Variables.{result_domain, temp_of}
use Rattle.un_model.proofs.Steps.{places_more, places_all, longer}
use Rattle.un_model.proofs.build.add_results.Goals as goal

pub loop-j-preserved : goal.loop-j-preserved
loop-j-preserved c =
    let s = c.args.scope.now in
    let more : length c.add.new.domains ≡ length c.loop-j.domains + 1 = longer c.loop-j.domains c.add.new.domains _
    c.in_ok-reg.ensures.domains in
    record {
      domains = places_more (result_domain s.ext.now s.options.now s.is_entry s.block.now c.args.op.now) c.loop-j.j c.loop-j.j
          c.args.op.now.results c.get-x.result.now c.loop-j.domains _ c.add.new.domains c.in_ok-d.d c.loop-j.invariant.domains
          c.get-x.ensures c.in_ok-d.ensures c.in_ok-reg.ensures.domains;
      temps = rw more (places_more (temp_of c.args.n c.args.op.now) (length c.loop-j.domains) c.loop-j.j c.args.op.now.results
          c.get-x.result.now c.loop-j.temps _ c.push.new.self _ c.loop-j.invariant.temps c.get-x.ensures
          (rw (c.carried.ensures, c.in_ok-reg.ensures.var) refl) c.in_ok-push.ensures.ok);
    }

pub returns-clause-domains : goal.returns-clause-domains
returns-clause-domains c =
    let s = c.args.scope.now in
    places_all (result_domain s.ext.now s.options.now s.is_entry s.block.now c.args.op.now) c.loop-j.j c.loop-j.j c.args.op.now.results
    c.loop-j.domains _ c.loop-j.invariant.domains (omega arith)

pub returns-clause-temps : goal.returns-clause-temps
returns-clause-temps c =
    places_all (temp_of c.args.n c.args.op.now) (length c.loop-j.domains) c.loop-j.j c.args.op.now.results c.loop-j.temps _
    c.loop-j.invariant.temps (omega arith)
