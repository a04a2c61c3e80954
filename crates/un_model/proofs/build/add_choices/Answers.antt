use Rattle.std.proofs.Common.{length}
use Rattle.un_model.specs.Variables.{choice_domain}
use Rattle.un_model.proofs.Steps.{map_more}
use Rattle.un_model.proofs.Numbering.{vars_more, count_more}
use Rattle.std.proofs.lemmas.Option.{slice_get_read}
use Rattle.std.proofs.Common.{refl}
use Rattle.un_model.proofs.build.add_choices.Goals as goal

pub loop-j-preserved : goal.loop-j-preserved
loop-j-preserved c =
    let at = slice_get_read c.args.operands.now (length c.args.operands.now) c.loop-j.j c.index-operands-j.result refl c.loop-j-test.true
    c.index-operands-j.is in
    record {
      domains = map_more choice_domain c.loop-j.j c.args.operands.now c.index-operands-j.result c.loop-j.domains _ c.add.new.domains
          c.in_ok-d.d c.loop-j.invariant.domains at c.in_ok-d.ensures c.in_ok-v.ensures.domains;
      count = count_more c.loop-j.domains c.add.new.domains c.in_ok-d.d _ _ c.in_ok-v.ensures.domains c.loop-j.invariant.count;
      vars = vars_more c.loop-j.vars c.push.new.self c.in_ok-v.v (length c.args.domains.now) c.loop-j.j (length c.loop-j.domains)
          c.loop-j.invariant.vars c.loop-j.invariant.count c.in_ok-v.ensures.var c.in_ok-push.ensures.ok;
    }
