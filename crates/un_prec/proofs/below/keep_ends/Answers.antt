use Rattle.std.proofs.Common.{◌∙◌, ap, arith}
use Rattle.un_prop.specs.EachLaws.{each_next}
use Rattle.un_prec.specs.declared.below.Weighted.{Weighted}
use Rattle.un_prec.specs.Below.{end_cut}
use Rattle.un_prec.proofs.below.keep_ends.Goals as goal

pub loop-i-preserved : goal.loop-i-preserved
loop-i-preserved c =
    let p = c.args.p.now in
    let inv = c.loop-i.invariant in
    let did = c.keep_end-did in
    let d : Weighted = record { end = record { 0 = 0 }; freq = 0 } in
    record {
      step = each_next c.args.w.now.vars.now c.loop-i.w.vars.now (end_cut p.ends p.limit) p.ends c.loop-i.i d c.args.w.now.store.now
          c.loop-i.w.store.now did.new.w.store.now c.args.before c.loop-i.did did.result (ap (λ r. r.now) inv.vars)
          (omega (arith, c.loop-i-test.true, c.len-i-end.ensures)) inv.step (did.ensures.step d);
      room = did.ensures.room;
      same_reference = did.ensures.same_reference ∙ inv.same_reference;
      vars = did.ensures.vars ∙ inv.vars;
    }
