use Rattle.std.proofs.Common.{List, ◌<◌, ◌∙◌, All, get_or, length, sym, ap, subst, arith}
use Rattle.std.proofs.lemmas.List.{get_or_default}
use Rattle.un_base.specs.declared.ids.VarId.{VarId}
use Rattle.un_rect.specs.Spans.{TempVars}
use Rattle.un_rect.specs.Apart.{clash_pair}
use Rattle.un_rect.proofs.ExtentLaws.{some_temp}
use Rattle.un_rect.proofs.Rows.{rows_next}
use Rattle.un_rect.proofs.clashes.keep_all.Goals as goal

pub keep_next-did-requires-clause-of_temps : goal.keep_next-did-requires-clause-of_temps
keep_next-did-requires-clause-of_temps c = subst (λ (us : List VarId). All (TempVars us) c.args.temps.now)
    (sym (ap (λ r. r.now) c.loop-j.invariant.vars)) c.requires.of_temps

pub loop-j-preserved : goal.loop-j-preserved
loop-j-preserved c =
    let inv = c.loop-j.invariant in
    let did = c.keep_next-did in
    let temps = c.args.temps.now in
    let b = get_or temps c.loop-j.j some_temp in
    let lt : c.loop-j.j < length temps = omega (arith, c.loop-j-test.true, c.loop-j.auto.j-end) in
    record {
      step = rows_next clash_pair temps b c.loop-j.j c.args.w.now.vars.now c.loop-j.w.vars.now
          c.args.w.now.store.now c.loop-j.w.store.now did.new.w.store.now
          c.args.before c.loop-j.did did.result (ap (λ r. r.now) inv.vars) (get_or_default temps c.loop-j.j some_temp b lt) lt inv.step
          (did.ensures.step some_temp);
      are = did.ensures.are;
      same_reference = did.ensures.same_reference ∙ inv.same_reference;
      vars = did.ensures.vars ∙ inv.vars;
    }
