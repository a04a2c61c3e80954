use Rattle.std.proofs.Common.{List, ◌≡◌, ◌≢◌, ◌<◌, ◌∙◌, All, get_or, length, sym, ap, subst, arith}
use Rattle.un_base.specs.declared.ids.VarId.{VarId}
use Rattle.un_domains.specs.Sets.{set_at, least}
use Rattle.un_prop.specs.Going.{Stepped}
use Rattle.un_prop.specs.declared.propagator.Pruned.TheVariants.{Failed}
use Rattle.un_rect.specs.Spans.{TempVars}
use Rattle.un_rect.specs.Apart.{check_pair}
use Rattle.un_rect.specs.Pairs.{each_before}
use Rattle.std.proofs.lemmas.List.{get_or_default}
use Rattle.un_rect.proofs.ExtentLaws.{some_temp}
use Rattle.un_rect.proofs.Rows.{rows_next, same_ascend, same_known, same_written}
use Rattle.un_rect.proofs.checks.check_all.Goals as goal

pub check_next-did-requires-clause-of_temps : goal.check_next-did-requires-clause-of_temps
check_next-did-requires-clause-of_temps c = subst (λ (us : List VarId). All (TempVars us) c.args.temps.now)
    (sym (ap (λ r. r.now) c.loop-j.invariant.vars)) c.requires.of_temps

pub check_next-did-requires-clause-ascend : goal.check_next-did-requires-clause-ascend
check_next-did-requires-clause-ascend c = same_ascend c.args.w.now.vars.now c.loop-j.w.vars.now
    (ap (λ r. r.now) c.loop-j.invariant.vars) c.requires.ascend

pub check_next-did-requires-clause-known : goal.check_next-did-requires-clause-known
check_next-did-requires-clause-known c = same_known c.args.w.now.vars.now c.loop-j.w.vars.now c.args.w.now.store.now.sets
    c.loop-j.w.store.now.sets (ap (λ r. r.now) c.loop-j.invariant.vars) c.loop-j.invariant.step.long c.requires.known

pub check_next-did-requires-clause-live : goal.check_next-did-requires-clause-live
check_next-did-requires-clause-live c = c.loop-j.invariant.step.live c.requires.live

pub check_next-did-requires-clause-written : goal.check_next-did-requires-clause-written
check_next-did-requires-clause-written c = same_written c.args.w.now.vars.now c.loop-j.w.vars.now c.loop-j.w.store.now.sets
    c.loop-j.fixed c.loop-j.did (ap (λ r. r.now) c.loop-j.invariant.vars) c.loop-j.invariant.written

pub loop-j-preserved : goal.loop-j-preserved
loop-j-preserved c =
    let inv = c.loop-j.invariant in
    let did = c.check_next-did in
    let e = ap (λ r. r.now) inv.vars in
    let vs = c.args.w.now.vars.now in
    let us = c.loop-j.w.vars.now in
    let temps = c.args.temps.now in
    let b = get_or temps c.loop-j.j some_temp in
    let lt : c.loop-j.j < length temps = omega (arith, c.loop-j-test.true, c.loop-j.auto.j-end) in
    record {
      step = rows_next (check_pair vs) temps b c.loop-j.j vs us c.args.w.now.store.now c.loop-j.w.store.now
          did.new.w.store.now
          c.args.before c.loop-j.did did.result e (get_or_default temps c.loop-j.j some_temp b lt) lt inv.step
          (subst (λ (ws : List VarId). Stepped us (each_before (check_pair ws) temps b c.loop-j.j)
          c.loop-j.w.store.now did.new.w.store.now c.loop-j.did did.result) e (did.ensures.step some_temp));
      written = subst (λ (ws : List VarId). did.result ≢ Failed
          → All (λ u. get_or did.new.fixed u.0 0 ≡ least (set_at did.new.w.store.now.sets u.0)) ws) e did.ensures.written;
      are = did.ensures.are;
      same_reference = did.ensures.same_reference ∙ inv.same_reference;
      vars = did.ensures.vars ∙ inv.vars;
    }
