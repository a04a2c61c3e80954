use Rattle.std.proofs.Common.{List, ◌≡◌, ◌≢◌, ◌<◌, ◌≤◌, ◌+◌, ◌∙◌, All, get_or, length, refl, sym, ap, subst, arith}
use Rattle.std.proofs.lemmas.List.{get_or_default}
use Rattle.std.proofs.lemmas.List.Elements.{recursion_from_All}
use Rattle.un_base.specs.declared.ids.VarId.{VarId}
use Rattle.un_domains.specs.Sets.{set_at, least}
use Rattle.un_prop.specs.Going.{Stepped}
use Rattle.un_prop.specs.GoingLaws.{stepped_same}
use Rattle.un_prop.specs.declared.act.Temp.{Temp}
use Rattle.un_prop.specs.declared.propagator.Pruned.TheVariants.{Same, Failed}
use Rattle.un_rect.specs.Spans.{TempVars}
use Rattle.un_rect.specs.Apart.{check_pair}
use Rattle.un_rect.specs.Pairs.{each_before}
use Rattle.un_rect.proofs.CheckSteps.{checks_idle}
use Rattle.un_rect.specs.declared.opened.Opened.TheVariants.{More}
use Rattle.un_rect.proofs.ExtentLaws.{check_noted, some_temp}
use Rattle.un_rect.proofs.Rows.{row_next, row_skip, same_ascend, same_known, same_temp, same_written}
use Rattle.un_rect.proofs.checks.check_row.Goals as goal

pub returns-then-is_done-clause-step : goal.returns-then-is_done-clause-step
returns-then-is_done-clause-step c = λ d.
    (let vs = c.args.w.now.vars.now in
    let s = c.args.w.now.store.now in
    let temps = c.args.temps.now in
    let b = get_or temps c.args.j d in
    stepped_same vs (each_before (check_pair vs) temps b c.args.j) s Same
    (λ live. checks_idle vs temps b s.sets c.requires.ascend (recursion_from_All (TempVars vs) temps c.requires.of_temps)
    (c.requires.of_temps c.args.j d c.requires.there) c.requires.known live (sym (c.is_done.ensures d) ∙ c.if-is_done.true) c.args.j))

pub check-did-requires-clause-ascend : goal.check-did-requires-clause-ascend
check-did-requires-clause-ascend c = same_ascend c.args.w.now.vars.now c.loop-i.w.vars.now
    (ap (λ r. r.now) c.loop-i.invariant.vars) c.requires.ascend

pub check-did-requires-clause-of_a : goal.check-did-requires-clause-of_a
check-did-requires-clause-of_a c =
    let i = c.loop-i.i in
    same_temp c.args.w.now.vars.now c.loop-i.w.vars.now c.index-temps-i.result (ap (λ r. r.now) c.loop-i.invariant.vars)
    (subst (λ (a : Temp). TempVars c.args.w.now.vars.now a) (sym c.index-temps-i.is) (c.requires.of_temps i c.index-temps-i.result
    (omega (arith, c.loop-i-test.true, c.requires.there))))

pub check-did-requires-clause-of_b : goal.check-did-requires-clause-of_b
check-did-requires-clause-of_b c =
    same_temp c.args.w.now.vars.now c.loop-i.w.vars.now c.index-temps-j.result (ap (λ r. r.now) c.loop-i.invariant.vars)
    (subst (λ (a : Temp). TempVars c.args.w.now.vars.now a) (sym c.index-temps-j.is) (c.requires.of_temps c.args.j
    c.index-temps-j.result c.requires.there))

pub check-did-requires-clause-known : goal.check-did-requires-clause-known
check-did-requires-clause-known c = same_known c.args.w.now.vars.now c.loop-i.w.vars.now c.args.w.now.store.now.sets
    c.loop-i.w.store.now.sets (ap (λ r. r.now) c.loop-i.invariant.vars) c.loop-i.invariant.step.long c.requires.known

pub check-did-requires-clause-live : goal.check-did-requires-clause-live
check-did-requires-clause-live c = c.loop-i.invariant.step.live (λ still. c.requires.live)

pub check-did-requires-clause-room : goal.check-did-requires-clause-room
check-did-requires-clause-room c = omega (arith, c.loop-i.invariant.step.long, c.requires.room, c.loop-i.auto.fixed)

pub check-did-requires-clause-written : goal.check-did-requires-clause-written
check-did-requires-clause-written c = same_written c.args.w.now.vars.now c.loop-i.w.vars.now c.loop-i.w.store.now.sets
    c.loop-i.fixed c.loop-i.did (ap (λ r. r.now) c.loop-i.invariant.vars) c.loop-i.invariant.written

pub check-did-requires-clause-noted : goal.check-did-requires-clause-noted
check-did-requires-clause-noted c = λ other o is.
    (let i = c.loop-i.i in
    let lt : i < length c.args.temps.now = omega (arith, c.loop-i-test.true, c.requires.there) in
    check_noted c.args.w.now.vars.now c.loop-i.w.vars.now c.args.temps.now c.index-temps-i.result c.index-temps-j.result
    c.args.left.now i c.args.j (ap (λ r. r.now) c.loop-i.invariant.vars) c.index-temps-i.is c.index-temps-j.is lt c.requires.there
    c.requires.of_temps c.args.w.now.store.now c.loop-i.w.store.now c.requires.known c.requires.live c.requires.are
    (each_before (check_pair c.args.w.now.vars.now) c.args.temps.now c.index-temps-j.result i) c.loop-i.did c.loop-i.invariant.step
    c.requires.ascend o (c.noted_both-noted.ensures o is))

pub loop-i-init : goal.loop-i-init
loop-i-init c =
    let vs = c.args.w.now.vars.now in
    let s = c.args.w.now.store.now in
    let temps = c.args.temps.now in
    let b = c.index-temps-j.result in
    let first = c.next_left-i in
    let start = stepped_same vs (each_before (check_pair vs) temps b 0) s Same (λ live. refl) in
    let few : first.result ≤ length temps = omega (arith, first.ensures.high, c.requires.there) in
    record {
      within = first.ensures.high;
      step = row_skip (check_pair vs) temps b some_temp vs s s Same Same 0 start first.result (omega arith) few
          (λ k low below live. (
          let lt : k < length temps = omega (arith, below, few) in
          let a = get_or temps k some_temp in
          check_noted vs vs temps a b c.args.left.now k c.args.j refl (get_or_default temps k some_temp a lt) c.index-temps-j.is lt
          c.requires.there c.requires.of_temps s s c.requires.known c.requires.live c.requires.are (each_before (check_pair vs) temps b 0)
          Same start c.requires.ascend More (first.ensures.passed k low below)));
      written = λ still. c.requires.written;
      same_reference = refl;
      vars = refl;
    }

pub loop-i-preserved : goal.loop-i-preserved
loop-i-preserved c =
    let inv = c.loop-i.invariant in
    let did = c.check-did in
    let e = ap (λ r. r.now) inv.vars in
    let vs = c.args.w.now.vars.now in
    let us = c.loop-i.w.vars.now in
    let old = c.args.w.now.store.now in
    let new = did.new.w.store.now in
    let temps = c.args.temps.now in
    let a = c.index-temps-i.result in
    let b = c.index-temps-j.result in
    let i = c.loop-i.i in
    let later = c.next_left-i-in-loop-i in
    let next = row_next (check_pair vs) temps a b i vs us old c.loop-i.w.store.now new Same c.loop-i.did did.result e c.index-temps-i.is
    (omega (arith, c.loop-i-test.true, c.requires.there)) inv.step
    (subst (λ (ws : List VarId). Stepped us (check_pair ws a b) c.loop-i.w.store.now new c.loop-i.did did.result) e did.ensures.step) in
    let few : later.result ≤ length temps = omega (arith, later.ensures.high, c.requires.there) in
    record {
      within = later.ensures.high;
      step = row_skip (check_pair vs) temps b some_temp vs old new Same did.result (i + 1) next later.result later.ensures.low few
          (λ k low below live. (
          let lt : k < length temps = omega (arith, below, few) in
          let t = get_or temps k some_temp in
          check_noted vs vs temps t b c.args.left.now k c.args.j refl (get_or_default temps k some_temp t lt) c.index-temps-j.is lt
          c.requires.there c.requires.of_temps old new c.requires.known c.requires.live c.requires.are
          (each_before (check_pair vs) temps b (i + 1)) did.result next c.requires.ascend More (later.ensures.passed k low below)));
      written = subst (λ (ws : List VarId). did.result ≢ Failed
          → All (λ u. get_or did.new.fixed u.0 0 ≡ least (set_at new.sets u.0)) ws) e did.ensures.written;
      same_reference = did.ensures.same_reference ∙ inv.same_reference;
      vars = did.ensures.vars ∙ inv.vars;
    }
