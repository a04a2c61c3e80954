use Rattle.std.proofs.Common.{List, ◌≡◌, ◌+◌, ◌∙◌, All, Some, get_or, refl, sym, ap, subst, arith}
use Rattle.std.proofs.lemmas.List.Elements.{recursion_from_All}
use Rattle.un_base.specs.declared.ids.VarId.{VarId}
use Rattle.un_domains.specs.Sets.{Sets}
use Rattle.un_prop.specs.Acts.{act_vars}
use Rattle.un_prop.specs.Going.{Stepped}
use Rattle.un_prop.specs.GoingLaws.{stepped_same}
use Rattle.un_prop.specs.LookLaws.{known_of}
use Rattle.un_prop.specs.declared.act.Temp.{Temp}
use Rattle.un_prop.specs.declared.propagator.Pruned.TheVariants.{Same}
use Rattle.un_rect.specs.Spans.{TempVars}
use Rattle.un_rect.specs.Apart.{clash_pair}
use Rattle.un_rect.specs.Pairs.{each_before}
use Rattle.un_rect.proofs.ClashLaws.{row_idle}
use Rattle.un_rect.specs.Extents.{AreExtents}
use Rattle.un_rect.proofs.ExtentLaws.{at_place_is, same_sets, some_temp}
use Rattle.un_rect.proofs.Rows.{row_next, row_skip, same_temp}
use Rattle.un_rect.proofs.clashes.keep_row.Goals as goal

pub is_on-requires-clause-known : goal.is_on-requires-clause-known
is_on-requires-clause-known c =
    let b = c.index-temps-j.result in
    let of_b = subst (λ (a : Temp). TempVars c.args.w.now.vars.now a) (sym c.index-temps-j.is) (c.requires.of_temps c.args.j b
    c.requires.there) in
    known_of c.args.w.now.vars.now (act_vars b.on) c.args.w.now.store.now.sets of_b.of_on c.requires.known

pub returns-then-not-is_on-clause-step : goal.returns-then-not-is_on-clause-step
returns-then-not-is_on-clause-step c = λ d.
    (let vs = c.args.w.now.vars.now in
    let s = c.args.w.now.store.now in
    let temps = c.args.temps.now in
    let b = c.index-temps-j.result in
    let of_b = subst (λ (a : Temp). TempVars vs a) (sym c.index-temps-j.is) (c.requires.of_temps c.args.j b c.requires.there) in
    subst (λ (a : Temp). Stepped vs (each_before clash_pair temps a c.args.j) s s Same Same)
    (sym (at_place_is temps c.args.j b d c.requires.there c.index-temps-j.is))
    (stepped_same vs (each_before clash_pair temps b c.args.j) s Same
    (λ live. row_idle vs temps b s.sets (recursion_from_All (TempVars vs) temps c.requires.of_temps) of_b c.requires.known live
    (sym c.is_on.ensures ∙ c.if-not-is_on.true) c.args.j)))

pub keep_clashes-did-requires-clause-of_a : goal.keep_clashes-did-requires-clause-of_a
keep_clashes-did-requires-clause-of_a c =
    let i = c.loop-i.i in
    same_temp c.args.w.now.vars.now c.loop-i.w.vars.now c.index-temps-i.result (ap (λ r. r.now) c.loop-i.invariant.vars)
    (subst (λ (a : Temp). TempVars c.args.w.now.vars.now a) (sym c.index-temps-i.is) (c.requires.of_temps i c.index-temps-i.result
    (omega (arith, c.loop-i-test.true, c.requires.there))))

pub keep_clashes-did-requires-clause-of_b : goal.keep_clashes-did-requires-clause-of_b
keep_clashes-did-requires-clause-of_b c =
    same_temp c.args.w.now.vars.now c.loop-i.w.vars.now c.index-temps-j.result (ap (λ r. r.now) c.loop-i.invariant.vars)
    (subst (λ (a : Temp). TempVars c.args.w.now.vars.now a) (sym c.index-temps-j.is) (c.requires.of_temps c.args.j
    c.index-temps-j.result c.requires.there))

pub next_clash-i-requires-in-loop-i-clause-of_temps : goal.next_clash-i-requires-in-loop-i-clause-of_temps
next_clash-i-requires-in-loop-i-clause-of_temps c = subst (λ (us : List VarId). All (TempVars us) c.args.temps.now)
    (sym (ap (λ r. r.now) (c.keep_clashes-did.ensures.vars ∙ c.loop-i.invariant.vars))) c.requires.of_temps

pub next_clash-i-requires-in-loop-i-clause-are : goal.next_clash-i-requires-in-loop-i-clause-are
next_clash-i-requires-in-loop-i-clause-are c = λ e.
    (let inv = c.loop-i.invariant in
    let did = c.keep_clashes-did in
    let vs = c.args.w.now.vars.now in
    let old = c.args.w.now.store.now in
    let new = did.new.w.store.now in
    let temps = c.args.temps.now in
    let a = c.index-temps-i.result in
    let b = c.index-temps-j.result in
    let i = c.loop-i.i in
    let next = row_next clash_pair temps a b i vs c.loop-i.w.vars.now old c.loop-i.w.store.now new Same c.loop-i.did did.result
    (ap (λ r. r.now) inv.vars) c.index-temps-i.is (omega (arith, c.loop-i-test.true, c.requires.there)) inv.step did.ensures.step in
    subst (λ (s : Sets). AreExtents temps s c.args.extents.now)
    (sym (same_sets vs (each_before clash_pair temps b (i + 1)) old new did.result next c.requires.live e)) c.requires.are)

pub loop-i-init : goal.loop-i-init
loop-i-init c =
    let vs = c.args.w.now.vars.now in
    let s = c.args.w.now.store.now in
    let temps = c.args.temps.now in
    let b = c.index-temps-j.result in
    let first = c.next_clash-i in
    record {
      within = first.ensures.high;
      step = row_skip clash_pair temps b some_temp vs s s Same Same 0
          (stepped_same vs (each_before clash_pair temps b 0) s Same (λ live. refl)) first.result (omega arith)
          (omega (arith, first.ensures.high, c.requires.there))
          (λ k low below live. subst (λ (t : Temp). clash_pair (get_or temps k some_temp) t s.sets ≡ Some s.sets)
          (sym c.index-temps-j.is) (first.ensures.passed k some_temp b low below));
      same_reference = refl;
      vars = refl;
    }

pub loop-i-preserved : goal.loop-i-preserved
loop-i-preserved c =
    let inv = c.loop-i.invariant in
    let did = c.keep_clashes-did in
    let vs = c.args.w.now.vars.now in
    let old = c.args.w.now.store.now in
    let new = did.new.w.store.now in
    let temps = c.args.temps.now in
    let a = c.index-temps-i.result in
    let b = c.index-temps-j.result in
    let i = c.loop-i.i in
    let later = c.next_clash-i-in-loop-i in
    record {
      within = later.ensures.high;
      step = row_skip clash_pair temps b some_temp vs old new Same did.result (i + 1)
          (row_next clash_pair temps a b i vs c.loop-i.w.vars.now old c.loop-i.w.store.now new Same c.loop-i.did did.result
          (ap (λ r. r.now) inv.vars) c.index-temps-i.is (omega (arith, c.loop-i-test.true, c.requires.there)) inv.step did.ensures.step)
          later.result later.ensures.low (omega (arith, later.ensures.high, c.requires.there))
          (λ k low below live. subst (λ (t : Temp). clash_pair (get_or temps k some_temp) t new.sets ≡ Some new.sets)
          (sym c.index-temps-j.is) (later.ensures.passed k some_temp b low below));
      same_reference = did.ensures.same_reference ∙ inv.same_reference;
      vars = did.ensures.vars ∙ inv.vars;
    }
