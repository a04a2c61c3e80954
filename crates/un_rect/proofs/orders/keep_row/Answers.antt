use Rattle.std.proofs.Common.{◌<◌, ◌≤◌, ◌+◌, ◌∙◌, get_or, length, refl, sym, ap, subst, arith}
use Rattle.std.proofs.lemmas.List.{get_or_default}
use Rattle.std.proofs.lemmas.List.Elements.{recursion_from_All}
use Rattle.un_prop.specs.Acts.{act_vars}
use Rattle.un_prop.specs.AmongLaws.{has_among}
use Rattle.un_prop.specs.Going.{Stepped}
use Rattle.un_prop.specs.GoingLaws.{stepped_same}
use Rattle.un_prop.specs.LookLaws.{known_of}
use Rattle.un_prop.specs.declared.act.Temp.{Temp}
use Rattle.un_prop.specs.declared.propagator.Pruned.TheVariants.{Same}
use Rattle.un_rect.specs.Spans.{TempVars}
use Rattle.un_rect.specs.Orders.{order_pair}
use Rattle.un_rect.specs.Pairs.{each_before}
use Rattle.un_rect.proofs.OrderSteps.{row_idle, row_unsure}
use Rattle.un_rect.proofs.ExtentLaws.{at_place_is, order_spared, some_temp}
use Rattle.un_rect.proofs.Rows.{row_next, row_skip, same_temp}
use Rattle.un_rect.proofs.orders.keep_row.Goals as goal

pub is_single-requires : goal.is_single-requires
is_single-requires c =
    let b = c.index-temps-j.result in
    let of_b = subst (λ (a : Temp). TempVars c.args.w.now.vars.now a) (sym c.index-temps-j.is) (c.requires.of_temps c.args.j b
    c.requires.there) in
    has_among c.args.w.now.vars.now b.reg c.args.w.now.store.now.sets of_b.of_reg c.requires.known

pub returns-then-not-is_single-clause-step : goal.returns-then-not-is_single-clause-step
returns-then-not-is_single-clause-step c = λ d.
    (let vs = c.args.w.now.vars.now in
    let s = c.args.w.now.store.now in
    let temps = c.args.temps.now in
    let b = c.index-temps-j.result in
    let of_b = subst (λ (a : Temp). TempVars vs a) (sym c.index-temps-j.is) (c.requires.of_temps c.args.j b c.requires.there) in
    subst (λ (a : Temp). Stepped vs (each_before order_pair temps a c.args.j) s s Same Same)
    (sym (at_place_is temps c.args.j b d c.requires.there c.index-temps-j.is))
    (stepped_same vs (each_before order_pair temps b c.args.j) s Same
    (λ live. row_idle vs temps b s.sets (recursion_from_All (TempVars vs) temps c.requires.of_temps) of_b c.requires.known live
    (sym c.is_single.ensures ∙ c.if-not-is_single.true) c.args.j)))

pub is_on-requires-clause-known : goal.is_on-requires-clause-known
is_on-requires-clause-known c =
    let b = c.index-temps-j.result in
    let of_b = subst (λ (a : Temp). TempVars c.args.w.now.vars.now a) (sym c.index-temps-j.is) (c.requires.of_temps c.args.j b
    c.requires.there) in
    known_of c.args.w.now.vars.now (act_vars b.on) c.args.w.now.store.now.sets of_b.of_on c.requires.known

pub returns-then-not-is_on-clause-step : goal.returns-then-not-is_on-clause-step
returns-then-not-is_on-clause-step c = λ d.
    (let vs = c.args.w.now.vars.now in
    let s = c.args.w.now.store.now in
    let temps = c.args.temps.now in
    let b = c.index-temps-j.result in
    subst (λ (a : Temp). Stepped vs (each_before order_pair temps a c.args.j) s s Same Same)
    (sym (at_place_is temps c.args.j b d c.requires.there c.index-temps-j.is))
    (stepped_same vs (each_before order_pair temps b c.args.j) s Same
    (λ live. row_unsure vs temps b s.sets (recursion_from_All (TempVars vs) temps c.requires.of_temps)
    (sym c.is_on.ensures ∙ c.if-not-is_on.true) c.args.j)))

pub keep_orders-did-requires-clause-of_a : goal.keep_orders-did-requires-clause-of_a
keep_orders-did-requires-clause-of_a c =
    let i = c.loop-i.i in
    same_temp c.args.w.now.vars.now c.loop-i.w.vars.now c.index-temps-i.result (ap (λ r. r.now) c.loop-i.invariant.vars)
    (subst (λ (a : Temp). TempVars c.args.w.now.vars.now a) (sym c.index-temps-i.is) (c.requires.of_temps i c.index-temps-i.result
    (omega (arith, c.loop-i-test.true, c.requires.there))))

pub keep_orders-did-requires-clause-of_b : goal.keep_orders-did-requires-clause-of_b
keep_orders-did-requires-clause-of_b c =
    same_temp c.args.w.now.vars.now c.loop-i.w.vars.now c.index-temps-j.result (ap (λ r. r.now) c.loop-i.invariant.vars)
    (subst (λ (a : Temp). TempVars c.args.w.now.vars.now a) (sym c.index-temps-j.is) (c.requires.of_temps c.args.j
    c.index-temps-j.result c.requires.there))

pub loop-i-init : goal.loop-i-init
loop-i-init c =
    let vs = c.args.w.now.vars.now in
    let s = c.args.w.now.store.now in
    let temps = c.args.temps.now in
    let b = c.index-temps-j.result in
    let first = c.next_order-i in
    let start = stepped_same vs (each_before order_pair temps b 0) s Same (λ live. refl) in
    let few : first.result ≤ length temps = omega (arith, first.ensures.high, c.requires.there) in
    record {
      within = first.ensures.high;
      step = row_skip order_pair temps b some_temp vs s s Same Same 0 start first.result (omega arith) few
          (λ k low below live. (
          let lt : k < length temps = omega (arith, below, few) in
          let a = get_or temps k some_temp in
          order_spared vs vs temps a b c.args.extents.now k c.args.j refl (get_or_default temps k some_temp a lt) c.index-temps-j.is lt
          c.requires.there c.requires.of_temps s s c.requires.known c.requires.live c.requires.are (each_before order_pair temps b 0) Same
          start (first.ensures.passed k low below)));
      same_reference = refl;
      vars = refl;
    }

pub loop-i-preserved : goal.loop-i-preserved
loop-i-preserved c =
    let inv = c.loop-i.invariant in
    let did = c.keep_orders-did in
    let vs = c.args.w.now.vars.now in
    let old = c.args.w.now.store.now in
    let new = did.new.w.store.now in
    let temps = c.args.temps.now in
    let b = c.index-temps-j.result in
    let i = c.loop-i.i in
    let later = c.next_order-i-in-loop-i in
    let next = row_next order_pair temps c.index-temps-i.result b i vs c.loop-i.w.vars.now old c.loop-i.w.store.now new Same c.loop-i.did
    did.result (ap (λ r. r.now) inv.vars) c.index-temps-i.is (omega (arith, c.loop-i-test.true, c.requires.there)) inv.step
    did.ensures.step in
    let few : later.result ≤ length temps = omega (arith, later.ensures.high, c.requires.there) in
    record {
      within = later.ensures.high;
      step = row_skip order_pair temps b some_temp vs old new Same did.result (i + 1) next later.result later.ensures.low few
          (λ k low below live. (
          let lt : k < length temps = omega (arith, below, few) in
          let a = get_or temps k some_temp in
          order_spared vs vs temps a b c.args.extents.now k c.args.j refl (get_or_default temps k some_temp a lt) c.index-temps-j.is lt
          c.requires.there c.requires.of_temps old new c.requires.known c.requires.live c.requires.are
          (each_before order_pair temps b (i + 1)) did.result next (later.ensures.passed k low below)));
      same_reference = did.ensures.same_reference ∙ inv.same_reference;
      vars = did.ensures.vars ∙ inv.vars;
    }
