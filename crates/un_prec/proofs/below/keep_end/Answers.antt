use Rattle.std.proofs.Common.{ℕ, List, true, false, ◌≡◌, ◌≢◌, ◌<◌, ◌≤◌, ◌+◌, ◌-◌, ◌/◌, ◌∙◌, length, get_or, max, min}
use Rattle.std.proofs.Common.{nat_le}
use Rattle.std.proofs.Common.{refl, sym, ap, subst, arith}
use Rattle.std.proofs.lemmas.Bool.Decides.{nat_tests}
use Rattle.std.proofs.lemmas.List.{get_or_default}
use Rattle.un_base.specs.declared.ids.VarId.{VarId}
use Rattle.un_domains.specs.Sets.{Sets, set_at, least, greatest, cut_by}
use Rattle.un_domains.specs.SetLaws.{has-fold_max}
use Rattle.un_prop.specs.Among.{among}
use Rattle.un_prop.specs.AmongLaws.{has_among}
use Rattle.un_prop.specs.Rounds.{HasVars}
use Rattle.un_prop.specs.Going.{Stepped}
use Rattle.un_prop.specs.GoingLaws.{stepped_same, stepped_by}
use Rattle.un_prop.specs.declared.propagator.Pruned.TheVariants.{Failed}
use Rattle.un_prop.specs.LastLaws.{cut_all, cut_same}
use Rattle.un_prec.specs.declared.below.Weighted.{Weighted}
use Rattle.un_prec.specs.Below.{least_cost, end_cut, end_test, BelowVars}
use Rattle.un_prec.proofs.Ends.{free_end, last_end, least_stays}
use Rattle.un_prec.proofs.below.keep_end.Goals as goal

-- the end in the list that is lent
lent_end : (es lent : List Weighted) (i : ℕ) (none d : Weighted) → lent ≡ es → i < length es → get_or lent i none ≡ get_or es i d
lent_end es lent i none d e lt = ap (λ (us : List Weighted). get_or us i none) e ∙ get_or_default es i none d lt

lent_known : (vs : List VarId) (es lent : List Weighted) (i : ℕ) (none : Weighted) (s : Sets) → lent ≡ es → i < length es → BelowVars vs es
    → HasVars vs s → (get_or lent i none).end.0 < length s
lent_known vs es lent i none s e lt h k = subst (λ (d : Weighted). d.end.0 < length s) (sym (lent_end es lent i none none e lt))
    (has_among vs (get_or es i none).end s (h i none lt) k)

pub min-requires-clause-there : goal.min-requires-clause-there
min-requires-clause-there c =
    let p = c.args.p.now in
    lent_known p.vars p.ends c.as_slice.result.now c.args.i (record { end = record { 0 = 0 }; freq = 0 }) c.args.w.now.store.now.sets
    c.as_slice.ensures c.requires.there p.among c.requires.known

pub min-requires-clause-some : goal.min-requires-clause-some
min-requires-clause-some c =
    let p = c.args.p.now in
    let d : Weighted = record { end = record { 0 = 0 }; freq = 0 } in
    c.requires.live (λ e. let h = rw e at c.if-eq.ensures in cc h) (get_or c.as_slice.result.now c.args.i d).end.0
    (lent_known p.vars p.ends c.as_slice.result.now c.args.i d c.args.w.now.store.now.sets
    c.as_slice.ensures c.requires.there p.among c.requires.known)

pub max-requires-2-clause-there : goal.max-requires-2-clause-there
max-requires-2-clause-there c =
    let p = c.args.p.now in
    lent_known p.vars p.ends c.as_slice.result.now c.args.i (record { end = record { 0 = 0 }; freq = 0 }) c.args.w.now.store.now.sets
    c.as_slice.ensures c.requires.there p.among c.requires.known

pub max-requires-2-clause-some : goal.max-requires-2-clause-some
max-requires-2-clause-some c =
    let p = c.args.p.now in
    let d : Weighted = record { end = record { 0 = 0 }; freq = 0 } in
    c.requires.live (λ e. let h = rw e at c.if-eq.ensures in cc h) (get_or c.as_slice.result.now c.args.i d).end.0
    (lent_known p.vars p.ends c.as_slice.result.now c.args.i d c.args.w.now.store.now.sets
    c.as_slice.ensures c.requires.there p.among c.requires.known)

pub returns-then-e-eq0-clause-step : goal.returns-then-e-eq0-clause-step
returns-then-e-eq0-clause-step c d =
    let p = c.args.p.now in
    let s = c.args.w.now.store.now in
    let lent = c.as_slice.result.now in
    let none : Weighted = record { end = record { 0 = 0 }; freq = 0 } in
    let e = get_or lent c.args.i none in
    let within = lent_known p.vars p.ends lent c.args.i none s.sets c.as_slice.ensures c.requires.there p.among c.requires.known in
    let room = c.requires.room (λ e. let h = rw e at c.if-eq.ensures in cc h) in
    subst (λ (u : Weighted). Stepped c.args.w.now.vars.now (end_cut p.ends p.limit u) s s c.args.before c.args.before)
    (lent_end p.ends lent c.args.i none d c.as_slice.ensures c.requires.there)
    (stepped_same c.args.w.now.vars.now (end_cut p.ends p.limit e) s c.args.before
    (λ live. cut_all (end_test p.ends p.limit e s.sets) e.end.0 s.sets within live
    (λ y there. free_end e.freq (least (set_at s.sets e.end.0)) y (least_cost p.ends s.sets) c.args.room p.limit c.if-e-eq0.true room)))

pub returns-then-greatest-high-clause-step : goal.returns-then-greatest-high-clause-step
returns-then-greatest-high-clause-step c d =
    let p = c.args.p.now in
    let s = c.args.w.now.store.now in
    let lent = c.as_slice.result.now in
    let none : Weighted = record { end = record { 0 = 0 }; freq = 0 } in
    let e = get_or lent c.args.i none in
    let within = lent_known p.vars p.ends lent c.args.i none s.sets c.as_slice.ensures c.requires.there p.among c.requires.known in
    let room = c.requires.room (λ e. let h = rw e at c.if-eq.ensures in cc h) in
    let low = least (set_at s.sets e.end.0) in
    let high = max low 1 + c.args.room / e.freq in
    let most : greatest (set_at s.sets e.end.0) ≤ high = (let f = ap (λ (n : ℕ). c.args.room / n) c.from.ensures in
    omega (
      arith,
      c.if-greatest-high.true,
      c.from-greatest.ensures,
      c.max-2.ensures,
      c.saturating_add-high.ensures,
      c.from-least.ensures,
      c.max.ensures,
      c.min.ensures,
      f,
    )) in
    subst (λ (u : Weighted). Stepped c.args.w.now.vars.now (end_cut p.ends p.limit u) s s c.args.before c.args.before)
    (lent_end p.ends lent c.args.i none d c.as_slice.ensures c.requires.there)
    (stepped_same c.args.w.now.vars.now (end_cut p.ends p.limit e) s c.args.before
    (λ live. cut_all (end_test p.ends p.limit e s.sets) e.end.0 s.sets within live
    (λ y there. last_end e.freq low y (least_cost p.ends s.sets) c.args.room p.limit high c.if-e-eq0.false room refl
    ∙ (let le = has-fold_max 0 (set_at s.sets e.end.0) y there in grind (arith, nat_tests, le, most)))))

pub returns-clause-step : goal.returns-clause-step
returns-clause-step c d =
    let p = c.args.p.now in
    let s = c.args.w.now.store.now in
    let lent = c.as_slice.result.now in
    let none : Weighted = record { end = record { 0 = 0 }; freq = 0 } in
    let e = get_or lent c.args.i none in
    let room = c.requires.room (λ e. let h = rw e at c.if-eq.ensures in cc h) in
    let low = least (set_at s.sets e.end.0) in
    let high = c.saturating_add-high.result in
    let is : high ≡ max low 1 + c.args.room / e.freq = (let f = ap (λ (n : ℕ). c.args.room / n) c.from.ensures in
    omega (
      arith,
      c.if-greatest-high.false,
      c.from-greatest.ensures,
      c.max-2.type_inv,
      c.saturating_add-high.ensures,
      c.from-least.ensures,
      c.max.ensures,
      c.min.ensures,
      f,
    )) in
    subst (λ (u : Weighted). Stepped c.args.w.now.vars.now (end_cut p.ends p.limit u) s c.keep_le.new.w.store.now c.args.before
    c.keep_le.result)
    (lent_end p.ends lent c.args.i none d c.as_slice.ensures c.requires.there)
    (stepped_by c.args.w.now.vars.now (end_cut p.ends p.limit e) (cut_by (λ y. nat_le y high) e.end.0) s c.keep_le.new.w.store.now
    c.args.before c.keep_le.result
    (λ live. cut_same (end_test p.ends p.limit e s.sets) (λ y. nat_le y high) e.end.0 s.sets
    (λ y there. last_end e.freq low y (least_cost p.ends s.sets) c.args.room p.limit high c.if-e-eq0.false room is))
    c.keep_le.ensures.step)

pub returns-clause-room : goal.returns-clause-room
returns-clause-room c still =
    let p = c.args.p.now in
    let s = c.args.w.now.store.now in
    let lent = c.as_slice.result.now in
    let none : Weighted = record { end = record { 0 = 0 }; freq = 0 } in
    let e = get_or lent c.args.i none in
    let within = lent_known p.vars p.ends lent c.args.i none s.sets c.as_slice.ensures c.requires.there p.among c.requires.known in
    let going : c.args.before ≢ Failed = λ e. let h = rw e at c.if-eq.ensures in cc h in
    let room = c.requires.room going in
    let high = c.saturating_add-high.result in
    let le : least (set_at s.sets e.end.0) ≤ high = omega (
      arith,
      c.if-greatest-high.false,
      c.from-greatest.ensures,
      c.max-2.type_inv,
      c.saturating_add-high.ensures,
      c.from-least.ensures,
      c.max.ensures,
      c.min.ensures,
    ) in
    ap (λ (n : ℕ). n + c.args.room + 1)
    (least_stays p.ends s.sets c.keep_le.new.w.store.now.sets e.end.0 high within (c.requires.live going e.end.0 within) le
    c.keep_le.ensures.sets)
    ∙ room
