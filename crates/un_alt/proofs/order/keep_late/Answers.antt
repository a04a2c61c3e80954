use Rattle.std.proofs.Common.{true, false, ◌≡◌, ◌≤◌, ◌+◌, ◌-◌, ◌∙◌, nat_lt}
use Rattle.std.proofs.Common.{sym}
use Rattle.std.proofs.Common.{arith}
use Rattle.std.proofs.lemmas.Bool.Decides.{nat_tests}
use Rattle.un_domains.specs.SetLaws.{least-le}
use Rattle.un_domains.specs.Sets.{cut_by, least, set_at}
use Rattle.un_prop.specs.AmongLaws.{has_among}
use Rattle.un_prop.specs.GoingLaws.{stepped_same, stepped_by}
use Rattle.un_prop.specs.When.{when_cut}
use Rattle.un_prop.specs.WhenLaws.{when_not, when_so, when_all}
use Rattle.un_alt.specs.FrameCuts.{is_ordered, late_test}
use Rattle.un_alt.proofs.Orders.{late_is, going}
use Rattle.un_alt.proofs.order.keep_late.Goals as goal

pub min-requires-clause-there : goal.min-requires-clause-there
min-requires-clause-there c = let p = c.args.p.now in has_among p.vars c.args.o.from c.args.w.now.store.now.sets c.requires.of_order.of_from
    c.requires.known

pub min-requires-clause-some : goal.min-requires-clause-some
min-requires-clause-some c =
    let p = c.args.p.now in
    c.requires.live (going c.args.before c.if-eq.ensures) c.args.o.from.0
    (has_among p.vars c.args.o.from c.args.w.now.store.now.sets c.requires.of_order.of_from c.requires.known)

pub min-requires-2-clause-some : goal.min-requires-2-clause-some
min-requires-2-clause-some c =
    let p = c.args.p.now in
    c.requires.live (going c.args.before c.if-eq.ensures) c.args.o.to.0
    (has_among p.vars c.args.o.to c.args.w.now.store.now.sets c.requires.of_order.of_to c.requires.known)

pub min-requires-2-clause-there : goal.min-requires-2-clause-there
min-requires-2-clause-there c = let p = c.args.p.now in has_among p.vars c.args.o.to c.args.w.now.store.now.sets c.requires.of_order.of_to
    c.requires.known

pub returns-then-not-is_ordered-clause-step : goal.returns-then-not-is_ordered-clause-step
returns-then-not-is_ordered-clause-step c =
    let p = c.args.p.now in
    let s = c.args.w.now.store.now in
    let o = c.args.o in
    stepped_same c.args.w.now.vars.now (when_cut (is_ordered p.flag o) (late_test o) o.to) s c.args.before
    (λ live. when_not (is_ordered p.flag o) (late_test o) o.to s.sets (has_among p.vars o.to s.sets c.requires.of_order.of_to
    c.requires.known)
    live (sym c.is_ordered.ensures ∙ c.if-not-is_ordered.true))

pub keep_gt-requires-clause-there : goal.keep_gt-requires-clause-there
keep_gt-requires-clause-there c = has_among c.args.p.now.vars c.args.o.to c.args.w.now.store.now.sets c.requires.of_order.of_to
    c.requires.known

pub returns-then-low-least-clause-step : goal.returns-then-low-least-clause-step
returns-then-low-least-clause-step c =
    let p = c.args.p.now in
    let s = c.args.w.now.store.now in
    let o = c.args.o in
    let low : least (set_at s.sets o.from.0) + o.gap ≤ least (set_at s.sets o.to.0) =
    omega (arith, c.from-start.ensures, c.min.ensures, c.from-gap.ensures, c.from-least.ensures, c.min-2.ensures, c.if-low-least.true) in
    stepped_same c.args.w.now.vars.now (when_cut (is_ordered p.flag o) (late_test o) o.to) s c.args.before
    (λ live. when_all (is_ordered p.flag o) (late_test o) o.to s.sets
    (has_among p.vars o.to s.sets c.requires.of_order.of_to c.requires.known) live
    (λ y there. let down = least-le (set_at s.sets o.to.0) y there in grind (arith, nat_tests, low, down)))

pub returns-clause-step : goal.returns-clause-step
returns-clause-step c =
    let p = c.args.p.now in
    let s = c.args.w.now.store.now in
    let o = c.args.o in
    let below = c.from-start.result + c.from-gap.result - 1 in
    let is : below + 1 ≡ least (set_at s.sets o.from.0) + o.gap =
    omega (arith, c.from-start.ensures, c.min.ensures, c.from-gap.ensures, c.if-low-least.false) in
    stepped_by c.args.w.now.vars.now (when_cut (is_ordered p.flag o) (late_test o) o.to) (cut_by (λ y. nat_lt below y) o.to.0) s
    c.keep_gt.new.w.store.now c.args.before c.keep_gt.result
    (λ live. when_so (is_ordered p.flag o) (late_test o) (λ y. nat_lt below y) o.to s.sets
    (sym c.is_ordered.ensures ∙ c.if-not-is_ordered.false)
    (λ y. late_is (least (set_at s.sets o.from.0)) o.gap below y is))
    c.keep_gt.ensures.step
