use Rattle.std.proofs.Common.{ℕ, true, false, ◌≡◌, ◌-◌, ◌∙◌, nat_le}
use Rattle.std.proofs.Common.{ap, sym}
use Rattle.un_domains.specs.Sets.{cut_by, greatest, set_at}
use Rattle.un_prop.specs.AmongLaws.{has_among}
use Rattle.un_prop.specs.GoingLaws.{stepped_same, stepped_by}
use Rattle.un_prop.specs.When.{when_cut}
use Rattle.un_prop.specs.WhenLaws.{when_not, when_so}
use Rattle.un_alt.specs.FrameCuts.{is_ordered}
use Rattle.un_alt.specs.FrameCuts.{early_test}
use Rattle.un_alt.proofs.Orders.{going}
use Rattle.un_alt.proofs.order.keep_early.Goals as goal

pub keep_le-requires-clause-there : goal.keep_le-requires-clause-there
keep_le-requires-clause-there c = has_among c.args.p.now.vars c.args.o.from c.args.w.now.store.now.sets c.requires.of_order.of_from
    c.requires.known

pub max-requires-clause-some : goal.max-requires-clause-some
max-requires-clause-some c =
    let p = c.args.p.now in
    c.requires.live (going c.args.before c.if-eq.ensures) c.args.o.to.0
    (has_among p.vars c.args.o.to c.args.w.now.store.now.sets c.requires.of_order.of_to c.requires.known)

pub max-requires-clause-there : goal.max-requires-clause-there
max-requires-clause-there c = let p = c.args.p.now in has_among p.vars c.args.o.to c.args.w.now.store.now.sets c.requires.of_order.of_to
    c.requires.known

pub returns-then-not-is_ordered-clause-step : goal.returns-then-not-is_ordered-clause-step
returns-then-not-is_ordered-clause-step c =
    let p = c.args.p.now in
    let s = c.args.w.now.store.now in
    let o = c.args.o in
    stepped_same c.args.w.now.vars.now (when_cut (is_ordered p.flag o) (early_test o) o.from) s c.args.before
    (λ live. when_not (is_ordered p.flag o) (early_test o) o.from s.sets
    (has_among p.vars o.from s.sets c.requires.of_order.of_from c.requires.known)
    live (sym c.is_ordered.ensures ∙ c.if-not-is_ordered.true))

pub returns-clause-step : goal.returns-clause-step
returns-clause-step c =
    let p = c.args.p.now in
    let s = c.args.w.now.store.now in
    let o = c.args.o in
    let high = c.saturating_sub-high.result in
    let is : high ≡ greatest (set_at s.sets o.to.0) - o.gap = c.saturating_sub-high.ensures ∙ ap (λ (n : ℕ). n - o.gap) c.max.ensures in
    stepped_by c.args.w.now.vars.now (when_cut (is_ordered p.flag o) (early_test o) o.from) (cut_by (λ y. nat_le y high) o.from.0) s
    c.keep_le.new.w.store.now c.args.before c.keep_le.result
    (λ live. when_so (is_ordered p.flag o) (early_test o) (λ y. nat_le y high) o.from s.sets
    (sym c.is_ordered.ensures ∙ c.if-not-is_ordered.false) (λ y. ap (λ (n : ℕ). nat_le y n) (sym is)))
    c.keep_le.ensures.step
