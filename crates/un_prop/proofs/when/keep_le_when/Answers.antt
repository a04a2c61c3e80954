use Rattle.std.proofs.Common.{◌≢◌, ◌∙◌, sym, refl, nat_le}
use Rattle.un_domains.specs.Sets.{cut_by}
use Rattle.un_prop.specs.GoingLaws.{stepped_same, stepped_by}
use Rattle.un_prop.specs.When.{when_cut, up_to}
use Rattle.un_prop.specs.WhenLaws.{when_not, when_so}
use Rattle.un_prop.specs.declared.propagator.Pruned.TheVariants.{Failed}
use Rattle.un_prop.proofs.when.keep_le_when.Goals as goal

pub returns-then-not-so-clause-step : goal.returns-then-not-so-clause-step
returns-then-not-so-clause-step c fact is =
    let going : c.args.before ≢ Failed = λ e. let h = rw e at c.if-eq.ensures in cc h in
    let s = c.args.w.now.store.now in
    stepped_same c.args.w.now.vars.now (when_cut fact (up_to c.args.n) c.args.v) s c.args.before
    (λ live. when_not fact (up_to c.args.n) c.args.v s.sets c.requires.there live (sym (is going) ∙ c.if-not-so.true))

pub returns-clause-step : goal.returns-clause-step
returns-clause-step c fact is =
    let going : c.args.before ≢ Failed = λ e. let h = rw e at c.if-eq.ensures in cc h in
    let s = c.args.w.now.store.now in
    stepped_by c.args.w.now.vars.now (when_cut fact (up_to c.args.n) c.args.v) (cut_by (λ y. nat_le y c.args.n) c.args.v.0) s
    c.keep_le.new.w.store.now c.args.before c.keep_le.result
    (λ live. when_so fact (up_to c.args.n) (λ y. nat_le y c.args.n) c.args.v s.sets (sym (is going) ∙ c.if-not-so.false) (λ y. refl))
    c.keep_le.ensures.step
