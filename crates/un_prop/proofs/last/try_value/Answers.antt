use Rattle.std.proofs.Common.{ℕ, not, nat_eq, ◌||◌, set, refl, sym, ap, subst, ◌∙◌}
use Rattle.un_domains.specs.Sets.{cut_by}
use Rattle.un_prop.specs.Going.{Goes, answer_of}
use Rattle.un_prop.specs.GoingLaws.{cut_ends, cut_untouched, goes_then, goes_same, goes_by}
use Rattle.un_prop.specs.LastLaws.{cut_same, cut_all, passes_tested, dropped_tested}
use Rattle.un_prop.specs.Pruning.{join}
use Rattle.un_prop.specs.declared.propagator.Pruned.{Pruned}
use Rattle.un_prop.proofs.last.try_value.Goals as goal

pub returns-then-test-clause-goes : goal.returns-then-test-clause-goes
returns-then-test-clause-goes g c =
    let w = c.args.w.now in
    let v = c.args.v in
    let t = g.P.Predicate.holds c.args.p.now (set c.args.fixed.now v.0 c.args.y) in
    goes_same w.vars.now (cut_by (λ z. not (nat_eq z c.args.y) || t) v.0) w.store.now c.args.before
    (λ live. cut_all (λ z. not (nat_eq z c.args.y) || t) v.0 w.store.now.sets c.requires.there live
    (λ y there. passes_tested (not (nat_eq y c.args.y)) t (sym c.if-test.ensures)))

pub returns-clause-goes : goal.returns-clause-goes
returns-clause-goes g c =
    let w = c.args.w.now in
    let v = c.args.v in
    let t = g.P.Predicate.holds c.args.p.now (set c.args.fixed.now v.0 c.args.y) in
    let old = w.store.now in
    let new = c.drop_value.new.self.store.now in
    let q = λ (z : ℕ). not (nat_eq z c.args.y) in
    goes_by w.vars.now (cut_by (λ z. not (nat_eq z c.args.y) || t) v.0) (cut_by q v.0) old new c.args.before c.joined.result
    (λ live. cut_same (λ z. not (nat_eq z c.args.y) || t) q v.0 old.sets
    (λ y there. dropped_tested (not (nat_eq y c.args.y)) t (sym c.if-test.ensures)))
    (subst (λ (a : Pruned). Goes w.vars.now (cut_by q v.0) old new c.args.before a)
    (sym (c.joined.ensures ∙ ap (join c.args.before) c.answer-did.ensures))
    (goes_then w.vars.now (cut_by q v.0) old new c.args.before (answer_of c.drop_value.result)
    (λ e. let h = rw e at c.if-eq.ensures in cc h) (λ live. (
      cut_ends q v.0 old new c.requires.there live c.drop_value.result c.drop_value.ensures.cut,
      cut_untouched q v.0 old new c.requires.there live w.vars.now v c.drop_value.result refl c.requires.lent c.drop_value.ensures.cut,
    ))))
