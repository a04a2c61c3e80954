use Rattle.un_prop.specs.SingleLaws.{single_fails, single_failed, single_holds}
use Rattle.un_prop.proofs.run.exact_on_single_values.Goals as goal

pub returns-clause-exact : goal.returns-clause-exact
returns-clause-exact g c s x known single some =
    let P = g.P.Propagator in
    let m = g.met.P.Propagator in
    let p = c.args.p.now in (
      λ none. single_failed (g.P.Predicate.scope p) (g.P.Predicate.holds p) (P.cut p) (P.parts p) (m.whole p) (m.within p) (m.forward p)
          (m.lawful p) (m.keeps p) s x known single none,
      λ fails. single_fails (g.P.Predicate.scope p) (g.P.Predicate.holds p) (P.cut p) (P.parts p) (m.whole p) (m.within p) (m.forward p)
          (m.lawful p) (m.keeps p) s x known single some fails,
    )

pub returns-clause-holds : goal.returns-clause-holds
returns-clause-holds g c s x known single grounded stays =
    let P = g.P.Propagator in
    let m = g.met.P.Propagator in
    let p = c.args.p.now in
    single_holds (g.P.Predicate.scope p) (g.P.Predicate.holds p) (P.cut p) (P.parts p) (m.whole p) (m.within p) (m.forward p) (m.lawful p)
    (m.keeps p) s x known single grounded stays
