use Rattle.std.proofs.Common.{◌≡◌, ◌<◌, ◌≤◌, [], Some, length, get_or, set, sym, ap, subst, ◌∙◌}
use Rattle.std.proofs.lemmas.List.{length-set}
use Rattle.std.specs.declared.option.Option.{Option}
use Rattle.un_domains.specs.Sets.{Sets, NoneEmpty}
use Rattle.un_prop.specs.Pruning.{IsFix}
use Rattle.un_prop.specs.Rounds.{HasVars, fix_of}
use Rattle.un_engine.specs.Engines.{State}
use Rattle.un_engine.proofs.EngineLaws.{engine_set, fix_set, vars_kept}
use Rattle.un_engine.proofs.engine.Engine.tighten.Goals as goal

pub invariant_of-self : goal.invariant_of-self
invariant_of-self g c =
    let P = g.P.Propagator in
    let S = g.P.Predicate in
    let e = c.self.inside in
    let at = c.args.at in
    let p = c.args.p in
    let is = sym c.self.view_is in
    let there : at < length e.props.items = subst (λ (x : State g.row.P.Denot). at < length x.props) is c.requires.there in
    let live : NoneEmpty e.store.sets = subst (λ (x : State g.row.P.Denot). NoneEmpty x.store.sets) is c.requires.live in
    let fresh : e.store.marked ≡ [] = subst (λ (x : State g.row.P.Denot). x.store.marked ≡ []) is c.requires.fresh in
    let same : S.scope p ≡ S.scope (get_or e.props.items at p) =
    subst (λ (x : State g.row.P.Denot). S.scope p ≡ S.scope (get_or x.props at p)) is c.requires.scope in
    let spans : P.span p ≤ P.span (get_or e.props.items at p) =
    subst (λ (x : State g.row.P.Denot). P.span p ≤ P.span (get_or x.props at p)) is c.requires.span in
    let r = c.run_from.ensures in
    engine_set S.scope P.cut g.met.P.Propagator.lawful P.span e.props.items at p there e.store e.readers.rows.items (length e.waiting) e.sizes
    e.scratch c.self.invariant same spans c.run_from.new.store _ c.run_from.new.sizes c.run_from.new.scratch c.run_from.result live fresh
    (rw (← c.as_slice.ensures.value) r.rounds) r.long r.marked r.noted r.fixed r.cycles (r.flags ∙ (ap length c.raise.ensures ∙ length-set _ _ _))
    r.sizes

pub returns-clause-fix : goal.returns-clause-fix
returns-clause-fix g c =
    let P = g.P.Propagator in
    let S = g.P.Predicate in
    let e = c.self.inside in
    let at = c.args.at in
    let p = c.args.p in
    let is = sym c.self.view_is in
    let there : at < length e.props.items = subst (λ (x : State g.row.P.Denot). at < length x.props) is c.requires.there in
    let same : S.scope p ≡ S.scope (get_or e.props.items at p) =
    subst (λ (x : State g.row.P.Denot). S.scope p ≡ S.scope (get_or x.props at p)) is c.requires.scope in
    let stricter : (u : Sets) → NoneEmpty u → HasVars (S.scope p) u → P.cut p u ≡ Some u → P.cut (get_or e.props.items at p) u ≡ Some u =
    subst (λ (x : State g.row.P.Denot). (u : Sets) → NoneEmpty u → HasVars (S.scope p) u → P.cut p u ≡ Some u
    → P.cut (get_or x.props at p) u ≡ Some u) is c.requires.stricter in
    let run : IsFix (fix_of P.cut (set e.props.items at p) e.store.sets) c.run_from.new.store.sets c.run_from.result =
    rw (← c.as_slice.ensures.value) c.run_from.ensures.rounds in
    rw (← c.self.view_is) (λ box full long end.
    subst (λ (o : Option Sets). IsFix o c.run_from.new.store.sets c.run_from.result)
    (fix_set S.scope P.cut g.met.P.Propagator.lawful P.span e.props.items at p there box e.store.sets
    (vars_kept S.scope P.cut g.met.P.Propagator.lawful P.span e.props.items e.store.sets box long c.self.invariant.known) same full stricter
    end) run)
