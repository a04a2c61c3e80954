use Rattle.std.proofs.Common.{ap}
use Rattle.un_engine.specs.Engines.{State}
use Rattle.un_kinds.specs.declared.any.AnyProp.{AnyProp}
use Rattle.un_search.proofs.DiveLemmas.{dive_back}
use Rattle.un_search.proofs.near.near.Goals as goal

pub returns-clause-same : goal.returns-clause-same
returns-clause-same c =
    let s = c.args.stores in
    let e = c.into_engine-engine.ensures in
    ap (λ (e : State AnyProp). record { engine = e; cuts = s.cuts; scratch = s.scratch; order = s.order })
    (dive_back s.engine _ _ _ c.requires.fresh c.new-dive.ensures c.in_ok-solution.ensures.same e.props e.sets e.fresh)
