use Rattle.std.proofs.Common.{refl}
use Rattle.un_search.proofs.RootLemmas.{by_props, low_tighter, low_lost, low_root, root_live, root_reads}
use Rattle.un_search.proofs.root.lower.Goals as goal

pub tighten-requires-clause-live : goal.tighten-requires-clause-live
tighten-requires-clause-live c = root_live c.args.m.now _ c.args.root.stores c.requires.root.at

pub tighten-requires-clause-reads : goal.tighten-requires-clause-reads
tighten-requires-clause-reads c = root_reads c.args.m.now _ c.args.root.stores c.requires.root.at

pub tighten-requires-clause-tighter : goal.tighten-requires-clause-tighter
tighten-requires-clause-tighter c =
    let r = c.args.root in
    let posted = c.requires.root.at.stores.posted in
    low_tighter c.args.m.now r c.requires.root c.args.limit c.in_ok-lower.lower
    (by_props c.args.m.now c.args.limit c.in_ok-lower.lower r.stores.engine.props c.props.result.now r.limit_at c.props.ensures
    c.in_ok-lower.ensures r.limit c.requires.lower posted.asks posted.tight c.requires.root.place)

pub returns-in-Failed : goal.returns-in-Failed
returns-in-Failed c =
    let r = c.args.root in
    let posted = c.requires.root.at.stores.posted in
    let e = c.tighten.ensures in
    low_lost c.args.m.now r c.requires.root c.args.limit c.in_ok-lower.lower
    (by_props c.args.m.now c.args.limit c.in_ok-lower.lower r.stores.engine.props c.props.result.now r.limit_at c.props.ensures
    c.in_ok-lower.ensures r.limit c.requires.lower posted.asks posted.tight c.requires.root.place) c.tighten.new.engine c.tighten.result
    e.props e.long e.fresh e.fix c.in-Failed.is

pub returns-in-Stable : goal.returns-in-Stable
returns-in-Stable c =
    let r = c.args.root in
    let posted = c.requires.root.at.stores.posted in
    let e = c.tighten.ensures in (
      record {
        at = low_root c.args.m.now r c.requires.root c.args.limit c.in_ok-lower.lower
            (by_props c.args.m.now c.args.limit c.in_ok-lower.lower r.stores.engine.props c.props.result.now r.limit_at c.props.ensures
            c.in_ok-lower.ensures r.limit c.requires.lower posted.asks posted.tight c.requires.root.place) c.tighten.new.engine
            c.tighten.result e.props e.long e.fresh e.fix _ refl refl refl c.in-Stable.is;
        place = c.requires.root.place;
      },
      refl,
    )
