use Rattle.un_search.proofs.Tightening.{lost_first, live_first, tighter_then, both_lead}
use Rattle.un_search.proofs.root.tighten.Goals as goal

pub tighten_rows-requires-clause-live : goal.tighten_rows-requires-clause-live
tighten_rows-requires-clause-live c =
    let e = c.args.engine.now in
    let t = c.tighten.new.self in
    live_first e.props c.args.at c.args.lower c.requires.tighter e.store.sets t.store.sets c.tighten.result c.requires.reads
    c.tighten.ensures.fix c.in-Stable.is t.props c.tighten.ensures.props c.requires.live c.facts.ensures

pub tighten_rows-requires-clause-tighter : goal.tighten_rows-requires-clause-tighter
tighten_rows-requires-clause-tighter c =
    let e = c.args.engine.now in
    let t = c.tighten.new.self in
    tighter_then e.props c.args.at c.args.lower c.requires.tighter e.store.sets t.store.sets c.tighten.result c.requires.reads
    c.tighten.ensures.fix c.in-Stable.is t.props c.tighten.ensures.props

pub returns-in-Failed-clause-fix : goal.returns-in-Failed-clause-fix
returns-in-Failed-clause-fix c =
    let e = c.args.engine.now in
    let t = c.tighten.new.self in
    lost_first e.props c.args.at c.args.lower c.requires.tighter e.store.sets t.store.sets c.tighten.result c.requires.reads
    c.tighten.ensures.fix c.in-Failed.is

pub returns-in-Stable-clause-fix : goal.returns-in-Stable-clause-fix
returns-in-Stable-clause-fix c =
    let e = c.args.engine.now in
    let t = c.tighten.new.self in
    let r = c.tighten_rows in
    both_lead e.props c.args.at c.args.lower c.requires.tighter e.store.sets t.store.sets c.tighten.result c.requires.reads
    c.tighten.ensures.fix c.in-Stable.is t.props c.tighten.ensures.props r.new.engine.store.sets r.result c.tighten.ensures.long
    r.ensures.fix
