use Rattle.un_search.proofs.Tightening.{none_leads}
use Rattle.un_search.proofs.root.tighten_rows.Goals as goal

pub returns-in-None-clause-fix : goal.returns-in-None-clause-fix
returns-in-None-clause-fix c =
    let e = c.args.engine.now in none_leads e.props c.args.at c.args.counted e.store.sets c.in-None.is c.requires.live
