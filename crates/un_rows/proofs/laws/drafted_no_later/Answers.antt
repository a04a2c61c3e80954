use Rattle.un_rows.proofs.Fitting.{drafted_no_later}
use Rattle.un_rows.proofs.laws.drafted_no_later.Goals as goal

pub returns : goal.returns
returns c ops arcs d x close cs fits lead issued kept ahead after room horizon from le =
    drafted_no_later c.args.t.now ops arcs d x close cs fits lead issued kept ahead after room horizon from le
