use Rattle.un_symm.proofs.Exchanging.{is_solution, costs_same}
use Rattle.un_symm.proofs.laws.exchanges.Goals as goal

pub returns-clause-solution : goal.returns-clause-solution
returns-clause-solution c =
    is_solution c.args.m.now c.requires.model c.args.a.0 c.args.b.0 c.requires.alike c.args.s.now c.requires.solution

pub returns-clause-cost : goal.returns-clause-cost
returns-clause-cost c = costs_same c.args.m.now c.requires.model c.args.a.0 c.args.b.0 c.requires.alike c.args.s.now
