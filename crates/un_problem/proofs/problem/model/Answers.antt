use Rattle.un_problem.proofs.ProblemLaws.{built, problem}
use Rattle.un_problem.proofs.problem.model.Goals as goal

pub returns-clause-problem : goal.returns-clause-problem
returns-clause-problem c =
    let f = c.args.f.now in
    let t = c.args.t.now in
    let o = c.args.options.now in
    let m = c.in_ok-model.model in
    problem t f o m c.requires.fit c.requires.options (built t f o c.in_ok-ext.ext m c.in_ok-ext.ensures c.in_ok-model.ensures.gives)
