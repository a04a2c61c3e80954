use Rattle.un_branching.proofs.EndLemmas.{fails}
use Rattle.un_branching.proofs.attempt.attempt.Goals as goal

pub returns-in_ok-leaf_alone-in-Failed-clause-tried : goal.returns-in_ok-leaf_alone-in-Failed-clause-tried
returns-in_ok-leaf_alone-in-Failed-clause-tried g c =
    let P = g.P.Problem in
    let p = c.args.problem.now in
    fails (P.root p) (P.fix p) (P.least p) (P.block_count p) (P.is_good p) _ _ _ (g.met.P.Problem.keeps p) c.requires.full c.in-Failed.is
    c.in_ok-solution.ensures.look c.in_ok-leaf_alone-in-Failed.ensures c.requires.some
