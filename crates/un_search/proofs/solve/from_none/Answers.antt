use Rattle.std.proofs.Common.{None, Some, subst, sym}
use Rattle.un_search.specs.Answers.{IsByRoot, IsLeftOfRoot}
use Rattle.un_search.specs.Solved.{IsByRounds}
use Rattle.un_search.proofs.SolveLemmas.{on_code, rounds_from}
use Rattle.un_search.proofs.solve.from_none.Goals as goal

pub returns-in_ok-answer-in-Found-clause-few : goal.returns-in_ok-answer-in-Found-clause-few
returns-in_ok-answer-in-Found-clause-few c few =
    let m = c.args.m.now in
    let first = c.in_ok-best-in-Found.best.best.solution in
    let root = subst (IsByRoot m None) c.in-Found.is (c.in_ok-solution.ensures.first few) in
    let left = subst (IsLeftOfRoot m None) (sym (c.in_ok-best-in-Found.ensures.few few)) root in
    on_code (IsByRounds m (Some first)) (IsByRounds m None) (λ s h. rounds_from m None None first s left h) _
    (c.in_ok-answer-in-Found.ensures.few few)
