use Rattle.std.proofs.Common.{◌<◌, Some, inr, subst, arith}
use Rattle.un_search.specs.Answers.{IsLeftOfRoot}
use Rattle.un_search.specs.Roots.{IsIncumbent}
use Rattle.un_search.specs.Solved.{OnBetter}
use Rattle.un_search.specs.declared.root.Incumbent.{Incumbent}
use Rattle.un_search.proofs.solve.best_attempts.Goals as goal

pub loop-next-preserved : goal.loop-next-preserved
loop-next-preserved c =
    let m = c.args.m.now in
    let best = c.loop-next.now.best in
    let e = c.in_ok-next.ensures in
    let good = subst (OnBetter (IsIncumbent m c.args.nodes)) c.in-Better.is e.better in
    let less = subst (OnBetter (λ (i : Incumbent). i.best.cost < best.cost)) c.in-Better.is e.falls in
    let most = c.loop-next.invariant.1 in (
      good,
      omega (arith, less, most),
      λ few. inr (Some best.cost, subst (OnBetter (λ (i : Incumbent). IsLeftOfRoot m (Some best.cost) i.best.solution)) c.in-Better.is (e.few few)),
    )
