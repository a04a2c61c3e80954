use Rattle.std.proofs.Common.{Some, subst, arith}
use Rattle.un_model.specs.Boxes.{IsCheaper}
use Rattle.un_search.specs.Answers.{IsRefuted, IsCutOff, OnFound, OnRefuted, OnCut}
use Rattle.un_search.proofs.RootLemmas.{root_above}
use Rattle.un_search.proofs.SolveLemmas.{closed_visits}
use Rattle.un_search.proofs.solve.try_better.Goals as goal

pub with_bound-requires-clause-lowest : goal.with_bound-requires-clause-lowest
with_bound-requires-clause-lowest c =
    let m = c.args.m.now in
    let ended = subst (OnRefuted (IsRefuted m (Some c.args.now.best.cost) c.args.nodes)) c.in-Refuted.is c.in_ok-tried.ensures.refuted in
    closed_visits m c.in-Refuted.tree.nodes.items ended.closed

pub with_bound-requires-in-Cut-clause-lowest : goal.with_bound-requires-in-Cut-clause-lowest
with_bound-requires-in-Cut-clause-lowest c =
    let ended = subst (OnCut (IsCutOff c.args.m.now (Some c.args.now.best.cost) c.args.nodes)) c.in-Cut.is c.in_ok-tried.ensures.cut in
    ended.lowest

pub lowered-requires : goal.lowered-requires
lowered-requires c =
    let m = c.args.m.now in
    let found = subst (OnFound (IsCheaper m (Some c.args.now.best.cost))) c.in-Found.is c.in_ok-tried.ensures.found in
    let less = found.1 in
    let le = c.in_ok-next-in-Found.ensures.no_dearer in
    record { root = root_above m _ c.args.now.best.cost _ c.in_ok-tried.ensures.root (omega (arith, less, le)) }
