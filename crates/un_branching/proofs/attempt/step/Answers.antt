use Rattle.std.proofs.Common.{refl, sym, subst, arith}
use Rattle.un_tree.specs.Searched.{IsOpenBox}
use Rattle.un_branching.proofs.StepLemmas.{taken_path, taken_open, taken_split, step_goes}
use Rattle.un_branching.proofs.attempt.step.Goals as goal

pub expand-requires-clause-split : goal.expand-requires-clause-split
expand-requires-clause-split g c =
    let P = g.P.Problem in
    let p = c.args.problem.now in
    taken_split (P.root p) (P.fix p) (P.least p) _ _ _ _ c.requires.taken _ _ _ c.as_slice.ensures.value c.as_slice-2.ensures.value
    c.in_ok-path.ensures.split

pub expand-requires-clause-open : goal.expand-requires-clause-open
expand-requires-clause-open g c =
    let P = g.P.Problem in
    let p = c.args.problem.now in
    let t = c.requires.taken in
    let at = taken_path (P.root p) (P.fix p) (P.least p) _ _ _ _ t _ _ _ c.as_slice.ensures.value c.as_slice-2.ensures.value
    c.in_ok-path.ensures.leads in
    subst (IsOpenBox (P.fix p)) (sym at) (taken_open (P.root p) (P.fix p) (P.least p) _ _ _ _ t)

pub returns-clause-went : goal.returns-clause-went
returns-clause-went g c =
    let P = g.P.Problem in
    let m = g.met.P.Problem in
    let p = c.args.problem.now in
    let t = c.requires.taken in
    let at = taken_path (P.root p) (P.fix p) (P.least p) _ _ _ _ t _ _ _ c.as_slice.ensures.value c.as_slice-2.ensures.value
    c.in_ok-path.ensures.leads in
    step_goes (P.root p) (P.fix p) (P.least p) _ _ _ _ t (P.is_good p) (m.inside p) (m.rises p) _ _ _ _ _ _ _ _ _ _ _ _ _ _ _ _ _ _
    at c.in_ok-var.ensures.expansion refl refl refl refl (omega arith) (omega arith) c.side_of-above.ensures c.side_of-at_most.ensures
    c.in-Leaf.is c.in_ok-solution.ensures c.in-Leaf-2.is c.in_ok-solution-2.ensures c.in_ok-branch.ensures.nodes
    c.in_ok-branch.ensures.branches
