use Rattle.std.proofs.Common.{List, length, sym, subst, arith}
use Rattle.un_branching.specs.declared.growth.Entry.{Entry}
use Rattle.un_branching.specs.Growths.{Stays}
use Rattle.un_branching.proofs.HeapLemmas.{take_out}
use Rattle.un_branching.proofs.EndLemmas.{begins, tree_stays, refutes, stops, none_open, fresh_closed}
use Rattle.un_branching.proofs.attempt.search.Goals as goal

pub loop-alloc-init : goal.loop-alloc-init
loop-alloc-init g c =
    let P = g.P.Problem in
    let p = c.args.problem.now in
    let b = begins (P.root p) (P.fix p) (P.least p) _ _ _ _ c.requires.full c.requires.choice c.in_ok-tree.ensures.nodes
    c.in_ok-tree.ensures.branches c.requires.least c.in_ok-waiting.ensures in
    record {
      ready = c.requires.ready;
      sofar = b.0;
      within = omega (arith, b.1, c.requires.some);
      fresh = λ e. b.2;
    }

pub list-requires : goal.list-requires
list-requires g c =
    let P = g.P.Problem in
    let p = c.args.problem.now in
    subst (λ (us : List Entry). Stays us (length us) 0) (sym c.as_slice.ensures.value)
    (tree_stays (P.root p) (P.fix p) (P.least p) _ c.loop-alloc.invariant.sofar.tree)

pub returns-in-None-clause-tried : goal.returns-in-None-clause-tried
returns-in-None-clause-tried g c =
    let P = g.P.Problem in
    let m = g.met.P.Problem in
    let p = c.args.problem.now in
    refutes (P.root p) (P.fix p) (P.least p) (P.block_count p) (P.is_good p) (m.inside p) (m.keeps p) _ _ _ _ _ _ c.loop-alloc.invariant.sofar
    c.as_slice.ensures.value c.in_ok-list-in-None.ensures c.in-None.ensures.none c.loop-alloc.invariant.within

pub returns-in-None-clause-first : goal.returns-in-None-clause-first
returns-in-None-clause-first g c few =
    let P = g.P.Problem in
    let m = g.met.P.Problem in
    let p = c.args.problem.now in
    let i = c.loop-alloc.invariant in
    absurd (fresh_closed (P.root p) (P.fix p) (P.least p) _ i.sofar.tree i.fresh (omega (
      arith,
      few,
      i.within,
    )) (none_open (P.root p) (P.fix p) (P.least p) (P.block_count p) (P.is_good p) (m.inside p) (m.keeps p) _ _ _ i.sofar c.in-None.ensures.none))

pub list-requires-then-len-nodes : goal.list-requires-then-len-nodes
list-requires-then-len-nodes g c =
    let P = g.P.Problem in
    let p = c.args.problem.now in
    subst (λ (us : List Entry). Stays us (length us) 0) (sym c.as_slice-then-len-nodes.ensures.value)
    (tree_stays (P.root p) (P.fix p) (P.least p) _ c.loop-alloc.invariant.sofar.tree)

pub returns-then-len-nodes-clause-tried : goal.returns-then-len-nodes-clause-tried
returns-then-len-nodes-clause-tried g c =
    let P = g.P.Problem in
    let m = g.met.P.Problem in
    let p = c.args.problem.now in
    let i = c.loop-alloc.invariant in
    stops (P.root p) (P.fix p) (P.least p) (P.block_count p) (P.is_good p) (m.inside p) (m.keeps p) (m.rises p) _ _ _ _ _ c.in-Some.top _ _ i.sofar
    c.in-Some.ensures.rest c.in-Some.ensures.best c.as_slice-then-len-nodes.ensures.value c.in_ok-list.ensures
    i.within (omega arith)

pub step-requires-clause-taken : goal.step-requires-clause-taken
step-requires-clause-taken g c =
    let P = g.P.Problem in
    let p = c.args.problem.now in
    let i = c.loop-alloc.invariant in
    take_out (P.root p) (P.fix p) (P.least p) (g.met.P.Problem.rises p) _ _ _ _ c.in-Some.top i.sofar c.in-Some.ensures.rest
    c.in-Some.ensures.best
