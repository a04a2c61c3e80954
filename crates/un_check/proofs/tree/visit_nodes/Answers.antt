use Rattle.std.proofs.Common.{◌+◌, drop, refl}
use Rattle.un_tree.specs.declared.node.Node.TheVariants.{Branch}
use Rattle.un_check.specs.Verdicts.{IsNo}
use Rattle.un_check.specs.Walks.{IsWalk}
use Rattle.un_check.proofs.TreeLemmas.{behind_nodes, next_walk, told}
use Rattle.un_check.proofs.tree.visit_nodes.Goals as goal

pub returns-in-Some : goal.returns-in-Some
returns-in-Some c =
    let g = c.args.rules.now in
    let nodes = c.args.nodes.now in
    let i = c.loop-i.i in
    told (IsWalk g.m.now g.limit nodes (drop (i + 1) nodes) c.visit.new.walk) (IsNo g.m.now g.limit nodes) c.in_ok-told.told c.in-Some.verdict
    (c.in_ok-told.ensures.visited nodes (drop (i + 1) nodes)
    (behind_nodes g.m.now _ nodes _ i c.len.result c.told_in-parts.result c.len.ensures c.nodes_behind-rest.ensures c.told_in-parts.ensures)
    (next_walk g.m.now g.limit nodes nodes i (Branch (record { 0 = 0 }) 0) c.loop-i.walk refl c.loop-i-test.true c.loop-i.invariant.walk))
    c.in-Some.is
