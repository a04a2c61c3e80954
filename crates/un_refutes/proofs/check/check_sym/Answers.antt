use Rattle.std.proofs.Common.{◌+◌, ◌≤◌, List, Some, drop, length, subst}
use Rattle.un_symtree.specs.declared.node.SymNode.{SymNode}
use Rattle.un_symtree.specs.declared.node.SymNode.TheVariants.{Branch}
use Rattle.un_refutes.specs.SymVerdicts.{IsVerdict}
use Rattle.un_refutes.specs.SymWalks.{IsWalk}
use Rattle.un_refutes.proofs.Refutes.{yes_sound}
use Rattle.un_refutes.proofs.TreeLemmas.{next_node, no_node, told, silent}
use Rattle.un_refutes.proofs.check.check_sym.Goals as goal

pub loop-node-init : goal.loop-node-init
loop-node-init c = let b = c.in_ok-walk.ensures in record { at = b.at; walk = b.walk c.args.t.now.nodes.items }

pub returns-in-Some-clause-verdict : goal.returns-in-Some-clause-verdict
returns-in-Some-clause-verdict c =
    let nodes = c.args.t.now.nodes.items in
    let limit = Some c.args.limit in
    let rest = drop (c.loop-node.node-index + 1) nodes in
    told (IsWalk c.args.m.now limit nodes rest c.visit.new.walk) (IsVerdict c.args.m.now limit nodes) c.in_ok-told.told c.in-Some.verdict
    (c.in_ok-told.ensures.visited nodes rest
    (next_node (λ (ns : List SymNode). IsWalk c.args.m.now limit nodes ns c.loop-node.walk) nodes c.deref-node-items.result.now
    c.loop-node.node-index (Branch (record { 0 = 0 }) 0) c.deref-node-items.ensures.value c.loop-node-test.true c.loop-node.invariant.walk))
    c.in-Some.is

pub returns-in-Some-clause-sound : goal.returns-in-Some-clause-sound
returns-in-Some-clause-sound c =
    let b = c.in_ok-walk.ensures.rules in
    yes_sound c.args.m.now c.args.limit c.requires.model b.full b.postable c.args.t.now.nodes.items c.in-Some.verdict
    (returns-in-Some-clause-verdict c)

pub loop-node-preserved : goal.loop-node-preserved
loop-node-preserved c =
    let nodes = c.args.t.now.nodes.items in
    let limit = Some c.args.limit in
    let rest = drop (c.loop-node.node-index + 1) nodes in
    record {
      at = c.in_ok-told.ensures.at;
      walk = silent (IsWalk c.args.m.now limit nodes rest c.visit.new.walk) (IsVerdict c.args.m.now limit nodes) c.in_ok-told.told
          (c.in_ok-told.ensures.visited nodes rest
          (next_node (λ (ns : List SymNode). IsWalk c.args.m.now limit nodes ns c.loop-node.walk) nodes c.deref-node-items.result.now
          c.loop-node.node-index (Branch (record { 0 = 0 }) 0) c.deref-node-items.ensures.value c.loop-node-test.true
          c.loop-node.invariant.walk)) c.in_default.is;
    }

pub returns-clause-verdict : goal.returns-clause-verdict
returns-clause-verdict c =
    let nodes = c.args.t.now.nodes.items in
    let limit = Some c.args.limit in
    c.verdict_of.ensures c.args.m.now limit nodes
    (no_node (λ (ns : List SymNode). IsWalk c.args.m.now limit nodes ns c.loop-node.walk) nodes c.loop-node.node-index
    (subst (λ (ns : List SymNode). length ns ≤ c.loop-node.node-index) c.deref-node-items.ensures.value c.loop-node-test.false)
    c.loop-node.invariant.walk)

pub returns-clause-sound : goal.returns-clause-sound
returns-clause-sound c =
    let b = c.in_ok-walk.ensures.rules in
    yes_sound c.args.m.now c.args.limit c.requires.model b.full b.postable c.args.t.now.nodes.items c.verdict_of.result
    (returns-clause-verdict c)
