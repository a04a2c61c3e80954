use Rattle.std.proofs.Common.{◌+◌, drop, get_or}
use Rattle.un_tree.specs.declared.node.Node.TheVariants.{Branch}
use Rattle.un_logs.proofs.Walking.{plain_here, strict_here, next_walk, last_walk, log_is, none_stuck}
use Rattle.un_logs.proofs.Within.{on_true, on_false}
use Rattle.un_logs.proofs.log.log_by.Goals as goal

pub loop-node-init : goal.loop-node-init
loop-node-init c = c.in_ok-walk.ensures.first c.args.t.now.nodes.items c.requires.whole c.requires.plain c.requires.strict

pub visit-requires-clause-at : goal.visit-requires-clause-at
visit-requires-clause-at c = let h = c.loop-node.invariant in h.at

pub visit-requires-clause-plain : goal.visit-requires-clause-plain
visit-requires-clause-plain c =
    let nodes = c.args.t.now.nodes.items in
    let i = c.loop-node.node-index in
    plain_here c.args.r.now nodes (get_or c.deref-node-items.result.now i (Branch (record { 0 = 0 }) 0))
    (drop (i + 1) nodes) c.loop-node.walk
    (next_walk c.args.r.now nodes c.deref-node-items.result.now i (Branch (record { 0 = 0 }) 0) c.loop-node.walk
    c.deref-node-items.ensures.value c.loop-node-test.true c.loop-node.invariant)

pub visit-requires-clause-strict : goal.visit-requires-clause-strict
visit-requires-clause-strict c =
    let nodes = c.args.t.now.nodes.items in
    let i = c.loop-node.node-index in
    strict_here c.args.r.now nodes (get_or c.deref-node-items.result.now i (Branch (record { 0 = 0 }) 0))
    (drop (i + 1) nodes) c.loop-node.walk
    (next_walk c.args.r.now nodes c.deref-node-items.result.now i (Branch (record { 0 = 0 }) 0) c.loop-node.walk
    c.deref-node-items.ensures.value c.loop-node-test.true c.loop-node.invariant)

pub returns-then-not-on-clause-stuck : goal.returns-then-not-on-clause-stuck
returns-then-not-on-clause-stuck c =
    let nodes = c.args.t.now.nodes.items in
    let i = c.loop-node.node-index in
    on_false c.in_ok-on.on _ c.if-not-on.true c.in_ok-on.ensures.stuck nodes (drop (i + 1) nodes)
    (next_walk c.args.r.now nodes c.deref-node-items.result.now i (Branch (record { 0 = 0 }) 0) c.loop-node.walk
    c.deref-node-items.ensures.value c.loop-node-test.true c.loop-node.invariant)

pub loop-node-preserved : goal.loop-node-preserved
loop-node-preserved c =
    let nodes = c.args.t.now.nodes.items in
    let i = c.loop-node.node-index in
    on_true c.in_ok-on.on _ c.if-not-on.false c.in_ok-on.ensures.on nodes (drop (i + 1) nodes)
    (next_walk c.args.r.now nodes c.deref-node-items.result.now i (Branch (record { 0 = 0 }) 0) c.loop-node.walk
    c.deref-node-items.ensures.value c.loop-node-test.true c.loop-node.invariant)

pub returns-clause-log : goal.returns-clause-log
returns-clause-log c =
    log_is c.args.r.now c.args.t.now.nodes.items c.loop-node.walk
    (last_walk c.args.r.now c.args.t.now.nodes.items c.deref-node-items.result.now c.loop-node.node-index c.loop-node.walk
    c.deref-node-items.ensures.value c.loop-node-test.false c.loop-node.invariant)

pub returns-clause-none : goal.returns-clause-none
returns-clause-none c =
    none_stuck c.args.r.now c.args.t.now.nodes.items c.loop-node.walk
    (last_walk c.args.r.now c.args.t.now.nodes.items c.deref-node-items.result.now c.loop-node.node-index c.loop-node.walk
    c.deref-node-items.ensures.value c.loop-node-test.false c.loop-node.invariant)
