use Rattle.std.proofs.Common.{ℕ, ◌≡◌, ◌+◌, ◌≤◌, All, List, [], drop, length, get_or, subst}
use Rattle.un_model.specs.Boxes.{IsBelow, root_of}
use Rattle.un_tree.specs.Covered.{OuterStands}
use Rattle.un_tree.specs.Waits.{visits_of}
use Rattle.un_tree.specs.declared.node.Node.{Node}
use Rattle.un_tree.specs.declared.node.Node.TheVariants.{Branch}
use Rattle.un_judge.specs.Judged.{IsJudged}
use Rattle.un_judge.specs.Walks.{IsWalk, NotYes, blocks_of}
use Rattle.un_judge.specs.declared.judge.Walk.{Walk}
use Rattle.un_judge.specs.declared.leaf.Rules.{Rules}
use Rattle.un_judge.specs.declared.verdict.StepVerdict.{StepVerdict}
use Rattle.un_judge.proofs.Walkings.{plain_here, strict_here, next_walk, end_walk, told, silent, not_yes, if_so, walk_end, all_stand}
use Rattle.un_judge.proofs.judge.judge_by.Goals as goal

-- the verdict at a node, and that the walk goes on otherwise
abbrev Ended : Rules → List Node → List ℕ → StepVerdict → Type 0
Ended r nodes log bad = NotYes bad × IsJudged r.rules r.m.now r.limit nodes log bad

pub loop-node-init : goal.loop-node-init
loop-node-init c = c.in_ok-walk.ensures.first c.args.t.now.nodes.items c.requires.whole c.requires.plain c.requires.strict

pub visit-requires-clause-at : goal.visit-requires-clause-at
visit-requires-clause-at c = let h = c.loop-node.invariant in h.at

pub visit-requires-clause-plain : goal.visit-requires-clause-plain
visit-requires-clause-plain c =
    let nodes = c.args.t.now.nodes.items in
    let i = c.loop-node.node-index in
    plain_here c.args.r.now nodes c.args.log.now (get_or c.deref-node-items.result.now i (Branch (record { 0 = 0 }) 0))
    (drop (i + 1) nodes) c.loop-node.walk
    (next_walk c.args.r.now nodes c.args.log.now c.deref-node-items.result.now i (Branch (record { 0 = 0 }) 0) c.loop-node.walk
    c.deref-node-items.ensures.value c.loop-node-test.true c.loop-node.invariant)

pub visit-requires-clause-strict : goal.visit-requires-clause-strict
visit-requires-clause-strict c =
    let nodes = c.args.t.now.nodes.items in
    let i = c.loop-node.node-index in
    strict_here c.args.r.now nodes c.args.log.now (get_or c.deref-node-items.result.now i (Branch (record { 0 = 0 }) 0))
    (drop (i + 1) nodes) c.loop-node.walk
    (next_walk c.args.r.now nodes c.args.log.now c.deref-node-items.result.now i (Branch (record { 0 = 0 }) 0) c.loop-node.walk
    c.deref-node-items.ensures.value c.loop-node-test.true c.loop-node.invariant)

pub returns-in-Some-clause-verdict : goal.returns-in-Some-clause-verdict
returns-in-Some-clause-verdict c =
    let r = c.args.r.now in
    let nodes = c.args.t.now.nodes.items in
    let i = c.loop-node.node-index in
    (told (IsWalk r nodes c.args.log.now (drop (i + 1) nodes) c.visit.new.walk) (Ended r nodes c.args.log.now) c.in_ok-told.told
    c.in-Some.verdict
    (c.in_ok-told.ensures.visited nodes (drop (i + 1) nodes) c.args.log.now
    (next_walk r nodes c.args.log.now c.deref-node-items.result.now i (Branch (record { 0 = 0 }) 0) c.loop-node.walk
    c.deref-node-items.ensures.value c.loop-node-test.true c.loop-node.invariant)) c.in-Some.is).1

pub returns-in-Some-clause-stands : goal.returns-in-Some-clause-stands
returns-in-Some-clause-stands c =
    let r = c.args.r.now in
    let nodes = c.args.t.now.nodes.items in
    let i = c.loop-node.node-index in
    not_yes (All (OuterStands (IsBelow r.m.now r.limit)) (visits_of (blocks_of r) (root_of r.m.now) nodes)) c.in-Some.verdict
    (told (IsWalk r nodes c.args.log.now (drop (i + 1) nodes) c.visit.new.walk) (Ended r nodes c.args.log.now) c.in_ok-told.told
    c.in-Some.verdict
    (c.in_ok-told.ensures.visited nodes (drop (i + 1) nodes) c.args.log.now
    (next_walk r nodes c.args.log.now c.deref-node-items.result.now i (Branch (record { 0 = 0 }) 0) c.loop-node.walk
    c.deref-node-items.ensures.value c.loop-node-test.true c.loop-node.invariant)) c.in-Some.is).0

pub loop-node-preserved : goal.loop-node-preserved
loop-node-preserved c =
    let r = c.args.r.now in
    let nodes = c.args.t.now.nodes.items in
    let i = c.loop-node.node-index in
    silent (IsWalk r nodes c.args.log.now (drop (i + 1) nodes) c.visit.new.walk) (Ended r nodes c.args.log.now) c.in_ok-told.told
    (c.in_ok-told.ensures.visited nodes (drop (i + 1) nodes) c.args.log.now
    (next_walk r nodes c.args.log.now c.deref-node-items.result.now i (Branch (record { 0 = 0 }) 0) c.loop-node.walk
    c.deref-node-items.ensures.value c.loop-node-test.true c.loop-node.invariant)) c.in_default.is

last_walk : (r : Rules) (nodes read : List Node) (log : List ℕ) (i : ℕ) (w : Walk) → read ≡ nodes → length read ≤ i
    → IsWalk r nodes log (drop i nodes) w → IsWalk r nodes log [] w
last_walk r nodes read log i w same le h = end_walk r nodes log i w (subst (λ (ns : List Node). length ns ≤ i) same le) h

pub returns-clause-verdict : goal.returns-clause-verdict
returns-clause-verdict c =
    let r = c.args.r.now in
    let nodes = c.args.t.now.nodes.items in
    walk_end r nodes c.args.log.now c.loop-node.walk c.end_of.result
    (last_walk r nodes c.deref-node-items.result.now c.args.log.now c.loop-node.node-index c.loop-node.walk c.deref-node-items.ensures.value
    c.loop-node-test.false c.loop-node.invariant) c.end_of.ensures

pub returns-clause-stands : goal.returns-clause-stands
returns-clause-stands c =
    let r = c.args.r.now in
    let nodes = c.args.t.now.nodes.items in
    if_so (All (OuterStands (IsBelow r.m.now r.limit)) (visits_of (blocks_of r) (root_of r.m.now) nodes)) c.end_of.result
    (all_stand r nodes c.args.log.now c.loop-node.walk
    (last_walk r nodes c.deref-node-items.result.now c.args.log.now c.loop-node.node-index c.loop-node.walk c.deref-node-items.ensures.value
    c.loop-node-test.false c.loop-node.invariant))
