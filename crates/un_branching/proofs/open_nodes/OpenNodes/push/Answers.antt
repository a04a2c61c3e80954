use Rattle.std.proofs.Common.{ℕ, Some, ◌∙◌, sym, subst}
use Rattle.slab.specs.Slab.{Updates}
use Rattle.un_branching.proofs.QueueLemmas.{pushed_queue, pushed_view, reserved_queue, reserved_view}
use Rattle.un_branching.proofs.open_nodes.OpenNodes.push.Goals as goal

pub invariant_of-self-2 : goal.invariant_of-self-2
invariant_of-self-2 c =
    let q = reserved_queue c.self.inside.links c.reserve.new.self _ _ c.reserve.ensures.rest_kept c.self.invariant in
    let updates = subst (λ (key : ℕ). Updates c.reserve.new.self c.insert_reserved.new.self key (Some c.args.node.link))
    (c.insert_reserved.ensures.key ∙ sym c.vacant_key-key.ensures.value) c.insert_reserved.ensures.updates in
    pushed_queue _ _ _ q _ c.args.node.link c.vacant_key-key.ensures.vacant updates _ c.in_ok-push.ensures.permutation
    (c.in_ok-push.ensures.heap_order c.self.invariant.ordered)

pub returns : goal.returns
returns c =
    let q = reserved_queue c.self.inside.links c.reserve.new.self _ _ c.reserve.ensures.rest_kept c.self.invariant in
    let seen = reserved_view c.self.inside.links c.reserve.new.self _ _ c.reserve.ensures.rest_kept ∙ c.self.view_is in
    let updates = subst (λ (key : ℕ). Updates c.reserve.new.self c.insert_reserved.new.self key (Some c.args.node.link))
    (c.insert_reserved.ensures.key ∙ sym c.vacant_key-key.ensures.value) c.insert_reserved.ensures.updates in
    pushed_view _ _ _ q _ c.args.node.link c.vacant_key-key.ensures.vacant updates _ c.in_ok-push.ensures.permutation _ seen
