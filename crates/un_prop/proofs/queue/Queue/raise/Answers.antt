use Rattle.std.proofs.Common.{◌≡◌, ◌<◌, ◌∙◌, List, ℕ, true, false, length, get_or, set, sym, ap, subst, arith}
use Rattle.std.proofs.lemmas.List.{get_or_default}
use Rattle.std.specs.VecDeque.{deque_capacity}
use Rattle.un_prop.specs.Queues.{IsQueue}
use Rattle.un_prop.proofs.WaitLaws.{queue_space, queue_light, queue_heavy}
use Rattle.un_prop.proofs.queue.Queue.raise.Goals as goal

pub push_back_reserved-requires : goal.push_back_reserved-requires
push_back_reserved-requires c =
    let q = c.self.inside in
    let lt : c.args.i < length q.flags.items = omega (arith, c.requires, ap length c.self.view_is) in
    let off : get_or q.flags.items c.args.i false ≡ false =
    get_or_default q.flags.items c.args.i false c.index.result.now lt ∙ (sym c.index.ensures ∙ c.if-index.false) in
    omega (arith, (queue_space q.flags.items c.args.i _ q.places.light.items _ q.places.heavy.items _ c.self.invariant lt off).1)

pub invariant_of-self : goal.invariant_of-self
invariant_of-self c =
    let q = c.self.inside in
    let lt : c.args.i < length q.flags.items = omega (arith, c.requires, ap length c.self.view_is) in
    let off : get_or q.flags.items c.args.i false ≡ false =
    get_or_default q.flags.items c.args.i false c.index.result.now lt ∙ (sym c.index.ensures ∙ c.if-index.false) in
    let new = c.push_back_reserved.new.self in
    let ws = set q.flags.items c.args.i true in
    let n = length q.heavy.items in
    let light = q.places.light in
    let h = queue_heavy q.flags.items c.args.i n light.items _ q.places.heavy.items _ c.self.invariant lt off in
    subst (λ (m : ℕ). IsQueue ws n light.items (deque_capacity light) new.items m) (sym c.push_back_reserved.ensures.capacity)
    (subst (λ (ps : List ℕ). IsQueue ws n light.items (deque_capacity light) ps (deque_capacity q.places.heavy))
    (sym c.push_back_reserved.ensures.items) h)

pub push_back_reserved-requires-else-index-2 : goal.push_back_reserved-requires-else-index-2
push_back_reserved-requires-else-index-2 c =
    let q = c.self.inside in
    let lt : c.args.i < length q.flags.items = omega (arith, c.requires, ap length c.self.view_is) in
    let off : get_or q.flags.items c.args.i false ≡ false =
    get_or_default q.flags.items c.args.i false c.index.result.now lt ∙ (sym c.index.ensures ∙ c.if-index.false) in
    omega (arith, (queue_space q.flags.items c.args.i _ q.places.light.items _ q.places.heavy.items _ c.self.invariant lt off).0)

pub invariant_of-self-else-index-2 : goal.invariant_of-self-else-index-2
invariant_of-self-else-index-2 c =
    let q = c.self.inside in
    let lt : c.args.i < length q.flags.items = omega (arith, c.requires, ap length c.self.view_is) in
    let off : get_or q.flags.items c.args.i false ≡ false =
    get_or_default q.flags.items c.args.i false c.index.result.now lt ∙ (sym c.index.ensures ∙ c.if-index.false) in
    let new = c.push_back_reserved-else-index-2.new.self in
    let ws = set q.flags.items c.args.i true in
    let n = length q.heavy.items in
    let heavy = q.places.heavy in
    let h = queue_light q.flags.items c.args.i n q.places.light.items _ heavy.items _ c.self.invariant lt off in
    subst (λ (m : ℕ). IsQueue ws n new.items m heavy.items (deque_capacity heavy)) (sym c.push_back_reserved-else-index-2.ensures.capacity)
    (subst (λ (ps : List ℕ). IsQueue ws n ps (deque_capacity q.places.light) heavy.items (deque_capacity heavy))
    (sym c.push_back_reserved-else-index-2.ensures.items) h)
