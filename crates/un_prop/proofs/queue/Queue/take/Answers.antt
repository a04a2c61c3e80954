use Rattle.std.proofs.Common.{◌≡◌, ◌<◌, List, ℕ, Bool, true, false, length, set, sym, subst, arith}
use Rattle.std.specs.VecDeque.{deque_capacity}
use Rattle.un_prop.specs.Queues.{IsQueue, waits}
use Rattle.un_prop.proofs.WaitLaws.{light_waits, light_taken, heavy_waits, heavy_taken}
use Rattle.un_prop.proofs.queue.Queue.take.Goals as goal

pub index_mut-requires : goal.index_mut-requires
index_mut-requires c =
    let q = c.self.inside in
    let h = subst (λ (ps : List ℕ). IsQueue q.flags.items (length q.heavy.items) ps (deque_capacity q.places.light) q.places.heavy.items
    (deque_capacity q.places.heavy)) c.in-Some.ensures.items c.self.invariant in
    omega (arith, (light_waits _ _ _ _ _ _ _ h).0)

pub invariant_of-self : goal.invariant_of-self
invariant_of-self c =
    let q = c.self.inside in
    let h = subst (λ (ps : List ℕ). IsQueue q.flags.items (length q.heavy.items) ps (deque_capacity q.places.light) q.places.heavy.items
    (deque_capacity q.places.heavy)) c.in-Some.ensures.items c.self.invariant in
    subst (λ (m : ℕ). IsQueue (set q.flags.items c.in-Some.i false) (length q.heavy.items) c.pop_front.new.self.items m q.places.heavy.items
    (deque_capacity q.places.heavy)) (sym c.in-Some.ensures.capacity) (light_taken _ _ _ _ _ _ _ h)

pub returns-in-Some-clause-next : goal.returns-in-Some-clause-next
returns-in-Some-clause-next c =
    let q = c.self.inside in
    let h = subst (λ (ps : List ℕ). IsQueue q.flags.items (length q.heavy.items) ps (deque_capacity q.places.light) q.places.heavy.items
    (deque_capacity q.places.heavy)) c.in-Some.ensures.items c.self.invariant in
    subst (λ (ws : List Bool). (c.in-Some.i < length ws) × (waits ws c.in-Some.i ≡ true)) c.self.view_is (light_waits _ _ _ _ _ _ _ h)

pub index_mut-requires-in-Some-pop_front : goal.index_mut-requires-in-Some-pop_front
index_mut-requires-in-Some-pop_front c =
    let q = c.self.inside in
    let n = length q.heavy.items in
    let left = c.pop_front.new.self in
    let a = subst (λ (ps : List ℕ). IsQueue q.flags.items n ps (deque_capacity q.places.light) q.places.heavy.items
    (deque_capacity q.places.heavy)) c.in-None.ensures.items c.self.invariant in
    let b = subst (λ (m : ℕ). IsQueue q.flags.items n left.items m q.places.heavy.items (deque_capacity q.places.heavy))
    (sym c.in-None.ensures.capacity) a in
    let h = subst (λ (ps : List ℕ). IsQueue q.flags.items n left.items (deque_capacity left) ps (deque_capacity q.places.heavy))
    c.in-Some-pop_front.ensures.items b in
    omega (arith, (heavy_waits _ _ _ _ _ _ _ h).0)

pub invariant_of-self-in-Some-pop_front : goal.invariant_of-self-in-Some-pop_front
invariant_of-self-in-Some-pop_front c =
    let q = c.self.inside in
    let n = length q.heavy.items in
    let left = c.pop_front.new.self in
    let a = subst (λ (ps : List ℕ). IsQueue q.flags.items n ps (deque_capacity q.places.light) q.places.heavy.items
    (deque_capacity q.places.heavy)) c.in-None.ensures.items c.self.invariant in
    let b = subst (λ (m : ℕ). IsQueue q.flags.items n left.items m q.places.heavy.items (deque_capacity q.places.heavy))
    (sym c.in-None.ensures.capacity) a in
    let h = subst (λ (ps : List ℕ). IsQueue q.flags.items n left.items (deque_capacity left) ps (deque_capacity q.places.heavy))
    c.in-Some-pop_front.ensures.items b in
    subst (λ (m : ℕ). IsQueue (set q.flags.items c.in-Some-pop_front.i false) n left.items (deque_capacity left)
    c.pop_front-in-None.new.self.items m) (sym c.in-Some-pop_front.ensures.capacity) (heavy_taken _ _ _ _ _ _ _ h)

pub returns-in-Some-pop_front-clause-next : goal.returns-in-Some-pop_front-clause-next
returns-in-Some-pop_front-clause-next c =
    let q = c.self.inside in
    let n = length q.heavy.items in
    let left = c.pop_front.new.self in
    let a = subst (λ (ps : List ℕ). IsQueue q.flags.items n ps (deque_capacity q.places.light) q.places.heavy.items
    (deque_capacity q.places.heavy)) c.in-None.ensures.items c.self.invariant in
    let b = subst (λ (m : ℕ). IsQueue q.flags.items n left.items m q.places.heavy.items (deque_capacity q.places.heavy))
    (sym c.in-None.ensures.capacity) a in
    let h = subst (λ (ps : List ℕ). IsQueue q.flags.items n left.items (deque_capacity left) ps (deque_capacity q.places.heavy))
    c.in-Some-pop_front.ensures.items b in
    subst (λ (ws : List Bool). (c.in-Some-pop_front.i < length ws) × (waits ws c.in-Some-pop_front.i ≡ true)) c.self.view_is
    (heavy_waits _ _ _ _ _ _ _ h)
