use Rattle.std.proofs.Common.{ℕ, suc, ◌≡◌, ◌<◌, ◌+◌, ◌-◌, ◌^◌, ◌||◌, ◌∙◌, Bool, true, false, length, sum_by, nat_eq, refl}
use Rattle.std.proofs.Common.{sym, subst, arith}
use Rattle.std.proofs.lemmas.Bool.Decides.{nat_tests}
use Rattle.un_prop.specs.LookLaws.{both}
use Rattle.un_slots.specs.Crowds.{all_below, counted}
use Rattle.un_slots.specs.Counts.{AreCounts, ended, ending, starts, end_fits}
use Rattle.un_slots.specs.CountLaws.{ordered_counted, few_below, starts_one, ended_one, next_counts, next_later, ended_more, none_ended}
use Rattle.un_slots.specs.CountLaws.{whole_counted, fits_counted, none_ending, quiet_end, not_below, right_of}
use Rattle.un_slots.proofs.crowd.ends_fit.Goals as goal

pub loop-high-init : goal.loop-high-init
loop-high-init c =
    let xs = counted c.args.items.now in
    let s = c.args.w.now.store.now.sets in
    record {
      counts = λ k lt. absurd (omega (arith, lt));
      heads = λ k le lt. c.requires.listed.heads k lt;
      total = sym (none_ended c.args.r s xs);
      passed = refl;
    }

pub add_ending-many-requires-clause-head : goal.add_ending-many-requires-clause-head
add_ending-many-requires-clause-head c = c.loop-high.invariant.heads c.loop-high.high (omega arith) c.loop-high-test.true

pub add_ending-many-requires-clause-nexts : goal.add_ending-many-requires-clause-nexts
add_ending-many-requires-clause-nexts c = c.requires.listed.nexts c.loop-high.high c.loop-high-test.true

pub add_ending-many-requires-clause-small : goal.add_ending-many-requires-clause-small
add_ending-many-requires-clause-small c k le =
    let items = c.args.items.now in
    let xs = counted items in
    let s = c.args.w.now.store.now.sets in
    let r = c.args.r in
    let high = c.loop-high.high in
    let ordered = ordered_counted c.args.w.now.vars.now items s c.requires.vars c.requires.known c.requires.live in
    let next = next_counts r s xs ordered high c.loop-high.cycles
    (omega (arith, c.loop-high-test.true, c.requires.span, c.loop-high.auto.cycles))
    c.loop-high.invariant.counts k le in
    let few = few_below (starts r (high + 1) s k) items (2 ^ 32 - 1) (starts_one r (high + 1) s k) in
    omega (arith, next, few)

pub overflow_add-total : goal.overflow_add-total
overflow_add-total c =
    let items = c.args.items.now in
    let s = c.args.w.now.store.now.sets in
    let r = c.args.r in
    let high = c.loop-high.high in
    let more = ended_more r s (counted items) high in
    let few = few_below (ended r (high + 1) s) items (2 ^ 32 - 1) (ended_one r (high + 1) s) in
    let many = c.add_ending-many.ensures.many in
    let total = c.loop-high.invariant.total in
    omega (arith, more, few, many, total)

pub has_room-requires-clause-whole : goal.has_room-requires-clause-whole
has_room-requires-clause-whole c =
    let items = c.args.items.now in
    let xs = counted items in
    let s = c.args.w.now.store.now.sets in
    let r = c.args.r in
    let high = c.loop-high.high in
    let ordered = ordered_counted c.args.w.now.vars.now items s c.requires.vars c.requires.known c.requires.live in
    let counts : AreCounts r xs (high + 1) s c.add_ending-many.new.cycles = λ k lt. (c.add_ending-many.ensures.counts k
    ∙ next_counts r s xs ordered high c.loop-high.cycles
    (omega (arith, c.loop-high-test.true, c.requires.span, c.loop-high.auto.cycles))
    c.loop-high.invariant.counts k (omega (arith, lt))) in
    let whole = whole_counted r s xs ordered high c.add_ending-many.new.cycles counts in
    let more = ended_more r s xs high in
    let many = c.add_ending-many.ensures.many in
    let total = c.loop-high.invariant.total in
    omega (arith, whole, more, many, total)

pub returns-then-not-has_room : goal.returns-then-not-has_room
returns-then-not-has_room c =
    let items = c.args.items.now in
    let xs = counted items in
    let s = c.args.w.now.store.now.sets in
    let r = c.args.r in
    let high = c.loop-high.high in
    let ordered = ordered_counted c.args.w.now.vars.now items s c.requires.vars c.requires.known c.requires.live in
    let counts : AreCounts r xs (high + 1) s c.add_ending-many.new.cycles = λ k lt. (c.add_ending-many.ensures.counts k
    ∙ next_counts r s xs ordered high c.loop-high.cycles
    (omega (arith, c.loop-high-test.true, c.requires.span, c.loop-high.auto.cycles))
    c.loop-high.invariant.counts k (omega (arith, lt))) in
    not_below (end_fits r xs s) c.args.horizon high c.loop-high-test.true
    (sym (fits_counted r s xs ordered high c.add_ending-many.new.cycles counts)
    ∙ right_of (nat_eq c.add_ending-many.result 0) _ (sym c.has_room.ensures ∙ c.if-not-has_room.true))

pub loop-high-preserved : goal.loop-high-preserved
loop-high-preserved c =
    let items = c.args.items.now in
    let xs = counted items in
    let s = c.args.w.now.store.now.sets in
    let r = c.args.r in
    let high = c.loop-high.high in
    let inv = c.loop-high.invariant in
    let many = c.add_ending-many.ensures.many in
    let ordered = ordered_counted c.args.w.now.vars.now items s c.requires.vars c.requires.known c.requires.live in
    let within : high < length c.loop-high.cycles = omega (arith, c.loop-high-test.true, c.requires.span, c.loop-high.auto.cycles) in
    let counts : AreCounts r xs (high + 1) s c.add_ending-many.new.cycles = λ k lt. (c.add_ending-many.ensures.counts k
    ∙ next_counts r s xs ordered high c.loop-high.cycles within inv.counts k (omega (arith, lt))) in
    let next : suc high ≡ high + 1 = omega arith in
    let zero_many : nat_eq c.add_ending-many.result 0 ≡ true → sum_by (ending r s high) xs ≡ 0 =
    λ e. (let none : c.add_ending-many.result ≡ 0 = grind (arith, nat_tests, e) in omega (arith, none, many)) in
    let fit : end_fits r xs s high ≡ true = known_fit (nat_eq c.add_ending-many.result 0) refl
    (sym c.has_room.ensures ∙ c.if-not-has_room.false)
    (λ e. quiet_end r s xs ordered high inv.passed (none_ending r s xs high
    (zero_many e)))
    (λ e. sym (fits_counted r s xs ordered high c.add_ending-many.new.cycles counts) ∙ e) in
    record {
      counts = counts;
      heads = λ k le lt. (c.add_ending-many.ensures.counts k ∙ next_later r s xs ordered high c.loop-high.cycles within inv.counts k
          (omega (arith, le))) ∙ inv.heads k (omega (arith, le)) lt;
      total = (let more = ended_more r s xs high in let total = inv.total in omega (arith, more, many, total));
      passed = subst (λ (n : ℕ). all_below (end_fits r xs s) n ≡ true) next
          (both (all_below (end_fits r xs s) high) (end_fits r xs s high) inv.passed fit);
    }
  where
    known_fit : {x y : Bool} (b : Bool) → b ≡ b → (b || x) ≡ true → (b ≡ true → y ≡ true) → (x ≡ true → y ≡ true) → y ≡ true
    known_fit true e h f g = f refl
    known_fit false e h f g = g h

pub returns : goal.returns
returns c =
    let test = end_fits c.args.r (counted c.args.items.now) c.args.w.now.store.now.sets in
    let end : c.loop-high.high ≡ c.args.horizon = omega (arith, c.loop-high-test.false, c.loop-high.auto.high-end) in
    sym (subst (λ (n : ℕ). all_below test n ≡ true) end c.loop-high.invariant.passed)
