use Rattle.std.proofs.Common.{ℕ, suc, ◌≡◌, ◌-◌, ◌^◌, ◌∙◌, take, sum_by, refl, sym, ap, subst, arith}
use Rattle.un_slots.specs.Slots.{ItemVars}
use Rattle.un_slots.specs.Counts.{adds, ending, ends_at}
use Rattle.un_slots.specs.CountLaws.{few_below, ending_one, adds_none, not_ending}
use Rattle.un_slots.specs.Listings.{last_passing, listable}
use Rattle.un_slots.specs.ListingLaws.{last_le, last_own, last_here, sum_last, sum_step}
use Rattle.un_slots.proofs.crowd.add_ending.Goals as goal

pub loop-last-init : goal.loop-last-init
loop-last-init c =
    let items = c.args.items.now in
    let s = c.args.w.now.store.now.sets in
    let r = c.args.r in
    let high = c.args.high in
    let p = ends_at r s high in
    let n = listable items c.args.before.now in
    let head = c.requires.head in
    let is = c.listable-n.ensures in
    record {
      counts = λ k. refl;
      small = λ k le. (
          let f = adds r high s k in
          let last = ap (λ (m : ℕ). sum_by f (take m items)) head in
          let all = sum_last items p f (adds_none r s high k) n (omega arith) in
          let from = ap (λ (m : ℕ). sum_by f (take m items)) is in
          let rest = c.add_rest-many.ensures.counts k in
          let small = c.requires.small k le in
          omega (arith, last, all, from, rest, small));
      many = refl;
      few = (
          let f = ending r s high in
          let last = ap (λ (m : ℕ). sum_by f (take m items)) head in
          let all = sum_last items p f (not_ending r s high) n (omega arith) in
          let from = ap (λ (m : ℕ). sum_by f (take m items)) is in
          let rest = c.add_rest-many.ensures.many in
          let few = few_below f items (2 ^ 32 - 1) (ending_one r s high) in
          omega (arith, last, all, from, rest, few));
      own = head ∙ (sym (last_own items p n) ∙ ap (last_passing items p) (sym head));
      within = (let le = last_le items p n in omega (arith, le, head));
    }

pub add_at-many-requires-clause-vars : goal.add_at-many-requires-clause-vars
add_at-many-requires-clause-vars c =
    let within = c.loop-last.invariant.within in
    subst (ItemVars c.args.w.now.vars.now) (sym c.index-items-last.is)
    (c.requires.vars (c.loop-last.last - 1) c.index-items-last.result (omega (arith, c.loop-last-test.true, within)))

pub add_at-many-requires-clause-small : goal.add_at-many-requires-clause-small
add_at-many-requires-clause-small c k le =
    let items = c.args.items.now in
    let s = c.args.w.now.store.now.sets in
    let p = ends_at c.args.r s c.args.high in
    let f = adds c.args.r c.args.high s k in
    let j = c.loop-last.last - 1 in
    let i = c.index-items-last.result in
    let inv = c.loop-last.invariant in
    let is : c.loop-last.last ≡ suc j = omega (arith, c.loop-last-test.true) in
    let more = ap (λ (m : ℕ). sum_by f (take m items)) is in
    let step = sum_step items p f (adds_none c.args.r s c.args.high k) j i (omega (arith, c.loop-last-test.true, inv.within)) in
    let here = ap f c.index-items-last.is in
    let small = inv.small k le in
    omega (arith, more, step, here, small)

pub overflow_add-many : goal.overflow_add-many
overflow_add-many c =
    let items = c.args.items.now in
    let s = c.args.w.now.store.now.sets in
    let p = ends_at c.args.r s c.args.high in
    let f = ending c.args.r s c.args.high in
    let j = c.loop-last.last - 1 in
    let i = c.index-items-last.result in
    let inv = c.loop-last.invariant in
    let is : c.loop-last.last ≡ suc j = omega (arith, c.loop-last-test.true) in
    let more = ap (λ (m : ℕ). sum_by f (take m items)) is in
    let step = sum_step items p f (not_ending c.args.r s c.args.high) j i (omega (arith, c.loop-last-test.true, inv.within)) in
    let here = ap f c.index-items-last.is in
    let one = c.add_at-many.ensures.many in
    let few = inv.few in
    omega (arith, more, step, here, one, few)

pub loop-last-smaller : goal.loop-last-smaller
loop-last-smaller c =
    let items = c.args.items.now in
    let p = ends_at c.args.r c.args.w.now.store.now.sets c.args.high in
    let last = c.loop-last.last in
    let j = last - 1 in
    let is : last ≡ suc j = omega (arith, c.loop-last-test.true) in
    let own = subst (λ (m : ℕ). m ≡ last_passing items p m) is c.loop-last.invariant.own in
    let next = c.requires.nexts j (omega (arith, c.loop-last-test.true, c.loop-last.invariant.within)) (last_here items p j own) in
    let le = last_le items p j in
    omega (arith, next, le, c.loop-last-test.true)

pub loop-last-preserved : goal.loop-last-preserved
loop-last-preserved c =
    let items = c.args.items.now in
    let s = c.args.w.now.store.now.sets in
    let r = c.args.r in
    let high = c.args.high in
    let p = ends_at r s high in
    let last = c.loop-last.last in
    let j = last - 1 in
    let i = c.index-items-last.result in
    let inv = c.loop-last.invariant in
    let is : last ≡ suc j = omega (arith, c.loop-last-test.true) in
    let own = subst (λ (m : ℕ). m ≡ last_passing items p m) is inv.own in
    let next = c.requires.nexts j (omega (arith, c.loop-last-test.true, inv.within)) (last_here items p j own) in
    record {
      counts = λ k. (
          let f = adds r high s k in
          let more = ap (λ (m : ℕ). sum_by f (take m items)) is in
          let step = sum_step items p f (adds_none r s high k) j i (omega (arith, c.loop-last-test.true, inv.within)) in
          let here = ap f c.index-items-last.is in
          let rest = ap (λ (m : ℕ). sum_by f (take m items)) next in
          let added = c.add_at-many.ensures.counts k in
          let so_far = inv.counts k in
          omega (arith, more, step, here, rest, added, so_far));
      small = λ k le. (
          let f = adds r high s k in
          let more = ap (λ (m : ℕ). sum_by f (take m items)) is in
          let step = sum_step items p f (adds_none r s high k) j i (omega (arith, c.loop-last-test.true, inv.within)) in
          let here = ap f c.index-items-last.is in
          let rest = ap (λ (m : ℕ). sum_by f (take m items)) next in
          let added = c.add_at-many.ensures.counts k in
          let so_far = inv.small k le in
          omega (arith, more, step, here, rest, added, so_far));
      many = (
          let f = ending r s high in
          let more = ap (λ (m : ℕ). sum_by f (take m items)) is in
          let step = sum_step items p f (not_ending r s high) j i (omega (arith, c.loop-last-test.true, inv.within)) in
          let here = ap f c.index-items-last.is in
          let rest = ap (λ (m : ℕ). sum_by f (take m items)) next in
          let added = c.add_at-many.ensures.many in
          let so_far = inv.many in
          omega (arith, more, step, here, rest, added, so_far));
      few = (
          let f = ending r s high in
          let more = ap (λ (m : ℕ). sum_by f (take m items)) is in
          let step = sum_step items p f (not_ending r s high) j i (omega (arith, c.loop-last-test.true, inv.within)) in
          let here = ap f c.index-items-last.is in
          let rest = ap (λ (m : ℕ). sum_by f (take m items)) next in
          let added = c.add_at-many.ensures.many in
          let so_far = inv.few in
          omega (arith, more, step, here, rest, added, so_far));
      own = next ∙ (sym (last_own items p j) ∙ ap (last_passing items p) (sym next));
      within = (let le = last_le items p j in let w = inv.within in omega (arith, next, le, w));
    }

pub returns-clause-counts : goal.returns-clause-counts
returns-clause-counts c k =
    let items = c.args.items.now in
    let s = c.args.w.now.store.now.sets in
    let f = adds c.args.r c.args.high s k in
    let n = listable items c.args.before.now in
    let none : c.loop-last.last ≡ 0 = omega (arith, c.loop-last-test.false) in
    let end = ap (λ (m : ℕ). sum_by f (take m items)) none in
    let last = ap (λ (m : ℕ). sum_by f (take m items)) c.requires.head in
    let all = sum_last items (ends_at c.args.r s c.args.high) f (adds_none c.args.r s c.args.high k) n (omega arith) in
    let from = ap (λ (m : ℕ). sum_by f (take m items)) c.listable-n.ensures in
    let rest = c.add_rest-many.ensures.counts k in
    let so_far = c.loop-last.invariant.counts k in
    omega (arith, end, last, all, from, rest, so_far)

pub returns-clause-many : goal.returns-clause-many
returns-clause-many c =
    let items = c.args.items.now in
    let s = c.args.w.now.store.now.sets in
    let f = ending c.args.r s c.args.high in
    let n = listable items c.args.before.now in
    let none : c.loop-last.last ≡ 0 = omega (arith, c.loop-last-test.false) in
    let end = ap (λ (m : ℕ). sum_by f (take m items)) none in
    let last = ap (λ (m : ℕ). sum_by f (take m items)) c.requires.head in
    let all = sum_last items (ends_at c.args.r s c.args.high) f (not_ending c.args.r s c.args.high) n (omega arith) in
    let from = ap (λ (m : ℕ). sum_by f (take m items)) c.listable-n.ensures in
    let rest = c.add_rest-many.ensures.many in
    let so_far = c.loop-last.invariant.many in
    omega (arith, end, last, all, from, rest, so_far)
