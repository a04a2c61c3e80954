use Rattle.std.proofs.Common.{ℕ, suc, ◌≡◌, ◌-◌, ◌∙◌, take, drop, sym, ap, subst, arith}
use Rattle.std.proofs.lemmas.List.Sums.{sum_by-take-drop}
use Rattle.un_domains.specs.Sets.{least}
use Rattle.un_prop.specs.Acts.{act_vars}
use Rattle.un_prop.specs.Looks.{act_set}
use Rattle.un_prop.specs.LookLaws.{known_of}
use Rattle.un_slots.specs.declared.item.Item.{Item}
use Rattle.un_slots.specs.Slots.{share_at, ItemVars}
use Rattle.un_slots.specs.Loads.{settled_at, load_by, load}
use Rattle.un_slots.specs.Listings.{last_passing, listable}
use Rattle.un_slots.specs.ListingLaws.{last_le, last_own, last_here, load_last, load_step}
use Rattle.un_slots.proofs.listing.load_at.Goals as goal

pub loop-last-init : goal.loop-last-init
loop-last-init c =
    let items = c.args.items.now in
    let s = c.args.w.now.store.now.sets in
    let at = c.args.c in
    let n = listable items c.args.before.now in
    let head = c.requires.head in
    record {
      so_far = λ r. (
          let rest = c.load_from-load.ensures r in
          let e = c.listable.ensures in
          let start = ap (λ (m : ℕ). load r (drop m items) s at) e in
          let last = ap (λ (m : ℕ). load r (take m items) s at) head in
          let whole = load_last items s at r n (omega arith) in
          let split = sum_by-take-drop (load_by r s at) items n in
          omega (arith, rest, start, last, whole, split));
      own = head ∙ (sym (last_own items (settled_at s at) n) ∙ ap (last_passing items (settled_at s at)) (sym head));
      within = (let le = last_le items (settled_at s at) n in omega (arith, le, head));
    }

pub least_number-requires-clause-known : goal.least_number-requires-clause-known
least_number-requires-clause-known c =
    let i = c.index-items-last.result in
    let within = c.loop-last.invariant.within in
    known_of c.args.w.now.vars.now (act_vars i.on) c.args.w.now.store.now.sets
    (subst (ItemVars c.args.w.now.vars.now) (sym c.index-items-last.is)
    (c.requires.vars (c.loop-last.last - 1) i (omega (arith, c.loop-last-test.true, within)))).of_on c.requires.known

pub loop-last-smaller : goal.loop-last-smaller
loop-last-smaller c =
    let items = c.args.items.now in
    let s = c.args.w.now.store.now.sets in
    let last = c.loop-last.last in
    let j = last - 1 in
    let is : last ≡ suc j = omega (arith, c.loop-last-test.true) in
    let own = subst (λ (m : ℕ). m ≡ last_passing items (settled_at s c.args.c) m) is c.loop-last.invariant.own in
    let next = c.requires.nexts j (omega (arith, c.loop-last-test.true, c.loop-last.invariant.within))
    (last_here items (settled_at s c.args.c) j own) in
    let le = last_le items (settled_at s c.args.c) j in
    omega (arith, next, le, c.loop-last-test.true)

pub loop-last-preserved : goal.loop-last-preserved
loop-last-preserved c =
    let items = c.args.items.now in
    let s = c.args.w.now.store.now.sets in
    let at = c.args.c in
    let last = c.loop-last.last in
    let j = last - 1 in
    let i = c.index-items-last.result in
    let inv = c.loop-last.invariant in
    let is : last ≡ suc j = omega (arith, c.loop-last-test.true) in
    let own = subst (λ (m : ℕ). m ≡ last_passing items (settled_at s at) m) is inv.own in
    let next = c.requires.nexts j (omega (arith, c.loop-last-test.true, inv.within)) (last_here items (settled_at s at) j own) in
    record {
      so_far = λ r. (
          let so_far = inv.so_far r in
          let more = ap (λ (m : ℕ). load r (take m items) s at) is in
          let step = load_step items s at r j i (omega (arith, c.loop-last-test.true, inv.within)) own in
          let here = ap (λ (x : Item). share_at r x.uses (least (act_set x.on s))) c.index-items-last.is in
          let taken = c.take-load.ensures r in
          let uses = ap (λ us. share_at r us c.least_number.result) c.as_slice.ensures in
          let number = ap (share_at r i.uses) c.least_number.ensures in
          let rest = ap (λ (m : ℕ). load r (take m items) s at) next in
          omega (arith, so_far, more, step, here, taken, uses, number, rest));
      own = next ∙ (sym (last_own items (settled_at s at) j) ∙ ap (last_passing items (settled_at s at)) (sym next));
      within = (let le = last_le items (settled_at s at) j in let w = inv.within in omega (arith, next, le, w));
    }

pub load_from-load-requires-clause-vars : goal.load_from-load-requires-clause-vars
load_from-load-requires-clause-vars c = c.requires.vars

pub load_from-load-requires-clause-known : goal.load_from-load-requires-clause-known
load_from-load-requires-clause-known c = c.requires.known

pub load_from-load-requires-clause-live : goal.load_from-load-requires-clause-live
load_from-load-requires-clause-live c = c.requires.live

pub least_number-requires-clause-live : goal.least_number-requires-clause-live
least_number-requires-clause-live c = c.requires.live
