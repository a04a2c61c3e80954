use Rattle.std.proofs.Common.{ℕ, ◌≡◌, ◌+◌, ◌-◌, ◌*◌, ◌^◌, ◌∙◌, List, length, sym, ap, subst, arith}
use Rattle.un_slots.specs.Crowds.{surely_takes, crowd, crowd_fits, counted}
use Rattle.un_isa.specs.PacketCounts.{places_of}
use Rattle.un_slots.specs.Counts.{ends_at, end_fits}
use Rattle.un_slots.specs.CrowdLaws.{each_below, le_true}
use Rattle.un_slots.specs.CountLaws.{untaken, any_taken}
use Rattle.un_slots.specs.Listings.{Listed, listable}
use Rattle.un_slots.proofs.crowd.fits.Goals as goal

pub returns-then-not-is_taken-clause-fits : goal.returns-then-not-is_taken-clause-fits
returns-then-not-is_taken-clause-fits c =
    let r = c.args.r in
    let s = c.args.w.now.store.now.sets in
    let xs = counted c.args.items.now in
    let none = any_taken (surely_takes r s) c.args.items.now (2 ^ 32 - 1) (sym c.is_taken.ensures ∙ c.if-not-is_taken.true) in
    sym (each_below (end_fits r xs s) c.args.horizon (λ high early. each_below (crowd_fits r xs s high) (high + 1)
    (λ low lt. le_true (crowd r xs low high s) (places_of r * (high + 1 - low)) (let is = untaken r s xs high low none in
    omega (arith, is)))))

pub ends_fit-requires-clause-span : goal.ends_fit-requires-clause-span
ends_fit-requires-clause-span c =
    let long : length c.as_mut_slice.result.now ≡ length c.list_ends.new.scratch.cycles.items = ap length c.as_mut_slice.ensures.value in
    omega (arith, long, c.list_ends.ensures.cycles, c.requires.span)

pub ends_fit-requires-clause-listed : goal.ends_fit-requires-clause-listed
ends_fit-requires-clause-listed c =
    let items = c.args.items.now in
    let p = ends_at c.args.r c.args.w.now.store.now.sets in
    let scratch = c.list_ends.new.scratch in
    subst (λ (before : List ℕ). Listed items c.args.horizon (listable items before) p c.as_mut_slice.result.now before)
    (sym c.as_slice.ensures.value)
    (subst (λ (cycles : List ℕ). Listed items c.args.horizon (listable items scratch.fixed.items) p cycles scratch.fixed.items)
    (sym c.as_mut_slice.ensures.value) c.list_ends.ensures.listed)
