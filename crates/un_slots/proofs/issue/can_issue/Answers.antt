use Rattle.std.proofs.Common.{ℕ, List, ◌≡◌, ◌<◌, ◌∙◌, length, get_or, sym, subst, arith}
use Rattle.un_prop.specs.Acts.{act_vars}
use Rattle.un_prop.specs.LookLaws.{known_of}
use Rattle.un_slots.specs.Listings.{last_passing, Chained, listable}
use Rattle.un_slots.specs.Loads.{settled_at, others, load}
use Rattle.un_slots.specs.LoadLaws.{beside_unsettled, settled_fits}
use Rattle.un_slots.specs.AmountLaws.{load_as, within_is}
use Rattle.un_slots.proofs.issue.can_issue.Goals as goal

pub load_at-load-requires-clause-span : goal.load_at-load-requires-clause-span
load_at-load-requires-clause-span c = subst (λ (cycles : List ℕ). c.args.c < length cycles) (sym c.as_slice.ensures.value) c.requires.span

pub load_at-load-requires-clause-vars : goal.load_at-load-requires-clause-vars
load_at-load-requires-clause-vars c = c.requires.vars

pub load_at-load-requires-clause-known : goal.load_at-load-requires-clause-known
load_at-load-requires-clause-known c = c.requires.known

pub load_at-load-requires-clause-live : goal.load_at-load-requires-clause-live
load_at-load-requires-clause-live c = c.requires.live

pub load_at-load-requires-clause-head : goal.load_at-load-requires-clause-head
load_at-load-requires-clause-head c =
    let items = c.args.items.now in
    let s = c.args.w.now.store.now.sets in
    let e = c.as_slice.ensures.value in
    subst (λ (before : List ℕ). get_or c.as_slice.result.now c.args.c 0
    ≡ last_passing items (settled_at s c.args.c) (listable items before))
    (sym c.as_slice-2.ensures.value)
    (subst (λ (cycles : List ℕ). get_or cycles c.args.c 0
    ≡ last_passing items (settled_at s c.args.c) (listable items c.args.scratch.now.fixed.items))
    (sym e) c.requires.head)

pub load_at-load-requires-clause-nexts : goal.load_at-load-requires-clause-nexts
load_at-load-requires-clause-nexts c =
    let items = c.args.items.now in
    subst (λ (before : List ℕ). Chained items (listable items before) (settled_at c.args.w.now.store.now.sets c.args.c) before)
    (sym c.as_slice-2.ensures.value) c.requires.nexts

pub is_settled-requires-clause-vars : goal.is_settled-requires-clause-vars
is_settled-requires-clause-vars c = c.requires.of_item

pub is_settled-requires-clause-known : goal.is_settled-requires-clause-known
is_settled-requires-clause-known c = c.requires.known

pub least_number-requires-clause-known : goal.least_number-requires-clause-known
least_number-requires-clause-known c = known_of c.args.w.now.vars.now (act_vars c.args.item.now.on) c.args.w.now.store.now.sets
    c.requires.of_item.of_on c.requires.known

pub least_number-requires-clause-live : goal.least_number-requires-clause-live
least_number-requires-clause-live c = c.requires.live

pub fits_some-requires-clause-known : goal.fits_some-requires-clause-known
fits_some-requires-clause-known c = known_of c.args.w.now.vars.now (act_vars c.args.item.now.on) c.args.w.now.store.now.sets
    c.requires.of_item.of_on c.requires.known

pub returns-else-is_settled : goal.returns-else-is_settled
returns-else-is_settled c =
    let items = c.args.items.now in
    let s = c.args.w.now.store.now.sets in
    c.fits_some.ensures (λ r. load r (others c.args.k items) s c.args.c)
    (load_as c.load_at-load.result (λ r. load r items s c.args.c) (λ r. load r (others c.args.k items) s c.args.c) c.load_at-load.ensures
    (λ r. beside_unsettled r items c.args.k c.args.item.now s c.args.c c.requires.item (sym c.is_settled.ensures ∙ c.if-is_settled.false)))

pub returns-else-least_number-len : goal.returns-else-least_number-len
returns-else-least_number-len c =
    let items = c.args.items.now in
    let s = c.args.w.now.store.now.sets in
    c.is_within.ensures ∙ (within_is c.load_at-load.result (λ r. load r items s c.args.c) c.load_at-load.ensures
    ∙ sym (settled_fits items c.args.k c.args.item.now s c.args.c c.requires.item (sym c.is_settled.ensures ∙ c.if-is_settled.true)
    c.requires.its_own (let few = c.if-least_number-len.false in let n = c.least_number.ensures in let m = c.len.ensures in
    grind (arith, few, n, m))))
