use Rattle.std.proofs.Common.{ℕ, ◌+◌, ◌∙◌, set, nat_eq, sym, ap, subst, arith, add-one}
use Rattle.std.proofs.lemmas.List.{get_or-set_same, get_or-set_other, get_or_default}
use Rattle.std.proofs.lemmas.Bool.Decides.{nat_tests}
use Rattle.un_prop.specs.ChoiceLaws.{passes_within}
use Rattle.un_slots.specs.Slots.{ItemVars}
use Rattle.un_slots.specs.Loads.{settled_at}
use Rattle.un_slots.specs.Listings.{Listed}
use Rattle.un_slots.specs.ListingLaws.{listed_link, listed_skip, settled_is, settled_not}
use Rattle.un_slots.proofs.listing.link.Goals as goal

pub is_settled-requires-clause-vars : goal.is_settled-requires-clause-vars
is_settled-requires-clause-vars c = subst (ItemVars c.args.w.now.vars.now) (sym c.index-items-j.is)
    (c.requires.vars c.args.j c.index-items-j.result c.requires.there)

pub returns-then-c-horizon-clause-listed : goal.returns-then-c-horizon-clause-listed
returns-then-c-horizon-clause-listed c =
    let items = c.args.items.now in
    let s = c.args.w.now.store.now.sets in
    let cycles = c.args.scratch.now.cycles.items in
    let before = c.args.scratch.now.fixed.items in
    let j = c.args.j in
    let at = c.min-c.result in
    let i = c.index-items-j.result in
    subst (λ (n : ℕ). Listed items c.args.horizon n (settled_at s) (set cycles at (j + 1)) (set before j c.index.result.now))
    (sym (add-one j))
    (listed_link items c.args.horizon j at (settled_at s) cycles before (set cycles at (j + 1)) (set before j c.index.result.now)
    c.requires.listed c.if-c-horizon.true
    (λ e lt. passes_within (settled_at s e) items j i c.requires.there ∙ (ap (settled_at s e) (sym c.index-items-j.is)
    ∙ (settled_is s e i (sym c.is_settled.ensures ∙ c.if-is_settled.true) ∙ ap (λ (n : ℕ). nat_eq n e) (sym c.min-c.ensures))))
    (get_or-set_same cycles at (j + 1) 0 (omega (arith, c.if-c-horizon.true, c.requires.span)) ∙ add-one j)
    (λ e ne. get_or-set_other cycles at e (j + 1) 0 ne)
    (get_or-set_same before j c.index.result.now 0 c.requires.room
    ∙ (c.index.ensures ∙ get_or_default cycles at c.index.result.now 0 (omega (arith, c.if-c-horizon.true, c.requires.span))))
    (λ k ne. get_or-set_other before j k c.index.result.now 0 ne))

pub returns-else-c-horizon-clause-listed : goal.returns-else-c-horizon-clause-listed
returns-else-c-horizon-clause-listed c =
    let items = c.args.items.now in
    let s = c.args.w.now.store.now.sets in
    let cycles = c.args.scratch.now.cycles.items in
    let before = c.args.scratch.now.fixed.items in
    let j = c.args.j in
    let i = c.index-items-j.result in
    subst (λ (n : ℕ). Listed items c.args.horizon n (settled_at s) cycles before) (sym (add-one j))
    (listed_skip items c.args.horizon j (settled_at s) cycles before c.requires.listed
    (λ e lt. passes_within (settled_at s e) items j i c.requires.there ∙ (ap (settled_at s e) (sym c.index-items-j.is)
    ∙ (settled_is s e i (sym c.is_settled.ensures ∙ c.if-is_settled.true)
    ∙ (let late = c.if-c-horizon.false in let at = c.min-c.ensures in grind (arith, nat_tests, late, at, lt))))))

pub returns-else-is_settled-clause-listed : goal.returns-else-is_settled-clause-listed
returns-else-is_settled-clause-listed c =
    let items = c.args.items.now in
    let s = c.args.w.now.store.now.sets in
    let cycles = c.args.scratch.now.cycles.items in
    let before = c.args.scratch.now.fixed.items in
    let j = c.args.j in
    let i = c.index-items-j.result in
    subst (λ (n : ℕ). Listed items c.args.horizon n (settled_at s) cycles before) (sym (add-one j))
    (listed_skip items c.args.horizon j (settled_at s) cycles before c.requires.listed
    (λ e lt. passes_within (settled_at s e) items j i c.requires.there ∙ (ap (settled_at s e) (sym c.index-items-j.is)
    ∙ settled_not s e i (sym c.is_settled.ensures ∙ c.if-is_settled.false))))
