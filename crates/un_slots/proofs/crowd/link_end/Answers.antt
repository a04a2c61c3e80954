use Rattle.std.proofs.Common.{ℕ, ◌+◌, ◌∙◌, set, nat_eq, sym, ap, subst, arith, add-one}
use Rattle.std.proofs.lemmas.List.{get_or-set_same, get_or-set_other, get_or_default}
use Rattle.std.proofs.lemmas.Bool.Decides.{nat_tests}
use Rattle.un_prop.specs.Acts.{act_vars}
use Rattle.un_prop.specs.AmongLaws.{has_among}
use Rattle.un_prop.specs.ChoiceLaws.{passes_within}
use Rattle.un_prop.specs.LookLaws.{known_of}
use Rattle.un_slots.specs.Slots.{ItemVars}
use Rattle.un_slots.specs.Counts.{ends_at}
use Rattle.un_slots.specs.CountLaws.{end_of, no_end}
use Rattle.un_slots.specs.Listings.{Listed}
use Rattle.un_slots.specs.ListingLaws.{listed_link, listed_skip}
use Rattle.un_slots.proofs.crowd.link_end.Goals as goal

pub surely_takes-requires-clause-known : goal.surely_takes-requires-clause-known
surely_takes-requires-clause-known c = known_of c.args.w.now.vars.now (act_vars c.index-items-j.result.on) c.args.w.now.store.now.sets
    (subst (ItemVars c.args.w.now.vars.now) (sym c.index-items-j.is)
    (c.requires.vars c.args.j c.index-items-j.result c.requires.there)).of_on c.requires.known

pub max-c-requires-clause-there : goal.max-c-requires-clause-there
max-c-requires-clause-there c = has_among c.args.w.now.vars.now c.index-items-j.result.at c.args.w.now.store.now.sets
    (subst (ItemVars c.args.w.now.vars.now) (sym c.index-items-j.is)
    (c.requires.vars c.args.j c.index-items-j.result c.requires.there)).of_at c.requires.known

pub max-c-requires-clause-some : goal.max-c-requires-clause-some
max-c-requires-clause-some c = c.requires.live c.index-items-j.result.at.0
    (has_among c.args.w.now.vars.now c.index-items-j.result.at c.args.w.now.store.now.sets
    (subst (ItemVars c.args.w.now.vars.now) (sym c.index-items-j.is)
    (c.requires.vars c.args.j c.index-items-j.result c.requires.there)).of_at c.requires.known)

pub returns-then-c-horizon-clause-listed : goal.returns-then-c-horizon-clause-listed
returns-then-c-horizon-clause-listed c =
    let items = c.args.items.now in
    let s = c.args.w.now.store.now.sets in
    let p = ends_at c.args.r s in
    let cycles = c.args.scratch.now.cycles.items in
    let before = c.args.scratch.now.fixed.items in
    let j = c.args.j in
    let at = c.max-c.result in
    let i = c.index-items-j.result in
    subst (λ (n : ℕ). Listed items c.args.horizon n p (set cycles at (j + 1)) (set before j c.index.result.now)) (sym (add-one j))
    (listed_link items c.args.horizon j at p cycles before (set cycles at (j + 1)) (set before j c.index.result.now) c.requires.listed
    c.if-c-horizon.true
    (λ e lt. passes_within (p e) items j i c.requires.there ∙ (ap (p e) (sym c.index-items-j.is)
    ∙ (end_of c.args.r s e i (sym c.surely_takes.ensures ∙ c.if-surely_takes.true) ∙ ap (λ (n : ℕ). nat_eq n e) (sym c.max-c.ensures))))
    (get_or-set_same cycles at (j + 1) 0 (omega (arith, c.if-c-horizon.true, c.requires.span)) ∙ add-one j)
    (λ e ne. get_or-set_other cycles at e (j + 1) 0 ne)
    (get_or-set_same before j c.index.result.now 0 c.requires.room
    ∙ (c.index.ensures ∙ get_or_default cycles at c.index.result.now 0 (omega (arith, c.if-c-horizon.true, c.requires.span))))
    (λ k ne. get_or-set_other before j k c.index.result.now 0 ne))

pub returns-else-c-horizon-clause-listed : goal.returns-else-c-horizon-clause-listed
returns-else-c-horizon-clause-listed c =
    let items = c.args.items.now in
    let s = c.args.w.now.store.now.sets in
    let p = ends_at c.args.r s in
    let cycles = c.args.scratch.now.cycles.items in
    let before = c.args.scratch.now.fixed.items in
    let j = c.args.j in
    let i = c.index-items-j.result in
    subst (λ (n : ℕ). Listed items c.args.horizon n p cycles before) (sym (add-one j))
    (listed_skip items c.args.horizon j p cycles before c.requires.listed
    (λ e lt. passes_within (p e) items j i c.requires.there ∙ (ap (p e) (sym c.index-items-j.is)
    ∙ (end_of c.args.r s e i (sym c.surely_takes.ensures ∙ c.if-surely_takes.true)
    ∙ (let late = c.if-c-horizon.false in let at = c.max-c.ensures in grind (arith, nat_tests, late, at, lt))))))

pub returns-else-surely_takes-clause-listed : goal.returns-else-surely_takes-clause-listed
returns-else-surely_takes-clause-listed c =
    let items = c.args.items.now in
    let s = c.args.w.now.store.now.sets in
    let p = ends_at c.args.r s in
    let cycles = c.args.scratch.now.cycles.items in
    let before = c.args.scratch.now.fixed.items in
    let j = c.args.j in
    let i = c.index-items-j.result in
    subst (λ (n : ℕ). Listed items c.args.horizon n p cycles before) (sym (add-one j))
    (listed_skip items c.args.horizon j p cycles before c.requires.listed
    (λ e lt. passes_within (p e) items j i c.requires.there ∙ (ap (p e) (sym c.index-items-j.is)
    ∙ no_end c.args.r s e i (sym c.surely_takes.ensures ∙ c.if-surely_takes.false))))
