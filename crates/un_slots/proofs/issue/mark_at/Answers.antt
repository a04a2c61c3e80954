use Rattle.std.proofs.Common.{◌≡◌, ◌∙◌, length, get_or, ap, sym, arith}
use Rattle.un_prop.specs.AmongLaws.{has_among}
use Rattle.std.proofs.lemmas.List.{get_or_default}
use Rattle.un_slots.specs.Loads.{settled_at}
use Rattle.un_slots.specs.Listings.{last_passing, listable}
use Rattle.un_slots.specs.ListingLaws.{head_unmarked, free_issues}
use Rattle.un_slots.proofs.issue.mark_at.Goals as goal

pub has-requires : goal.has-requires
has-requires c = has_among c.args.w.now.vars.now c.args.item.now.at c.args.w.now.store.now.sets c.requires.of_item.of_at c.requires.known

pub returns-then-can_issue-clause-here : goal.returns-then-can_issue-clause-here
returns-then-can_issue-clause-here c own =
    let items = c.args.items.now in
    let s = c.args.w.now.store.now.sets in
    head_unmarked items (settled_at s c.args.c) c.args.c (listable items c.args.scratch.now.fixed.items)
    c.args.scratch.now.cycles.items c.requires.head
    (omega arith)
    ∙ (sym c.if-can_issue.true ∙ c.can_issue.ensures)

pub returns-then-index-eq0-clause-here : goal.returns-then-index-eq0-clause-here
returns-then-index-eq0-clause-here c own =
    let items = c.args.items.now in
    let s = c.args.w.now.store.now.sets in
    let cycles = c.args.scratch.now.cycles.items in
    let n = listable items c.args.scratch.now.fixed.items in
    let none : get_or cycles c.args.c 0 ≡ 0 = get_or_default cycles c.args.c 0 c.index.result.now c.requires.span
    ∙ (sym c.index.ensures ∙ c.if-index-eq0.true) in
    let last : last_passing items (settled_at s c.args.c) (length items) ≡ 0 =
    ap (last_passing items (settled_at s c.args.c)) (sym (c.requires.whole c.if-free.true))
    ∙ (sym c.requires.head ∙ none) in
    head_unmarked items (settled_at s c.args.c) c.args.c n cycles c.requires.head (omega arith)
    ∙ sym (free_issues items s c.args.c c.args.k c.args.item.now c.requires.item last (c.requires.alone c.if-free.true))

pub returns-then-index-eq0-clause-none : goal.returns-then-index-eq0-clause-none
returns-then-index-eq0-clause-none c off own =
    let items = c.args.items.now in
    let s = c.args.w.now.store.now.sets in
    let cycles = c.args.scratch.now.cycles.items in
    let none : get_or cycles c.args.c 0 ≡ 0 = get_or_default cycles c.args.c 0 c.index.result.now c.requires.span
    ∙ (sym c.index.ensures ∙ c.if-index-eq0.true) in
    let last : last_passing items (settled_at s c.args.c) (length items) ≡ 0 =
    ap (last_passing items (settled_at s c.args.c)) (sym (c.requires.whole c.if-free.true))
    ∙ (sym c.requires.head ∙ none) in
    free_issues items s c.args.c c.args.k c.args.item.now c.requires.item last (c.requires.alone c.if-free.true)

pub can_issue-requires-clause-item : goal.can_issue-requires-clause-item
can_issue-requires-clause-item c = c.requires.item

pub can_issue-requires-clause-vars : goal.can_issue-requires-clause-vars
can_issue-requires-clause-vars c = c.requires.vars

pub can_issue-requires-clause-of_item : goal.can_issue-requires-clause-of_item
can_issue-requires-clause-of_item c = c.requires.of_item

pub can_issue-requires-clause-known : goal.can_issue-requires-clause-known
can_issue-requires-clause-known c = c.requires.known

pub can_issue-requires-clause-live : goal.can_issue-requires-clause-live
can_issue-requires-clause-live c = c.requires.live

pub can_issue-requires-clause-span : goal.can_issue-requires-clause-span
can_issue-requires-clause-span c = c.requires.span

pub can_issue-requires-clause-head : goal.can_issue-requires-clause-head
can_issue-requires-clause-head c = c.requires.head

pub can_issue-requires-clause-nexts : goal.can_issue-requires-clause-nexts
can_issue-requires-clause-nexts c = c.requires.nexts
