use Rattle.std.proofs.Common.{ℕ, List, ◌≡◌, ◌<◌, ◌∙◌, length, get_or, Some, refl, sym, ap, subst}
use Rattle.std.specs.declared.option.Option.{Option}
use Rattle.std.specs.List.{slice_get}
use Rattle.std.proofs.lemmas.Option.{slice_get_read}
use Rattle.un_base.specs.declared.ids.VarId.{VarId}
use Rattle.un_domains.specs.Sets.{Sets, cut_by}
use Rattle.un_domains.specs.Cuts.{Contents}
use Rattle.un_prop.specs.Acts.{act_vars}
use Rattle.un_prop.specs.AmongLaws.{has_among}
use Rattle.un_prop.specs.LookLaws.{known_of}
use Rattle.un_prop.specs.GoingLaws.{stepped_same, stepped_then, join_failed}
use Rattle.un_prop.specs.Pruning.{IsPrune, join}
use Rattle.un_prop.specs.declared.propagator.Pruned.{Pruned}
use Rattle.un_prop.specs.declared.propagator.Pruned.TheVariants.{Failed}
use Rattle.un_slots.specs.declared.item.Item.{Item}
use Rattle.un_slots.specs.Slots.{ItemVars, SlotVars}
use Rattle.un_slots.specs.Loads.{settled_at, slot_cut}
use Rattle.un_slots.specs.LoadLaws.{slot_unsure, slot_is, slot_all}
use Rattle.un_slots.specs.Listings.{is_left}
use Rattle.un_slots.proofs.Carried.{same_known, same_vars}
use Rattle.un_slots.proofs.Going.{going}
use Rattle.un_slots.proofs.Carried.{live_after}
use Rattle.std.proofs.Common.{arith}
use Rattle.un_slots.specs.Listings.{Listed, listable}
use Rattle.un_slots.proofs.keep.keep_item.Goals as goal

vars_of : (vs : List VarId) (items : List Item) (k : ℕ) (i : Item) → SlotVars vs items → k < length items → i ≡ get_or items k i
    → ItemVars vs i
vars_of vs items k i all lt is = subst (ItemVars vs) (sym is) (all k i lt)

item_at : (items : List Item) (k : ℕ) (i : Item) → k < length items → i ≡ get_or items k i → slice_get items k ≡ Some i
item_at items k i lt is = slice_get_read items (length items) k i refl lt is

-- a cut that is another's by its tests
cut_is : (vs : List VarId) (o p : Option Sets) (old new : Contents) (answer : Pruned) → o ≡ p → IsPrune vs p old new answer
    → IsPrune vs o old new answer
cut_is vs o p old new answer e h = subst (λ (x : Option Sets). IsPrune vs x old new answer) (sym e) h

pub is_sure-requires : goal.is_sure-requires
is_sure-requires c =
    let i = c.index-items-k.result in
    known_of c.args.w.now.vars.now (act_vars i.on) c.args.w.now.store.now.sets
    (vars_of c.args.w.now.vars.now c.args.items.now c.args.k i c.requires.vars c.requires.there c.index-items-k.is).of_on c.requires.known

pub mark-requires-clause-item : goal.mark-requires-clause-item
mark-requires-clause-item c = item_at c.args.items.now c.args.k c.index-items-k.result c.requires.there c.index-items-k.is

pub mark-requires-clause-of_item : goal.mark-requires-clause-of_item
mark-requires-clause-of_item c = vars_of c.args.w.now.vars.now c.args.items.now c.args.k c.index-items-k.result c.requires.vars
    c.requires.there c.index-items-k.is

pub returns-then-not-is_sure-clause-step : goal.returns-then-not-is_sure-clause-step
returns-then-not-is_sure-clause-step c =
    let items = c.args.items.now in
    let i = c.index-items-k.result in
    let vs = c.args.w.now.vars.now in
    let s = c.args.w.now.store.now in
    let vars = vars_of vs items c.args.k i c.requires.vars c.requires.there c.index-items-k.is in
    stepped_same vs (slot_cut items c.args.horizon c.args.k) s c.args.before
    (λ live. slot_unsure items c.args.horizon c.args.k i s.sets (item_at items c.args.k i c.requires.there c.index-items-k.is)
    (has_among vs i.at s.sets vars.of_at c.requires.known) live (sym c.is_sure.ensures ∙ c.if-not-is_sure.true))

pub returns-then-not-mark-clause-step : goal.returns-then-not-mark-clause-step
returns-then-not-mark-clause-step c =
    let items = c.args.items.now in
    let i = c.index-items-k.result in
    let vs = c.args.w.now.vars.now in
    let s = c.args.w.now.store.now in
    let vars = vars_of vs items c.args.k i c.requires.vars c.requires.there c.index-items-k.is in
    stepped_same vs (slot_cut items c.args.horizon c.args.k) s c.args.before
    (λ live. slot_all items c.args.horizon c.args.k i s.sets (item_at items c.args.k i c.requires.there c.index-items-k.is)
    (has_among vs i.at s.sets vars.of_at c.requires.known) live (c.mark.ensures.none c.if-not-mark.true))

pub keep_left-did-requires-clause-there : goal.keep_left-did-requires-clause-there
keep_left-did-requires-clause-there c =
    let vs = c.args.w.now.vars.now in
    let i = c.index-items-k.result in
    has_among vs i.at c.args.w.now.store.now.sets
    (vars_of vs c.args.items.now c.args.k i c.requires.vars c.requires.there c.index-items-k.is).of_at c.requires.known

pub returns-in-Failed-clause-step : goal.returns-in-Failed-clause-step
returns-in-Failed-clause-step c =
    let items = c.args.items.now in
    let i = c.index-items-k.result in
    let vs = c.args.w.now.vars.now in
    let s = c.args.w.now.store.now in
    let did = c.keep_left-did in
    let new = did.new.w.store.now in
    let q = is_left c.as_slice.result.now c.args.horizon in
    let failed : did.result ≡ Failed = c.in-Failed.is in
    stepped_then vs (slot_cut items c.args.horizon c.args.k) s new c.args.before did.result did.result
    (going c.args.before c.if-eq.ensures)
    (failed ∙ sym (ap (join c.args.before) failed ∙ join_failed c.args.before)) did.ensures.prune.untouched.long
    (λ live. (let p = cut_is vs (slot_cut items c.args.horizon c.args.k s.sets) (cut_by q i.at.0 s.sets) s new did.result
    (slot_is items c.args.horizon c.args.k i s.sets q (item_at items c.args.k i c.requires.there c.index-items-k.is)
    (sym c.is_sure.ensures ∙ c.if-not-is_sure.false)
    (λ y own. ap (λ (ms : List ℕ). is_left ms c.args.horizon y) c.as_slice.ensures.value
    ∙ c.mark.ensures.marks y own)) did.ensures.prune in (p.ends, p.untouched)))

pub mark-requires-clause-vars : goal.mark-requires-clause-vars
mark-requires-clause-vars c = c.requires.vars

pub mark-requires-clause-known : goal.mark-requires-clause-known
mark-requires-clause-known c = c.requires.known

pub mark-requires-clause-live : goal.mark-requires-clause-live
mark-requires-clause-live c = c.requires.live (going c.args.before c.if-eq.ensures)

pub mark-requires-clause-span : goal.mark-requires-clause-span
mark-requires-clause-span c = c.requires.span

pub mark-requires-clause-listed : goal.mark-requires-clause-listed
mark-requires-clause-listed c = c.requires.listed (going c.args.before c.if-eq.ensures)

pub keep_left-did-requires-clause-live : goal.keep_left-did-requires-clause-live
keep_left-did-requires-clause-live c = c.requires.live (going c.args.before c.if-eq.ensures)

pub keep_left-did-requires-clause-lent : goal.keep_left-did-requires-clause-lent
keep_left-did-requires-clause-lent c = (vars_of c.args.w.now.vars.now c.args.items.now c.args.k c.index-items-k.result c.requires.vars
    c.requires.there c.index-items-k.is).of_at

pub list-requires-clause-vars : goal.list-requires-clause-vars
list-requires-clause-vars c = same_vars c.args.w.now.vars.now c.keep_left-did.new.w.vars.now c.args.items.now
    (ap (λ r. r.now) c.keep_left-did.ensures.vars) c.requires.vars

pub list-requires-clause-known : goal.list-requires-clause-known
list-requires-clause-known c = same_known c.args.w.now.vars.now c.keep_left-did.new.w.vars.now c.args.w.now.store.now.sets
    c.keep_left-did.new.w.store.now.sets (ap (λ r. r.now) c.keep_left-did.ensures.vars) c.keep_left-did.ensures.prune.untouched.long
    c.requires.known

pub returns-in_default-clause-step : goal.returns-in_default-clause-step
returns-in_default-clause-step c =
    let items = c.args.items.now in
    let i = c.index-items-k.result in
    let vs = c.args.w.now.vars.now in
    let s = c.args.w.now.store.now in
    let did = c.keep_left-did in
    let new = did.new.w.store.now in
    let q = is_left c.as_slice.result.now c.args.horizon in
    stepped_then vs (slot_cut items c.args.horizon c.args.k) s new c.args.before did.result c.joined.result
    (going c.args.before c.if-eq.ensures)
    c.joined.ensures did.ensures.prune.untouched.long
    (λ live. (let p = cut_is vs (slot_cut items c.args.horizon c.args.k s.sets) (cut_by q i.at.0 s.sets) s new did.result
    (slot_is items c.args.horizon c.args.k i s.sets q (item_at items c.args.k i c.requires.there c.index-items-k.is)
    (sym c.is_sure.ensures ∙ c.if-not-is_sure.false)
    (λ y own. ap (λ (ms : List ℕ). is_left ms c.args.horizon y) c.as_slice.ensures.value
    ∙ c.mark.ensures.marks y own)) did.ensures.prune in (p.ends, p.untouched)))

pub list-requires-clause-live : goal.list-requires-clause-live
list-requires-clause-live c =
    let i = c.index-items-k.result in
    let s = c.args.w.now.store.now in
    let did = c.keep_left-did in
    live_after c.args.w.now.vars.now (cut_by (is_left c.as_slice.result.now c.args.horizon) i.at.0 s.sets) s did.new.w.store.now did.result
    did.ensures.prune c.in_default.not-Failed

pub list-requires-clause-span : goal.list-requires-clause-span
list-requires-clause-span c = omega (arith, c.mark.ensures.cycles, c.requires.span)

pub returns-then-not-mark-clause-listed : goal.returns-then-not-mark-clause-listed
returns-then-not-mark-clause-listed c still =
    let items = c.args.items.now in
    let s = c.args.w.now.store.now.sets in
    let fixed = c.mark.new.scratch.fixed.items in
    subst (λ (cycles : List ℕ). Listed items c.args.horizon (listable items fixed) (settled_at s) cycles fixed)
    (sym (c.mark.ensures.same c.if-not-mark.true))
    (subst (λ (all : List ℕ). Listed items c.args.horizon (listable items all) (settled_at s) c.args.scratch.now.cycles.items all)
    (sym c.mark.ensures.fixed) (c.requires.listed still))

pub keep_left-did-requires-clause-span : goal.keep_left-did-requires-clause-span
keep_left-did-requires-clause-span c =
    let long : length c.as_slice.result.now ≡ length c.mark.new.scratch.cycles.items = ap length c.as_slice.ensures.value in
    omega (arith, long, c.mark.ensures.cycles, c.requires.span)

pub returns-then-not-mark-clause-fixed : goal.returns-then-not-mark-clause-fixed
returns-then-not-mark-clause-fixed c = ap length c.mark.ensures.fixed

pub returns-then-not-mark-clause-cycles : goal.returns-then-not-mark-clause-cycles
returns-then-not-mark-clause-cycles c = c.mark.ensures.cycles

pub returns-in-Failed-clause-listed : goal.returns-in-Failed-clause-listed
returns-in-Failed-clause-listed c = λ still. absurd (still c.in-Failed.is)

pub returns-in-Failed-clause-fixed : goal.returns-in-Failed-clause-fixed
returns-in-Failed-clause-fixed c = ap length c.mark.ensures.fixed

pub returns-in-Failed-clause-cycles : goal.returns-in-Failed-clause-cycles
returns-in-Failed-clause-cycles c = c.mark.ensures.cycles

pub returns-in_default-clause-listed : goal.returns-in_default-clause-listed
returns-in_default-clause-listed c = λ still. c.list.ensures.listed

pub returns-in_default-clause-fixed : goal.returns-in_default-clause-fixed
returns-in_default-clause-fixed c = c.list.ensures.fixed ∙ ap length c.mark.ensures.fixed

pub returns-in_default-clause-cycles : goal.returns-in_default-clause-cycles
returns-in_default-clause-cycles c = c.list.ensures.cycles ∙ c.mark.ensures.cycles
