use Rattle.std.proofs.Common.{ℕ, ◌∙◌, get_or, sym, ap}
use Rattle.un_base.specs.declared.ids.VarId.{VarId}
use Rattle.un_prop.specs.AmongLaws.{has_among}
use Rattle.un_prop.specs.GoingLaws.{stepped_same, stepped_by}
use Rattle.un_rect.specs.Entries.{entry_cut}
use Rattle.un_rect.specs.EntryLaws.{entry_within, entry_past, fixed_at, not_fixed}
use Rattle.un_rect.specs.Operands.{chosen_cut, fixed_cut}
use Rattle.un_rect.specs.Sides.{side_of}
use Rattle.un_rect.proofs.Going.{going}
use Rattle.un_rect.proofs.operands.keep_fixed.Goals as goal

pub is_single-requires : goal.is_single-requires
is_single-requires c = has_among c.args.w.now.vars.now c.args.one.now.choice c.args.w.now.store.now.sets c.requires.of_one.of_choice
    c.requires.known

pub min-i-requires-clause-there : goal.min-i-requires-clause-there
min-i-requires-clause-there c = has_among c.args.w.now.vars.now c.args.one.now.choice c.args.w.now.store.now.sets
    c.requires.of_one.of_choice c.requires.known

pub min-i-requires-clause-some : goal.min-i-requires-clause-some
min-i-requires-clause-some c = c.requires.live (going c.args.before c.if-eq.ensures) c.args.one.now.choice.0
    (has_among c.args.w.now.vars.now c.args.one.now.choice c.args.w.now.store.now.sets c.requires.of_one.of_choice c.requires.known)

pub returns-then-not-is_single-clause-step : goal.returns-then-not-is_single-clause-step
returns-then-not-is_single-clause-step c =
    let w = c.args.w.now in
    let s = w.store.now in
    let a = side_of c.args.one.now in
    let b = side_of c.args.other.now in
    stepped_same w.vars.now (fixed_cut a b) s c.args.before
    (λ live. not_fixed (entry_cut (chosen_cut a b) a.regs) a.choice.0 s.sets (sym c.is_single.ensures ∙ c.if-not-is_single.true))

pub keep_chosen-requires-clause-lent : goal.keep_chosen-requires-clause-lent
keep_chosen-requires-clause-lent c = c.requires.of_one.of_regs c.min-i.result (record { 0 = 0 }) c.if-i-one.true

pub returns-then-i-one-clause-step : goal.returns-then-i-one-clause-step
returns-then-i-one-clause-step c =
    let w = c.args.w.now in
    let s = w.store.now in
    let a = side_of c.args.one.now in
    let b = side_of c.args.other.now in
    let d : VarId = record { 0 = 0 } in
    let i = c.min-i.result in
    stepped_by w.vars.now (fixed_cut a b) (chosen_cut a b (get_or a.regs i d)) s c.keep_chosen.new.w.store.now c.args.before
    c.keep_chosen.result
    (λ live. fixed_at (entry_cut (chosen_cut a b) a.regs) a.choice.0 s.sets (sym c.is_single.ensures ∙ c.if-not-is_single.false)
    ∙ (ap (λ (n : ℕ). entry_cut (chosen_cut a b) a.regs n s.sets) (sym c.min-i.ensures) ∙ entry_within (chosen_cut a b) a.regs i d s.sets
    c.if-i-one.true))
    c.keep_chosen.ensures.step

pub returns-else-i-one-clause-step : goal.returns-else-i-one-clause-step
returns-else-i-one-clause-step c =
    let w = c.args.w.now in
    let s = w.store.now in
    let a = side_of c.args.one.now in
    let b = side_of c.args.other.now in
    let i = c.min-i.result in
    stepped_same w.vars.now (fixed_cut a b) s c.args.before
    (λ live. fixed_at (entry_cut (chosen_cut a b) a.regs) a.choice.0 s.sets (sym c.is_single.ensures ∙ c.if-not-is_single.false)
    ∙ (ap (λ (n : ℕ). entry_cut (chosen_cut a b) a.regs n s.sets) (sym c.min-i.ensures)
    ∙ entry_past (chosen_cut a b) a.regs i s.sets c.if-i-one.false))
